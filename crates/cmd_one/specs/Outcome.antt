-- What became of the one connection of the command `one`, number 0, whose bytes are those of the
-- input (C++NPv2 chapter 4: the networked logging server; how a connection ends is this project's
-- own). The input told the facts i at the start of the run and tells j at its end.
use Rattle.std.specs.Prelude.{◌≡◌, ◌≢◌, ◌≤◌, ◌+◌, ◌*◌, ◌⊎◌, ℕ, Bool, true, false, List, [], ◌∷◌}
use Rattle.std.specs.Prelude.{◌++◌, length, flat_map}
use Rattle.std.specs.List.{sum_by, AllByRecursion}
use Rattle.ev_base.specs.ev_types.specs.declared.upcall.Why.{Why}
use Rattle.ev_base.specs.ev_types.specs.declared.upcall.Why.TheVariants.{Own, Removed, Refused}
use Rattle.ev_base.specs.Source.{SourceFacts}
use Rattle.log_handler.specs.cdr_record.specs.declared.record.LogRecord.{LogRecord}
use Rattle.log_handler.specs.cdr_record.specs.Decoding.{Stop, Clean, Partial, Malformed, decode}
use Rattle.log_handler.specs.sink_buffer.specs.Written.{IsPrefixOf}
use Rattle.log_handler.specs.log_lines.specs.declared.end_kind.EndKind.{EndKind}
use Rattle.log_handler.specs.log_lines.specs.declared.end_kind.EndKind.TheVariants as end
use Rattle.log_handler.specs.log_lines.specs.Texts.{record_lines, closing_line}
use Rattle.reactor_model.specs.reactor_journal.specs.declared.entry.Entry.{Entry}
use Rattle.reactor_model.specs.reactor_journal.specs.declared.entry.Entry.TheVariants as entry
use Rattle.reactor_model.specs.reactor_journal.specs.Past.{past_of, reason_of}
use Rattle.log_handler.specs.declared.note.ServerNote.{ServerNote}
use Rattle.log_handler.specs.declared.note.ServerNote.TheVariants as note
use Rattle.log_handler.specs.Connection.{end_of}
use Rattle.log_handler.specs.Laws.{took_of, records_of_note}
use Rattle.log_handler.specs.Notes.{journal_lines}
use Rattle.one_run.specs.bounded_input.specs.Input.{TakesInput, IsReadToEnd}
use Rattle.one_run.specs.Phases.{notes_in, one_handle}

-- the lines of the records of some bytes, and a closing line
abbrev pub lines_of : List ℕ → EndKind → List ℕ
lines_of bytes word = record_lines 0 (decode bytes).records ++ closing_line 0 word

-- a note of what a turn of connection 0 took
abbrev pub IsPiece : ServerNote → Type 0
IsPiece said = (took : ℕ) × (records : List LogRecord) × (said ≡ note.Piece 0 took records)

-- no read failed, and no byte was met past the limit
abbrev pub IsSound : Bool → List ℕ → Type 0
IsSound failed extra = (failed ≡ false) × (extra ≡ [])

-- What stands after the word with which the connection was closed, which took these bytes, met
-- `extra` past the limit, and noted the records of `decoded`: `end` and `partial` only if the
-- input was read to its end and reading stops so, `malformed` only if reading stops there,
-- `failed` only if a read failed or a byte was met past the limit, and `stopped` if the run
-- was halted. For want of memory the records of the last bytes may lack.
abbrev pub IsClosedWith : SourceFacts → Bool → List ℕ → List ℕ → List ℕ → EndKind → Type 0
IsClosedWith j failed taken extra decoded end.End =
    (decoded ≡ taken) × ((decode taken).stop ≡ Clean) × IsReadToEnd j × IsSound failed extra
IsClosedWith j failed taken extra decoded (end.Partial n) =
    (decoded ≡ taken) × ((decode taken).stop ≡ Partial n) × IsReadToEnd j × IsSound failed extra
IsClosedWith j failed taken extra decoded (end.Malformed at) =
    (decoded ≡ taken) × ((decode taken).stop ≡ Malformed at) × IsSound failed extra
IsClosedWith j failed taken extra decoded end.Failed =
    (decoded ≡ taken) × ((failed ≡ true) ⊎ (extra ≢ []))
IsClosedWith j failed taken extra decoded end.NoMemory =
    IsPrefixOf decoded taken × IsSound failed extra
IsClosedWith j failed taken extra decoded end.Stopped = (decoded ≡ taken) × IsSound failed extra
IsClosedWith j failed taken extra decoded end.Idle = ⊥
IsClosedWith j failed taken extra decoded end.Refused = ⊥

-- The connection, as a journal tells it: it took as many bytes as its notes say, which have the
-- records of `decoded`, and one note more, the last, tells that it was closed with this word.
pub record TellsConnection (journal : List (Entry ServerNote)) (taken decoded : List ℕ)
    (word : EndKind) : Type 0 where
  pub pieces : List ServerNote
  pub notes : notes_in journal ≡ pieces ++ note.Finished 0 word ∷ []
  pub of_it : AllByRecursion IsPiece pieces
  pub took : sum_by took_of pieces ≡ length taken
  pub records : flat_map records_of_note pieces ≡ (decode decoded).records
  pub entries : length journal ≤ 2 * length taken + 16

-- The word by the reason for which a connection is closed: one that closed itself was not stopped,
-- and one that was removed was, or there was no memory.
abbrev pub IsWordFor : Why → EndKind → Type 0
IsWordFor Own word = word ≢ end.Stopped
IsWordFor Removed word = (word ≡ end.NoMemory) ⊎ (word ≡ end.Stopped)
IsWordFor Refused word = ⊥

-- The closing of the connection stands after these entries, for the reason that they tell, and
-- after it stand these.
pub record IsClosedIn (journal : List (Entry ServerNote)) (word : EndKind) : Type 0 where
  pub before : List (Entry ServerNote)
  pub rest : List (Entry ServerNote)
  pub is : journal ≡ (before ++ entry.Closed one_handle (note.Finished 0 word) ∷ []) ++ rest
  pub reason : IsWordFor (reason_of (past_of before) 0) word

-- The run of the connection up to its closing: what it took, and with which word it was closed, as
-- the journal tells; and the lines of the journal are those of its records, and the one with that
-- word.
pub record ComesTo (limit : ℕ) (failed : Bool) (i j : SourceFacts)
    (journal : List (Entry ServerNote)) : Type 0 where
  pub taken : List ℕ
  pub extra : List ℕ
  pub decoded : List ℕ
  pub word : EndKind
  pub takes : TakesInput limit failed i j taken extra
  pub closed : IsClosedWith j failed taken extra decoded word
  pub tells : TellsConnection journal taken decoded word
  pub closes : IsClosedIn journal word
  pub lines : journal_lines journal ≡ lines_of decoded word

abbrev pub IsMalformed : Stop → Type 0
IsMalformed Clean = ⊥
IsMalformed (Partial n) = ⊥
IsMalformed (Malformed at) = Unit {0}

-- The connection closed itself where reading stops: at the end of the input, or at a malformed
-- record, after which no byte counts. After its closing one wait was made, and then the reactor
-- was stopped.
pub record EndsAsRead {limit : ℕ} {failed : Bool} {i j : SourceFacts}
    {journal : List (Entry ServerNote)} (run : ComesTo limit failed i j journal) : Type 0 where
  pub own : reason_of (past_of run.closes.before) 0 ≡ Own
  pub word_is : run.word ≡ end_of (decode run.taken).stop
  pub decodes : run.decoded ≡ run.taken
  pub all : IsMalformed (decode run.taken).stop ⊎ IsReadToEnd j
  pub none_behind : run.extra ≡ []
  pub moment : ℕ
  pub rest : run.closes.rest ≡ entry.Polled moment ∷ entry.Ended ∷ []
