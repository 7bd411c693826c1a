-- What a connection of a run over a script took and noted, and how it was closed (C++NPv2 chapter
-- 4, `Logging_Event_Handler`; scripts and closing words are this project's own).
use Rattle.std.specs.Prelude.{◌≡◌, ◌≢◌, ◌≤◌, ◌<◌, ◌+◌, ◌-◌, ◌==◌, ◌&&◌, ℕ, nat_lt, Bool, true}
use Rattle.std.specs.Prelude.{false, if◌then◌else◌, List, [], ◌∷◌, ◌++◌, length, take, flat_map}
use Rattle.std.specs.Prelude.{Option, Some}
use Rattle.std.specs.List.{sum_by, list_any}
use Rattle.laws_script_complete.specs.ev_types.specs.declared.upcall.Answer.{Answer}
use Rattle.laws_script_complete.specs.cdr_record.specs.declared.record.LogRecord.{LogRecord}
use Rattle.laws_script_complete.specs.cdr_record.specs.Decoding.{Stop, Clean}
use Rattle.laws_script_complete.specs.cdr_record.specs.Decoding.{Partial}
use Rattle.laws_script_complete.specs.cdr_record.specs.Decoding.{Malformed}
use Rattle.laws_script_complete.specs.cdr_record.specs.Decoding.{decode}
use Rattle.laws_script_complete.specs.log_lines.specs.declared.end_kind.EndKind.{EndKind}
use Rattle.laws_script_complete.specs.log_lines.specs.declared.end_kind.EndKind.TheVariants
    as end
use Rattle.laws_script_complete.specs.reactor_journal.specs.declared.entry.Entry.{Entry}
use Rattle.laws_script_complete.specs.reactor_journal.specs.declared.entry.Entry.TheVariants.{
  Returned,
}
use Rattle.laws_script_complete.specs.reactor_journal.specs.declared.entry.Entry.TheVariants.{
  Refused,
}
use Rattle.laws_script_complete.specs.reactor_journal.specs.declared.entry.Entry.TheVariants.{
  Closed,
}
use Rattle.laws_script_complete.specs.reactor_journal.specs.Past.{past_of}
use Rattle.laws_script_complete.specs.reactor_journal.specs.Past.{ended}
use Rattle.laws_script_complete.specs.reactor_journal.specs.Past.{started_at}
use Rattle.laws_script_complete.specs.log_handler.specs.declared.note.ServerNote.{ServerNote}
use Rattle.laws_script_complete.specs.log_handler.specs.declared.note.ServerNote.TheVariants
    as note
use Rattle.laws_script_complete.specs.log_handler.specs.Connection.{piece_room}
use Rattle.laws_script_complete.specs.log_handler.specs.Laws.{records_of_note}
use Rattle.laws_script_complete.specs.event_script.specs.Script.{ScriptStep}
use Rattle.laws_script_complete.specs.event_script.specs.Script.{opened}
use Rattle.laws_script_complete.specs.event_script.specs.Stories.{bytes_of}
use Rattle.laws_script_complete.specs.event_script.specs.Stories.{was_shut}
use Rattle.laws_script_complete.specs.event_script.specs.Stories.{has_failed}
use Rattle.laws_script_complete.specs.laws_script_runs.specs.Connections.{is_note_of}
use Rattle.laws_script_complete.specs.Complete.{took_for}

-- ---- the entries of a connection

-- whether the entry accepts connection c
abbrev pub accepts_connection : ℕ → Entry ServerNote → Bool
accepts_connection c (Returned event answer (note.Accepted conn)) = conn == c
accepts_connection c _ = false

-- whether it is a turn of connection c
abbrev pub is_turn_of : ℕ → Entry ServerNote → Bool
is_turn_of c (Returned event answer said) = is_note_of c said
is_turn_of c _ = false

-- whether it notes that connection c finished
abbrev pub finishes : ℕ → ServerNote → Bool
finishes c (note.Finished conn word) = conn == c
finishes c _ = false

abbrev pub is_closing_of : ℕ → Entry ServerNote → Bool
is_closing_of c (Returned event answer said) = finishes c said
is_closing_of c (Refused live fault said) = finishes c said
is_closing_of c (Closed handle said) = finishes c said
is_closing_of c _ = false

-- ---- what it took

-- how many bytes connection c took by these entries, and the records that it noted in them, joined
abbrev pub took : ℕ → List (Entry ServerNote) → ℕ
took c entries = sum_by (took_for c) entries

abbrev pub records_for : ℕ → Entry ServerNote → List LogRecord
records_for c (Returned event answer said) = if is_note_of c said then records_of_note said else []
records_for c _ = []

abbrev pub noted : ℕ → List (Entry ServerNote) → List LogRecord
noted c entries = flat_map (records_for c) entries

-- the bytes that it took: so many of those that it brings in the script, from the first on
abbrev pub taken : ℕ → List ScriptStep → List (Entry ServerNote) → List ℕ
taken c steps entries = take (took c entries) (bytes_of c steps)

-- the records of these bytes, and how reading them stops
abbrev pub records_taken : ℕ → List ScriptStep → List (Entry ServerNote) → List LogRecord
records_taken c steps entries = (decode (taken c steps entries)).records

abbrev pub stop_taken : ℕ → List ScriptStep → List (Entry ServerNote) → Stop
stop_taken c steps entries = (decode (taken c steps entries)).stop

-- no bad record is among the bytes taken
abbrev pub IsSound : ℕ → List ScriptStep → List (Entry ServerNote) → Type 0
IsSound c steps entries = (at : ℕ) → stop_taken c steps entries ≢ Malformed at

-- if it goes on, it has noted the records of the bytes taken, and no bad record is among these
pub record GoesOn (c : ℕ) (steps : List ScriptStep) (entries : List (Entry ServerNote)) : Type 0
  where
    pub records : noted c entries ≡ records_taken c steps entries
    pub sound : IsSound c steps entries

-- ---- how it was closed

-- The moment at which connection c was last heard in a past: that of its last turn that took bytes,
-- and at first that of the turn that accepted it. The moment of a turn is that at which it was
-- started.
abbrev pub heard_after : ℕ → ServerNote → ℕ → ℕ → ℕ
heard_after c (note.Accepted conn) moment before = if conn == c then moment else before
heard_after c (note.Piece conn took records) moment before =
    if conn == c && nat_lt 0 took then moment else before
heard_after c _ moment before = before

abbrev pub last_heard : ℕ → List (Entry ServerNote) → ℕ
last_heard c [] = 0
last_heard c (Returned event answer said ∷ past) =
    heard_after c said (started_at past event) (last_heard c past)
last_heard c (_ ∷ past) = last_heard c past

-- it read to the end of its input: it took all its bytes, the script shuts it, and reading them
-- stops so
pub record ReachedEnd (c : ℕ) (steps : List ScriptStep) (journal : List (Entry ServerNote))
    (stop : Stop) : Type 0 where
  pub all : took c journal ≡ length (bytes_of c steps)
  pub shut : was_shut c steps ≡ true
  pub stops : stop_taken c steps journal ≡ stop

-- it took all its bytes, the script fails it, and no bad record is among them
pub record CameToFail (c : ℕ) (steps : List ScriptStep) (journal : List (Entry ServerNote)) : Type 0
  where
    pub all : took c journal ≡ length (bytes_of c steps)
    pub failed : has_failed c steps ≡ true
    pub sound : IsSound c steps journal

-- There was no memory for the records of its last turn: that took from 1 to 4,096 bytes and noted
-- none of their records. So the records are those of the bytes taken without these.
pub record LostItsLast (c : ℕ) (steps : List ScriptStep) (journal : List (Entry ServerNote)) : Type
    0 where
  pub before : List (Entry ServerNote)
  pub event : ℕ
  pub answer : Answer
  pub bytes : ℕ
  pub after : List (Entry ServerNote)
  pub is : journal ≡ before ++ Returned event answer (note.Piece c bytes []) ∷ after
  pub last : list_any (is_turn_of c) after ≡ false
  pub some : 1 ≤ bytes
  pub within : bytes ≤ piece_room
  pub sum : took c journal ≡ took c before + bytes
  pub records : noted c journal ≡ records_taken c steps before

-- it had an idle time, and its last turn, which took nothing, came so long after it was last heard;
-- no bad record is among the bytes taken
pub record WasQuiet (c : ℕ) (steps : List ScriptStep) (idle : Option ℕ)
    (journal : List (Entry ServerNote)) : Type 0 where
  pub time : ℕ
  pub limit : idle ≡ Some time
  pub before : List (Entry ServerNote)
  pub event : ℕ
  pub answer : Answer
  pub after : List (Entry ServerNote)
  pub is : journal ≡ before ++ Returned event answer (note.Piece c 0 []) ∷ after
  pub last : list_any (is_turn_of c) after ≡ false
  pub quiet : time ≤ started_at (past_of before) event - last_heard c (past_of before)
  pub sound : IsSound c steps journal

-- What the word tells with which it was closed; these entries stand before its closing.
abbrev pub IsClosedAs : EndKind → ℕ → List ScriptStep → Option ℕ → List (Entry ServerNote)
    → List (Entry ServerNote) → Type 0
IsClosedAs end.End c steps idle journal before = ReachedEnd c steps journal Clean
IsClosedAs (end.Partial n) c steps idle journal before = ReachedEnd c steps journal (Partial n)
IsClosedAs (end.Malformed at) c steps idle journal before =
    stop_taken c steps journal ≡ Malformed at
IsClosedAs end.Failed c steps idle journal before = CameToFail c steps journal
IsClosedAs end.NoMemory c steps idle journal before = LostItsLast c steps journal
IsClosedAs end.Idle c steps idle journal before = WasQuiet c steps idle journal
IsClosedAs end.Stopped c steps idle journal before = ended (past_of before) ≡ true
IsClosedAs end.Refused c steps idle journal before = took c journal ≡ 0

-- the entry closes connection c with this word: `Refused` stands exactly if its handler was not
-- registered
abbrev pub ClosesAs : ℕ → EndKind → Entry ServerNote → Type 0
ClosesAs c word (Closed handle said) = (said ≡ note.Finished c word) × (word ≢ end.Refused)
ClosesAs c word (Refused live fault said) = (said ≡ note.Finished c word) × (word ≡ end.Refused)
ClosesAs c word _ = ⊥

-- the one closing of connection c in a journal, which stands after its acceptance
pub record IsClosedOnce (c : ℕ) (journal : List (Entry ServerNote))
    (before : List (Entry ServerNote)) (word : EndKind) : Type 0 where
  pub closing : Entry ServerNote
  pub after : List (Entry ServerNote)
  pub is : journal ≡ before ++ closing ∷ after
  pub closes : ClosesAs c word closing
  pub accepted : list_any (accepts_connection c) before ≡ true
  pub none_before : list_any (is_closing_of c) before ≡ false
  pub none_after : list_any (is_closing_of c) after ≡ false

-- What a connection that was accepted took, noted and was closed with.
pub record IsTaken (steps : List ScriptStep) (idle : Option ℕ) (journal : List (Entry ServerNote))
    (c : ℕ) : Type 0 where
  -- the script has it, and it took no more bytes than it brings there
  pub came : c < opened steps
  pub within : took c journal ≤ length (bytes_of c steps)
  -- it was closed once, and what the word tells is so
  pub before : List (Entry ServerNote)
  pub word : EndKind
  pub once : IsClosedOnce c journal before word
  pub cause : IsClosedAs word c steps idle journal before
  -- it noted the records of the bytes taken; those of the last turn are missing if there was no
  -- memory for them
  pub records : word ≢ end.NoMemory → noted c journal ≡ records_taken c steps journal
  -- so it did before each of its turns
  pub each : (front rest : List (Entry ServerNote)) → journal ≡ front ++ rest
      → list_any (is_turn_of c) rest ≡ true → GoesOn c steps front
