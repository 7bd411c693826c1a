-- What became of the one connection, by what its end and its turns tell.
use Rattle.std.proofs.Common.{ℕ, ◌≡◌, ◌≢◌, ◌+◌, ◌⊎◌, inl, inr, Bool, true, List, [], ◌∷◌, ◌++◌}
use Rattle.std.proofs.Common.{length, map, refl, sym, ap, ◌∙◌, subst, arith, Option, Some, None}
use Rattle.std.specs.Prelude.{flat_map, nat_lt, is_none, ◌&&◌}
use Rattle.std.specs.Option.{option_to_list}
use Rattle.std.specs.List.{sum_by}
use Rattle.std.proofs.lemmas.Bool.{false≢true, and_parts}
use Rattle.std.proofs.lemmas.List.{append-nil, length-append}
use Rattle.std.proofs.lemmas.List.Sums.{sum_by-cons}
use Rattle.std.proofs.lemmas.Grind.{flat_map-append}
use Rattle.ev_base.specs.ev_types.specs.declared.upcall.Why.{Why}
use Rattle.ev_base.specs.ev_types.specs.declared.upcall.Why.TheVariants.{Own, Removed, Refused}
use Rattle.ev_base.specs.Bytes.{ReaderBytes, MovesOn, HasGiven}
use Rattle.ev_base.specs.Source.{SourceFacts}
use Rattle.ev_base.specs.Sink.{SinkFacts}
use Rattle.ev_base.specs.Terms.{Terms}
use Rattle.log_handler.specs.cdr_record.specs.declared.record.LogRecord.{LogRecord}
use Rattle.log_handler.specs.cdr_record.specs.Decoding.{decode}
use Rattle.log_handler.specs.log_lines.specs.Texts.{record_lines, closing_line}
use Rattle.log_handler.specs.log_lines.specs.declared.end_kind.EndKind.{EndKind}
use Rattle.log_handler.specs.log_lines.specs.declared.end_kind.EndKind.TheVariants as kind
use Rattle.reactor_model.specs.reactor_journal.specs.Event.{Item, Origin}
use Rattle.reactor_model.specs.reactor_journal.specs.declared.entry.Entry.{Entry}
use Rattle.reactor_model.specs.reactor_journal.specs.declared.entry.Entry.TheVariants.{
  Closed as ClosedEntry,
}
use Rattle.reactor_model.specs.Volumes.{VolumesFacts}
use Rattle.log_handler.specs.declared.note.ServerNote.{ServerNote}
use Rattle.log_handler.specs.declared.note.ServerNote.TheVariants as note
use Rattle.log_handler.specs.Notes.{note_lines, journal_lines}
use Rattle.log_handler.specs.Connection.{Progress}
use Rattle.log_handler.specs.Connections.{ConnectionGone, HasFaults, IsClosing, found_end}
use Rattle.log_handler.specs.Laws.{Accounts, CoursesAccount, EndedSo, HasRecords, WasIdle}
use Rattle.log_handler.specs.Laws.{records_of_note, records_in, took_of, took_in, took_last}
use Rattle.log_handler.specs.Laws.{last_turn}
use Rattle.one_run.specs.one_net.specs.declared.one_end.OneEnd.{OneEnd}
use Rattle.one_run.specs.one_net.specs.OneEnd.{one_end_facts, is_over, given_by, given_of}
use Rattle.one_run.specs.one_net.specs.OneEnd.{end_bytes, extra_of, failed_of, input_of, count_of}
use Rattle.one_run.specs.one_net.specs.OneKeeps.{OneEndKeeps, most_input}
use Rattle.one_run.specs.Phases.{one_handle, EndsBy, AllReadOn, IsFinished, note_of, notes_in}
use Rattle.one_run.specs.Phases.{turns_in}
use Rattle.one_run.specs.Opening.{StartsRun}
use Rattle.one_run.proofs.Leaves.{finished_notes}
use Rattle.cmd_one.specs.Outcome.{lines_of, IsClosedWith, TellsConnection, IsWordFor, IsClosedIn}
use Rattle.cmd_one.specs.Outcome.{ComesTo}
use Rattle.one_run.specs.bounded_input.specs.Input.{IsReadToEnd, TakesInput}
use Rattle.cmd_one.proofs.Courses.{reads_on, few_turns}
use Rattle.cmd_one.proofs.Lines.{lines_by_notes, lines_of_pieces, pieces_of, records_of_turns}

-- ---- the bytes

moves_taken : (a b : Option ReaderBytes) (extra taken : List ℕ) (count : ℕ)
    → MovesOn a (given_by (length extra) count b ++ extra) b
    → HasGiven (end_bytes extra count b) taken → MovesOn a (taken ++ extra) b
moves_taken None None extra taken count moves given = tt
moves_taken None (Some b) extra taken count moves given = absurd moves
moves_taken (Some a) None extra taken count moves given = absurd moves
moves_taken (Some a) (Some b) extra taken count moves given =
    subst (λ (bytes : List ℕ). MovesOn (Some a) (bytes ++ extra) (Some b)) given moves

one_byte : (extra : Option ℕ) → option_to_list extra ≢ [] → length (option_to_list extra) ≡ 1
one_byte None some = absurd (some refl)
one_byte (Some byte) some = refl

-- ---- how it was closed

-- how the connection was closed, by the word
record Closes (j : SourceFacts) (failed : Bool) (taken extra : List ℕ) (records : List LogRecord)
    (word : EndKind) : Type 0 where
  decoded : List ℕ
  closed : IsClosedWith j failed taken extra decoded word
  told : records ≡ (decode decoded).records

-- an end that told that it was over has a source that is
source_over : (reads : ℕ) (extra : Option ℕ) (over : Bool) → is_over reads extra over ≡ true
    → over ≡ true
source_over reads extra over is = (and_parts (is_none extra) over
    (and_parts (nat_lt 0 reads) (is_none extra && over) is).1).1

never_idle : (last : ℕ) (turn : Option (Item ServerNote)) → WasIdle None last turn → ⊥
never_idle last None was = was
never_idle last (Some item) was = false≢true was

module _ {S : Type 0} (source : S → SourceFacts) (t : Terms) (end : OneEnd S)
    (keeps : OneEndKeeps source t end) (p : Progress) (records : List LogRecord) (lost : ℕ) where
  abbrev Closed : EndKind → Type 0
  Closed word = Closes (source (input_of end)) (failed_of end) p.taken (extra_of end) records word

  at_over : found_end p.last_read ≡ true → (one_end_facts source end).over ≡ found_end p.last_read
      → IsReadToEnd (source (input_of end))
  at_over found over = record {
    over = source_over end.reads end.extra (source (input_of end)).over (over ∙ found);
    nothing_left = (keeps.at_end (over ∙ found)).0;
  }

  closes_itself : (turn : Option (Item ServerNote)) (word : EndKind)
      → EndedSo None turn p (Some word) → HasRecords records lost p.taken (Some word)
      → HasFaults (Some word) (one_end_facts source end).faults
      → (one_end_facts source end).over ≡ found_end p.last_read → Closed word
  closes_itself turn kind.End ended told faults over =
      record {
        decoded = p.taken;
        closed = (refl, ended.1, at_over (ap found_end ended.0) over, keeps.sound faults);
        told = told;
      }
  closes_itself turn (kind.Partial n) ended told faults over =
      record {
        decoded = p.taken;
        closed = (refl, ended.1, at_over (ap found_end ended.0) over, keeps.sound faults);
        told = told;
      }
  closes_itself turn (kind.Malformed at) ended told faults over =
      record { decoded = p.taken; closed = (refl, ended, keeps.sound faults); told = told }
  closes_itself turn kind.Failed ended told faults over =
      record { decoded = p.taken; closed = (refl, keeps.cause faults); told = told }
  closes_itself turn kind.NoMemory ended told faults over =
      record {
        decoded = told.front;
        closed = ((told.lost, told.whole), keeps.sound faults);
        told = told.decoded;
      }
  closes_itself turn kind.Idle ended told faults over = absurd (never_idle p.last turn ended)
  closes_itself turn kind.Stopped ended told faults over = absurd ended
  closes_itself turn kind.Refused ended told faults over = absurd ended

  closes_removed : (word : EndKind) → word ≡ kind.Stopped → records ≡ (decode p.taken).records
      → (one_end_facts source end).faults ≡ 0 → Closed word
  closes_removed word is told faults =
      subst Closed (sym is) (record {
        decoded = p.taken;
        closed = (refl, keeps.sound faults);
        told = told;
      })

  -- it was closed for itself or because it was removed
  closes : (turn : Option (Item ServerNote)) (reason : Why) (had : List (Item ServerNote))
      (word : EndKind) → EndsBy reason had → (AllReadOn had → p.kept ≡ None)
      → IsClosing reason p.kept word → EndedSo None turn p p.kept
      → HasRecords records lost p.taken p.kept → HasFaults p.kept (one_end_facts source end).faults
      → (one_end_facts source end).over ≡ found_end p.last_read → Closed word
  closes turn Own had word ends none closing ended told faults over =
      closes_itself turn word (subst (λ kept. EndedSo None turn p kept) closing ended)
      (subst (λ kept. HasRecords records lost p.taken kept) closing told)
      (subst (λ kept. HasFaults kept (one_end_facts source end).faults) closing faults) over
  closes turn Removed had word ends none closing ended told faults over =
      let is = none ends in
      closes_removed word (subst (λ kept. IsClosing Removed kept word) is closing)
      (subst (λ kept. HasRecords records lost p.taken kept) is told)
      (subst (λ kept. HasFaults kept (one_end_facts source end).faults) is faults)
  closes turn Refused had word ends none closing ended told faults over = absurd ends

-- one that closed itself was not stopped
not_stopped : (reason : Why) (kept : Option EndKind) (turn : Option (Item ServerNote))
    (p : Progress) (word : EndKind) → reason ≡ Own → IsClosing reason kept word
    → EndedSo None turn p kept → word ≡ kind.Stopped → ⊥
not_stopped reason kept turn p word own closing ended stopped =
    subst (λ kept. EndedSo None turn p kept)
    (subst (λ why. IsClosing why kept word) own closing ∙ ap Some stopped) ended

removed_word : (kept : Option EndKind) (word : EndKind) → IsClosing Removed kept word
    → (word ≡ kind.NoMemory) ⊎ (word ≡ kind.Stopped)
removed_word None word closing = inr closing
removed_word (Some kind.End) word closing = inr closing
removed_word (Some (kind.Partial n)) word closing = inr closing
removed_word (Some (kind.Malformed at)) word closing = inr closing
removed_word (Some kind.Failed) word closing = inr closing
removed_word (Some kind.NoMemory) word closing = inl closing
removed_word (Some kind.Idle) word closing = inr closing
removed_word (Some kind.Stopped) word closing = inr closing
removed_word (Some kind.Refused) word closing = inr closing

-- the word is one for the reason
word_for : (reason : Why) (had : List (Item ServerNote)) (kept : Option EndKind)
    (turn : Option (Item ServerNote)) (p : Progress) (word : EndKind) → EndsBy reason had
    → IsClosing reason kept word → EndedSo None turn p kept → IsWordFor reason word
word_for Own had kept turn p word ends closing ended =
    λ stopped. not_stopped Own kept turn p word refl closing ended stopped
word_for Removed had kept turn p word ends closing ended = removed_word kept word closing
word_for Refused had kept turn p word ends closing ended = absurd ends

-- ---- the notes

took_by_notes : (had : List (Item ServerNote))
    → sum_by took_of (map note_of had) ≡ sum_by took_in had
took_by_notes [] = refl
took_by_notes (item ∷ had) = sum_by-cons took_of (note_of item) (map note_of had)
    ∙ (ap (λ (n : ℕ). took_in item + n) (took_by_notes had) ∙ sym (sum_by-cons took_in item had))

-- the lines of the notes of its turns, and of its closing
lines_of_all : (journal : List (Entry ServerNote)) (pieces : List ServerNote) (word : EndKind)
    (decoded : List ℕ) → notes_in journal ≡ pieces ++ note.Finished 0 word ∷ []
    → flat_map note_lines pieces ≡ record_lines 0 (decode decoded).records
    → journal_lines journal ≡ lines_of decoded word
lines_of_all journal pieces word decoded notes lines =
    lines_by_notes journal
    ∙ (ap (flat_map note_lines) notes
    ∙ (flat_map-append note_lines pieces (note.Finished 0 word ∷ [])
    ∙ (ap (λ (text : List ℕ). text ++ (closing_line 0 word ++ [])) lines
    ∙ ap (λ (text : List ℕ). record_lines 0 (decode decoded).records ++ text)
    (append-nil (closing_line 0 word)))))

-- ---- all in all

-- what became of the connection whose end this is
pub record Became {S : Type 0} (source : S → SourceFacts) (i : SourceFacts)
    (h : List (Entry ServerNote)) (f : IsFinished h) (end : OneEnd S) : Type 0 where
  pub run : ComesTo most_input (failed_of end) i (source (input_of end)) h
  pub extra : run.extra ≡ extra_of end
  pub said : f.closed.note ≡ note.Finished 0 run.word
  pub own : f.closed.reason ≡ Own → run.word ≡ kind.Stopped → ⊥
  pub before : run.closes.before ≡ f.closed.before
  pub rest : run.closes.rest ≡ f.closed.rest

idle_is : (time : Option ℕ) (told : Option (Option ℕ)) → told ≡ Some None
    → ((limit : Option ℕ) → told ≡ Some limit → time ≡ limit) → time ≡ None
idle_is time told is waits = waits None is

module _ {S : Type 0} (source : S → SourceFacts) (t : Terms) (i : SourceFacts) (o : SinkFacts)
    (v : VolumesFacts ServerNote) (account : CoursesAccount) (starts : StartsRun t i o v)
    (gave : t.input_gave ≡ Some i.gave) (faults : t.input_faults ≡ Some i.faults)
    (h : List (Entry ServerNote)) (f : IsFinished h) (origin : Option (Origin ServerNote))
    (end : OneEnd S)
    (gone : ConnectionGone (one_end_facts source) (OneEndKeeps source) t origin end
    (turns_in f.closed.before) f.closed.reason f.closed.note) where
  had : List (Item ServerNote)
  had = turns_in f.closed.before

  p : Progress
  p = gone.served.now

  is_zero : gone.conn ≡ 0
  is_zero = sym (gone.served.comes_from.numbered 0 refl)

  no_idle : gone.idle ≡ None
  no_idle = idle_is gone.idle t.idle starts.of_one.idle
      (λ limit told. gone.served.comes_from.waits limit told)

  accounts : Accounts 0 None (turns_in f.closed.before) gone.served.now
  accounts =
      subst (λ (conn : ℕ). Accounts conn None (turns_in f.closed.before) gone.served.now) is_zero
      (subst (λ (idle : Option ℕ). Accounts gone.conn idle (turns_in f.closed.before)
      gone.served.now) no_idle
      (account gone.conn gone.idle gone.served.moment gone.served.telling (turns_in f.closed.before)
      gone.served.now gone.served.course))

  said : f.closed.note ≡ note.Finished 0 gone.word
  said = gone.notes ∙ ap (λ (conn : ℕ). note.Finished conn gone.word) is_zero

  moved : MovesOn i.bytes (given_of source end ++ extra_of end) (source (input_of end)).bytes
  moved = subst (λ (bytes : Option ReaderBytes).
      MovesOn bytes (given_of source end ++ extra_of end) (source (input_of end)).bytes)
      starts.source.bytes gone.kept_end.bytes

  counted : length gone.served.now.taken ≡ count_of end
  counted = sym gone.served.end.gave

  takes : TakesInput most_input (failed_of end) i (source (input_of end)) gone.served.now.taken
      (extra_of end)
  takes = record {
    moves = moves_taken i.bytes (source (input_of end)).bytes (extra_of end) gone.served.now.taken
        (count_of end) moved gone.served.end.given;
    gave = omega (
      arith,
      gone.kept_end.took i.gave gave,
      counted,
      length-append gone.served.now.taken (extra_of end),
    );
    within = omega (arith, counted, gone.kept_end.within, gone.kept_end.limit);
    behind = λ some. (
      counted ∙ ((gone.kept_end.too_long some).0 ∙ gone.kept_end.limit),
      one_byte end.extra some,
    );
    faults = gone.kept_end.source_faults i.faults faults;
  }

  closed : Closes (source (input_of end)) (failed_of end) gone.served.now.taken (extra_of end)
      (flat_map records_in (turns_in f.closed.before)) gone.word
  closed =
      closes source t end gone.kept_end gone.served.now
      (flat_map records_in (turns_in f.closed.before))
      (took_last (last_turn (turns_in f.closed.before))) (last_turn (turns_in f.closed.before))
      f.closed.reason
      (turns_in f.closed.before) gone.word f.closed.ends
      (λ all. reads_on gone.conn gone.idle _ (turns_in f.closed.before) gone.served.now refl
      gone.served.course all) gone.closing accounts.ended accounts.records
      gone.served.end.faults gone.served.end.over

  notes : notes_in h ≡ map note_of (turns_in f.closed.before) ++ note.Finished 0 gone.word ∷ []
  notes = finished_notes h f.closed ∙ ap
      (λ (said : ServerNote). map note_of (turns_in f.closed.before) ++ said ∷ []) said

  noted : flat_map records_of_note (map note_of (turns_in f.closed.before))
      ≡ (decode closed.decoded).records
  noted = records_of_turns (turns_in f.closed.before) ∙ closed.told

  tells : TellsConnection h gone.served.now.taken closed.decoded gone.word
  tells = record {
    pieces = map note_of (turns_in f.closed.before);
    notes = notes;
    of_it = pieces_of (turns_in f.closed.before) accounts.notes;
    took = took_by_notes (turns_in f.closed.before) ∙ sym accounts.took;
    records = noted;
    entries = omega (
      arith,
      f.closed.size,
      f.few,
      few_turns f.closed.reason (turns_in f.closed.before) f.closed.ends,
      accounts.again,
      accounts.took,
    );
  }

  closes_in : IsClosedIn h gone.word
  closes_in = record {
    before = f.closed.before;
    rest = f.closed.rest;
    is = f.closed.is ∙ ap (λ (said : ServerNote).
        (f.closed.before ++ ClosedEntry one_handle said ∷ []) ++ f.closed.rest) said;
    reason = subst (λ (why : Why). IsWordFor why gone.word) (sym f.closed.closed_for)
        (word_for f.closed.reason (turns_in f.closed.before) gone.served.now.kept
        (last_turn (turns_in f.closed.before)) gone.served.now gone.word f.closed.ends
        gone.closing accounts.ended);
  }

  lines : journal_lines h ≡ lines_of closed.decoded gone.word
  lines = lines_of_all h (map note_of (turns_in f.closed.before)) gone.word closed.decoded notes
      (lines_of_pieces (map note_of (turns_in f.closed.before))
      (pieces_of (turns_in f.closed.before) accounts.notes)
      ∙ ap (λ (records : List LogRecord). record_lines 0 records) noted)

  pub became : Became source i h f end
  unfolding closes_in
  became = record {
    run = record {
      taken = gone.served.now.taken;
      extra = extra_of end;
      decoded = closed.decoded;
      word = gone.word;
      takes = takes;
      closed = closed.closed;
      tells = tells;
      closes = closes_in;
      lines = lines;
    };
    extra = refl;
    said = said;
    own = λ own stopped. not_stopped f.closed.reason gone.served.now.kept
        (last_turn (turns_in f.closed.before)) gone.served.now gone.word own gone.closing
        accounts.ended stopped;
    before = refl;
    rest = refl;
  }
