-- The numbers of the journal of a run over a generated script.
use Rattle.std.proofs.Common.{ℕ, zero, suc, ◌≡◌, ◌≢◌, ◌+◌, ◌*◌, ◌<◌, ◌≤◌, Bool, true, false, cond}
use Rattle.std.proofs.Common.{List, [], ◌∷◌, ◌++◌, length, refl, sym, ap, ap₂, ◌∙◌, subst, arith}
use Rattle.std.proofs.Common.{Option, Some, None, append_assoc}
use Rattle.std.specs.List.{AllByRecursion, list_any, list_all, sum_by, range_with_len}
use Rattle.std.proofs.Math.Nat.{suc-mul}
use Rattle.std.proofs.lemmas.Bool.{both_ways}
use Rattle.std.proofs.lemmas.List.Concat.{length-flat_map}
use Rattle.std.proofs.lemmas.List.FromFn.{length-range_with_len}
use Rattle.std.proofs.lemmas.List.Sums.{sum_by-cons}
use Rattle.laws_script_complete.specs.ev_types.specs.declared.upcall.Handle.{Handle}
use Rattle.laws_script_complete.specs.ev_types.specs.declared.upcall.Why.TheVariants.{Own}
use Rattle.laws_script_complete.specs.ev_base.specs.Terms.{Terms}
use Rattle.laws_script_complete.specs.cdr_record.specs.declared.record.LogRecord.{LogRecord}
use Rattle.laws_script_complete.specs.cdr_record.specs.Decoding.{Clean}
use Rattle.laws_script_complete.specs.cdr_record.specs.Decoding.{Decoded}
use Rattle.laws_script_complete.specs.cdr_record.specs.Decoding.{decode}
use Rattle.laws_script_complete.specs.reactor_journal.specs.Event.{Item}
use Rattle.laws_script_complete.specs.reactor_journal.specs.Event.{Origin}
use Rattle.laws_script_complete.specs.reactor_journal.specs.declared.entry.Entry.{Entry}
use Rattle.laws_script_complete.specs.reactor_journal.specs.declared.entry.Entry.TheVariants.{
  Returned,
}
use Rattle.laws_script_complete.specs.reactor_journal.specs.declared.entry.Entry.TheVariants.{
  Closed,
}
use Rattle.laws_script_complete.specs.reactor_journal.specs.declared.entry.Entry.TheVariants.{Ended}
use Rattle.laws_script_complete.specs.reactor_journal.specs.Past.{had}
use Rattle.laws_script_complete.specs.reactor_journal.specs.Past.{origin_of}
use Rattle.laws_script_complete.specs.reactor_journal.specs.Past.{reason_of}
use Rattle.laws_script_complete.specs.reactor_journal.specs.Past.{was_opened}
use Rattle.laws_script_complete.specs.reactor_journal.specs.Past.{was_closed}
use Rattle.laws_script_complete.specs.reactor_journal.specs.Follow.{is_legal}
use Rattle.laws_script_complete.specs.reactor_journal.proofs.Turning.{is_legal-front}
use Rattle.laws_script_complete.specs.laws_turns.specs.Laws.{stays}
use Rattle.laws_script_complete.specs.laws_turns.proofs.Turns.{had_stays}
use Rattle.laws_script_complete.specs.reactor_model.specs.Handling.{Handling}
use Rattle.laws_script_complete.specs.log_lines.specs.declared.end_kind.EndKind.{EndKind}
use Rattle.laws_script_complete.specs.log_lines.specs.declared.end_kind.EndKind.TheVariants
    as end
use Rattle.laws_script_complete.specs.log_handler.specs.declared.note.ServerNote.{ServerNote}
use Rattle.laws_script_complete.specs.log_handler.specs.declared.note.ServerNote.TheVariants
    as note
use Rattle.laws_script_complete.specs.log_handler.specs.Laws.{IsPieceOf}
use Rattle.laws_script_complete.specs.log_handler.specs.Laws.{took_of}
use Rattle.laws_script_complete.specs.log_handler.specs.Laws.{took_in}
use Rattle.laws_script_complete.specs.log_handler.specs.Laws.{records_of_note}
use Rattle.laws_script_complete.specs.log_handler.specs.Laws.{records_in}
use Rattle.laws_script_complete.specs.log_handler.proofs.Accounts.{accounts}
use Rattle.laws_script_complete.specs.log_handler.proofs.Courses.{course-goes}
use Rattle.laws_script_complete.specs.event_script.specs.Script.{ScriptStep}
use Rattle.laws_script_complete.specs.event_script.specs.Script.{ScriptGroup}
use Rattle.laws_script_complete.specs.event_script.specs.Script.{steps_of}
use Rattle.laws_script_complete.specs.event_script.specs.Script.{opened as connections_of}
use Rattle.laws_script_complete.specs.event_script.specs.Stories.{bytes_of}
use Rattle.laws_script_complete.specs.laws_script_turns.specs.Laws.{pauses_had}
use Rattle.laws_script_complete.specs.laws_script_turns.specs.Laws.{steps_on}
use Rattle.laws_script_complete.specs.laws_script_runs.specs.Connections.{AreLeft, SaysLast}
use Rattle.laws_script_complete.specs.laws_script_runs.specs.Connections.{TalksThrough, HadMemory}
use Rattle.laws_script_complete.specs.laws_script_runs.specs.Connections.{entry_lacks, accepted}
use Rattle.laws_script_complete.specs.laws_script_runs.specs.Runs.{is_refusal}
use Rattle.laws_script_complete.specs.reactor_model.specs.Entries.{is_fault}
use Rattle.laws_script_complete.specs.laws_script_runs.specs.Steps.{EachStep}
use Rattle.laws_script_complete.specs.laws_script_runs.specs.Laws.{RunsOver}
use Rattle.laws_script_complete.specs.laws_script_runs.proofs.Glue as glue
use Rattle.laws_script_complete.specs.laws_script_runs.proofs.Glue.{no_close}
use Rattle.laws_script_complete.specs.laws_script_runs.proofs.Handles.{IsBegun, origin_first}
use Rattle.laws_script_complete.specs.laws_script_runs.proofs.Living as living
use Rattle.laws_script_complete.specs.laws_script_runs.proofs.Notes.{Listens, is_listening}
use Rattle.laws_script_complete.specs.laws_script_runs.proofs.Notes.{course_listens}
use Rattle.laws_script_complete.specs.laws_script_runs.proofs.Refusing.{none_refused}
use Rattle.laws_script_complete.specs.laws_script_runs.proofs.Scripts.{orderly}
use Rattle.laws_script_complete.specs.laws_script_runs.proofs.Settling.{each_front, opened_later}
use Rattle.laws_script_complete.specs.laws_script_runs.proofs.Standing.{OpenedFor}
use Rattle.laws_script_complete.specs.laws_script_runs.proofs.Turns as turns
use Rattle.laws_script_complete.specs.laws_script_runs.proofs.Whole as whole
use Rattle.laws_script_complete.specs.laws_script_runs.proofs.Numbers as numbers
use Rattle.laws_script_complete.specs.laws_script_runs.proofs.Winding as winding
use Rattle.laws_script_complete.proofs.Taking.{all_accepted}
use Rattle.run_summary.specs.declared.summary.Summary.{Summary}
use Rattle.run_summary.specs.Summaries.{of_note, in_notes, acceptances, connections_in}
use Rattle.run_summary.specs.Summaries.{records_in as records_noted, bytes_in, lines_of_note}
use Rattle.run_summary.specs.Summaries.{lines_in, Summarizes}
use Rattle.run_summary.proofs.Counting.{lines_are}
use Rattle.run_summary.proofs.Feeds.{record_lines_feeds, closing_line_feeds}
use Rattle.script_generator.specs.Records.{letter_count}
use Rattle.script_generator.specs.Scripts.{last_round, generated}
use Rattle.script_generator.specs.Laws.{rounds, connection_records, bytes_of_connections}
use Rattle.script_generator.specs.Laws.{bytes_of_records}
use Rattle.script_generator.specs.Laws.{BringsRecords}
use Rattle.script_generator.proofs.Whole.{last_round_is}
use Rattle.script_generator.proofs.Connections.{has_steps, brings_records, bytes_are}
use Rattle.laws_gen.specs.Runs.{SumsUp}
use Rattle.laws_gen.proofs.Sums.{below, same_below, always_below, none_below, first_and_rest}
use Rattle.laws_gen.proofs.Sums.{sum_back}
use Rattle.laws_gen.proofs.Stories.{ReadsAll, reads_all}
use Rattle.laws_gen.proofs.Registered as registered
use Rattle.laws_gen.proofs.Handlers as handlers
use Rattle.laws_gen.proofs.Handlers.{of_turn, of_closing, of_item, in_both}

-- ---- small sums

-- a number that no note of a listener has
listens_for_none : (number : ServerNote → ℕ)
    → ((said : ServerNote) → is_listening said ≡ true → number said ≡ 0)
    → (items : List (Item ServerNote)) → AllByRecursion Listens items
    → sum_by (of_item number) items ≡ 0
listens_for_none number none [] all = refl
listens_for_none number none (item ∷ items) all =
    sum_by-cons (of_item number) item items
    ∙ ap₂ ◌+◌ (none item.note all.0) (listens_for_none number none items all.1)

no_records : (said : ServerNote) → is_listening said ≡ true → length (records_of_note said) ≡ 0
no_records (note.Accepted conn) h = refl
no_records note.NoneWaiting h = refl
no_records note.ListenerFailed h = refl
no_records note.ListenerShut h = refl
no_records (note.Piece conn took records) h = absurd (cc h)
no_records (note.Finished conn word) h = refl

no_bytes : (said : ServerNote) → is_listening said ≡ true → took_of said ≡ 0
no_bytes (note.Accepted conn) h = refl
no_bytes note.NoneWaiting h = refl
no_bytes note.ListenerFailed h = refl
no_bytes note.ListenerShut h = refl
no_bytes (note.Piece conn took records) h = absurd (cc h)
no_bytes (note.Finished conn word) h = refl

no_lines : (said : ServerNote) → is_listening said ≡ true → lines_of_note said ≡ 0
no_lines (note.Accepted conn) h = refl
no_lines note.NoneWaiting h = refl
no_lines note.ListenerFailed h = refl
no_lines note.ListenerShut h = refl
no_lines (note.Piece conn took records) h = absurd (cc h)
no_lines (note.Finished conn word) h = absurd (cc h)

abbrev records_told : ServerNote → ℕ
records_told said = length (records_of_note said)

-- a piece has a line for each record
piece_lines : (conn : ℕ) (said : ServerNote) → (took : ℕ) × (records : List LogRecord)
    × (said ≡ note.Piece conn took records) → lines_of_note said ≡ records_told said
piece_lines conn said piece =
    ap lines_of_note piece.2 ∙ record_lines_feeds conn piece.1 ∙ sym (ap records_told piece.2)

pieces_lines : (conn : ℕ) (items : List (Item ServerNote)) → AllByRecursion (IsPieceOf conn) items
    → sum_by (of_item lines_of_note) items ≡ sum_by (of_item records_told) items
pieces_lines conn [] all = refl
pieces_lines conn (item ∷ items) all =
    sum_by-cons (of_item lines_of_note) item items
    ∙ ap₂ ◌+◌ (piece_lines conn item.note all.0) (pieces_lines conn items all.1)
    ∙ sym (sum_by-cons (of_item records_told) item items)

-- the turns that accepted a connection
accepted_is : (past : List (Entry ServerNote)) → sum_by (of_turn acceptances) past ≡ accepted past
accepted_is [] = refl
accepted_is (Returned event answer (note.Accepted conn) ∷ past) =
    sum_by-cons (of_turn acceptances) (Returned event answer (note.Accepted conn)) past
    ∙ omega (arith, accepted_is past)
accepted_is (Returned event answer note.NoneWaiting ∷ past) =
    sum_by-cons (of_turn acceptances) (Returned event answer note.NoneWaiting) past
    ∙ omega (arith, accepted_is past)
accepted_is (Returned event answer note.ListenerFailed ∷ past) =
    sum_by-cons (of_turn acceptances) (Returned event answer note.ListenerFailed) past
    ∙ omega (arith, accepted_is past)
accepted_is (Returned event answer note.ListenerShut ∷ past) =
    sum_by-cons (of_turn acceptances) (Returned event answer note.ListenerShut) past
    ∙ omega (arith, accepted_is past)
accepted_is (Returned event answer (note.Piece conn took records) ∷ past) =
    sum_by-cons (of_turn acceptances) (Returned event answer (note.Piece conn took records)) past
    ∙ omega (arith, accepted_is past)
accepted_is (Returned event answer (note.Finished conn word) ∷ past) =
    sum_by-cons (of_turn acceptances) (Returned event answer (note.Finished conn word)) past
    ∙ omega (arith, accepted_is past)
accepted_is (e ∷ past) = sum_by-cons (of_turn acceptances) e past ∙ omega (arith, accepted_is past)

-- what is closed leaves a note of its handler
abbrev ClosesAs : ℕ → ServerNote → Type 0
ClosesAs zero said = said ≡ note.ListenerShut
ClosesAs (suc c) said = (word : EndKind) × (said ≡ note.Finished c word)

-- one line for each closing but the acceptor's
abbrev closing_lines : ℕ → ℕ
closing_lines zero = 0
closing_lines (suc c) = 1

closes_with_lines : (x : ℕ) (said : ServerNote) → ClosesAs x said
    → lines_of_note said ≡ closing_lines x
closes_with_lines zero said h = ap lines_of_note h
closes_with_lines (suc c) said h = ap lines_of_note h.1 ∙ closing_line_feeds c h.0

closes_with_none : (number : ServerNote → ℕ) → number note.ListenerShut ≡ 0
    → ((c : ℕ) (word : EndKind) → number (note.Finished c word) ≡ 0) → (x : ℕ) (said : ServerNote)
    → ClosesAs x said → number said ≡ 0
closes_with_none number shut finished zero said h = ap number h ∙ shut
closes_with_none number shut finished (suc c) said h = ap number h.1 ∙ finished c h.0

no_weight : (b : Bool) → ◌≡◌ {A = ℕ} (cond b 0 0) 0
no_weight true = refl
no_weight false = refl

-- a sum of numbers that have a bound
sum_within : {A : Type 0} (f : A → ℕ) (m : ℕ) → ((x : A) → f x ≤ m) → (xs : List A)
    → sum_by f xs ≤ length xs * m
sum_within f m bound [] = omega arith
sum_within f m bound (x ∷ xs) = omega
    (arith, sum_by-cons f x xs, bound x, sum_within f m bound xs, suc-mul (length xs) m)

bytes_within : (n seed : ℕ) → n ≤ 1000 → bytes_of_records n seed ≤ 8500000
bytes_within n seed many =
    let each : (c : ℕ) → sum_by (λ r. 29 + letter_count seed r c) rounds ≤ 8500 = λ c.
    let one = sum_within (λ (r : ℕ). 29 + letter_count seed r c) 68 (λ r. omega arith) rounds in
    omega (arith, one, length-range_with_len 0 (last_round + 1), last_round_is) in
    let whole_sum = sum_within (λ (c : ℕ). sum_by (λ r. 29 + letter_count seed r c) rounds) 8500
    each (range_with_len 0 n) in
    omega (arith, whole_sum, length-range_with_len 0 n)

-- ---- a run over a generated script

module _ {H E : Type 0} (means : Handling H E ServerNote) (t : Terms) (n seed : ℕ)
    (journal : List (Entry ServerNote)) (least : 1 ≤ n) (many : n ≤ 1000)
    (r : RunsOver means t None (generated n seed) journal)
    (none_refused : list_any is_refusal journal ≡ false) (memory : HadMemory journal) where
  abbrev groups : List ScriptGroup
  groups = generated n seed

  abbrev steps : List ScriptStep
  steps = steps_of (generated n seed)

  abbrev run : List (Entry ServerNote)
  run = whole.run means t None (generated n seed) journal r

  abbrev all : List (Entry ServerNote)
  all = whole.all means t None (generated n seed) journal r

  abbrev legal : is_legal t.most all ≡ true
  legal = whole.legal means t None groups journal r

  legal_run : is_legal t.most run ≡ true
  legal_run = whole.legal_run means t None groups journal r

  abbrev begun : EachStep IsBegun all
  begun = whole.begun means t None groups journal r

  abbrev left : AreLeft steps None all
  left = whole.left means t None groups journal r

  abbrev closed : (x : ℕ) → was_opened all x ≡ true → was_closed all x ≡ true
  closed = whole.closed means t None groups journal r

  are_numbered : turns.AreNumbered t.most steps None all legal begun left closed
  are_numbered = numbers.numbers means t None groups journal r none_refused

  come : connections_of steps ≡ n
  come = (has_steps n seed least many).come

  has_handler : (c : ℕ) → c < n → was_opened run (suc c) ≡ true
  has_handler c lt = registered.has_handler means t None groups journal r none_refused c
      (omega (arith, come, lt))

  none_else : (x : ℕ) → was_opened all x ≡ true → x < suc n
  none_else x o = omega (
    arith,
    come,
    registered.none_else means t None groups journal r none_refused x o,
  )

  opened_all : (x : ℕ) → was_opened run x ≡ true → was_opened all x ≡ true
  opened_all x o = opened_later (whole.wound means t None groups journal r) (Ended ∷ run) x o

  memory_all : list_any entry_lacks all ≡ false
  memory_all = sym (ap (list_any entry_lacks) (whole.all_is means t None groups journal r))
      ∙ winding.any_reverse entry_lacks journal memory

  -- ---- what each closing notes

  closes_as : (later past : List (Entry ServerNote)) (handle : Handle) (said : ServerNote)
      → all ≡ later ++ Closed handle said ∷ past → ClosesAs handle.0 said
  closes_as later past handle said is = by_number handle.0 refl
    where
      begun_past : EachStep IsBegun past
      begun_past = (each_front IsBegun later (Closed handle said ∷ past)
          (subst (EachStep IsBegun) is begun)).1

      joined : all ≡ (later ++ Closed handle said ∷ []) ++ past
      joined = is ∙ sym (append_assoc later (Closed handle said ∷ []) past)

      legal_past : is_legal t.most past ≡ true
      legal_past = is_legal-front t.most (later ++ Closed handle said ∷ []) past
          (sym (ap (is_legal t.most) joined) ∙ legal)

      leaves : SaysLast steps None (origin_of past handle.0) (had past handle.0)
          (reason_of past handle.0) said
      leaves = (turns.left_front t.most steps None all legal begun left closed later
          (Closed handle said ∷ past) (subst (AreLeft steps None) is left)).0

      by_number : (x : ℕ) → handle.0 ≡ x → ClosesAs x said
      by_number zero mine =
          (subst (λ (o : Option (Origin ServerNote)).
          SaysLast steps None o (had past handle.0) (reason_of past handle.0) said)
          (ap (origin_of past) mine ∙ origin_first t.most past legal_past begun_past)
          leaves).notes
      by_number (suc c) mine = let talks =
          turns.talks_at t.most steps None all legal begun left closed are_numbered c later handle
          said past is mine in (talks.2.word, talks.2.notes)

  -- ---- what each connection read

  -- what the turns of a connection come to
  record Reads (c : ℕ) : Type 0 where
    pieces : AllByRecursion (IsPieceOf c) (had all (suc c))
    records : sum_by (of_item records_told) (had all (suc c)) ≡ 125
    bytes : sum_by (of_item took_of) (had all (suc c)) ≡ length (bytes_of c steps)

  abbrev Here : ℕ → Type 0
  Here c = (later : List (Entry ServerNote)) (handle : Handle) (said : ServerNote)
      (before : List (Entry ServerNote)) → all ≡ later ++ Closed handle said ∷ before
      → handle.0 ≡ suc c → Reads c

  reads_here : (c : ℕ) → c < n → Here c
  reads_here c lt later handle said before is mine = record {
    pieces = account.notes;
    records = sym (length-flat_map records_in (had all (suc c))) ∙ ap length read.records
        ∙ ap (λ (d : Decoded). length d.records) decoded ∙ brings.many;
    bytes = sym account.took ∙ ap length read.taken;
  }
    where
      o : was_opened run (suc c) ≡ true
      o = has_handler c lt

      talks : (moment : ℕ) × (was_opened before (suc c) ≡ true)
          × TalksThrough steps None c moment (had all (suc c)) (reason_of before (suc c)) said
      talks = turns.talks_at t.most steps None all legal begun left closed are_numbered c later
          handle said before is mine

      brings : BringsRecords seed c steps
      brings = brings_records n seed c lt many

      decoded : decode (bytes_of c steps)
          ≡ record { records = connection_records seed c; stop = Clean }
      decoded = ap decode brings.bytes ∙ brings.decoded

      account : Rattle.laws_script_complete.specs.log_handler.specs.Laws.Accounts
          c None
          (had all (suc c)) talks.2.now
      account = accounts c None talks.0 _ (had all (suc c)) talks.2.now talks.2.course

      opened_for : OpenedFor run c (suc c)
      opened_for =
          let conn = turns.connection t.most steps None all legal begun left closed c
          (opened_all (suc c) o) in
          whole.opened_for means t None groups journal r c c conn.moment o
          (subst (λ (k : ℕ). origin_of all (suc c)
          ≡ Some (record { note = note.Accepted k; moment = conn.moment }))
          (are_numbered c (opened_all (suc c) o)) conn.origin)

      had_is : had all (suc c) ≡ had run (suc c)
      had_is = whole.had_is means t None groups journal r (suc c)

      others : (reason_of before (suc c) ≡ Own → ⊥) → (talks.2.now.kept ≡ None)
          × (pauses_had (had all (suc c)) ≡ steps_on c steps)
      others other =
          let alive = living.alive_if means t None groups journal r (suc c) before later handle said
          is mine o other in
          let stay = had_stays t.most run (suc c) legal_run alive in (
            course-goes c None _ talks.2.now (had all (suc c)) refl talks.2.course
                (no_close (had all (suc c)) (ap (list_all (λ item. stays item.answer)) had_is
                ∙ stay)),
            ap pauses_had had_is
                ∙ glue.conn_quiet t groups t.most run legal_run
                (whole.free means t None groups journal r) r.ends.at_over.idle.no_pick
                r.ends.at_over.idle.none_open (whole.numbered means t None groups journal r)
                (whole.follows_run means t None groups journal r) r.ends.at_over.behind
                r.ends.at_over.over c (suc c) opened_for alive,
          )

      had_memory : talks.2.word ≢ end.NoMemory
      had_memory e = both_ways (entry_lacks (Closed handle said))
          (winding.none_at entry_lacks later (Closed handle said) before
          (sym (ap (list_any entry_lacks) is) ∙ memory_all))
          (ap (λ (s : ServerNote). entry_lacks (Closed handle s))
          (talks.2.notes ∙ ap (note.Finished c) e))

      read : ReadsAll c steps (had all (suc c)) talks.2.now
      read = reads_all c steps talks.0 (had all (suc c)) talks.2.now (orderly c steps r.script)
          (ap (λ (d : Decoded). d.stop) decoded) brings.sound talks.2.course
          (reason_of before (suc c)) talks.2.word others talks.2.closing had_memory

  reads : (c : ℕ) → c < n → Reads c
  reads c lt = let l = turns.left_by t.most steps None all legal begun left closed (suc c)
      (opened_all (suc c) (has_handler c lt)) in
      reads_here c lt l.f.later l.f.handle l.f.said l.f.before l.f.is l.f.mine

  -- ---- sums

  backwards : (number : ServerNote → ℕ) → in_notes number journal ≡ in_notes number all
  backwards number = sym (sum_back (of_note number) journal)
      ∙ ap (in_notes number) (whole.all_is means t None groups journal r)

  refused_all : list_any is_refusal all ≡ false
  refused_all = numbers.refused_all means t None groups journal r none_refused

  split : (number : ServerNote → ℕ) → in_notes number journal
      ≡ sum_by (of_turn number) all + sum_by (of_closing number) all
  split number = backwards number ∙ in_both number all refused_all

  none_closing : (number : ServerNote → ℕ) → number note.ListenerShut ≡ 0
      → ((c : ℕ) (word : EndKind) → number (note.Finished c word) ≡ 0)
      → sum_by (of_closing number) all ≡ 0
  none_closing number shut finished =
      handlers.of_all_closings t.most all legal (suc n) none_else number (λ x. 0)
      (λ later past handle said is. closes_with_none number shut finished handle.0 said
      (closes_as later past handle said is))
      ∙ none_below (suc n) (λ y. cond (was_closed all y) 0 0) (λ c lt. no_weight (was_closed all c))

  of_first : (number : ServerNote → ℕ)
      → ((said : ServerNote) → is_listening said ≡ true → number said ≡ 0)
      → sum_by (of_item number) (had all 0) ≡ 0
  of_first number none =
      let listens = living.listens means t None groups journal r in
      listens_for_none number none (had all 0)
      (course_listens _ listens.1.now (had all 0) listens.1.course)

  by_connections : (number : ServerNote → ℕ)
      → ((said : ServerNote) → is_listening said ≡ true → number said ≡ 0)
      → sum_by (of_turn number) all ≡ below n (λ c. sum_by (of_item number) (had all (suc c)))
  by_connections number none =
      handlers.of_all_turns t.most all legal (suc n) none_else number
      ∙ first_and_rest n (λ y. sum_by (of_item number) (had all y))
      ∙ ap (λ (k : ℕ). k + below n (λ c. sum_by (of_item number) (had all (suc c))))
      (of_first number none) ∙ omega arith

  connections : connections_in journal ≡ n
  connections =
      let count = living.accepted_journal means t None groups journal r in
      let same = all_accepted means t None groups journal r in
      omega (
        arith,
        split acceptances,
        none_closing acceptances refl (λ c word. refl),
        accepted_is all,
        count,
        same,
        come,
      )

  records : records_noted journal ≡ 125 * n
  records =
      let each = always_below n 125 (λ c. sum_by (of_item records_told) (had all (suc c)))
      (λ c lt. (reads c lt).records) in
      omega (
        arith,
        split records_told,
        none_closing records_told refl (λ c word. refl),
        by_connections records_told no_records,
        each,
      )

  bytes : bytes_in journal ≡ bytes_of_connections steps
  bytes =
      let each = same_below (λ c. sum_by (of_item took_of) (had all (suc c)))
      (λ c. length (bytes_of c steps)) n (λ c lt. (reads c lt).bytes) in
      let whole_sum : below n (λ c. length (bytes_of c steps)) ≡ bytes_of_connections steps =
      ap (λ (k : ℕ). below k (λ c. length (bytes_of c steps))) (sym come) in
      omega (
        arith,
        split took_of,
        none_closing took_of refl (λ c word. refl),
        by_connections took_of no_bytes,
        each,
        whole_sum,
      )

  closings : sum_by (of_closing lines_of_note) all ≡ n
  closings =
      let rest = always_below n 1 (λ c. cond (was_closed all (suc c)) 1 0)
      (λ c lt. ap (λ (b : Bool). cond b 1 0)
      (closed (suc c) (opened_all (suc c) (has_handler c lt)))) in
      handlers.of_all_closings t.most all legal (suc n) none_else lines_of_note closing_lines
      (λ later past handle said is. closes_with_lines handle.0 said
      (closes_as later past handle said is))
      ∙ first_and_rest n (λ y. cond (was_closed all y) (closing_lines y) 0)
      ∙ (omega (arith, no_weight (was_closed all 0), rest))

  lines : lines_in journal ≡ 126 * n
  lines =
      let each = always_below n 125 (λ c. sum_by (of_item lines_of_note) (had all (suc c)))
      (λ c lt. let read = reads c lt in pieces_lines c (had all (suc c)) read.pieces
      ∙ read.records) in
      omega (
        arith,
        lines_are journal,
        split lines_of_note,
        closings,
        by_connections lines_of_note no_lines,
        each,
      )

  pub sums_up : (summary : Summary) → Summarizes summary journal → SumsUp n seed summary
  sums_up summary s =
      let small : bytes_of_connections steps ≤ 8500000 =
      omega (arith, bytes_are n seed least many, bytes_within n seed many) in
      record {
        connections = omega (arith, s.connections, connections);
        records = omega (arith, s.records, records);
        bytes = omega (arith, s.bytes, bytes, small);
        lines = omega (arith, s.lines, lines);
      }

-- with room for all connections none is refused
pub sums_up_with_room : {H E : Type 0} (means : Handling H E ServerNote) (t : Terms) (n seed : ℕ)
    (journal : List (Entry ServerNote)) (summary : Summary) → 1 ≤ n → n ≤ 1000
    → (r : RunsOver means t None (generated n seed) journal) → n < t.most
    → list_any is_fault journal ≡ false → HadMemory journal → Summarizes summary journal
    → SumsUp n seed summary
sums_up_with_room means t n seed journal summary least many r room no_fault memory s =
    let fits : connections_of (steps_of (generated n seed)) < t.most =
    omega (arith, (has_steps n seed least many).come, room) in
    sums_up means t n seed journal least many r
    (none_refused means t None (generated n seed) journal r fits no_fault) memory summary s
