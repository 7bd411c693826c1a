-- Each start takes a waiting event, which a report or an Again made.
use Rattle.std.proofs.Common.{ℕ, suc, ◌≡◌, ◌∙◌, ◌+◌, ◌≤◌, ◌==◌, cond, Bool, true, false, not, ◌&&◌}
use Rattle.std.proofs.Common.{◌||◌, List, [], ◌∷◌, length, Option, Some, None, is_some, refl, ap}
use Rattle.std.proofs.Common.{arith, length-append}
use Rattle.std.specs.List.{list_any, filter}
use Rattle.std.proofs.lemmas.Bool.{false≢true, and_parts, eq-eqb}
use Rattle.laws_one_worker.specs.ev_types.specs.declared.upcall.Answer.TheVariants.{Again}
use Rattle.laws_one_worker.specs.ev_types.specs.declared.upcall.Answer.TheVariants.{Close}
use Rattle.laws_one_worker.specs.reactor_journal.specs.declared.entry.Entry.{Entry}
use Rattle.laws_one_worker.specs.reactor_journal.specs.declared.entry.Entry.TheVariants.{Cancelled}
use Rattle.laws_one_worker.specs.reactor_journal.specs.declared.entry.Entry.TheVariants.{Due}
use Rattle.laws_one_worker.specs.reactor_journal.specs.declared.entry.Entry.TheVariants.{Ready}
use Rattle.laws_one_worker.specs.reactor_journal.specs.declared.entry.Entry.TheVariants.{Posted}
use Rattle.laws_one_worker.specs.reactor_journal.specs.declared.entry.Entry.TheVariants.{Started}
use Rattle.laws_one_worker.specs.reactor_journal.specs.declared.entry.Entry.TheVariants.{Returned}
use Rattle.laws_one_worker.specs.reactor_journal.specs.declared.entry.Entry.TheVariants.{Masked}
use Rattle.laws_one_worker.specs.reactor_journal.specs.declared.entry.Entry.TheVariants.{Removed}
use Rattle.laws_one_worker.specs.reactor_journal.specs.Past as P
use Rattle.laws_one_worker.specs.reactor_journal.specs.Past.{count, is_able}
use Rattle.laws_one_worker.specs.reactor_journal.specs.Past.{may_run, event_at}
use Rattle.laws_one_worker.specs.reactor_journal.specs.Follow.{is_legal}
use Rattle.laws_one_worker.specs.reactor_journal.specs.Follow.{may_follow}
use Rattle.laws_one_worker.specs.reactor_journal.proofs.Basics.{event_at-within}
use Rattle.laws_one_worker.specs.reactor_journal.proofs.OneOpen.{started_is_able}
use Rattle.laws_one_worker.specs.reactor_summary.specs.Summary as S
use Rattle.laws_one_worker.specs.reactor_summary.specs.Summary.{Summary, summary}
use Rattle.laws_one_worker.specs.reactor_summary.specs.Summary.{waiting_again}
use Rattle.laws_one_worker.specs.reactor_summary.specs.Summary.{waiting_due}
use Rattle.laws_one_worker.specs.reactor_summary.specs.Tells as T
use Rattle.laws_one_worker.specs.reactor_summary.specs.declared.parts.ArmedTimer.{ArmedTimer}
use Rattle.laws_one_worker.specs.reactor_summary.specs.declared.parts.OpenEvent.{OpenEvent}
use Rattle.laws_one_worker.specs.reactor_summary.specs.declared.parts.WaitingEvent.{WaitingEvent}
use Rattle.laws_one_worker.specs.reactor_summary.proofs.Lists.{any_listed-from}
use Rattle.laws_one_worker.specs.reactor_summary.proofs.Reading.{waiting_event_at}
use Rattle.laws_one_worker.specs.reactor_summary.proofs.Reading.{waiting_from}
use Rattle.laws_one_worker.specs.reactor_summary.proofs.Told as summary_told
use Rattle.laws_one_worker.specs.log_handler.specs.declared.note.ServerNote.{ServerNote}
use Rattle.laws_journal_length.proofs.EntryKinds.{is_ready, is_started, is_again}
use Rattle.laws_journal_length.proofs.Telling.{fewer}

-- a list without what passes, if something does
one_less : {A : Type 0} (p : A → Bool) (xs : List A) → list_any p xs ≡ true
    → length (filter (λ x. not (p x)) xs) + 1 ≤ length xs
one_less p [] h = absurd (false≢true h)
one_less p (x ∷ xs) h = by_test (p x) (one_less p xs) (fewer (λ x. not (p x)) xs) h
  where
    by_test : (b : Bool) → (list_any p xs ≡ true
        → length (filter (λ x. not (p x)) xs) + 1 ≤ length xs)
        → length (filter (λ x. not (p x)) xs) ≤ length xs → (b || list_any p xs) ≡ true
        → length (cond (not b) (x ∷ filter (λ x. not (p x)) xs) (filter (λ x. not (p x)) xs)) + 1
        ≤ suc (length xs)
    by_test true rest few h = omega (arith, few)
    by_test false rest few h = let k = rest h in omega (arith, k)

able_waits : (past : List (Entry ServerNote)) (i : ℕ) → is_able past i ≡ true
    → P.is_waiting past i ≡ true
unfolding is_able
able_waits past i h = (and_parts (P.is_waiting past i) (may_run past (event_at past i)) h).0

-- what is started is a waiting event
waits_there : (most : ℕ) (past : List (Entry ServerNote)) (i : ℕ) → is_legal most past ≡ true
    → may_follow most past (Started i) ≡ true
    → list_any (λ w. i == w.event) (summary past).waiting ≡ true
waits_there most past i legal may =
    let w = able_waits past i (started_is_able most past (Started i) i may (eq-eqb i i refl)) in
    let ev = waiting_event_at past i w in
    ap (list_any (λ (w : WaitingEvent). i == w.event)) (summary_told.told most past legal).waiting
    ∙ any_listed-from (λ (w : WaitingEvent). i == w.event) (T.waiting_event past) (length past) i
    (T.as_waiting past i ev.0) (event_at-within past i (ap is_some ev.1))
    (waiting_from past i ev.0 w ev.1) (eq-eqb i i refl)

-- ---- what an entry adds

at_most_due : (i : ℕ) (timer : Option ArmedTimer) → length (waiting_due i timer) ≤ 1
at_most_due i None = omega arith
at_most_due i (Some a) = omega arith

at_most_again : (s : Summary) (o : Option OpenEvent) → length (waiting_again s o) ≤ 1
at_most_again s None = omega arith
at_most_again s (Some o) = by_test (S.is_alive s o.handle.0)
  where
    by_test : (b : Bool) → length {A = WaitingEvent}
        (cond b (record { event = s.entries; handle = o.handle; upcall = o.upcall; due = None }
        ∷ []) []) ≤ 1
    by_test true = omega arith
    by_test false = omega arith

-- the events that a timer or a notification made
abbrev pub is_other : Entry ServerNote → Bool
is_other (Due timer) = true
is_other (Posted handle kind from seq) = true
is_other _ = false

pub starts_few : (most : ℕ) (past : List (Entry ServerNote)) → is_legal most past ≡ true
    → length (summary past).waiting + count is_started past
    ≤ count is_ready past + count is_again past + count is_other past
starts_few most [] legal = omega arith
starts_few most (Started event ∷ past) legal =
    let parts = and_parts (may_follow most past (Started event)) (is_legal most past) legal in
    let before = starts_few most past parts.1 in
    let less = one_less (λ (w : WaitingEvent). event == w.event) (summary past).waiting
    (waits_there most past event parts.1 parts.0) in
    omega (arith, before, less)
starts_few most (Due timer ∷ past) legal =
    let before = starts_few most past (and_parts (may_follow most past (Due timer))
    (is_legal most past) legal).1 in
    let more = length-append (summary past).waiting
    (waiting_due (summary past).entries (S.armed_timer (summary past) timer)) in
    let one = at_most_due (summary past).entries (S.armed_timer (summary past) timer) in
    omega (arith, before, more, one)
starts_few most (Ready handle kind ∷ past) legal =
    let before = starts_few most past (and_parts (may_follow most past (Ready handle kind))
    (is_legal most past) legal).1 in
    let more = length-append (summary past).waiting
    (record {
      event = (summary past).entries;
      handle = handle;
      upcall = P.upcall_of kind;
      due = None;
    } ∷ []) in
    omega (arith, before, more)
starts_few most (Posted handle kind from seq ∷ past) legal =
    let before = starts_few most past (and_parts
    (may_follow most past (Posted handle kind from seq)) (is_legal most past) legal).1 in
    let more = length-append (summary past).waiting
    (record {
      event = (summary past).entries;
      handle = handle;
      upcall =
          Rattle.laws_one_worker.specs.ev_types.specs.declared.upcall.Upcall.TheVariants.Notice
          kind;
      due = None;
    } ∷ []) in
    omega (arith, before, more)
starts_few most (Returned event Again said ∷ past) legal =
    let before = starts_few most past (and_parts (may_follow most past (Returned event Again said))
    (is_legal most past) legal).1 in
    let more = length-append (summary past).waiting
    (waiting_again (summary past) (S.open_event (summary past) event)) in
    let one = at_most_again (summary past) (S.open_event (summary past) event) in
    omega (arith, before, more, one)
starts_few most (Returned event Close said ∷ past) legal =
    let before = starts_few most past (and_parts (may_follow most past (Returned event Close said))
    (is_legal most past) legal).1 in
    let less = fewer (λ (w : WaitingEvent).
    not (P.belongs_to w.handle.0 (S.event_open (summary past) event))) (summary past).waiting in
    omega (arith, before, less)
starts_few most (Removed handle ∷ past) legal =
    let before = starts_few most past (and_parts (may_follow most past (Removed handle))
    (is_legal most past) legal).1 in
    let less = fewer (λ (w : WaitingEvent). not (P.belongs_to w.handle.0 (S.of_handle handle)))
    (summary past).waiting in
    omega (arith, before, less)
starts_few most (Masked handle mask ∷ past) legal =
    let before = starts_few most past (and_parts (may_follow most past (Masked handle mask))
    (is_legal most past) legal).1 in
    let less = fewer (λ (w : WaitingEvent).
    not (handle.0 == w.handle.0 && P.is_without mask w.upcall)) (summary past).waiting in
    omega (arith, before, less)
starts_few most (Cancelled timer ∷ past) legal =
    let before = starts_few most past (and_parts (may_follow most past (Cancelled timer))
    (is_legal most past) legal).1 in
    let less = fewer (λ (w : WaitingEvent). not (P.is_timeout_of timer w.upcall))
    (summary past).waiting in
    omega (arith, before, less)
starts_few most (e ∷ past) legal = let before =
    starts_few most past (and_parts (may_follow most past e) (is_legal most past) legal).1 in
    omega (arith, before)
