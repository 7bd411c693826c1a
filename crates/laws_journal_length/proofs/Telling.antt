-- What is left of a script: each wait but the last takes some of it.
use Rattle.std.proofs.Common.{ℕ, zero, suc, ◌≡◌, ◌+◌, ◌≤◌, ◌⊎◌, inl, inr, ⊎_elim, cond, Bool, true}
use Rattle.std.proofs.Common.{false, not, ◌&&◌, List, [], ◌∷◌, length, map, Option, Some, None}
use Rattle.std.proofs.Common.{refl, sym, subst, ap, arith, length-append}
use Rattle.std.specs.List.{filter}
use Rattle.std.proofs.lemmas.Bool.{false≢true, and_parts, both_ways, cases_Bool}
use Rattle.laws_one_worker.specs.ev_base.specs.Terms.{Step, StepEnd, Group}
use Rattle.laws_one_worker.specs.ev_base.specs.Playing.{Playing, Answered, Seat}
use Rattle.laws_one_worker.specs.ev_base.specs.Playing.{most_reports}
use Rattle.laws_one_worker.specs.ev_base.specs.Playing.{report_at, gives, leaves}
use Rattle.laws_one_worker.specs.ev_base.specs.Playing.{given, left, without}
use Rattle.laws_one_worker.specs.ev_base.specs.Playing.{is_at, waited, by_held}
use Rattle.laws_one_worker.specs.ev_base.specs.Playing.{of_held, of_groups}
use Rattle.laws_one_worker.specs.ev_base.specs.Playing.{of_group, at_start}
use Rattle.laws_one_worker.specs.ev_base.specs.Playing.{retired, dropped}
use Rattle.laws_one_worker.specs.ev_base.specs.Playing.{answer_at}
use Rattle.laws_one_worker.specs.ev_base.specs.Playing.{has_handle}
use Rattle.laws_one_worker.specs.ev_base.specs.declared.net.Report.{Report}
use Rattle.laws_one_worker.specs.reactor_journal.specs.declared.entry.Entry.{Entry}
use Rattle.laws_one_worker.specs.reactor_journal.specs.declared.entry.Entry.TheVariants.{Opened}
use Rattle.laws_one_worker.specs.reactor_journal.specs.declared.entry.Entry.TheVariants.{Polled}
use Rattle.laws_one_worker.specs.reactor_journal.specs.declared.entry.Entry.TheVariants.{Due}
use Rattle.laws_one_worker.specs.reactor_journal.specs.declared.entry.Entry.TheVariants.{Ready}
use Rattle.laws_one_worker.specs.reactor_journal.specs.declared.entry.Entry.TheVariants.{Started}
use Rattle.laws_one_worker.specs.reactor_journal.specs.declared.entry.Entry.TheVariants.{Masked}
use Rattle.laws_one_worker.specs.reactor_journal.specs.declared.entry.Entry.TheVariants.{Refused}
use Rattle.laws_one_worker.specs.reactor_journal.specs.declared.entry.Entry.TheVariants.{Closed}
use Rattle.laws_one_worker.specs.reactor_journal.specs.Past.{count}
use Rattle.laws_one_worker.specs.reactor_journal.specs.Follow.{is_legal}
use Rattle.laws_one_worker.specs.reactor_journal.specs.Follow.{may_follow}
use Rattle.laws_one_worker.specs.reactor_journal.specs.Follow.{follows_due}
use Rattle.laws_one_worker.specs.reactor_journal.specs.Follow.{follows_ready}
use Rattle.laws_one_worker.specs.reactor_journal.proofs.Basics.{may_fits}
use Rattle.laws_one_worker.specs.event_script.specs.Script.{ScriptGroup, groups_told}
use Rattle.laws_one_worker.specs.log_handler.specs.declared.note.ServerNote.{ServerNote}
use Rattle.laws_one_worker.specs.laws_script_told.specs.Told.{told, time_left_in, told_after}
use Rattle.laws_one_worker.specs.laws_script_told.specs.Told.{end_offered, is_taken_in, last_wait}
use Rattle.laws_one_worker.specs.laws_script_told.specs.Told.{is_over, FollowsBefore}
use Rattle.laws_one_worker.specs.laws_script_runs.specs.Steps.{EachStep}
use Rattle.laws_one_worker.specs.laws_script_serial.specs.Serial.{is_over_here}
use Rattle.laws_one_worker.proofs.Stepping.{Steps, is_leading}
use Rattle.laws_journal_length.proofs.EntryKinds.{is_polled, is_ready, is_started}

-- ---- lists

pub fewer : {A : Type 0} (p : A → Bool) (xs : List A) → length (filter p xs) ≤ length xs
fewer p [] = omega arith
fewer p (x ∷ xs) = by_test (p x) (fewer p xs)
  where
    by_test : (b : Bool) → length (filter p xs) ≤ length xs
        → length (cond b (x ∷ filter p xs) (filter p xs)) ≤ suc (length xs)
    by_test true h = omega (arith, h)
    by_test false h = omega (arith, h)

-- no step is reported and left
parted : (seats : List Seat) (room : ℕ) (steps : List Step)
    → length (given seats room steps) + length (left seats room steps) ≤ length steps
parted seats room [] = omega arith
parted seats room (step ∷ steps) =
    by_report (report_at seats step) room (λ room. parted seats room steps)
  where
    by_report : (report : Option Report) (room : ℕ)
        → ((room : ℕ) → length (given seats room steps) + length (left seats room steps)
        ≤ length steps)
        → length (gives report room (λ room. given seats room steps))
        + length (leaves report step room (λ room. left seats room steps)) ≤ suc (length steps)
    by_report None room h = let k = h room in omega (arith, k)
    by_report (Some report) zero h = let k = h zero in omega (arith, k)
    by_report (Some report) (suc room) h = let k = h room in omega (arith, k)

-- ---- what is left

abbrev pub steps_left : List Group → ℕ
steps_left [] = 0
steps_left (group ∷ groups) = length group.steps + steps_left groups

-- the steps that are still to be reported, and with them the groups
abbrev pub left_of : Playing → ℕ
left_of p = length p.held + steps_left p.groups

abbrev pub weight_of : Playing → ℕ
weight_of p = left_of p + length p.groups

-- a wait without a limit: it reports what it takes, and takes something unless nothing is left
record Takes (p : Playing) (a : Answered) : Type 0 where
  steps : length a.reports + left_of a.next ≤ left_of p
  never_more : weight_of a.next ≤ weight_of p
  some : is_over (Some a.answer) ≡ false → weight_of a.next + 1 ≤ weight_of p

answer_not_over : (moment : ℕ) (reports : List Report)
    → is_over (Some (answer_at moment reports)) ≡ false
answer_not_over moment [] = refl
answer_not_over moment (report ∷ reports) = refl

takes_group : (group : Group) (groups : List Group) (p : Playing) → p.groups ≡ group ∷ groups
    → Takes p (of_group group groups p)
takes_group group groups p is =
    let steps : List Step = without p.gone group.steps in
    let parts = parted p.seats most_reports steps in
    let few = fewer (λ (step : Step). not (is_at p.gone step)) group.steps in
    let sum : steps_left p.groups ≡ length group.steps + steps_left groups = ap steps_left is in
    let many : length p.groups ≡ suc (length groups) = ap length is in
    let held = length-append p.held (left p.seats most_reports steps) in
    record {
      steps = omega (arith, parts, few, sum, held);
      never_more = omega (arith, parts, few, sum, held, many);
      some = λ o. omega (arith, parts, few, sum, held, many);
    }

takes_groups : (groups : List Group) (p : Playing) → p.groups ≡ groups
    → Takes p (of_groups None groups p)
takes_groups [] p is = record {
  steps = omega arith;
  never_more = omega arith;
  some = λ o. absurd (false≢true (sym o));
}
takes_groups (group ∷ groups) p is = takes_group group groups p is

takes_held : (report : Report) (reports : List Report) (p : Playing)
    → given p.seats most_reports p.held ≡ report ∷ reports → Takes p (of_held p)
takes_held report reports p is =
    let parts = parted p.seats most_reports p.held in
    let many : length (given p.seats most_reports p.held) ≡ suc (length reports) = ap length is in
    record {
      steps = omega (arith, parts);
      never_more = omega (arith, parts);
      some = λ o. omega (arith, parts, many);
    }

takes_by : (reports : List Report) (p : Playing) → given p.seats most_reports p.held ≡ reports
    → Takes p (by_held reports None p)
takes_by [] p is = takes_groups p.groups p refl
takes_by (report ∷ reports) p is = takes_held report reports p is

takes : (p : Playing) → Takes p (waited None p)
takes p = takes_by (given p.seats most_reports p.held) p refl

-- ---- entry by entry

-- no other entry adds to what is left
record Drops (before after : Playing) : Type 0 where
  steps : left_of after ≤ left_of before
  groups : length after.groups ≡ length before.groups

same_left : (p : Playing) → Drops p p
same_left p = record { steps = omega arith; groups = refl }

ends_drop : (ends : List StepEnd) (p : Playing) → Drops p (dropped ends p)
ends_drop ends p = let few = fewer (λ (step : Step). not (is_at ends step)) p.held in
    record { steps = omega (arith, few); groups = refl }

retired_drops : (handle : ℕ) (p : Playing) → Drops p (retired handle p)
retired_drops handle p =
    let d = ends_drop (map (λ (seat : Seat). seat.end)
    (filter (λ (seat : Seat). has_handle handle seat) p.seats))
    (record p { seats = filter (λ (seat : Seat). not (has_handle handle seat)) p.seats }) in
    record { steps = d.steps; groups = d.groups }

drops : (past : List (Entry ServerNote)) (e : Entry ServerNote) (p : Playing) → is_polled e ≡ false
    → Drops p (told_after past e p)
drops past (Polled moment) p h = absurd (false≢true (sym h))
drops past (Opened handle mask) p h = record { steps = omega arith; groups = refl }
drops past (Masked handle mask) p h = record { steps = omega arith; groups = refl }
drops past (Refused live fault said) p h = ends_drop (end_offered past ∷ []) p
drops past (Closed handle said) p h = retired_drops handle.0 p
drops past _ p h = same_left p

taken_none : (past : List (Entry ServerNote)) (taken : List Report) → (taken ≡ [])
    ⊎ (follows_ready past ≡ true) → follows_ready past ≡ false → taken ≡ []
taken_none past taken ok over = ⊎_elim (λ (none : taken ≡ []). none)
    (λ (ready : follows_ready past ≡ true). absurd (both_ways _ over ready)) ok

due_ready : (past : List (Entry ServerNote)) → follows_due past ≡ true → follows_ready past ≡ true
due_ready [] h = absurd (false≢true h)
due_ready (Polled moment ∷ past) h = refl
due_ready (Due timer ∷ past) h = refl
due_ready (_ ∷ past) h = absurd (false≢true h)

-- after a wait without a timer, what is read off the wait of the script
module _ (groups : List ScriptGroup) where
  abbrev all : List Group
  all = groups_told groups

  -- no timer was armed before it
  abbrev pub Untimed : List (Entry ServerNote) → Entry ServerNote → Type 0
  Untimed past e = time_left_in past ≡ None

  takes_told : (past : List (Entry ServerNote)) → time_left_in past ≡ None
      → Takes (told all past) (waited (time_left_in past) (told all past))
  takes_told past none = subst (λ (o : Option ℕ). Takes (told all past) (waited o (told all past)))
      (sym none) (takes (told all past))

  other_steps : (e : Entry ServerNote) (past : List (Entry ServerNote)) (taken : List Report)
      → is_polled e ≡ false → count is_ready (e ∷ past) ≡ count is_ready past → taken ≡ []
      → count is_ready past + left_of (told all past) ≤ steps_left all
      → count is_ready (e ∷ past) + length taken + left_of (told all (e ∷ past)) ≤ steps_left all
  other_steps e past taken plain same none h =
      let d = (drops past e (told all past) plain).steps in
      let many : length taken ≡ 0 = ap length none in
      omega (arith, same, d, many, h)

  -- each report that is taken is a step that is left no more
  pub steps_told : (most : ℕ) (past : List (Entry ServerNote)) (taken : List Report)
      → is_legal most past ≡ true → EachStep Untimed past → (taken ≡ [])
      ⊎ (follows_ready past ≡ true) → FollowsBefore all past taken
      → count is_ready past + length taken + left_of (told all past) ≤ steps_left all
  steps_told most [] taken legal timed ok f = let many : length taken ≡ 0 =
      ap length (taken_none [] taken ok refl) in omega (arith, many)
  steps_told most (Polled moment ∷ past) taken legal timed ok f =
      let before : count is_ready past + 0 + left_of (told all past) ≤ steps_left all =
      steps_told most past [] (and_parts (may_follow most past (Polled moment))
      (is_legal most past) legal).1 timed.1 (inl refl) f.1 in
      let t = (takes_told past timed.0).steps in
      let few : length taken ≤ length (waited (time_left_in past) (told all past)).reports =
      subst (λ (rs : List Report). length rs
      ≤ length (waited (time_left_in past) (told all past)).reports) (sym f.0.are_taken)
      (fewer (is_taken_in past) _) in
      omega (arith, before, t, few)
  steps_told most (Ready handle kind ∷ past) taken legal timed ok f =
      let parts = and_parts (may_follow most past (Ready handle kind)) (is_legal most past) legal in
      let before = steps_told most past (record { handle = handle; kind = kind } ∷ taken) parts.1
      timed.1 (inr (and_parts _ _ (may_fits most past (Ready handle kind) parts.0)).0) f.1 in
      omega (arith, before)
  steps_told most (Due timer ∷ past) taken legal timed ok f =
      let parts = and_parts (may_follow most past (Due timer)) (is_legal most past) legal in
      let before = steps_told most past taken parts.1 timed.1
      (inr (due_ready past (and_parts _ _ (may_fits most past (Due timer) parts.0)).0)) f.1 in
      omega (arith, before)
  steps_told most (e ∷ past) taken legal timed ok f =
      let none : taken ≡ [] = taken_none (e ∷ past) taken ok refl in
      let before = steps_told most past taken
      (and_parts (may_follow most past e) (is_legal most past) legal).1 timed.1 (inl none) f.1
      in
      other_steps e past taken refl refl none (omega (arith, before))

  -- ---- waits

  -- whether the last wait was answered with Over and nothing stands after its entries
  abbrev pub is_last : List (Entry ServerNote) → ℕ
  is_last past = cond (is_over_here groups past) 1 0

  at_most_one : (b : Bool) → cond {A = ℕ} b 1 0 ≤ 1
  at_most_one true = omega arith
  at_most_one false = omega arith

  is_none : (b : Bool) → b ≡ false → cond {A = ℕ} b 1 0 ≡ 0
  is_none true h = absurd (false≢true (sym h))
  is_none false h = refl

  -- after other entries than a wait's own it is not so
  last_none : (past : List (Entry ServerNote)) → follows_ready past ≡ false → is_last past ≡ 0
  last_none past h = is_none (is_over_here groups past)
      (ap (λ (b : Bool). b && is_over (last_wait all past)) h)

  not_leading : (past : List (Entry ServerNote)) (e : Entry ServerNote) → Steps groups past e
      → is_leading e ≡ false → follows_ready past ≡ false
  not_leading past e s plain =
      ⊎_elim (λ (t : follows_ready past ≡ true).
      absurd (both_ways (is_leading e) plain (s.behind t)))
      (λ (f : follows_ready past ≡ false). f) (cases_Bool (follows_ready past))

  -- one more wait
  polled : (past : List (Entry ServerNote)) (moment : ℕ) → time_left_in past ≡ None
      → is_over_here groups past ≡ false
      → count is_polled past + weight_of (told all past)
      ≤ weight_of (at_start all) + count is_started past + is_last past
      → count is_polled past + 1 + weight_of (told all (Polled moment ∷ past))
      ≤ weight_of (at_start all) + count is_started past + is_last (Polled moment ∷ past)
  polled past moment none not_over h =
      let t = takes_told past none in
      let before : is_last past ≡ 0 = is_none (is_over_here groups past) not_over in
      ⊎_elim
      (λ (o : is_over (Some (waited (time_left_in past) (told all past)).answer) ≡ true).
      let now : is_last (Polled moment ∷ past) ≡ 1 = ap (λ (b : Bool). cond b 1 0) o in
      let more = t.never_more in
      omega (arith, h, before, now, more))
      (λ (o : is_over (Some (waited (time_left_in past) (told all past)).answer) ≡ false).
      let more = t.some o in
      omega (arith, h, before, more)) (cases_Bool
      (is_over (Some (waited (time_left_in past) (told all past)).answer)))

  polled_more : (past : List (Entry ServerNote)) (moment : ℕ)
      → count is_polled past + 1 + weight_of (told all (Polled moment ∷ past))
      ≤ weight_of (at_start all) + count is_started past + is_last (Polled moment ∷ past)
      → count is_polled (Polled moment ∷ past) + weight_of (told all (Polled moment ∷ past))
      ≤ weight_of (at_start all) + count is_started (Polled moment ∷ past)
      + is_last (Polled moment ∷ past)
  polled_more past moment h = omega (arith, h)

  -- each wait takes something of the script, but the last, and those after which an upcall was
  -- started
  pub waits_told : (most : ℕ) (past : List (Entry ServerNote)) → is_legal most past ≡ true
      → EachStep Untimed past → EachStep (Steps groups) past
      → count is_polled past + weight_of (told all past)
      ≤ weight_of (at_start all) + count is_started past + is_last past
  waits_told most [] legal timed steps = omega arith
  waits_told most (Polled moment ∷ past) legal timed steps =
      polled_more past moment (polled past moment timed.0 steps.0.waits.1
      (waits_told most past (and_parts (may_follow most past (Polled moment))
      (is_legal most past) legal).1 timed.1 steps.1))
  waits_told most (Started event ∷ past) legal timed steps =
      let before = waits_told most past (and_parts (may_follow most past (Started event))
      (is_legal most past) legal).1 timed.1 steps.1 in
      let one = at_most_one (is_over_here groups past) in
      omega (arith, before, one)
  waits_told most (Due timer ∷ past) legal timed steps =
      let parts = and_parts (may_follow most past (Due timer)) (is_legal most past) legal in
      let before = waits_told most past parts.1 timed.1 steps.1 in
      let ready : follows_ready past ≡ true =
      due_ready past (and_parts _ _ (may_fits most past (Due timer) parts.0)).0 in
      let same : is_last past ≡ is_last (Due timer ∷ past) =
      ap (λ (b : Bool). cond (b && is_over (last_wait all past)) 1 0) ready in
      omega (arith, before, same)
  waits_told most (Ready handle kind ∷ past) legal timed steps =
      let parts = and_parts (may_follow most past (Ready handle kind)) (is_legal most past) legal in
      let before = waits_told most past parts.1 timed.1 steps.1 in
      let ready : follows_ready past ≡ true =
      (and_parts _ _ (may_fits most past (Ready handle kind) parts.0)).0 in
      let same : is_last past ≡ is_last (Ready handle kind ∷ past) =
      ap (λ (b : Bool). cond (b && is_over (last_wait all past)) 1 0) ready in
      omega (arith, before, same)
  waits_told most (e ∷ past) legal timed steps =
      let before = waits_told most past (and_parts (may_follow most past e) (is_legal most past)
      legal).1 timed.1 steps.1 in
      let none = last_none past (not_leading past e steps.0 refl) in
      let d = drops past e (told all past) refl in
      let steps_less = d.steps in
      let same = d.groups in
      omega (arith, before, none, steps_less, same)
