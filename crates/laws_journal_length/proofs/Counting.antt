-- How many entries of each kind a run of one worker has without an idle time.
use Rattle.std.proofs.Common.{ℕ, zero, suc, ◌≡◌, ◌∙◌, ◌+◌, ◌-◌, ◌*◌, ◌≤◌, ◌==◌, cond, Bool, true}
use Rattle.std.proofs.Common.{false, List, [], ◌∷◌, ◌++◌, length, Option, Some, None, option_map}
use Rattle.std.proofs.Common.{refl, sym, ap, arith, length-append}
use Rattle.std.specs.List.{list_any}
use Rattle.std.specs.Option.{option_to_list}
use Rattle.std.proofs.lemmas.Bool.{false≢true, and_parts, or_parts, or_from, eq-eqb}
use Rattle.laws_one_worker.specs.ev_types.specs.declared.upcall.Answer.TheVariants.{Close}
use Rattle.laws_one_worker.specs.reactor_journal.specs.Event.{Event}
use Rattle.laws_one_worker.specs.reactor_journal.specs.declared.entry.Entry.{Entry}
use Rattle.laws_one_worker.specs.reactor_journal.specs.declared.entry.Entry.TheVariants.{Opened}
use Rattle.laws_one_worker.specs.reactor_journal.specs.declared.entry.Entry.TheVariants.{Scheduled}
use Rattle.laws_one_worker.specs.reactor_journal.specs.declared.entry.Entry.TheVariants.{Cancelled}
use Rattle.laws_one_worker.specs.reactor_journal.specs.declared.entry.Entry.TheVariants.{Due}
use Rattle.laws_one_worker.specs.reactor_journal.specs.declared.entry.Entry.TheVariants.{Started}
use Rattle.laws_one_worker.specs.reactor_journal.specs.declared.entry.Entry.TheVariants.{Returned}
use Rattle.laws_one_worker.specs.reactor_journal.specs.declared.entry.Entry.TheVariants.{Removed}
use Rattle.laws_one_worker.specs.reactor_journal.specs.declared.entry.Entry.TheVariants.{Closed}
use Rattle.laws_one_worker.specs.reactor_journal.specs.Past.{count, opened}
use Rattle.laws_one_worker.specs.reactor_journal.specs.Past.{is_closed, armed}
use Rattle.laws_one_worker.specs.reactor_journal.specs.Past.{now}
use Rattle.laws_one_worker.specs.reactor_journal.specs.Past.{due_at, due_made}
use Rattle.laws_one_worker.specs.reactor_journal.specs.Past.{event_at, rearms}
use Rattle.laws_one_worker.specs.reactor_journal.specs.Past.{with_rearmed}
use Rattle.laws_one_worker.specs.reactor_journal.specs.Past.{without_owner}
use Rattle.laws_one_worker.specs.reactor_journal.specs.Past.{without_handle}
use Rattle.laws_one_worker.specs.reactor_journal.specs.Past.{without_timer}
use Rattle.laws_one_worker.specs.reactor_journal.specs.Follow.{is_legal}
use Rattle.laws_one_worker.specs.reactor_journal.specs.Follow.{may_follow}
use Rattle.laws_one_worker.specs.reactor_journal.specs.Follow.{is_first_due}
use Rattle.laws_one_worker.specs.reactor_journal.proofs.Basics.{may_fits}
use Rattle.laws_one_worker.specs.reactor_journal.proofs.HadLaw.{returned_is_open}
use Rattle.laws_one_worker.specs.reactor_summary.specs.Summary.{summary}
use Rattle.laws_one_worker.specs.reactor_summary.specs.Tells.{listed, live_handle}
use Rattle.laws_one_worker.specs.reactor_summary.specs.declared.parts.LiveHandle.{LiveHandle}
use Rattle.laws_one_worker.specs.reactor_summary.proofs.Told as summary_told
use Rattle.laws_one_worker.specs.reactor_core.specs.Removing.{AreRemovals}
use Rattle.laws_one_worker.specs.reactor_core.specs.Removing.{alive_handles}
use Rattle.laws_one_worker.specs.reactor_core.specs.Settling.{IsClosing}
use Rattle.laws_one_worker.specs.ev_types.specs.declared.upcall.Handle.{Handle}
use Rattle.laws_one_worker.specs.log_handler.specs.declared.note.ServerNote.{ServerNote}
use Rattle.laws_one_worker.specs.log_handler.specs.declared.note.ServerNote.TheVariants as note
use Rattle.laws_one_worker.specs.laws_script_told.specs.Told.{first_deadline_in}
use Rattle.laws_one_worker.specs.laws_script_runs.specs.Steps.{EachStep}
use Rattle.laws_one_worker.specs.laws_script_serial.specs.Serial.{IsSettledAtOnce, InstallsOnly}
use Rattle.laws_one_worker.specs.laws_script_serial.proofs.Quiet.{StartsLast, open_is_last}
use Rattle.laws_one_worker.specs.event_script.specs.Script.{ScriptGroup}
use Rattle.laws_one_worker.proofs.Stepping.{Steps, is_turned}
use Rattle.laws_journal_length.proofs.EntryKinds.{is_started, is_returned}
use Rattle.laws_journal_length.proofs.Telling.{fewer, Untimed}

-- ---- timers

abbrev pub is_timer_set : Entry ServerNote → Bool
is_timer_set (Scheduled timer handle first every) = true
is_timer_set _ = false

abbrev pub is_due : Entry ServerNote → Bool
is_due (Due timer) = true
is_due _ = false

none_due : (past : List (Entry ServerNote)) (i : ℕ) → list_any is_due past ≡ false
    → due_at past i ≡ None
none_due [] i none = refl
none_due (e ∷ past) i none =
    let parts = or_parts (is_due e) (list_any is_due past) none in
    by_test (i == length past) e parts.0 (none_due past i parts.1)
  where
    by_test : (b : Bool) (e : Entry ServerNote) → is_due e ≡ false → due_at past i ≡ None
        → ◌≡◌ {A = Option ℕ} (elim b [ true ↦ due_made e | false ↦ due_at past i ]) None
    by_test true (Due timer) h rest = absurd (false≢true (sym h))
    by_test true _ h rest = refl
    by_test false e h rest = rest

-- if no timer was set, none is armed, and none comes due
pub record NoTimers (past : List (Entry ServerNote)) : Type 0 where
  pub armed_is : armed past ≡ []
  pub due : list_any is_due past ≡ false

owner_none : (past : List (Entry ServerNote)) (event : Option Event) (timers : List (ℕ × ℕ))
    → timers ≡ [] → without_owner past event timers ≡ []
owner_none past None timers h = h
owner_none past (Some event) timers h = ap (without_handle past event.handle) h

rearmed_none : (past : List (Entry ServerNote)) (due : Option ℕ) (timers : List (ℕ × ℕ))
    → due ≡ None → timers ≡ [] → with_rearmed past (rearms past due) timers ≡ []
rearmed_none past None timers d h = h
rearmed_none past (Some t) timers d h = absurd (some d)
  where
    some : ◌≡◌ {A = Option ℕ} (Some t) None → ⊥
    some q = cc

pub no_timers : (most : ℕ) (past : List (Entry ServerNote)) → is_legal most past ≡ true
    → list_any is_timer_set past ≡ false → NoTimers past
no_timers most [] legal none = record { armed_is = refl; due = refl }
no_timers most (e ∷ past) legal none =
    let parts = and_parts (may_follow most past e) (is_legal most past) legal in
    let rest = or_parts (is_timer_set e) (list_any is_timer_set past) none in
    one e parts.0 rest.0 (no_timers most past parts.1 rest.1)
  where
    one : (e : Entry ServerNote) → may_follow most past e ≡ true → is_timer_set e ≡ false
        → NoTimers past → NoTimers (e ∷ past)
    one (Scheduled timer handle first every) may h n = absurd (false≢true (sym h))
    one (Due timer) may h n =
        absurd (false≢true (sym (ap (is_first_due (now past) timer) n.armed_is)
        ∙ (and_parts _ _ (may_fits most past (Due timer) may)).1))
    one (Cancelled timer) may h n = record {
      armed_is = ap (without_timer timer) n.armed_is;
      due = n.due;
    }
    one (Started event) may h n = record {
      armed_is =
          rearmed_none past (due_at past event) (armed past) (none_due past event n.due) n.armed_is;
      due = n.due;
    }
    one (Returned event Close said) may h n =
        record {
          armed_is = owner_none past (event_at past event) (armed past) n.armed_is;
          due = n.due;
        }
    one (Removed handle) may h n = record {
      armed_is = ap (without_handle past handle.0) n.armed_is;
      due = n.due;
    }
    one _ may h n = record { armed_is = n.armed_is; due = n.due }

-- so no wait is limited
pub untimed : (groups : List ScriptGroup) (most : ℕ) (past : List (Entry ServerNote))
    → is_legal most past ≡ true → list_any is_timer_set past ≡ false
    → EachStep (Untimed groups) past
untimed groups most [] legal none = tt
untimed groups most (e ∷ past) legal none =
    let before = (and_parts (may_follow most past e) (is_legal most past) legal).1 in
    let rest = (or_parts (is_timer_set e) (list_any is_timer_set past) none).1 in (
      ap (λ (timers : List (ℕ × ℕ)). option_map (λ (deadline : ℕ). deadline - now past)
          (first_deadline_in timers)) (no_timers most past before rest).armed_is,
      untimed groups most past before rest,
    )

-- without an idle time none is set
pub none_set : (most : ℕ) (past : List (Entry ServerNote)) → EachStep (InstallsOnly most None) past
    → list_any is_timer_set past ≡ false
none_set most [] each = refl
none_set most (e ∷ past) each = or_from _ _ (one past e each.0) (none_set most past each.1)
  where
    one : (past : List (Entry ServerNote)) (e : Entry ServerNote) → InstallsOnly most None past e
        → is_timer_set e ≡ false
    one [] e h = ap is_timer_set h
    one (Returned event answer (note.Accepted conn) ∷ past) (Scheduled timer handle first every) h =
        absurd h
    one (Opened handle mask ∷ []) (Scheduled timer other first every) h =
        absurd (false≢true (sym h))
    one (Opened handle mask ∷ (d ∷ past)) (Scheduled timer other first every) h =
        absurd (false≢true (sym h))
    one (_ ∷ past) (Scheduled timer handle first every) h = absurd (false≢true (sym h))
    one past _ h = refl

-- ---- turns

abbrev starts_last : List (Entry ServerNote) → ℕ
starts_last (Started event ∷ past) = 1
starts_last _ = 0

started_last : (past : List (Entry ServerNote)) (i : ℕ) → StartsLast past i → starts_last past ≡ 1
started_last [] i h = absurd h
started_last (Started event ∷ past) i h = refl
started_last (_ ∷ past) i h = absurd h

-- each turn that was settled was started
returned_started : (most : ℕ) (past : List (Entry ServerNote)) → is_legal most past ≡ true
    → EachStep IsSettledAtOnce past → count is_returned past + starts_last past
    ≤ count is_started past
returned_started most [] legal settled = omega arith
returned_started most (e ∷ past) legal settled =
    let parts = and_parts (may_follow most past e) (is_legal most past) legal in
    one e parts.0 (returned_started most past parts.1 settled.1)
  where
    one : (e : Entry ServerNote) → may_follow most past e ≡ true
        → count is_returned past + starts_last past ≤ count is_started past
        → count is_returned (e ∷ past) + starts_last (e ∷ past) ≤ count is_started (e ∷ past)
    one (Started event) may h = omega (arith, h)
    one (Returned event answer said) may h =
        let last = started_last past event
        (open_is_last past event settled.1
        (returned_is_open most past (Returned event answer said) event may
        (eq-eqb event event refl))) in
        omega (arith, h, last)
    one _ may h = omega (arith, h)

pub returned_few : (most : ℕ) (past : List (Entry ServerNote)) → is_legal most past ≡ true
    → EachStep IsSettledAtOnce past → count is_returned past ≤ count is_started past
returned_few most past legal settled = let h = returned_started most past legal settled in
    omega (arith, h)

-- each handler that was closed before the end was so after its turn
closed_turned : (groups : List ScriptGroup) (past : List (Entry ServerNote))
    → EachStep (Steps groups) past → count is_closed past + cond (is_turned past) 1 0
    ≤ count is_returned past
closed_turned groups [] each = omega arith
closed_turned groups (e ∷ past) each = one e each.0 (closed_turned groups past each.1)
  where
    at_least : (b : Bool) → 0 ≤ cond {A = ℕ} b 1 0
    at_least b = omega arith

    one : (e : Entry ServerNote) → Steps groups past e
        → count is_closed past + cond (is_turned past) 1 0 ≤ count is_returned past
        → count is_closed (e ∷ past) + cond (is_turned (e ∷ past)) 1 0
        ≤ count is_returned (e ∷ past)
    one (Returned event answer said) s h = omega (arith, h)
    one (Closed handle said) s h = let turned : cond {A = ℕ} (is_turned past) 1 0 ≡ 1 =
        ap (λ (b : Bool). cond {A = ℕ} b 1 0) (s.closes refl) in omega (arith, h, turned)
    one _ s h = omega (arith, h)

pub closed_few : (groups : List ScriptGroup) (past : List (Entry ServerNote))
    → EachStep (Steps groups) past → count is_closed past ≤ count is_returned past
closed_few groups past each = let h = closed_turned groups past each in omega (arith, h)

-- ---- the winding up

closing_few : (b : Bool) (handle : Handle) (closing : List (Entry ServerNote))
    → IsClosing b handle closing → length closing ≤ 1
closing_few true handle closing c = let one : length closing ≡ 1 = ap length c.1 in
    omega (arith, one)
closing_few false handle closing c = let none : length closing ≡ 0 = ap length c in
    omega (arith, none)

removals_few : (busy : ℕ → Bool) (hs : List LiveHandle) (es : List (Entry ServerNote))
    → AreRemovals busy hs es → length es ≤ 2 * length hs
removals_few busy [] es are = let none : length es ≡ 0 = ap length are in omega (arith, none)
removals_few busy (h ∷ hs) es are =
    let rest = removals_few busy hs are.1 are.3 in
    let one = closing_few _ h.handle are.0 are.2 in
    let whole : length es ≡ suc (length (are.0 ++ are.1)) = ap length are.4 in
    let both = length-append are.0 are.1 in
    omega (arith, rest, one, whole, both)

option_few : {A : Type 0} (o : Option A) → length (option_to_list o) ≤ 1
option_few None = omega arith
option_few (Some a) = omega arith

listed_few : {A : Type 0} (f : ℕ → Option A) (n : ℕ) → length (listed f n) ≤ n
listed_few f zero = omega arith
listed_few f (suc n) =
    let rest = listed_few f n in
    let one = option_few (f n) in
    let both = length-append (listed f n) (option_to_list (f n)) in
    omega (arith, rest, one, both)

-- no more are removed than were opened
pub wound_few : (most : ℕ) (past : List (Entry ServerNote)) (busy : ℕ → Bool)
    (es : List (Entry ServerNote)) → is_legal most past ≡ true
    → AreRemovals busy (alive_handles (summary past)) es → length es ≤ 2 * opened past
wound_few most past busy es legal are =
    let few = removals_few busy (alive_handles (summary past)) es are in
    let alive = fewer (λ (h : LiveHandle). h.alive) (summary past).handles in
    let all : length (summary past).handles ≡ length (listed (live_handle past) (opened past)) =
    ap length (summary_told.told most past legal).handles in
    let bound = listed_few (live_handle past) (opened past) in
    omega (arith, few, alive, all, bound)
