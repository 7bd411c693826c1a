-- The armed timers: each stands once, at the deadline that it was last given, and not while its
-- timeout waits.
use Rattle.std.proofs.Common.{option_map, ℕ, ◌≡◌, ◌≢◌, ◌+◌, ◌-◌, ◌*◌, ◌/◌, ◌<◌, ◌≤◌, ◌==◌, Bool}
use Rattle.std.proofs.Common.{true, false, not, ◌&&◌, List, [], ◌∷◌, length, refl, sym, ap, ◌∙◌}
use Rattle.std.proofs.Common.{subst, arith, cond, Option, Some, None, is_some, ◌⊎◌, inl, inr}
use Rattle.std.proofs.Common.{⊎_elim}
use Rattle.std.proofs.lemmas.Bool.{false≢true, and_parts, or_cases, or_parts, and_from, or_right}
use Rattle.std.proofs.lemmas.Bool.{or_left, not-true, both_ways, cases_Bool, cases_eq, eq-eqb}
use Rattle.std.proofs.lemmas.Bool.{ne_eqb, eqb-true, leb-true, cond-true, cond-false}
use Rattle.std.proofs.Math.Nat.{div-mul-le_self}
use Rattle.std.specs.List.{list_any, filter}
use Rattle.std.specs.Prelude.{nat_le}
use Rattle.ev_types.specs.declared.upcall.Answer.TheVariants.{Close}
use Rattle.reactor_journal.specs.Event.{Timer}
use Rattle.reactor_journal.specs.Event.{Event}
use Rattle.reactor_journal.specs.declared.entry.Entry.{Entry}
use Rattle.reactor_journal.specs.declared.entry.Entry.TheVariants.{Scheduled, Cancelled, Polled}
use Rattle.reactor_journal.specs.declared.entry.Entry.TheVariants.{Due, Started, Returned, Removed}
use Rattle.reactor_journal.specs.declared.entry.Entry.TheVariants.{Ready, Posted}
use Rattle.reactor_journal.specs.Past.{event_made, is_report, timeout_of, is_alive, now, timer_of}
use Rattle.reactor_journal.specs.Past.{is_timer_of, scheduled, event_at, is_event, starts}
use Rattle.reactor_journal.specs.Past.{was_started, was_taken, drops_it, is_waiting, is_able, armed}
use Rattle.reactor_journal.specs.Past.{is_armed, without_timer, without_owner, with_rearmed, rearms}
use Rattle.reactor_journal.specs.Past.{period, due_at, due_made, deadline, moved, next_deadline}
use Rattle.reactor_journal.specs.Past.{with_next, added}
use Rattle.reactor_journal.specs.Follow.{may_follow, is_legal, is_first_due, follows_due}
use Rattle.reactor_journal.proofs.Basics.{may_fits, event_at-other, event_at-last}
use Rattle.reactor_journal.proofs.OneOpen.{started_is_able}
use Rattle.reactor_journal.proofs.Timers.{any_with, any_filtered, rearms_due, timer_below}
use Rattle.reactor_journal.proofs.Timers.{due_at-last, due_at-other}
use Rattle.reactor_journal.proofs.Closing.{due_is_armed}

pub filtered_any : {A : Type 0} (p q : A → Bool) (xs : List A) → list_any p (filter q xs) ≡ true
    → list_any p xs ≡ true
filtered_any p q xs h = (any_filtered p q xs h).3

pub owner_any : {N : Type 0} (past : List (Entry N)) (p : ℕ × ℕ → Bool) (event : Option Event)
    (ds : List (ℕ × ℕ)) → list_any p (without_owner past event ds) ≡ true → list_any p ds ≡ true
owner_any past p None ds h = h
owner_any past p (Some event) ds h =
    filtered_any p (λ d. not (is_timer_of event.handle (timer_of past d.1))) ds h

pub rearmed_any : {N : Type 0} (past : List (Entry N)) (p : ℕ × ℕ → Bool) (again : Option ℕ)
    (ds : List (ℕ × ℕ)) → list_any p (with_rearmed past again ds) ≡ true
    → (list_any p ds ≡ true) ⊎ ((d : ℕ × ℕ) × (with_next past again ≡ Some d) × (p d ≡ true))
rearmed_any past p None ds h = inl h
rearmed_any past p (Some t) ds h =
    ⊎_elim
    (λ (new : p (next_deadline (deadline past t) (period (timer_of past t)) (now past), t) ≡ true).
    inr ((next_deadline (deadline past t) (period (timer_of past t)) (now past), t), refl, new))
    (λ (old : list_any p ds ≡ true). inl old)
    (any_with p _ ds h)

-- what is armed was armed before, or the entry adds it
pub armed_cases : {N : Type 0} (e : Entry N) (past : List (Entry N)) (p : ℕ × ℕ → Bool)
    → list_any p (armed (e ∷ past)) ≡ true
    → (list_any p (armed past) ≡ true) ⊎ ((d : ℕ × ℕ) × (added past e ≡ Some d) × (p d ≡ true))
armed_cases (Scheduled timer handle first every) past p h =
    ⊎_elim (λ (new : p (first, timer) ≡ true). inr ((first, timer), refl, new))
    (λ (old : list_any p (armed past) ≡ true). inl old)
    (any_with p (first, timer) (armed past) h)
armed_cases (Cancelled timer) past p h =
    inl (filtered_any p (λ d. not (d.1 == timer)) (armed past) h)
armed_cases (Due timer) past p h = inl (filtered_any p (λ d. not (d.1 == timer)) (armed past) h)
armed_cases (Started event) past p h =
    rearmed_any past p (rearms past (due_at past event)) (armed past) h
armed_cases (Returned event Close note) past p h =
    inl (owner_any past p (event_at past event) (armed past) h)
armed_cases (Removed handle) past p h =
    inl (filtered_any p (λ d. not (is_timer_of handle.0 (timer_of past d.1))) (armed past) h)
armed_cases _ past p h = inl h

-- ---- numbers of timers that are known

pub known_below : {N : Type 0} (most : ℕ) (past : List (Entry N)) (t : ℕ)
    → is_legal most past ≡ true → (timer : Option Timer) → timer_of past t ≡ timer
    → is_some timer ≡ true → t < scheduled past
known_below most past t legal None q h = absurd (false≢true h)
known_below most past t legal (Some timer) q h =
    timer_below most past t timer.handle legal
    (ap (is_timer_of timer.handle) q ∙ eq-eqb timer.handle timer.handle refl)

-- what is set again is known, as it has a period
pub rearms_known : {N : Type 0} (past : List (Entry N)) (due : Option ℕ) (t : ℕ)
    → rearms past due ≡ Some t → is_some (timer_of past t) ≡ true
rearms_known past None t h = absurd (none h)
  where
    none : ◌≡◌ {A = Option ℕ} None (Some t) → ⊥
    none q = cc
rearms_known past (Some s) t h = go (timer_of past s) refl h
  where
    none : ◌≡◌ {A = Option ℕ} None (Some t) → ⊥
    none q = cc

    go : (timer : Option Timer) → timer_of past s ≡ timer
        → ◌≡◌ {A = Option ℕ} (cond (period timer == 0) None (Some s)) (Some t)
        → is_some (timer_of past t) ≡ true
    go None q k = absurd (none k)
    go (Some timer) q k =
        ⊎_elim
        (λ (b : (timer.every == 0) ≡ true). absurd (none (sym (cond-true _ _ _ b) ∙ k)))
        (λ (b : (timer.every == 0) ≡ false). let same : ◌≡◌ {A = Option ℕ} (Some s) (Some t) =
        sym (cond-false _ _ _ b) ∙ k in let eq : s ≡ t = cc in
        subst (λ (u : ℕ). is_some (timer_of past u) ≡ true) eq (ap is_some q))
        (cases_Bool (timer.every == 0))

pub scheduled_grows : {N : Type 0} (e : Entry N) (past : List (Entry N))
    → scheduled past ≤ scheduled (e ∷ past)
scheduled_grows (Scheduled timer handle first every) past = omega arith
scheduled_grows _ past = omega arith

-- the timer that the entry adds, if it is set again
pub with_next_is : {N : Type 0} (past : List (Entry N)) (again : Option ℕ) (d : ℕ × ℕ)
    → with_next past again ≡ Some d → again ≡ Some d.1
with_next_is past None d h = absurd (none h)
  where
    none : ◌≡◌ {A = Option (ℕ × ℕ)} None (Some d) → ⊥
    none q = cc
with_next_is past (Some t) d h = let same : ◌≡◌ {A = ℕ × ℕ}
    (next_deadline (deadline past t) (period (timer_of past t)) (now past), t) d = cc in
    ap (λ (c : ℕ × ℕ). Some c.1) same

pub some_first : (first timer : ℕ) (d : ℕ × ℕ)
    → ◌≡◌ {A = Option (ℕ × ℕ)} (Some (first, timer)) (Some d) → (first ≡ d.0) × (timer ≡ d.1)
some_first first timer d h = let same : ◌≡◌ {A = ℕ × ℕ} (first, timer) d = cc in
    (ap (λ (c : ℕ × ℕ). c.0) same, ap (λ (c : ℕ × ℕ). c.1) same)

pub no_pair : {P : Type 0} (d : ℕ × ℕ) → ◌≡◌ {A = Option (ℕ × ℕ)} None (Some d) → P
no_pair d q = absurd cc

-- a timer that is added is known from then on
pub added_known : {N : Type 0} (most : ℕ) (e : Entry N) (past : List (Entry N)) (d : ℕ × ℕ)
    → is_legal most past ≡ true → may_follow most past e ≡ true → added past e ≡ Some d
    → d.1 < scheduled (e ∷ past)
added_known most (Scheduled timer handle first every) past d legal may h =
    let is : timer ≡ scheduled past = eqb-true _ _
    (and_parts _ _ (may_fits most past (Scheduled timer handle first every) may)).0 in
    let same : (first ≡ d.0) × (timer ≡ d.1) = some_first first timer d h in
    omega arith
added_known most (Started event) past d legal may h =
    let again : rearms past (due_at past event) ≡ Some d.1 =
    with_next_is past (rearms past (due_at past event)) d h in
    known_below most past d.1 legal (timer_of past d.1) refl
    (rearms_known past (due_at past event) d.1 again)
added_known most _ past d legal may h = no_pair d h

pub made_due_armed : {N : Type 0} (most : ℕ) (e : Entry N) (past : List (Entry N)) (t : ℕ)
    → may_follow most past e ≡ true → due_made e ≡ Some t → is_armed past t ≡ true
made_due_armed most (Due timer) past t may h = let same : timer ≡ t = cc in
    subst (λ (k : ℕ). is_armed past k ≡ true) same (due_is_armed most past timer may)
made_due_armed most _ past t may h = absurd (none h)
  where
    none : ◌≡◌ {A = Option ℕ} None (Some t) → ⊥
    none q = cc

-- an armed timer was set
pub armed_known : {N : Type 0} (most : ℕ) (past : List (Entry N)) (t : ℕ)
    → is_legal most past ≡ true → is_armed past t ≡ true → t < scheduled past
armed_known most [] t legal h = absurd (false≢true h)
armed_known {N} most (e ∷ past) t legal h =
    let parts : (may_follow most past e ≡ true) × (is_legal most past ≡ true) =
    and_parts _ _ legal in
    let grows : scheduled past ≤ scheduled (e ∷ past) = scheduled_grows e past in
    ⊎_elim
    (λ (old : is_armed past t ≡ true). let k : t < scheduled past =
    armed_known most past t parts.1 old in omega arith)
    (λ (new : (d : ℕ × ℕ) × (added past e ≡ Some d) × ((d.1 == t) ≡ true)).
    subst (λ (k : ℕ). k < scheduled (e ∷ past)) (eqb-true _ _ new.2)
    (added_known most e past new.0 parts.1 parts.0 new.1))
    (armed_cases e past (λ d. d.1 == t) h)

-- the `Due` of a timer comes of one that was set
pub due_known : {N : Type 0} (most : ℕ) (past : List (Entry N)) (i t : ℕ)
    → is_legal most past ≡ true → due_at past i ≡ Some t → t < scheduled past
due_known most [] i t legal h = absurd (none h)
  where
    none : ◌≡◌ {A = Option ℕ} None (Some t) → ⊥
    none q = cc
due_known {N} most (e ∷ past) i t legal h =
    let parts : (may_follow most past e ≡ true) × (is_legal most past ≡ true) =
    and_parts _ _ legal in
    let grows : scheduled past ≤ scheduled (e ∷ past) = scheduled_grows e past in
    ⊎_elim
    (λ (q : i ≡ length past). let k : t < scheduled past =
    armed_known most past t parts.1 (made_due_armed most e past t parts.0
    (sym (due_at-last e past i q) ∙ h)) in omega arith)
    (λ (q : i ≢ length past). let k : t < scheduled past =
    due_known most past i t parts.1 (sym (due_at-other e past i q) ∙ h) in omega arith)
    (cases_eq i (length past))

-- ---- while a timeout waits, its timer is not armed, and no other timeout of it waits

-- what waits after one more entry waited before it, and the entry doesn't start it
pub waiting_old : {N : Type 0} (e : Entry N) (past : List (Entry N)) (i : ℕ) → i ≢ length past
    → is_waiting (e ∷ past) i ≡ true → (is_waiting past i ≡ true) × (starts i e ≡ false)
waiting_old e past i q w =
    let a : (is_event (e ∷ past) i ≡ true)
    × ((not (was_started (e ∷ past) i) && not (was_taken (e ∷ past) i)) ≡ true) =
    and_parts _ _ w in
    let b : (not (was_started (e ∷ past) i) ≡ true) × (not (was_taken (e ∷ past) i) ≡ true) =
    and_parts _ _ a.1 in
    let s : (starts i e ≡ false) × (was_started past i ≡ false) = or_parts _ _ (not-true _ b.0) in
    let t : (drops_it (event_at past i) (event_at past) e ≡ false) × (was_taken past i ≡ false) =
    or_parts _ _ (not-true _ b.1) in (
      and_from (is_event past i) (not (was_started past i) && not (was_taken past i))
          (sym (ap is_some (event_at-other e past i q)) ∙ a.0)
          (and_from (not (was_started past i)) (not (was_taken past i)) (ap not s.1) (ap not t.1)),
      s.0,
    )

pub able_waits : {N : Type 0} (past : List (Entry N)) (i : ℕ) → is_able past i ≡ true
    → is_waiting past i ≡ true
unfolding is_able
able_waits past i h = (and_parts _ _ h).0

-- what is set again is the timer of a timeout that waits and that the entry starts
pub added_cases : {N : Type 0} (most : ℕ) (e : Entry N) (past : List (Entry N)) (d : ℕ × ℕ)
    → may_follow most past e ≡ true → added past e ≡ Some d
    → (d.1 ≡ scheduled past) ⊎ ((i : ℕ) × (starts i e ≡ true) × (is_waiting past i ≡ true)
    × (due_at past i ≡ Some d.1))
added_cases most (Scheduled timer handle first every) past d may h =
    inl (sym (some_first first timer d h).1
    ∙ eqb-true _ _ (and_parts _ _ (may_fits most past (Scheduled timer handle first every)
    may)).0)
added_cases most (Started event) past d may h =
    inr (
      event,
      eq-eqb event event refl,
      able_waits past event (started_is_able most past (Started event) event may
          (eq-eqb event event refl)),
      rearms_due past (due_at past event) d.1
          (with_next_is past (rearms past (due_at past event)) d h),
    )
added_cases most _ past d may h = no_pair d h

pub record DueTimers {N : Type 0} (past : List (Entry N)) : Type 0 where
  pub idle : (i t : ℕ) → is_waiting past i ≡ true → due_at past i ≡ Some t → is_armed past t ≡ false
  pub one : (i j t : ℕ) → is_waiting past i ≡ true → is_waiting past j ≡ true
      → due_at past i ≡ Some t → due_at past j ≡ Some t → i ≡ j

-- what is added was not armed
pub added_fresh : {N : Type 0} (most : ℕ) (e : Entry N) (past : List (Entry N)) (d : ℕ × ℕ)
    → is_legal most past ≡ true → may_follow most past e ≡ true → DueTimers past
    → added past e ≡ Some d → is_armed past d.1 ≡ false
added_fresh most e past d legal may due h =
    ⊎_elim
    (λ (new : d.1 ≡ scheduled past).
    ⊎_elim
    (λ (t : is_armed past d.1 ≡ true). let k : d.1 < scheduled past =
    armed_known most past d.1 legal t in absurd (omega arith))
    (λ (f : is_armed past d.1 ≡ false). f)
    (cases_Bool (is_armed past d.1)))
    (λ (again : (i : ℕ) × (starts i e ≡ true) × (is_waiting past i ≡ true)
    × (due_at past i ≡ Some d.1)). due.idle again.0 d.1 again.2 again.3)
    (added_cases most e past d may h)

-- a timer whose timeout waits, and is not started by the entry, is not added by it
pub not_added : {N : Type 0} (most : ℕ) (e : Entry N) (past : List (Entry N)) (i t : ℕ) (d : ℕ × ℕ)
    → is_legal most past ≡ true → may_follow most past e ≡ true → DueTimers past
    → is_waiting past i ≡ true → due_at past i ≡ Some t → starts i e ≡ false → added past e ≡ Some d
    → d.1 ≡ t → ⊥
not_added most e past i t d legal may due w q s h same =
    ⊎_elim
    (λ (new : d.1 ≡ scheduled past). let k : t < scheduled past = due_known most past i t legal q in
    omega arith)
    (λ (again : (j : ℕ) × (starts j e ≡ true) × (is_waiting past j ≡ true)
    × (due_at past j ≡ Some d.1)).
    let this : again.0 ≡ i = due.one again.0 i t again.2 w (again.3 ∙ ap Some same) q in
    both_ways _ s (subst (λ (k : ℕ). starts k e ≡ true) this again.1))
    (added_cases most e past d may h)

pub none_without : (t : ℕ) (ds : List (ℕ × ℕ))
    → list_any (λ (d : ℕ × ℕ). d.1 == t) (without_timer t ds) ≡ true → ⊥
none_without t ds h =
    let found : (d : ℕ × ℕ) × ((d.1 == t) ≡ true) × (not (d.1 == t) ≡ true)
    × (list_any (λ (d : ℕ × ℕ). d.1 == t) ds ≡ true) =
    any_filtered (λ (d : ℕ × ℕ). d.1 == t) (λ (d : ℕ × ℕ). not (d.1 == t)) ds h in
    both_ways _ (not-true _ found.2) found.1

-- a timer that came due is not armed
pub due_idle : {N : Type 0} (e : Entry N) (past : List (Entry N)) (t : ℕ) → due_made e ≡ Some t
    → is_armed (e ∷ past) t ≡ true → ⊥
due_idle (Due timer) past t q h = let same : timer ≡ t = cc in
    none_without t (armed past) (subst
    (λ (k : ℕ). list_any (λ (d : ℕ × ℕ). d.1 == t) (without_timer k (armed past)) ≡ true) same h)
due_idle _ past t q h = none q
  where
    none : ◌≡◌ {A = Option ℕ} None (Some t) → ⊥
    none q = cc

pub false_if_not : (b : Bool) → (b ≡ true → ⊥) → b ≡ false
false_if_not true f = absurd (f refl)
false_if_not false f = refl

pub due_timers : {N : Type 0} (most : ℕ) (past : List (Entry N)) → is_legal most past ≡ true
    → DueTimers past
due_timers most [] legal = record {
  idle = λ i t w q. refl;
  one = λ i j t w v q r. absurd (false≢true w);
}
due_timers {N} most (e ∷ past) legal =
    let parts : (may_follow most past e ≡ true) × (is_legal most past ≡ true) =
    and_parts _ _ legal in
    let due : DueTimers past = due_timers most past parts.1 in
    let old_due : (i t : ℕ) → i ≢ length past → due_at (e ∷ past) i ≡ Some t
    → due_at past i ≡ Some t = λ i t q h. sym (due_at-other e past i q) ∙ h in
    let new_due : (i t : ℕ) → i ≡ length past → due_at (e ∷ past) i ≡ Some t → due_made e ≡ Some t =
    λ i t q h. sym (due_at-last e past i q) ∙ h in
    let apart : (i j t : ℕ) → i ≡ length past → j ≢ length past → is_waiting (e ∷ past) j ≡ true
    → due_at (e ∷ past) i ≡ Some t → due_at (e ∷ past) j ≡ Some t → ⊥ =
    λ i j t q k w h g. both_ways _ (due.idle j t (waiting_old e past j k w).0 (old_due j t k g))
    (made_due_armed most e past t parts.0 (new_due i t q h))
    in
    record {
      idle = λ i t w h.
          false_if_not (is_armed (e ∷ past) t)
          (λ a.
          ⊎_elim
          (λ (q : i ≡ length past). due_idle e past t (new_due i t q h) a)
          (λ (q : i ≢ length past).
          let was : (is_waiting past i ≡ true) × (starts i e ≡ false) = waiting_old e past i q w in
          ⊎_elim
          (λ (old : is_armed past t ≡ true). both_ways _ (due.idle i t was.0 (old_due i t q h)) old)
          (λ (new : (d : ℕ × ℕ) × (added past e ≡ Some d) × ((d.1 == t) ≡ true)).
          not_added most e past i t new.0 parts.1 parts.0 due was.0 (old_due i t q h) was.1
          new.1 (eqb-true _ _ new.2))
          (armed_cases e past (λ d. d.1 == t) a))
          (cases_eq i (length past)));
      one = λ i j t w v h g.
          ⊎_elim
          (λ (q : i ≡ length past). ⊎_elim (λ (k : j ≡ length past). q ∙ sym k)
          (λ (k : j ≢ length past). absurd (apart i j t q k v h g)) (cases_eq j (length past)))
          (λ (q : i ≢ length past).
          ⊎_elim
          (λ (k : j ≡ length past). absurd (apart j i t k q w g h))
          (λ (k : j ≢ length past). due.one i j t (waiting_old e past i q w).0
          (waiting_old e past j k v).0 (old_due i t q h) (old_due j t k g))
          (cases_eq j (length past)))
          (cases_eq i (length past));
    }

-- ---- deadlines

-- the timer that is added is given its deadline
pub added_deadline : {N : Type 0} (e : Entry N) (past : List (Entry N)) (d : ℕ × ℕ)
    → added past e ≡ Some d → deadline (e ∷ past) d.1 ≡ d.0
added_deadline (Scheduled timer handle first every) past d h =
    let same : (first ≡ d.0) × (timer ≡ d.1) = some_first first timer d h in
    cond-true (timer == d.1) first (deadline past d.1) (eq-eqb timer d.1 same.1) ∙ same.0
added_deadline (Started event) past d h = go (rearms past (due_at past event)) h
  where
    go : (again : Option ℕ) → with_next past again ≡ Some d
        → moved past d.1 again (deadline past d.1) ≡ d.0
    go None h = no_pair d h
    go (Some t) h =
        let same : (next_deadline (deadline past t) (period (timer_of past t)) (now past) ≡ d.0)
        × (t ≡ d.1) = some_first _ t d h in
        cond-true (t == d.1) (next_deadline (deadline past d.1) (period (timer_of past d.1))
        (now past)) (deadline past d.1) (eq-eqb t d.1 same.1)
        ∙ (ap (λ (k : ℕ). next_deadline (deadline past k) (period (timer_of past k)) (now past))
        (sym same.1) ∙ same.0)
added_deadline _ past d h = no_pair d h

-- no other timer's deadline moves
pub other_deadline : {N : Type 0} (e : Entry N) (past : List (Entry N)) (t : ℕ)
    → ((d : ℕ × ℕ) → added past e ≡ Some d → d.1 ≡ t → ⊥) → deadline (e ∷ past) t ≡ deadline past t
other_deadline (Scheduled timer handle first every) past t not_it =
    cond-false (timer == t) first (deadline past t)
    (ne_eqb timer t (λ q. not_it (first, timer) refl q))
other_deadline (Started event) past t not_it = go (rearms past (due_at past event)) not_it
  where
    go : (again : Option ℕ) → ((d : ℕ × ℕ) → with_next past again ≡ Some d → d.1 ≡ t → ⊥)
        → moved past t again (deadline past t) ≡ deadline past t
    go None not_it = refl
    go (Some s) not_it = cond-false (s == t) _ _
        (ne_eqb s t (λ q. not_it (
          next_deadline (deadline past s) (period (timer_of past s))
              (now past),
          s,
        ) refl q))
other_deadline _ past t not_it = refl

pub pair_armed : (a t : ℕ) (ds : List (ℕ × ℕ))
    → list_any (λ (d : ℕ × ℕ). d.0 == a && d.1 == t) ds ≡ true
    → list_any (λ (d : ℕ × ℕ). d.1 == t) ds ≡ true
pair_armed a t [] h = h
pair_armed a t (d ∷ ds) h =
    ⊎_elim
    (λ (k : (d.0 == a && d.1 == t) ≡ true).
    or_left (d.1 == t) _ (and_parts (d.0 == a) (d.1 == t) k).1)
    (λ (k : list_any (λ (d : ℕ × ℕ). d.0 == a && d.1 == t) ds ≡ true).
    or_right (d.1 == t) _ (pair_armed a t ds k))
    (or_cases (d.0 == a && d.1 == t) (list_any (λ (d : ℕ × ℕ). d.0 == a && d.1 == t) ds) h)

-- each armed timer stands at the deadline that it was last given
pub armed_deadline : {N : Type 0} (most : ℕ) (past : List (Entry N)) (a t : ℕ)
    → is_legal most past ≡ true → list_any (λ (d : ℕ × ℕ). d.0 == a && d.1 == t) (armed past) ≡ true
    → a ≡ deadline past t
armed_deadline most [] a t legal h = absurd (false≢true h)
armed_deadline {N} most (e ∷ past) a t legal h =
    let parts : (may_follow most past e ≡ true) × (is_legal most past ≡ true) =
    and_parts _ _ legal in
    let due : DueTimers past = due_timers most past parts.1 in
    ⊎_elim
    (λ (old : list_any (λ (d : ℕ × ℕ). d.0 == a && d.1 == t) (armed past) ≡ true).
    let stays : deadline (e ∷ past) t ≡ deadline past t =
    other_deadline e past t (λ d q same.
    both_ways _ (added_fresh most e past d parts.1 parts.0 due q)
    (subst (λ (k : ℕ). is_armed past k ≡ true) (sym same) (pair_armed a t (armed past) old))) in
    armed_deadline most past a t parts.1 old ∙ sym stays)
    (λ (new : (d : ℕ × ℕ) × (added past e ≡ Some d) × ((d.0 == a && d.1 == t) ≡ true)).
    let both : ((new.0.0 == a) ≡ true) × ((new.0.1 == t) ≡ true) = and_parts _ _ new.2 in
    sym (eqb-true _ _ both.0) ∙ (sym (added_deadline e past new.0 new.1)
    ∙ ap (deadline (e ∷ past)) (eqb-true _ _ both.1)))
    (armed_cases e past (λ d. d.0 == a && d.1 == t) h)

-- ---- a timer whose timeout waits has a deadline that is reached

pub now_grows : {N : Type 0} (most : ℕ) (e : Entry N) (past : List (Entry N))
    → may_follow most past e ≡ true → now past ≤ now (e ∷ past)
now_grows most (Polled moment) past may =
    leb-true (now past) moment (and_parts _ _ (may_fits most past (Polled moment) may)).0
now_grows most _ past may = omega arith

pub first_is_set : (moment t : ℕ) (ds : List (ℕ × ℕ)) → is_first_due moment t ds ≡ true → (a : ℕ)
    × (a ≤ moment) × (list_any (λ (d : ℕ × ℕ). d.0 == a && d.1 == t) ds ≡ true)
first_is_set moment t [] h = absurd (false≢true h)
first_is_set moment t (d ∷ ds) h =
    let both : ((d.1 == t) ≡ true) × (nat_le d.0 moment ≡ true) = and_parts _ _ h in (
      d.0,
      leb-true d.0 moment both.1,
      or_left (d.0 == d.0 && d.1 == t) _
          (and_from (d.0 == d.0) (d.1 == t) (eq-eqb d.0 d.0 refl) both.0),
    )

pub made_reached : {N : Type 0} (most : ℕ) (e : Entry N) (past : List (Entry N)) (t : ℕ)
    → is_legal most past ≡ true → may_follow most past e ≡ true → due_made e ≡ Some t
    → deadline (e ∷ past) t ≤ now (e ∷ past)
made_reached {N} most (Due timer) past t legal may q =
    let same : timer ≡ t = cc in
    let set : (a : ℕ) × (a ≤ now past)
    × (list_any (λ (d : ℕ × ℕ). d.0 == a && d.1 == timer) (armed past) ≡ true) =
    first_is_set (now past) timer (armed past)
    (and_parts (follows_due past) _ (may_fits most past (Due timer) may)).1 in
    let at : set.0 ≡ deadline past timer = armed_deadline most past set.0 timer legal set.2 in
    let is : set.0 ≡ deadline past t = at ∙ ap (deadline past) same in
    let reached : deadline past t ≤ now past = omega arith in
    reached
made_reached most _ past t legal may q = absurd (none q)
  where
    none : ◌≡◌ {A = Option ℕ} None (Some t) → ⊥
    none q = cc

pub due_reached : {N : Type 0} (most : ℕ) (past : List (Entry N)) (i t : ℕ)
    → is_legal most past ≡ true → is_waiting past i ≡ true → due_at past i ≡ Some t
    → deadline past t ≤ now past
due_reached most [] i t legal w q = absurd (false≢true w)
due_reached {N} most (e ∷ past) i t legal w q =
    let parts : (may_follow most past e ≡ true) × (is_legal most past ≡ true) =
    and_parts _ _ legal in
    let due : DueTimers past = due_timers most past parts.1 in
    ⊎_elim
    (λ (k : i ≡ length past). made_reached most e past t parts.1 parts.0
    (sym (due_at-last e past i k) ∙ q))
    (λ (k : i ≢ length past).
    let was : (is_waiting past i ≡ true) × (starts i e ≡ false) = waiting_old e past i k w in
    let due_old : due_at past i ≡ Some t = sym (due_at-other e past i k) ∙ q in
    let stays : deadline (e ∷ past) t ≡ deadline past t =
    other_deadline e past t (λ d h same.
    not_added most e past i t d parts.1 parts.0 due was.0 due_old was.1 h same) in
    let before : deadline past t ≤ now past = due_reached most past i t parts.1 was.0 due_old in
    let grows : now past ≤ now (e ∷ past) = now_grows most e past parts.0 in
    omega arith)
    (cases_eq i (length past))

-- so the next deadline is at most a period above the moment
pub next_bound : (d every moment : ℕ) → d ≤ moment → next_deadline d every moment ≤ moment + every
next_bound d every moment h = let k : (moment - d) / every * every ≤ moment - d =
    div-mul-le_self (moment - d) every in omega arith

-- ---- each report is an event

pub set_still : {N : Type 0} (e : Entry N) (past : List (Entry N)) (t : ℕ)
    → is_some (timer_of past t) ≡ true → is_some (timer_of (e ∷ past) t) ≡ true
set_still (Scheduled timer handle first every) past t h =
    ⊎_elim
    (λ (b : (timer == t) ≡ true). ap is_some (cond-true _ _ _ b))
    (λ (b : (timer == t) ≡ false). ap is_some (cond-false _ _ _ b) ∙ h)
    (cases_Bool (timer == t))
set_still _ past t h = h

pub added_set : {N : Type 0} (e : Entry N) (past : List (Entry N)) (d : ℕ × ℕ)
    → added past e ≡ Some d → is_some (timer_of (e ∷ past) d.1) ≡ true
added_set (Scheduled timer handle first every) past d h =
    ap is_some (cond-true _ _ _ (eq-eqb timer d.1 (some_first first timer d h).1))
added_set (Started event) past d h =
    rearms_known past (due_at past event) d.1
    (with_next_is past (rearms past (due_at past event)) d h)
added_set _ past d h = no_pair d h

-- an armed timer was set
pub armed_set : {N : Type 0} (past : List (Entry N)) (t : ℕ) → is_armed past t ≡ true
    → is_some (timer_of past t) ≡ true
armed_set [] t h = absurd (false≢true h)
armed_set (e ∷ past) t h =
    ⊎_elim
    (λ (old : is_armed past t ≡ true). set_still e past t (armed_set past t old))
    (λ (new : (d : ℕ × ℕ) × (added past e ≡ Some d) × ((d.1 == t) ≡ true)).
    subst (λ (k : ℕ). is_some (timer_of (e ∷ past) k) ≡ true) (eqb-true _ _ new.2)
    (added_set e past new.0 new.1))
    (armed_cases e past (λ d. d.1 == t) h)

pub made_event : {N : Type 0} (most : ℕ) (e : Entry N) (past : List (Entry N))
    → may_follow most past e ≡ true → is_report e ≡ true
    → is_some (event_made e (timer_of past) (event_at past) (is_alive past)) ≡ true
made_event most (Due timer) past may r =
    mapped (timer_of past timer) (armed_set past timer (due_is_armed most past timer may))
  where
    mapped : (s : Option Timer) → is_some s ≡ true
        → is_some (option_map (timeout_of timer) s) ≡ true
    mapped None h = absurd (false≢true h)
    mapped (Some s) h = refl
made_event most (Ready handle kind) past may r = refl
made_event most (Posted handle kind from seq) past may r = refl
made_event most _ past may r = absurd (false≢true r)

pub report_is_event : {N : Type 0} (most : ℕ) (e : Entry N) (past : List (Entry N))
    → may_follow most past e ≡ true → is_report e ≡ true → is_event (e ∷ past) (length past) ≡ true
report_is_event most e past may r =
    ap is_some (event_at-last e past (length past) refl) ∙ made_event most e past may r
