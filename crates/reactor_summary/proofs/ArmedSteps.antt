-- The armed timers after one more entry.
use Rattle.std.proofs.Common.{ℕ, ◌≡◌, ◌<◌, ◌==◌, Bool, true, false, not, List, [], ◌∷◌, map, refl}
use Rattle.std.proofs.Common.{sym, ap, ◌∙◌, arith, cond, Option, Some, None, is_some, option_map}
use Rattle.std.proofs.lemmas.Bool.{false≢true, and_parts, eqb-true, eq-eqb, ne_eqb, cond-true}
use Rattle.std.proofs.lemmas.Bool.{cond-false}
use Rattle.std.specs.List.{filter}
use Rattle.ev_types.specs.declared.upcall.Answer.TheVariants.{Close}
use Rattle.reactor_journal.specs.Event.{Event, Timer}
use Rattle.reactor_journal.specs.declared.entry.Entry.{Entry}
use Rattle.reactor_journal.specs.declared.entry.Entry.TheVariants.{Scheduled, Cancelled, Due}
use Rattle.reactor_journal.specs.declared.entry.Entry.TheVariants.{Started, Returned, Removed}
use Rattle.reactor_journal.specs.Past as P
use Rattle.reactor_journal.specs.Follow as F
use Rattle.reactor_journal.specs.Follow.{may_follow, is_legal}
use Rattle.reactor_journal.proofs.Basics.{may_fits}
use Rattle.reactor_journal.proofs.Timers.{due_timeout, timeout_owned}
use Rattle.reactor_journal.proofs.Armed.{armed_known, armed_set}
use Rattle.reactor_summary.specs.declared.parts.ArmedTimer.{ArmedTimer}
use Rattle.reactor_summary.specs.Summary as S
use Rattle.reactor_summary.specs.Summary.{Summary}
use Rattle.reactor_summary.specs.Tells as T
use Rattle.reactor_summary.specs.Tells.{Tells, Each}
use Rattle.reactor_summary.proofs.Lists.{map_same, filter_each, filter-map, each_from_any}
use Rattle.reactor_summary.proofs.Opens.{event_open_is}
use Rattle.reactor_summary.proofs.OpenSteps.{started_found}

-- an insertion keeps its place when the timers are described
map-with_timer : {N : Type 0} (past : List (Entry N)) (d : ℕ × ℕ) (ds : List (ℕ × ℕ))
    → map (T.armed_timer past) (P.with_deadline d ds)
    ≡ S.with_timer (T.armed_timer past d) (map (T.armed_timer past) ds)
map-with_timer past d [] = refl
map-with_timer {N} past d (c ∷ ds) =
    by_cases (P.comes_before d c) (P.with_deadline d ds)
    ∙ ap (λ rest. cond (P.comes_before d c)
    (T.armed_timer past d ∷ T.armed_timer past c ∷ map (T.armed_timer past) ds)
    (T.armed_timer past c ∷ rest)) (map-with_timer past d ds)
  where
    by_cases : (b : Bool) (rest : List (ℕ × ℕ))
        → map (T.armed_timer past) (cond b (d ∷ c ∷ ds) (c ∷ rest))
        ≡ cond b (T.armed_timer past d ∷ T.armed_timer past c ∷ map (T.armed_timer past) ds)
        (T.armed_timer past c ∷ map (T.armed_timer past) rest)
    by_cases true rest = refl
    by_cases false rest = refl

each_armed : {N : Type 0} (past : List (Entry N)) (Q : ℕ × ℕ → Type 0)
    → ((d : ℕ × ℕ) → P.is_armed past d.1 ≡ true → Q d) → Each Q (P.armed past)
each_armed past Q h = each_from_any (λ (d : ℕ × ℕ). d.1) (λ n (d : ℕ × ℕ). d.1 == n) Q
    (P.armed past) (λ d. eq-eqb d.1 d.1 refl) h

-- the timers of a handle are taken away
owned : {N : Type 0} (past : List (Entry N)) (x : ℕ) (d : ℕ × ℕ) (timer : Option Timer)
    → P.timer_of past d.1 ≡ timer → is_some timer ≡ true
    → not (T.owner (P.timer_of past d.1) == x) ≡ not (P.is_timer_of x (P.timer_of past d.1))
owned past x d None q h = absurd (false≢true h)
owned past x d (Some timer) q h = ap (λ (m : Option Timer). not (T.owner m == x)) q
    ∙ sym (ap (λ (m : Option Timer). not (P.is_timer_of x m)) q)

without_owned : {N : Type 0} (past : List (Entry N)) (s : Summary) (x : ℕ) → Tells past s
    → filter (λ (a : ArmedTimer). not (a.handle.0 == x)) s.armed
    ≡ map (T.armed_timer past) (P.without_handle past x (P.armed past))
without_owned past s x t =
    ap (filter (λ (a : ArmedTimer). not (a.handle.0 == x))) t.armed
    ∙ (filter-map (λ (a : ArmedTimer). not (a.handle.0 == x)) (T.armed_timer past) (P.armed past)
    ∙ ap (map (T.armed_timer past))
    (filter_each (λ (d : ℕ × ℕ). not (T.owner (P.timer_of past d.1) == x))
    (λ (d : ℕ × ℕ). not (P.is_timer_of x (P.timer_of past d.1))) (P.armed past)
    (each_armed past _ (λ d a. owned past x d (P.timer_of past d.1) refl (armed_set past d.1 a)))))

without_owner : {N : Type 0} (past : List (Entry N)) (s : Summary) (event : Option Event)
    → Tells past s → S.without_timers_of event s.armed
    ≡ map (T.armed_timer past) (P.without_owner past event (P.armed past))
without_owner past s None t = t.armed
without_owner past s (Some event) t = without_owned past s event.handle t

without_named : {N : Type 0} (past : List (Entry N)) (s : Summary) (n : ℕ) → Tells past s
    → S.without_timer n s.armed ≡ map (T.armed_timer past) (P.without_timer n (P.armed past))
without_named past s n t = ap (S.without_timer n) t.armed
    ∙ filter-map (λ (a : ArmedTimer). not (a.timer == n)) (T.armed_timer past) (P.armed past)

-- the handle of a timeout is that of its timer
same_owner : (x : ℕ) (timer : Option Timer) → P.is_timer_of x timer ≡ true → x ≡ T.owner timer
same_owner x None h = absurd (false≢true h)
same_owner x (Some timer) h = sym (eqb-true timer.handle x h)

abbrev next_of : {N : Type 0} → List (Entry N) → ℕ → ℕ × ℕ
next_of past n = (
  P.next_deadline (P.deadline past n) (P.period (P.timer_of past n)) (P.now past),
  n,
)

rearmed_as : {N : Type 0} (most : ℕ) (past : List (Entry N)) (i : ℕ) (event : Event)
    → is_legal most past ≡ true → P.event_at past i ≡ Some event → (due : Option ℕ)
    → P.due_at past i ≡ due
    → S.with_next (P.now past) (record { 0 = event.handle }) (option_map (T.due_timer past) due)
    (map (T.armed_timer past) (P.armed past))
    ≡ map (T.armed_timer past) (P.with_rearmed past (P.rearms past due) (P.armed past))
rearmed_as most past i event legal at None q = refl
rearmed_as {N} most past i event legal at (Some n) q =
    let timeout : F.is_timeout_event n (P.event_at past i) ≡ true =
    due_timeout past i n q (ap is_some at) in
    let mine : P.is_timer_of event.handle (P.timer_of past n) ≡ true =
    sym (timeout_owned most past n legal i timeout event.handle)
    ∙ (ap (P.belongs_to event.handle) at ∙ eq-eqb event.handle event.handle refl) in
    let same : event.handle ≡ T.owner (P.timer_of past n) =
    same_owner event.handle (P.timer_of past n) mine in
    let rest : List ArmedTimer = map (T.armed_timer past) (P.armed past) in
    by_cases (P.period (P.timer_of past n) == 0)
    (ap (λ (k : ℕ). S.with_timer (record {
      deadline = P.next_deadline (P.deadline past n) (P.period (P.timer_of past n)) (P.now past);
      timer = n;
      handle = record { 0 = k };
      every = P.period (P.timer_of past n);
    })
    (map (T.armed_timer past) (P.armed past))) same
    ∙ sym (map-with_timer past (next_of past n) (P.armed past)))
  where
    by_cases : (b : Bool)
        → S.with_timer (record {
          deadline =
              P.next_deadline (P.deadline past n) (P.period (P.timer_of past n)) (P.now past);
          timer = n;
          handle = record { 0 = event.handle };
          every = P.period (P.timer_of past n);
        })
        (map (T.armed_timer past) (P.armed past))
        ≡ map (T.armed_timer past) (P.with_deadline (next_of past n) (P.armed past))
        → cond b (map (T.armed_timer past) (P.armed past))
        (S.with_timer (record {
          deadline =
              P.next_deadline (P.deadline past n) (P.period (P.timer_of past n)) (P.now past);
          timer = n;
          handle = record { 0 = event.handle };
          every = P.period (P.timer_of past n);
        })
        (map (T.armed_timer past) (P.armed past)))
        ≡ map (T.armed_timer past) (P.with_rearmed past (cond b None (Some n)) (P.armed past))
    by_cases true h = refl
    by_cases false h = h

pub armed_step : {N : Type 0} (most : ℕ) (e : Entry N) (past : List (Entry N)) (s : Summary)
    → is_legal most past ≡ true → may_follow most past e ≡ true → Tells past s
    → S.armed_after s e ≡ map (T.armed_timer (e ∷ past)) (P.armed (e ∷ past))
armed_step {N} most (Scheduled timer handle first every) past s legal may t =
    let e : Entry N = Scheduled timer handle first every in
    let is : timer ≡ P.scheduled past = eqb-true _ _ (and_parts _ _ (may_fits most past e may)).0 in
    let set : P.timer_of (e ∷ past) timer ≡ Some (record { handle = handle.0; every = every }) =
    cond-true (timer == timer) _ _ (eq-eqb timer timer refl) in
    let others : map (T.armed_timer past) (P.armed past)
    ≡ map (T.armed_timer (e ∷ past)) (P.armed past) =
    map_same (T.armed_timer past) (T.armed_timer (e ∷ past)) (P.armed past)
    (each_armed past _ (λ d a.
    let lt : d.1 < P.scheduled past = armed_known most past d.1 legal a in
    ap (λ (m : Option Timer). record {
      deadline = d.0;
      timer = d.1;
      handle = record { 0 = T.owner m };
      every = P.period m;
    })
    (sym (cond-false (timer == d.1) _ _ (ne_eqb timer d.1 (λ q. absurd (omega arith)))))))
    in
    ap (S.with_timer (record { deadline = first; timer = timer; handle = handle; every = every }))
    (t.armed ∙ others)
    ∙ (ap (λ (m : Option Timer). S.with_timer
    (record {
      deadline = first;
      timer = timer;
      handle = record { 0 = T.owner m };
      every = P.period m;
    }) (map (T.armed_timer (e ∷ past)) (P.armed past))) (sym set)
    ∙ sym (map-with_timer (e ∷ past) (first, timer) (P.armed past)))
armed_step most (Cancelled timer) past s legal may t = without_named past s timer t
armed_step most (Due timer) past s legal may t = without_named past s timer t
armed_step most (Started i) past s legal may t =
    let r : (event : Event) × (P.event_at past i ≡ Some event) × (P.is_waiting past i ≡ true)
    × (S.waiting_event s i ≡ Some (T.as_waiting past i event)) =
    started_found most past s i may t in
    ap (λ w. S.with_started s.moment w s.armed) r.3
    ∙ (ap (λ m. S.with_next m (record { 0 = r.0.handle })
    (option_map (T.due_timer past) (P.due_at past i)) s.armed) t.moment
    ∙ (ap (S.with_next (P.now past) (record { 0 = r.0.handle })
    (option_map (T.due_timer past) (P.due_at past i))) t.armed
    ∙ rearmed_as most past i r.0 legal r.1 (P.due_at past i) refl))
armed_step most (Returned event Close note) past s legal may t =
    ap (λ ev. S.without_timers_of ev s.armed)
    (event_open_is past s event t (may_fits most past (Returned event Close note) may))
    ∙ without_owner past s (P.event_at past event) t
armed_step most (Removed handle) past s legal may t = without_owned past s handle.0 t
armed_step most _ past s legal may t = t.armed
