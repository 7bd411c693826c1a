-- The start of an upcall.
use Rattle.std.proofs.Common.{ℕ, ◌≡◌, ◌≤◌, ◌<◌, ◌==◌, Bool, true, false, not, ◌&&◌, ◌||◌, List, []}
use Rattle.std.proofs.Common.{◌∷◌, ◌++◌, refl, sym, ap, ◌∙◌, subst, arith, cond, Option, Some, None}
use Rattle.std.proofs.Common.{option_map, ⊎_elim}
use Rattle.std.proofs.lemmas.Bool.{false≢true, and_parts, and_from, or_parts, or_from, or_left}
use Rattle.std.proofs.lemmas.Bool.{eqb-false, both_ways, cases_Bool, eq-eqb, not-true, leb-true}
use Rattle.std.proofs.lemmas.List.Folds.{list_any-append}
use Rattle.std.specs.List.{list_any}
use Rattle.reactor_model.specs.reactor_journal.specs.Event.{Event}
use Rattle.reactor_model.specs.reactor_journal.specs.declared.entry.Entry.{Entry}
use Rattle.reactor_model.specs.reactor_journal.specs.declared.entry.Entry.TheVariants.{Started}
use Rattle.reactor_model.specs.reactor_journal.specs.Past as P
use Rattle.reactor_model.specs.reactor_journal.specs.Past.{past_of, next_deadline}
use Rattle.reactor_model.specs.reactor_journal.specs.Follow.{may_follow, is_legal}
use Rattle.reactor_model.specs.reactor_journal.proofs.Picking.{pick_parts, next_above}
use Rattle.reactor_model.specs.reactor_journal.proofs.Basics.{event_at-before}
use Rattle.reactor_model.specs.reactor_journal.proofs.OneOpen.{started_is_able}
use Rattle.reactor_model.specs.reactor_journal.proofs.Fates.{able_not_started}
use Rattle.reactor_model.specs.reactor_journal.proofs.Steps.{returned_was_started}
use Rattle.reactor_summary.proofs.Opens.{Found, open_found}
use Rattle.reactor_summary.specs.declared.parts.LiveHandle.{LiveHandle}
use Rattle.reactor_summary.specs.declared.parts.OpenEvent.{OpenEvent}
use Rattle.reactor_summary.specs.declared.parts.WaitingEvent.{WaitingEvent}
use Rattle.reactor_summary.specs.declared.parts.ArmedTimer.{ArmedTimer}
use Rattle.reactor_summary.specs.declared.parts.DueTimer.{DueTimer}
use Rattle.reactor_summary.specs.Summary as S
use Rattle.reactor_summary.specs.Summary.{Summary, summary, step, pick, is_busy, is_free}
use Rattle.reactor_summary.specs.Summary.{is_resumed, some_wait, is_overdue}
use Rattle.reactor_summary.specs.Rules as R
use Rattle.reactor_summary.specs.Tells as T
use Rattle.reactor_summary.specs.Tells.{Tells}
use Rattle.reactor_summary.proofs.Told.{told}
use Rattle.reactor_summary.proofs.Lists.{some_is}
use Rattle.reactor_summary.proofs.Found.{waiting_found}
use Rattle.reactor_summary.proofs.Picks.{Picked, AbleAs, able_as, pick_picks, pick_none}
use Rattle.reactor_summary.proofs.Reading.{waiting_some}
use Rattle.reactor_core.specs.Handlers.{is_live}
use Rattle.reactor_core.specs.Stands.{IsSettled}
use Rattle.reactor_core.specs.Upcalls.{HasNoPick}

-- what holds of the pick
pub record PickFacts {N : Type 0} (past : List (Entry N)) (w : WaitingEvent) : Type 0 where
  pub picked : P.is_pick past w.event ≡ true
  pub found : S.waiting_event (summary past) w.event ≡ Some w
  pub free : is_free (summary past) w.handle.0 ≡ true
  pub waits : P.is_waiting past w.event ≡ true
  pub event : ◌≡◌ {A = Option Event} (P.event_at past w.event)
      (Some (record { handle = w.handle.0; upcall = w.upcall }))

pub pick_facts : {N : Type 0} (most : ℕ) (past : List (Entry N)) (w : WaitingEvent)
    → is_legal most past ≡ true → pick (summary past) ≡ Some w → PickFacts past w
pick_facts most past w legal q =
    let t : Tells past (summary past) = told most past legal in
    let p : Picked past w = pick_picks most past (summary past) w legal t q in
    let a : AbleAs past (summary past) w.event =
    able_as most past (summary past) w.event legal t (pick_parts past w.event p.pick).0 in
    let v : (ev : Event) × (P.is_waiting past w.event ≡ true) × (P.event_at past w.event ≡ Some ev)
    × (T.as_waiting past w.event ev ≡ w) = waiting_some past w.event w p.waits in
    let same : a.event ≡ v.0 = some_is a.event v.0 (sym a.at ∙ v.2) in
    let handle : v.0.handle ≡ w.handle.0 = ap (λ (x : WaitingEvent). x.handle.0) v.3 in
    record {
      picked = p.pick;
      found = waiting_found past (summary past) w.event v.0 t v.1 v.2
          ∙ ap (λ (x : WaitingEvent). Some x) v.3;
      free = subst (λ (k : ℕ). is_free (summary past) k ≡ true)
          (ap (λ (ev : Event). ev.handle) same ∙ handle) a.free;
      waits = v.1;
      event = v.2 ∙ ap (λ (x : WaitingEvent).
          Some (S.event_of (record {
            event = x.event;
            handle = x.handle;
            upcall = x.upcall;
            moment = 0;
          }))) v.3;
    }

-- if the summary has no pick, the journal has none
pub no_pick : {N : Type 0} (most : ℕ) (past : List (Entry N)) → is_legal most past ≡ true
    → pick (summary past) ≡ None → HasNoPick past
no_pick most past legal q i =
    ⊎_elim
    (λ (h : P.is_pick past i ≡ true). absurd
    (both_ways (P.is_able past i) (pick_none most past (summary past) i legal
    (told most past legal) q) (pick_parts past i h).0))
    (λ (h : P.is_pick past i ≡ false). h)
    (cases_Bool (P.is_pick past i))

-- a handle that may run is live and alive
pub any_weaker : {A : Type 0} (p q : A → Bool) (xs : List A) → ((a : A) → p a ≡ true → q a ≡ true)
    → list_any p xs ≡ true → list_any q xs ≡ true
any_weaker p q [] h k = absurd (false≢true k)
any_weaker {A} p q (x ∷ xs) h k = by_cases (p x) refl (λ r. any_weaker p q xs h r)
  where
    by_cases : (b : Bool) → p x ≡ b → (list_any p xs ≡ true → list_any q xs ≡ true)
        → (q x || list_any q xs) ≡ true
    by_cases true r rec = ap (λ b. b || list_any q xs) (h x r)
    by_cases false r rec = either (q x) (rec (sym (ap (λ b. b || list_any p xs) r) ∙ k))
      where
        either : (b : Bool) → list_any q xs ≡ true → (b || list_any q xs) ≡ true
        either true z = refl
        either false z = z

pub free_is_live : (s : Summary) (x : ℕ) → is_free s x ≡ true → (is_live s x ≡ true)
    × (is_busy s x ≡ false) × (list_any (λ (h : LiveHandle). h.alive) s.handles ≡ true)
free_is_live s x h =
    let p : (is_resumed s x ≡ true) × (not (is_busy s x) ≡ true) = and_parts _ _ h in (
      any_weaker (λ (h : LiveHandle). h.handle.0 == x && (h.alive && not h.suspended))
          (λ (h : LiveHandle). h.handle.0 == x) s.handles (λ a k. (and_parts _ _ k).0) p.0,
      not-true _ p.1,
      any_weaker (λ (h : LiveHandle). h.handle.0 == x && (h.alive && not h.suspended))
          (λ (h : LiveHandle). h.alive) s.handles (λ a k. (and_parts _ _ (and_parts _ _ k).1).0)
          p.0,
    )

pub free_is_alive : (s : Summary) (x : ℕ) → is_free s x ≡ true → S.is_alive s x ≡ true
free_is_alive s x h =
    any_weaker (λ (h : LiveHandle). h.handle.0 == x && (h.alive && not h.suspended))
    (λ (h : LiveHandle). h.handle.0 == x && h.alive) s.handles
    (λ a k. and_from (a.handle.0 == x) a.alive
    (and_parts (a.handle.0 == x) (a.alive && not a.suspended) k).0
    (and_parts a.alive (not a.suspended)
    (and_parts (a.handle.0 == x) (a.alive && not a.suspended) k).1).0) (and_parts _ _ h).0

not_from : (b : Bool) → (b ≡ true → ⊥) → b ≡ false
not_from b f = ⊎_elim (λ (t : b ≡ true). absurd (f t)) (λ (n : b ≡ false). n) (cases_Bool b)

-- the pick may be started
pub may_start : (N : Type 0) (most : ℕ) (s : Summary) (w : WaitingEvent) (due ready : Bool)
    → IsSettled s → pick s ≡ Some w → is_free s w.handle.0 ≡ true
    → R.may_follow {N = N} most due ready s (Started w.event) ≡ true
may_start N most s w due ready settled q free =
    let running : s.ended ≡ false = not_from s.ended
    (λ e. both_ways _ (settled.none_alive e) (free_is_live s w.handle.0 free).2) in
    let is : S.is_pick s w.event ≡ true =
    ap (S.is_number w.event) q ∙ eq-eqb w.event w.event refl in
    and_from (false || not s.ended) _ (ap not running)
    (and_from (S.is_pick s w.event) _ is
    (and_from (not (is_overdue s)) _ (ap not settled.none_due) (ap not settled.none_waits)))

-- ---- no handle waits, and no deadline is reached

-- one more upcall is open: no handle waits that did not
fewer_wait : (s : Summary) (more : List OpenEvent) (hs : List LiveHandle)
    → list_any (λ (h : LiveHandle). not h.alive && not (is_busy s h.handle.0)) hs ≡ false
    → list_any (λ (h : LiveHandle). not h.alive
    && not (list_any (λ (o : OpenEvent). o.handle.0 == h.handle.0) (s.opens ++ more))) hs
    ≡ false
fewer_wait s more [] h = refl
fewer_wait s more (x ∷ hs) h =
    let p : ((not x.alive && not (is_busy s x.handle.0)) ≡ false)
    × (list_any (λ (h : LiveHandle). not h.alive && not (is_busy s h.handle.0)) hs ≡ false) =
    or_parts _ _ h in
    or_from _ _ (first x.alive (is_busy s x.handle.0)
    (list_any (λ (o : OpenEvent). o.handle.0 == x.handle.0) more) p.0
    (list_any-append (λ (o : OpenEvent). o.handle.0 == x.handle.0) s.opens more))
    (fewer_wait s more hs p.1)
  where
    first : (a b c : Bool) → (not a && not b) ≡ false → {d : Bool} → d ≡ (b || c)
        → (not a && not d) ≡ false
    first true b c k q = refl
    first false true c k q = ap not q
    first false false c k q = absurd (false≢true (sym k))

-- a deadline above the moment is added
pub later_deadline : (moment : ℕ) (a : ArmedTimer) (armed : List ArmedTimer) → moment < a.deadline
    → S.is_reached moment armed ≡ false → S.is_reached moment (S.with_timer a armed) ≡ false
later_deadline moment a [] lt h = not_from _ (λ k. let le : a.deadline ≤ moment =
    leb-true a.deadline moment k in absurd (omega (arith, le, lt)))
later_deadline moment a (b ∷ rest) lt h = by_cases (S.comes_before a b)
  where
    by_cases : (c : Bool) → S.is_reached moment (cond c (a ∷ b ∷ rest) (b ∷ S.with_timer a rest))
        ≡ false
    by_cases true = not_from _ (λ k. let le : a.deadline ≤ moment = leb-true a.deadline moment k in
        absurd (omega (arith, le, lt)))
    by_cases false = h

above_now : (d every moment : ℕ) → 0 < every → moment < next_deadline d every moment
above_now d every moment some = next_above d every moment some

rearmed_later : (moment : ℕ) (w : WaitingEvent) (due : Option DueTimer) (armed : List ArmedTimer)
    → S.is_reached moment armed ≡ false
    → S.is_reached moment (S.with_next moment w.handle due armed) ≡ false
rearmed_later moment w None armed h = h
rearmed_later moment w (Some due) armed h = by_cases (due.every == 0) refl
  where
    by_cases : (b : Bool) → (due.every == 0) ≡ b
        → S.is_reached moment (cond b armed
        (S.with_timer (record {
          deadline = next_deadline due.deadline due.every moment;
          timer = due.timer;
          handle = w.handle;
          every = due.every;
        }) armed)) ≡ false
    by_cases true q = h
    by_cases false q =
        let some : 0 < due.every = omega (arith, eqb-false due.every 0 q) in
        later_deadline moment _ armed (above_now due.deadline due.every moment some) h

pub settled_started : (N : Type 0) (s : Summary) (w : WaitingEvent)
    → S.waiting_event s w.event ≡ Some w → IsSettled s
    → IsSettled (step {N = N} s (Started w.event))
settled_started N s w found o = record {
  none_waits = fewer_wait s (S.opens_from s.moment (S.waiting_event s w.event)) s.handles
      o.none_waits;
  none_due = subst (λ e. S.is_reached s.moment (S.with_started s.moment e s.armed) ≡ false)
      (sym found) (rearmed_later s.moment w w.due s.armed o.none_due);
  none_alive = o.none_alive;
}

-- ---- the event is open as the job says

pub open_started : {N : Type 0} (most : ℕ) (past : List (Entry N)) (w : WaitingEvent)
    → is_legal most (Started w.event ∷ past) ≡ true → PickFacts past w
    → S.open_event (summary (Started w.event ∷ past)) w.event
    ≡ Some (record {
      event = w.event;
      handle = w.handle;
      upcall = w.upcall;
      moment = (summary past).moment;
    })
open_started {N} most past w legal p =
    let new : List (Entry N) = Started w.event ∷ past in
    let self : (w.event == w.event) ≡ true = eq-eqb w.event w.event refl in
    let f : Found new (summary new) w.event =
    open_found new (summary new) w.event (told most new legal) (is_open_now past w.event legal)
    in
    let event_kept : P.event_at new w.event ≡ P.event_at past w.event =
    event_at-before (Started w.event) past w.event (and_parts _ _ p.waits).0 in
    let moment : P.started_at new w.event ≡ P.now past = rw (self, P.started_at) refl in
    let now : P.now past ≡ (summary past).moment =
    sym (told most past (and_parts _ _ legal).1).moment in
    let is : f.item ≡ T.as_open new w.event (record { handle = w.handle.0; upcall = w.upcall }) =
    some_is _ _ (sym f.is ∙ ap (option_map (T.as_open new w.event)) (event_kept ∙ p.event)) in
    f.found ∙ ap (λ (o : OpenEvent). Some o) is
    ∙ ap (λ (k : ℕ). Some (record {
      event = w.event;
      handle = w.handle;
      upcall = w.upcall;
      moment = k;
    })) (moment ∙ now)
  where
    is_open_now : (past : List (Entry N)) (i : ℕ) → is_legal most (Started i ∷ past) ≡ true
        → P.is_open (Started i ∷ past) i ≡ true
    is_open_now past i legal =
        let parts : (may_follow most past (Started i) ≡ true) × (is_legal most past ≡ true) =
        and_parts _ _ legal in
        let able : P.is_able past i ≡ true =
        started_is_able most past (Started i) i parts.0 (eq-eqb i i refl) in
        let not_returned : P.was_returned past i ≡ false =
        not_from _ (λ r. both_ways (P.was_started past i) (able_not_started past i able)
        (returned_was_started most past i parts.1 r))
        in
        and_from ((i == i) || P.was_started past i) _ (or_left (i == i) _ (eq-eqb i i refl))
        (ap not not_returned)
