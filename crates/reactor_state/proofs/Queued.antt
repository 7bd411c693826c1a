-- The queues of the waiting events by their classes.
use Rattle.std.proofs.Common.{ℕ, zero, suc, ◌≡◌, ◌+◌, ◌-◌, ◌<◌, ◌≤◌, ◌==◌, Bool, true, false, not}
use Rattle.std.proofs.Common.{◌&&◌, List, [], ◌∷◌, ◌++◌, length, get_or, refl, sym, ap, ◌∙◌, subst}
use Rattle.std.proofs.Common.{cond, Option, Some, None, arith}
use Rattle.std.specs.Prelude.{slice_get}
use Rattle.std.proofs.lemmas.Bool.{cond-true, cond-false, eqb-true}
use Rattle.std.proofs.lemmas.List.{append-nil, length-append}
use Rattle.std.proofs.lemmas.List.Elements.{filter-append, filter_agree}
use Rattle.std.proofs.lemmas.List.Edits.{length-remove}
use Rattle.std.specs.List.{list_any, find, filter, remove}
use Rattle.ev_types.specs.declared.upcall.Mask.{Mask}
use Rattle.ev_types.specs.declared.upcall.Kind.{Kind}
use Rattle.ev_types.specs.declared.upcall.Kind.TheVariants.{Read, Write, Except as ExceptKind}
use Rattle.ev_types.specs.declared.upcall.Upcall.{Upcall}
use Rattle.ev_types.specs.declared.upcall.Upcall.TheVariants.{Input, Output, Except, Timeout}
use Rattle.ev_types.specs.declared.upcall.Upcall.TheVariants.{Notice}
use Rattle.reactor_summary.specs.reactor_journal.specs.Past.{class_of, upcall_of, is_timeout_of}
use Rattle.reactor_summary.specs.reactor_journal.specs.Past.{is_without}
use Rattle.reactor_summary.specs.declared.parts.WaitingEvent.{WaitingEvent}
use Rattle.reactor_state.specs.Rises.{RisesIn}
use Rattle.reactor_state.specs.Sound.{event_number}
use Rattle.reactor_state.specs.Tables.{Queues, of_class, by_class, queue_of, with_queue, kept}
use Rattle.reactor_state.specs.Tables.{dropped, masked, Capacities, HasRoom, HasRoomFor}
use Rattle.reactor_state.proofs.Lists.{passes, find_agree, filter_every, filter_on, filter_passed}
use Rattle.reactor_state.proofs.Lists.{filter_turned, any-filter, any_and, find_absent}
use Rattle.reactor_state.proofs.Lists.{length-filter_le}
use Rattle.reactor_state.proofs.Picked.{find-filter}
use Rattle.reactor_state.proofs.Rising.{any_found, find_at, filter_at, filter_absent, rises-filter}
use Rattle.reactor_state.proofs.Rising.{none_below}

abbrev five : List WaitingEvent → List WaitingEvent → List WaitingEvent → List WaitingEvent
    → List WaitingEvent → Queues
five t n o e i = record { timeouts = t; notices = n; outputs = o; excepts = e; inputs = i }

five_same : {t t' n n' o o' e e' i i' : List WaitingEvent} → t ≡ t' → n ≡ n' → o ≡ o' → e ≡ e'
    → i ≡ i' → five t n o e i ≡ five t' n' o' e' i'
five_same {t} {t'} {n} {n'} {o} {o'} {e} {e'} {i} {i'} ht hn ho he hi =
    ap (λ x. five x n o e i) ht ∙ ap (λ x. five t' x o e i) hn ∙ ap (λ x. five t' n' x e i) ho
    ∙ ap (λ x. five t' n' o' x i) he ∙ ap (λ x. five t' n' o' e' x) hi

-- ---- those that pass

pub kept_by_class : (p : WaitingEvent → Bool) (ws : List WaitingEvent)
    → kept p (by_class ws) ≡ by_class (filter p ws)
kept_by_class p ws = five_same (in_class 0) (in_class 1) (in_class 2) (in_class 3) (in_class 4)
  where
    in_class : (k : ℕ) → filter p (of_class k ws) ≡ of_class k (filter p ws)
    in_class k = filter_turned p (λ (w : WaitingEvent). class_of w.upcall == k) ws

-- ---- one event more

here_more : (k : ℕ) (w : WaitingEvent) (ws : List WaitingEvent) → (class_of w.upcall == k) ≡ true
    → of_class k ws ++ w ∷ [] ≡ of_class k (ws ++ w ∷ [])
here_more k w ws h =
    sym (filter-append (λ (v : WaitingEvent). class_of v.upcall == k) ws (w ∷ [])
    ∙ ap (λ xs. of_class k ws ++ xs) (cond-true (class_of w.upcall == k) (w ∷ []) [] h))

there_more : (k : ℕ) (w : WaitingEvent) (ws : List WaitingEvent) → (class_of w.upcall == k) ≡ false
    → of_class k ws ≡ of_class k (ws ++ w ∷ [])
there_more k w ws h =
    sym (filter-append (λ (v : WaitingEvent). class_of v.upcall == k) ws (w ∷ [])
    ∙ ap (λ xs. of_class k ws ++ xs) (cond-false (class_of w.upcall == k) (w ∷ []) [] h)
    ∙ append-nil (of_class k ws))

test_at : (k : ℕ) (w : WaitingEvent) (u : Upcall) → w.upcall ≡ u
    → (class_of w.upcall == k) ≡ (class_of u == k)
test_at k w u h = ap (λ v. class_of v == k) h

pub pushed_by_class : (u : Upcall) (w : WaitingEvent) (ws : List WaitingEvent) → w.upcall ≡ u
    → with_queue u (queue_of u (by_class ws) ++ w ∷ []) (by_class ws) ≡ by_class (ws ++ w ∷ [])
pushed_by_class (Timeout timer) w ws h =
    five_same (here_more 0 w ws (test_at 0 w (Timeout timer) h))
    (there_more 1 w ws (test_at 1 w (Timeout timer) h))
    (there_more 2 w ws (test_at 2 w (Timeout timer) h))
    (there_more 3 w ws (test_at 3 w (Timeout timer) h))
    (there_more 4 w ws (test_at 4 w (Timeout timer) h))
pushed_by_class (Notice kind) w ws h =
    five_same (there_more 0 w ws (test_at 0 w (Notice kind) h))
    (here_more 1 w ws (test_at 1 w (Notice kind) h))
    (there_more 2 w ws (test_at 2 w (Notice kind) h))
    (there_more 3 w ws (test_at 3 w (Notice kind) h))
    (there_more 4 w ws (test_at 4 w (Notice kind) h))
pushed_by_class Output w ws h = five_same (there_more 0 w ws (test_at 0 w Output h))
    (there_more 1 w ws (test_at 1 w Output h)) (here_more 2 w ws (test_at 2 w Output h))
    (there_more 3 w ws (test_at 3 w Output h)) (there_more 4 w ws (test_at 4 w Output h))
pushed_by_class Except w ws h = five_same (there_more 0 w ws (test_at 0 w Except h))
    (there_more 1 w ws (test_at 1 w Except h)) (there_more 2 w ws (test_at 2 w Except h))
    (here_more 3 w ws (test_at 3 w Except h)) (there_more 4 w ws (test_at 4 w Except h))
pushed_by_class Input w ws h = five_same (there_more 0 w ws (test_at 0 w Input h))
    (there_more 1 w ws (test_at 1 w Input h)) (there_more 2 w ws (test_at 2 w Input h))
    (there_more 3 w ws (test_at 3 w Input h)) (here_more 4 w ws (test_at 4 w Input h))

-- ---- the event at a place is taken out

-- what is got stands there
pub got : {A : Type 0} (xs : List A) (i : ℕ) (a : A) → slice_get xs i ≡ Some a → (i < length xs)
    × ((d : A) → get_or xs i d ≡ a)
got [] i a h = absurd (cc)
got (x ∷ xs) zero a h = (omega arith, λ d. cc)
got (x ∷ xs) (suc i) a h = let rest : (i < length xs) × ((d : _) → get_or xs i d ≡ a) =
    got xs i a h in (omega (arith, rest.0), rest.1)

-- what is found of those that pass is found of all
found_among : (lo hi n : ℕ) (p : WaitingEvent → Bool) (ws : List WaitingEvent) (w : WaitingEvent)
    → RisesIn event_number lo hi ws → find (λ (v : WaitingEvent). v.event == n) (filter p ws)
    ≡ Some w → find (λ (v : WaitingEvent). v.event == n) ws ≡ Some w
found_among lo hi n p [] w rising h = h
found_among lo hi n p (x ∷ ws) w rising h =
    by_case (p x) (x.event == n) refl (λ e. found_among (suc x.event) hi n p ws w rising.2 e) h
  where
    none_some : (v : WaitingEvent) → ◌≡◌ {A = Option WaitingEvent} None (Some v) → ⊥
    none_some v e = cc

    find_no : (vs : List WaitingEvent) → list_any (λ (v : WaitingEvent). v.event == n) vs ≡ false
        → find (λ (v : WaitingEvent). v.event == n) (filter p vs) ≡ None
    find_no vs e = find_absent (λ (v : WaitingEvent). v.event == n) (filter p vs)
        (any-filter p (λ (v : WaitingEvent). v.event == n) vs
        ∙ any_and (λ (v : WaitingEvent). v.event == n) p vs e)

    by_case : (b c : Bool) → (x.event == n) ≡ c
        → (find (λ (v : WaitingEvent). v.event == n) (filter p ws) ≡ Some w
        → find (λ (v : WaitingEvent). v.event == n) ws ≡ Some w)
        → find (λ (v : WaitingEvent). v.event == n) (cond b (x ∷ filter p ws) (filter p ws))
        ≡ Some w → cond c (Some x) (find (λ (v : WaitingEvent). v.event == n) ws) ≡ Some w
    by_case true true t rest e = sym (cond-true (x.event == n) (Some x)
        (find (λ (v : WaitingEvent). v.event == n) (filter p ws)) t) ∙ e
    by_case true false f rest e = rest
        (sym (cond-false (x.event == n) (Some x)
        (find (λ (v : WaitingEvent). v.event == n) (filter p ws)) f) ∙ e)
    by_case false true t rest e =
        let same : x.event ≡ n = eqb-true x.event n t in
        absurd (none_some w (sym (find_no ws
        (none_below event_number (suc x.event) hi n ws rising.2 (omega arith))) ∙ e))
    by_case false false f rest e = rest e

here_less : (k hi place : ℕ) (w : WaitingEvent) (ws : List WaitingEvent)
    → RisesIn event_number 0 hi ws → slice_get (of_class k ws) place ≡ Some w
    → remove (of_class k ws) place ≡ of_class k
    (filter (λ (v : WaitingEvent). not (w.event == v.event)) ws)
here_less k hi place w ws rising h =
    let at : (place < length (of_class k ws))
    × ((d : WaitingEvent) → get_or (of_class k ws) place d ≡ w) =
    got (of_class k ws) place w h in
    sym (filter_turned (λ (v : WaitingEvent). class_of v.upcall == k)
    (λ (v : WaitingEvent). not (w.event == v.event)) ws
    ∙ filter_at event_number 0 hi w.event place (of_class k ws)
    (rises-filter event_number 0 hi (λ (v : WaitingEvent). class_of v.upcall == k) ws rising)
    at.0 (λ d. ap event_number (at.1 d)))

pub found_in : (k hi place : ℕ) (w : WaitingEvent) (ws : List WaitingEvent)
    → RisesIn event_number 0 hi ws → slice_get (of_class k ws) place ≡ Some w
    → find (λ (v : WaitingEvent). v.event == w.event) ws ≡ Some w
found_in k hi place w ws rising h =
    let at : (place < length (of_class k ws))
    × ((d : WaitingEvent) → get_or (of_class k ws) place d ≡ w) =
    got (of_class k ws) place w h in
    found_among 0 hi w.event (λ (v : WaitingEvent). class_of v.upcall == k) ws w rising
    (find_at event_number 0 hi w.event place (of_class k ws) w
    (rises-filter event_number 0 hi (λ (v : WaitingEvent). class_of v.upcall == k) ws rising)
    at.0 (ap event_number (at.1 w)) ∙ ap Some (at.1 w))

there_less : (k hi : ℕ) (w : WaitingEvent) (ws : List WaitingEvent) → RisesIn event_number 0 hi ws
    → find (λ (v : WaitingEvent). v.event == w.event) ws ≡ Some w → (class_of w.upcall == k) ≡ false
    → of_class k ws ≡ of_class k (filter (λ (v : WaitingEvent). not (w.event == v.event)) ws)
there_less k hi w ws rising found other =
    sym (filter_turned (λ (v : WaitingEvent). class_of v.upcall == k)
    (λ (v : WaitingEvent). not (w.event == v.event)) ws
    ∙ filter_absent event_number w.event (of_class k ws)
    (any-filter (λ (v : WaitingEvent). class_of v.upcall == k)
    (λ (v : WaitingEvent). v.event == w.event) ws
    ∙ any_found event_number 0 hi w.event (λ (v : WaitingEvent). class_of v.upcall == k) ws rising
    ∙ ap (passes (λ (v : WaitingEvent). class_of v.upcall == k)) found ∙ other))

pub taken_by_class : (u : Upcall) (hi place : ℕ) (w : WaitingEvent) (ws : List WaitingEvent)
    → w.upcall ≡ u → RisesIn event_number 0 hi ws
    → slice_get (queue_of u (by_class ws)) place ≡ Some w
    → with_queue u (remove (queue_of u (by_class ws)) place) (by_class ws)
    ≡ by_class (filter (λ (v : WaitingEvent). not (w.event == v.event)) ws)
taken_by_class (Timeout timer) hi place w ws h r g =
    five_same (here_less 0 hi place w ws r g)
    (there_less 1 hi w ws r (found_in 0 hi place w ws r g) (test_at 1 w (Timeout timer) h))
    (there_less 2 hi w ws r (found_in 0 hi place w ws r g) (test_at 2 w (Timeout timer) h))
    (there_less 3 hi w ws r (found_in 0 hi place w ws r g) (test_at 3 w (Timeout timer) h))
    (there_less 4 hi w ws r (found_in 0 hi place w ws r g) (test_at 4 w (Timeout timer) h))
taken_by_class (Notice kind) hi place w ws h r g =
    five_same (there_less 0 hi w ws r (found_in 1 hi place w ws r g) (test_at 0 w (Notice kind) h))
    (here_less 1 hi place w ws r g) (there_less 2 hi w ws r (found_in 1 hi place w ws r g)
    (test_at 2 w (Notice kind) h)) (there_less 3 hi w ws r (found_in 1 hi place w ws r g)
    (test_at 3 w (Notice kind) h)) (there_less 4 hi w ws r (found_in 1 hi place w ws r g)
    (test_at 4 w (Notice kind) h))
taken_by_class Output hi place w ws h r g =
    five_same (there_less 0 hi w ws r (found_in 2 hi place w ws r g) (test_at 0 w Output h))
    (there_less 1 hi w ws r (found_in 2 hi place w ws r g) (test_at 1 w Output h))
    (here_less 2 hi place w ws r g) (there_less 3 hi w ws r (found_in 2 hi place w ws r g)
    (test_at 3 w Output h)) (there_less 4 hi w ws r (found_in 2 hi place w ws r g)
    (test_at 4 w Output h))
taken_by_class Except hi place w ws h r g =
    five_same (there_less 0 hi w ws r (found_in 3 hi place w ws r g) (test_at 0 w Except h))
    (there_less 1 hi w ws r (found_in 3 hi place w ws r g) (test_at 1 w Except h))
    (there_less 2 hi w ws r (found_in 3 hi place w ws r g) (test_at 2 w Except h))
    (here_less 3 hi place w ws r g) (there_less 4 hi w ws r (found_in 3 hi place w ws r g)
    (test_at 4 w Except h))
taken_by_class Input hi place w ws h r g =
    five_same (there_less 0 hi w ws r (found_in 4 hi place w ws r g) (test_at 0 w Input h))
    (there_less 1 hi w ws r (found_in 4 hi place w ws r g) (test_at 1 w Input h))
    (there_less 2 hi w ws r (found_in 4 hi place w ws r g) (test_at 2 w Input h))
    (there_less 3 hi w ws r (found_in 4 hi place w ws r g) (test_at 3 w Input h))
    (here_less 4 hi place w ws r g)

pub found_by_class : (u : Upcall) (hi place : ℕ) (w : WaitingEvent) (ws : List WaitingEvent)
    → RisesIn event_number 0 hi ws → slice_get (queue_of u (by_class ws)) place ≡ Some w
    → find (λ (v : WaitingEvent). v.event == w.event) ws ≡ Some w
found_by_class (Timeout timer) hi place w ws r g = found_in 0 hi place w ws r g
found_by_class (Notice kind) hi place w ws r g = found_in 1 hi place w ws r g
found_by_class Output hi place w ws r g = found_in 2 hi place w ws r g
found_by_class Except hi place w ws r g = found_in 3 hi place w ws r g
found_by_class Input hi place w ws r g = found_in 4 hi place w ws r g

-- ---- room

one_longer : (w : WaitingEvent) (xs : List WaitingEvent) → length (xs ++ w ∷ []) ≡ length xs + 1
one_longer w xs = omega (arith, length-append xs (w ∷ []))

pub pushed_room : (u : Upcall) (w : WaitingEvent) (c : Capacities) (n m : ℕ) (q : Queues)
    → HasRoomFor u c q → HasRoom c n m q
    → HasRoom c (n - 1) (m - 1) (with_queue u (queue_of u q ++ w ∷ []) q)
pushed_room (Timeout timer) w c n m q one room =
    record {
      timeouts = omega (arith, one_longer w q.timeouts, room.timeouts);
      notices = omega (arith, room.notices);
      outputs = omega (arith, room.outputs);
      excepts = omega (arith, room.excepts);
      inputs = omega (arith, room.inputs);
    }
pushed_room (Notice kind) w c n m q one room =
    record {
      timeouts = omega (arith, room.timeouts);
      notices = omega (arith, one_longer w q.notices, room.notices);
      outputs = omega (arith, room.outputs);
      excepts = omega (arith, room.excepts);
      inputs = omega (arith, room.inputs);
    }
pushed_room Output w c n m q one room =
    record {
      timeouts = omega (arith, room.timeouts);
      notices = omega (arith, room.notices);
      outputs = omega (arith, one_longer w q.outputs, room.outputs);
      excepts = omega (arith, room.excepts);
      inputs = omega (arith, room.inputs);
    }
pushed_room Except w c n m q one room =
    record {
      timeouts = omega (arith, room.timeouts);
      notices = omega (arith, room.notices);
      outputs = omega (arith, room.outputs);
      excepts = omega (arith, one_longer w q.excepts, room.excepts);
      inputs = omega (arith, room.inputs);
    }
pushed_room Input w c n m q one room =
    record {
      timeouts = omega (arith, room.timeouts);
      notices = omega (arith, room.notices);
      outputs = omega (arith, room.outputs);
      excepts = omega (arith, room.excepts);
      inputs = omega (arith, one_longer w q.inputs, room.inputs);
    }

-- an event that is no timeout
abbrev pub is_other : Upcall → Bool
is_other (Timeout timer) = false
is_other _ = true

pub other_room : (u : Upcall) (w : WaitingEvent) (c : Capacities) (n m : ℕ) (q : Queues)
    → is_other u ≡ true → HasRoomFor u c q → HasRoom c n m q
    → HasRoom c n (m - 1) (with_queue u (queue_of u q ++ w ∷ []) q)
other_room (Timeout timer) w c n m q other one room = absurd (cc)
other_room u w c n m q other one room =
    let less : HasRoom c (n - 1) (m - 1) (with_queue u (queue_of u q ++ w ∷ []) q) =
    pushed_room u w c n m q one room in
    record {
      timeouts = room.timeouts;
      notices = less.notices;
      outputs = less.outputs;
      excepts = less.excepts;
      inputs = less.inputs;
    }

pub kind_other : (kind : Kind) → is_other (upcall_of kind) ≡ true
kind_other Read = refl
kind_other Write = refl
kind_other ExceptKind = refl

pub room_for : (u : Upcall) (c : Capacities) (q : Queues) → HasRoom c 1 1 q → HasRoomFor u c q
room_for (Timeout timer) c q room = omega (arith, room.timeouts)
room_for (Notice kind) c q room = omega (arith, room.notices)
room_for Output c q room = omega (arith, room.outputs)
room_for Except c q room = omega (arith, room.excepts)
room_for Input c q room = omega (arith, room.inputs)

pub room_for_other : (u : Upcall) (c : Capacities) (q : Queues) → is_other u ≡ true
    → HasRoom c 0 1 q → HasRoomFor u c q
room_for_other (Timeout timer) c q other room = absurd (cc)
room_for_other (Notice kind) c q other room = omega (arith, room.notices)
room_for_other Output c q other room = omega (arith, room.outputs)
room_for_other Except c q other room = omega (arith, room.excepts)
room_for_other Input c q other room = omega (arith, room.inputs)

pub kept_room : (p : WaitingEvent → Bool) (c : Capacities) (n m : ℕ) (q : Queues) → HasRoom c n m q
    → HasRoom c n m (kept p q)
kept_room p c n m q room = record {
  timeouts = omega (arith, room.timeouts, length-filter_le p q.timeouts);
  notices = omega (arith, room.notices, length-filter_le p q.notices);
  outputs = omega (arith, room.outputs, length-filter_le p q.outputs);
  excepts = omega (arith, room.excepts, length-filter_le p q.excepts);
  inputs = omega (arith, room.inputs, length-filter_le p q.inputs);
}

pub taken_room : (u : Upcall) (place : ℕ) (c : Capacities) (n m : ℕ) (q : Queues)
    → place < length (queue_of u q) → HasRoom c n m q
    → HasRoom c n m (with_queue u (remove (queue_of u q) place) q)
taken_room (Timeout timer) place c n m q l room =
    record {
      timeouts = omega (arith, length-remove q.timeouts place l, room.timeouts);
      notices = room.notices;
      outputs = room.outputs;
      excepts = room.excepts;
      inputs = room.inputs;
    }
taken_room (Notice kind) place c n m q l room =
    record {
      timeouts = room.timeouts;
      notices = omega (arith, length-remove q.notices place l, room.notices);
      outputs = room.outputs;
      excepts = room.excepts;
      inputs = room.inputs;
    }
taken_room Output place c n m q l room =
    record {
      timeouts = room.timeouts;
      notices = room.notices;
      outputs = omega (arith, length-remove q.outputs place l, room.outputs);
      excepts = room.excepts;
      inputs = room.inputs;
    }
taken_room Except place c n m q l room =
    record {
      timeouts = room.timeouts;
      notices = room.notices;
      outputs = room.outputs;
      excepts = omega (arith, length-remove q.excepts place l, room.excepts);
      inputs = room.inputs;
    }
taken_room Input place c n m q l room =
    record {
      timeouts = room.timeouts;
      notices = room.notices;
      outputs = room.outputs;
      excepts = room.excepts;
      inputs = omega (arith, length-remove q.inputs place l, room.inputs);
    }

-- of what the calls made
pub room_moved : (c c' : Capacities) (q q' : Queues) (n m : ℕ) → c' ≡ c → q' ≡ q → HasRoom c n m q
    → HasRoom c' n m q'
room_moved c c' q q' n m hc hq room =
    subst (λ (d : Capacities). HasRoom d n m q') (sym hc)
    (subst (λ (r : Queues). HasRoom c n m r) (sym hq) room)

-- ---- those of a timer, or of a mask, are dropped

timeout_only : (u : Upcall) (t k : ℕ) → (class_of u == suc k) ≡ true → is_timeout_of t u ≡ false
timeout_only (Timeout timer) t k h = let no : 0 ≡ suc k = eqb-true 0 (suc k) h in
    absurd (omega arith)
timeout_only (Notice kind) t k h = refl
timeout_only Output t k h = refl
timeout_only Except t k h = refl
timeout_only Input t k h = refl

without_0 : (u : Upcall) (mask : Mask) → (class_of u == 0) ≡ true → is_without mask u ≡ false
without_0 (Timeout timer) mask h = refl
without_0 (Notice kind) mask h = refl
without_0 Output mask h = absurd (cc)
without_0 Except mask h = absurd (cc)
without_0 Input mask h = absurd (cc)

without_1 : (u : Upcall) (mask : Mask) → (class_of u == 1) ≡ true → is_without mask u ≡ false
without_1 (Timeout timer) mask h = refl
without_1 (Notice kind) mask h = refl
without_1 Output mask h = absurd (cc)
without_1 Except mask h = absurd (cc)
without_1 Input mask h = absurd (cc)

without_2 : (u : Upcall) (mask : Mask) → (class_of u == 2) ≡ true
    → is_without mask u ≡ not mask.write
without_2 (Timeout timer) mask h = absurd (cc)
without_2 (Notice kind) mask h = absurd (cc)
without_2 Output mask h = refl
without_2 Except mask h = absurd (cc)
without_2 Input mask h = absurd (cc)

without_3 : (u : Upcall) (mask : Mask) → (class_of u == 3) ≡ true
    → is_without mask u ≡ not mask.except
without_3 (Timeout timer) mask h = absurd (cc)
without_3 (Notice kind) mask h = absurd (cc)
without_3 Output mask h = absurd (cc)
without_3 Except mask h = refl
without_3 Input mask h = absurd (cc)

without_4 : (u : Upcall) (mask : Mask) → (class_of u == 4) ≡ true
    → is_without mask u ≡ not mask.read
without_4 (Timeout timer) mask h = absurd (cc)
without_4 (Notice kind) mask h = absurd (cc)
without_4 Output mask h = absurd (cc)
without_4 Except mask h = absurd (cc)
without_4 Input mask h = refl

-- a class that loses none
unmoved : (k : ℕ) (p : WaitingEvent → Bool) (ws : List WaitingEvent)
    → ((w : WaitingEvent) → (class_of w.upcall == k) ≡ true → p w ≡ true)
    → of_class k ws ≡ of_class k (filter p ws)
unmoved k p ws h = sym (filter_turned (λ (w : WaitingEvent). class_of w.upcall == k) p ws
    ∙ filter_passed p (λ (w : WaitingEvent). class_of w.upcall == k) ws h)

pub cancelled_by_class : (t : ℕ) (ws : List WaitingEvent)
    → record (by_class ws) {
      timeouts = filter (λ (w : WaitingEvent). not (is_timeout_of t w.upcall)) (of_class 0 ws);
    }
    ≡ by_class (filter (λ (w : WaitingEvent). not (is_timeout_of t w.upcall)) ws)
cancelled_by_class t ws = five_same
    (filter_turned (λ (w : WaitingEvent). not (is_timeout_of t w.upcall))
    (λ (w : WaitingEvent). class_of w.upcall == 0) ws) (other 0) (other 1) (other 2) (other 3)
  where
    other : (k : ℕ) → of_class (suc k) ws
        ≡ of_class (suc k) (filter (λ (w : WaitingEvent). not (is_timeout_of t w.upcall)) ws)
    other k = unmoved (suc k) (λ (w : WaitingEvent). not (is_timeout_of t w.upcall)) ws
        (λ w h. ap not (timeout_only w.upcall t k h))

and_true : (b : Bool) → (b && true) ≡ b
and_true true = refl
and_true false = refl

and_false : (b : Bool) → (b && false) ≡ false
and_false true = refl
and_false false = refl

dropped_is : (b : Bool) (x : ℕ) (ws : List WaitingEvent)
    → dropped b x ws ≡ filter (λ (w : WaitingEvent). not (x == w.handle.0 && b)) ws
dropped_is true x ws = filter_agree (λ (w : WaitingEvent). not (x == w.handle.0))
    (λ (w : WaitingEvent). not (x == w.handle.0 && true))
    (λ w. ap not (sym (and_true (x == w.handle.0)))) ws
dropped_is false x ws = sym (filter_agree (λ (w : WaitingEvent). not (x == w.handle.0 && false))
    (λ (w : WaitingEvent). true) (λ w. ap not (and_false (x == w.handle.0))) ws ∙ filter_every ws)

pub masked_by_class : (x : ℕ) (mask : Mask) (ws : List WaitingEvent)
    → masked x mask (by_class ws) ≡ by_class
    (filter (λ (w : WaitingEvent). not (x == w.handle.0 && is_without mask w.upcall)) ws)
masked_by_class x mask ws =
    five_same (same 0 (λ w h. without_0 w.upcall mask h))
    (same 1 (λ w h. without_1 w.upcall mask h))
    (less 2 (not mask.write) (λ w h. without_2 w.upcall mask h))
    (less 3 (not mask.except) (λ w h. without_3 w.upcall mask h))
    (less 4 (not mask.read) (λ w h. without_4 w.upcall mask h))
  where
    same : (k : ℕ) → ((w : WaitingEvent) → (class_of w.upcall == k) ≡ true
        → is_without mask w.upcall ≡ false)
        → of_class k ws ≡ of_class k (filter
        (λ (w : WaitingEvent). not (x == w.handle.0 && is_without mask w.upcall)) ws)
    same k h = unmoved k (λ (w : WaitingEvent). not (x == w.handle.0 && is_without mask w.upcall))
        ws (λ w t. ap (λ b. not (x == w.handle.0 && b)) (h w t)
        ∙ ap not (and_false (x == w.handle.0)))

    less : (k : ℕ) (b : Bool) → ((w : WaitingEvent) → (class_of w.upcall == k) ≡ true
        → is_without mask w.upcall ≡ b) → dropped b x (of_class k ws)
        ≡ of_class k (filter (λ (w : WaitingEvent).
        not (x == w.handle.0 && is_without mask w.upcall)) ws)
    less k b h =
        dropped_is b x (of_class k ws)
        ∙ filter_on (λ (w : WaitingEvent). not (x == w.handle.0 && b))
        (λ (w : WaitingEvent). not (x == w.handle.0 && is_without mask w.upcall))
        (λ (w : WaitingEvent). class_of w.upcall == k) ws
        (λ w t. ap (λ d. not (x == w.handle.0 && d)) (sym (h w t)))
        ∙ filter_turned (λ (w : WaitingEvent). not (x == w.handle.0 && is_without mask w.upcall))
        (λ (w : WaitingEvent). class_of w.upcall == k) ws

-- the first timeout of a timer is in the first queue
pub timeout_in : (t : ℕ) (ws : List WaitingEvent)
    → find (λ (w : WaitingEvent). is_timeout_of t w.upcall) (of_class 0 ws)
    ≡ find (λ (w : WaitingEvent). is_timeout_of t w.upcall) ws
timeout_in t ws = find-filter (λ (w : WaitingEvent). class_of w.upcall == 0)
    (λ (w : WaitingEvent). is_timeout_of t w.upcall) ws
    ∙ find_agree (λ (w : WaitingEvent). class_of w.upcall == 0 && is_timeout_of t w.upcall)
    (λ (w : WaitingEvent). is_timeout_of t w.upcall) ws (λ w. both w.upcall)
  where
    both : (u : Upcall) → (class_of u == 0 && is_timeout_of t u) ≡ is_timeout_of t u
    both (Timeout timer) = refl
    both (Notice kind) = refl
    both Output = refl
    both Except = refl
    both Input = refl

pub cancelled_room : (p : WaitingEvent → Bool) (c : Capacities) (n m : ℕ) (q : Queues)
    → HasRoom c n m q → HasRoom c n m (record q { timeouts = filter p q.timeouts })
cancelled_room p c n m q room = record {
  timeouts = omega (arith, room.timeouts, length-filter_le p q.timeouts);
  notices = room.notices;
  outputs = room.outputs;
  excepts = room.excepts;
  inputs = room.inputs;
}

dropped_le : (b : Bool) (x : ℕ) (ws : List WaitingEvent) → length (dropped b x ws) ≤ length ws
dropped_le true x ws = length-filter_le (λ (w : WaitingEvent). not (x == w.handle.0)) ws
dropped_le false x ws = omega arith

pub masked_room : (x : ℕ) (mask : Mask) (c : Capacities) (n m : ℕ) (q : Queues) → HasRoom c n m q
    → HasRoom c n m (masked x mask q)
masked_room x mask c n m q room = record {
  timeouts = room.timeouts;
  notices = room.notices;
  outputs = omega (arith, room.outputs, dropped_le (not mask.write) x q.outputs);
  excepts = omega (arith, room.excepts, dropped_le (not mask.except) x q.excepts);
  inputs = omega (arith, room.inputs, dropped_le (not mask.read) x q.inputs);
}

pub less_room : (c : Capacities) (n m : ℕ) (q : Queues) → HasRoom c n m q → HasRoom c (n - 1) m q
less_room c n m q room = record {
  timeouts = omega (arith, room.timeouts);
  notices = room.notices;
  outputs = room.outputs;
  excepts = room.excepts;
  inputs = room.inputs;
}

pub timeout_room : (t : ℕ) (w : WaitingEvent) (c : Capacities) (n m : ℕ) (q : Queues)
    → HasRoom c n m q → HasRoomFor (Timeout t) c q
    → HasRoom c (n - 1) m (with_queue (Timeout t) (q.timeouts ++ w ∷ []) q)
timeout_room t w c n m q room one =
    record {
      timeouts = omega (arith, one_longer w q.timeouts, room.timeouts);
      notices = room.notices;
      outputs = room.outputs;
      excepts = room.excepts;
      inputs = room.inputs;
    }
