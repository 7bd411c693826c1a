-- What is read off a summary is what the past says.
use Rattle.std.proofs.Common.{ℕ, ◌≡◌, ◌<◌, ◌==◌, Bool, true, false, not, ◌&&◌, ◌||◌, List, [], ◌∷◌}
use Rattle.std.proofs.Common.{length, map, refl, sym, ap, ◌∙◌, subst, arith, Option, Some, None}
use Rattle.std.proofs.Common.{option_map, is_some, ⊎_elim}
use Rattle.std.proofs.lemmas.Bool.{false≢true, and_parts, and_from, or_cases, or_left, not-true}
use Rattle.std.proofs.lemmas.Bool.{eqb-true, eq-eqb, cases_Bool, cond-true, cond-false}
use Rattle.std.proofs.lemmas.Bool.Decides.{nat_tests}
use Rattle.std.specs.Prelude.{nat_le, nat_lt}
use Rattle.std.specs.List.{list_any, list_all}
use Rattle.ev_types.specs.declared.upcall.Kind.{Kind}
use Rattle.reactor_journal.specs.Event.{Event}
use Rattle.reactor_journal.specs.declared.entry.Entry.{Entry}
use Rattle.reactor_journal.specs.Past as P
use Rattle.reactor_journal.specs.Follow as F
use Rattle.reactor_journal.specs.Follow.{is_legal}
use Rattle.reactor_journal.proofs.Alive.{alive_was_opened, opened_below, not_both}
use Rattle.reactor_journal.proofs.Closing.{closed_gone, any_below-some, closing}
use Rattle.reactor_journal.proofs.OneOpen.{any_below-from}
use Rattle.reactor_journal.proofs.Steps.{same_tests, busy_event, event_busy}
use Rattle.reactor_journal.proofs.Rising.{armed_rising}
use Rattle.reactor_summary.specs.declared.parts.LiveHandle.{LiveHandle}
use Rattle.reactor_summary.specs.declared.parts.OpenEvent.{OpenEvent}
use Rattle.reactor_summary.specs.declared.parts.WaitingEvent.{WaitingEvent}
use Rattle.reactor_summary.specs.declared.parts.ArmedTimer.{ArmedTimer}
use Rattle.reactor_summary.specs.Summary as S
use Rattle.reactor_summary.specs.Summary.{Summary}
use Rattle.reactor_summary.specs.Tells as T
use Rattle.reactor_summary.specs.Tells.{Tells, listed}
use Rattle.reactor_summary.proofs.Lists.{any_listed-some, any_listed-from, each_any, each_any_other}
use Rattle.reactor_summary.proofs.Lists.{any-map, some_is, none_some}
use Rattle.reactor_summary.proofs.Opened.{below_opened}
use Rattle.reactor_summary.proofs.Opens.{found_event}

-- ---- handles

abbrev pub described : {N : Type 0} → List (Entry N) → ℕ → LiveHandle
described past x = record {
  handle = record { 0 = x };
  mask = P.mask_of past x;
  suspended = P.is_suspended past x;
  alive = P.is_alive past x;
}

pub live_some : {N : Type 0} (past : List (Entry N)) (k : ℕ) (a : LiveHandle)
    → T.live_handle past k ≡ Some a → (P.was_closed past k ≡ false) × (described past k ≡ a)
live_some past k a h =
    ⊎_elim
    (λ (c : P.was_closed past k ≡ true).
    none_some a (sym (cond-true (P.was_closed past k) None (Some (described past k)) c) ∙ h))
    (λ (c : P.was_closed past k ≡ false). (
      c,
      some_is (described past k) a (sym
          (cond-false (P.was_closed past k) None (Some (described past k)) c) ∙ h),
    ))
    (cases_Bool (P.was_closed past k))

pub live_test : {N : Type 0} (most : ℕ) (past : List (Entry N)) (s : Summary)
    (q : LiveHandle → Bool) (x : ℕ) → is_legal most past ≡ true → Tells past s
    → list_any (λ (h : LiveHandle). h.handle.0 == x && q h) s.handles
    ≡ (P.was_opened past x && (not (P.was_closed past x) && q (described past x)))
live_test most past s q x legal t =
    ap (list_any (λ (h : LiveHandle). h.handle.0 == x && q h)) t.handles
    ∙ same_tests _ _
    (λ h.
    let r : (k : ℕ) × (a : LiveHandle) × (k < P.opened past) × (T.live_handle past k ≡ Some a)
    × ((a.handle.0 == x && q a) ≡ true) =
    any_listed-some (λ (h : LiveHandle). h.handle.0 == x && q h) (T.live_handle past)
    (P.opened past) h
    in
    let c : (P.was_closed past r.0 ≡ false) × (described past r.0 ≡ r.1) =
    live_some past r.0 r.1 r.3 in
    let both : ((r.1.handle.0 == x) ≡ true) × (q r.1 ≡ true) = and_parts _ _ r.4 in
    let same : r.0 ≡ x = ap (λ (a : LiveHandle). a.handle.0) c.1 ∙ eqb-true _ _ both.0 in
    let passes : q (described past r.0) ≡ true = ap q c.1 ∙ both.1 in
    subst (λ (k : ℕ). (P.was_opened past k && (not (P.was_closed past k) && q (described past k)))
    ≡ true) same
    (and_from (P.was_opened past r.0) (not (P.was_closed past r.0) && q (described past r.0))
    (below_opened most past r.0 legal r.2)
    (and_from (not (P.was_closed past r.0)) (q (described past r.0)) (ap not c.0) passes)))
    (λ h.
    let a : (P.was_opened past x ≡ true)
    × ((not (P.was_closed past x) && q (described past x)) ≡ true) = and_parts _ _ h in
    let b : (not (P.was_closed past x) ≡ true) × (q (described past x) ≡ true) =
    and_parts _ _ a.1 in
    any_listed-from (λ (h : LiveHandle). h.handle.0 == x && q h) (T.live_handle past)
    (P.opened past) x (described past x) (opened_below most past x legal a.0)
    (cond-false (P.was_closed past x) None (Some (described past x)) (not-true _ b.0))
    (and_from (x == x) (q (described past x)) (eq-eqb x x refl) b.1))

-- what is alive is live
pub alive_live : {N : Type 0} (most : ℕ) (past : List (Entry N)) (x : ℕ) → is_legal most past ≡ true
    → P.is_alive past x ≡ true → (P.was_opened past x ≡ true) × (P.was_closed past x ≡ false)
alive_live most past x legal a = (
  alive_was_opened past x a,
  ⊎_elim
      (λ (c : P.was_closed past x ≡ true).
      not_both past x a (closed_gone most past x legal c).removed)
      (λ (c : P.was_closed past x ≡ false). c)
      (cases_Bool (P.was_closed past x)),
)

absorbed : (o c a : Bool) → (a ≡ true → (o ≡ true) × (c ≡ false)) → (o && (not c && a)) ≡ a
absorbed true false a f = refl
absorbed true true false f = refl
absorbed true true true f = absurd (false≢true (sym (f refl).1))
absorbed false c false f = refl
absorbed false c true f = absurd (false≢true (f refl).0)

absorbs : (o c a r : Bool) → (a ≡ true → (o ≡ true) × (c ≡ false))
    → (o && (not c && (a && r))) ≡ (a && r)
absorbs true false a r f = refl
absorbs true true false r f = refl
absorbs true true true r f = absurd (false≢true (sym (f refl).1))
absorbs false c false r f = refl
absorbs false c true r f = absurd (false≢true (f refl).0)

pub alive_is : {N : Type 0} (most : ℕ) (past : List (Entry N)) (s : Summary) (x : ℕ)
    → is_legal most past ≡ true → Tells past s → S.is_alive s x ≡ P.is_alive past x
alive_is most past s x legal t =
    live_test most past s (λ (h : LiveHandle). h.alive) x legal t
    ∙ absorbed (P.was_opened past x) (P.was_closed past x) (P.is_alive past x)
    (alive_live most past x legal)

pub suspended_is : {N : Type 0} (most : ℕ) (past : List (Entry N)) (s : Summary) (x : ℕ)
    → is_legal most past ≡ true → Tells past s
    → S.is_suspended s x ≡ (P.is_alive past x && P.is_suspended past x)
suspended_is most past s x legal t =
    live_test most past s (λ (h : LiveHandle). h.alive && h.suspended) x legal t
    ∙ absorbs (P.was_opened past x) (P.was_closed past x) (P.is_alive past x)
    (P.is_suspended past x) (alive_live most past x legal)

pub resumed_is : {N : Type 0} (most : ℕ) (past : List (Entry N)) (s : Summary) (x : ℕ)
    → is_legal most past ≡ true → Tells past s
    → S.is_resumed s x ≡ (P.is_alive past x && not (P.is_suspended past x))
resumed_is most past s x legal t =
    live_test most past s (λ (h : LiveHandle). h.alive && not h.suspended) x legal t
    ∙ absorbs (P.was_opened past x) (P.was_closed past x) (P.is_alive past x)
    (not (P.is_suspended past x)) (alive_live most past x legal)

pub wanted_is : {N : Type 0} (most : ℕ) (past : List (Entry N)) (s : Summary) (x : ℕ) (kind : Kind)
    → is_legal most past ≡ true → Tells past s
    → S.is_wanted s x kind ≡ (P.is_alive past x && P.has_kind (P.mask_of past x) kind)
wanted_is most past s x kind legal t =
    live_test most past s (λ (h : LiveHandle). h.alive && P.has_kind h.mask kind) x legal t
    ∙ absorbs (P.was_opened past x) (P.was_closed past x) (P.is_alive past x)
    (P.has_kind (P.mask_of past x) kind) (alive_live most past x legal)

-- ---- open events

pub open_some : {N : Type 0} (past : List (Entry N)) (i : ℕ) (o : OpenEvent)
    → T.open_event past i ≡ Some o → (P.is_open past i ≡ true)
    × (option_map (T.as_open past i) (P.event_at past i) ≡ Some o)
open_some past i o h =
    ⊎_elim
    (λ (c : P.is_open past i ≡ true). (
      c,
      sym (cond-true (P.is_open past i) (option_map (T.as_open past i) (P.event_at past i)) None
          c) ∙ h,
    ))
    (λ (c : P.is_open past i ≡ false).
    none_some o (sym (cond-false (P.is_open past i)
    (option_map (T.as_open past i) (P.event_at past i)) None c) ∙ h))
    (cases_Bool (P.is_open past i))

pub open_is : {N : Type 0} (past : List (Entry N)) (s : Summary) (i : ℕ) → Tells past s
    → S.is_open s i ≡ P.is_open past i
open_is past s i t =
    same_tests _ _
    (λ h.
    let r : (a : OpenEvent) × (T.open_event past a.event ≡ Some a) × ((a.event == i) ≡ true) =
    each_any (λ (a : OpenEvent). T.open_event past a.event ≡ Some a)
    (λ (o : OpenEvent). o.event == i) s.opens t.opens h in
    subst (λ (k : ℕ). P.is_open past k ≡ true) (eqb-true r.0.event i r.2)
    (open_some past r.0.event r.0 r.1).0)
    (λ h. t.all_opens i h)

pub busy_is : {N : Type 0} (past : List (Entry N)) (s : Summary) (x : ℕ) → Tells past s
    → S.is_busy s x ≡ P.is_busy past x
busy_is past s x t =
    same_tests _ _
    (λ h.
    let r : (a : OpenEvent) × (T.open_event past a.event ≡ Some a) × ((a.handle.0 == x) ≡ true) =
    each_any (λ (a : OpenEvent). T.open_event past a.event ≡ Some a)
    (λ (o : OpenEvent). o.handle.0 == x) s.opens t.opens h in
    let o : (P.is_open past r.0.event ≡ true)
    × (option_map (T.as_open past r.0.event) (P.event_at past r.0.event) ≡ Some r.0) =
    open_some past r.0.event r.0 r.1 in
    event_busy past x r.0.event o.0 (sym
    (ap (P.belongs_to x) (found_event past r.0.event (P.event_at past r.0.event) r.0 o.1))
    ∙ r.2))
    (λ h.
    let b : (i : ℕ) × (P.is_open past i ≡ true) × (P.belongs_to x (P.event_at past i) ≡ true) =
    busy_event past x h in
    each_any_other (λ (a : OpenEvent). T.open_event past a.event ≡ Some a)
    (λ (o : OpenEvent). o.event == b.0) (λ (o : OpenEvent). o.handle.0 == x) s.opens t.opens
    (λ a is q.
    let same : a.event ≡ b.0 = eqb-true a.event b.0 q in
    let at : T.open_event past b.0 ≡ Some a =
    subst (λ (k : ℕ). T.open_event past k ≡ Some a) same is in
    ap (P.belongs_to x) (found_event past b.0 (P.event_at past b.0) a (open_some past b.0 a at).1)
    ∙ b.2)
    (t.all_opens b.0 b.1))

-- ---- handles that wait for their close

wait_tests : (o c a b : Bool) → ((o && (not c && not a)) && not b)
    ≡ (o && (not a && (not b && not c)))
wait_tests false c a b = refl
wait_tests true true true true = refl
wait_tests true true true false = refl
wait_tests true true false true = refl
wait_tests true true false false = refl
wait_tests true false true b = refl
wait_tests true false false true = refl
wait_tests true false false false = refl

pub waits_is : {N : Type 0} (most : ℕ) (past : List (Entry N)) (s : Summary) (x : ℕ)
    → is_legal most past ≡ true → Tells past s → S.waits_for_closed s x ≡ P.waits_for_closed past x
unfolding P.waits_for_closed
waits_is most past s x legal t =
    ap (λ b. b && not (S.is_busy s x))
    (live_test most past s (λ (h : LiveHandle). not h.alive) x legal t)
    ∙ (ap (λ b. (P.was_opened past x && (not (P.was_closed past x) && not (P.is_alive past x)))
    && not b) (busy_is past s x t)
    ∙ wait_tests (P.was_opened past x) (P.was_closed past x) (P.is_alive past x) (P.is_busy past x))

waits_from : {N : Type 0} (past : List (Entry N)) (x : ℕ) → P.was_opened past x ≡ true
    → P.is_alive past x ≡ false → P.is_busy past x ≡ false → P.was_closed past x ≡ false
    → P.waits_for_closed past x ≡ true
unfolding P.waits_for_closed
waits_from past x o a b c =
    and_from (P.was_opened past x) (not (P.is_alive past x)
    && (not (P.is_busy past x) && not (P.was_closed past x))) o
    (and_from (not (P.is_alive past x)) (not (P.is_busy past x) && not (P.was_closed past x))
    (ap not a) (and_from (not (P.is_busy past x)) (not (P.was_closed past x)) (ap not b)
    (ap not c)))

some_wait_parts : {N : Type 0} (past : List (Entry N)) → P.some_wait past ≡ true → (x : ℕ)
    × (x < P.opened past) × (P.waits_for_closed past x ≡ true)
unfolding P.some_wait
some_wait_parts past h = any_below-some (P.opened past) (P.waits_for_closed past) h

some_wait_from : {N : Type 0} (past : List (Entry N)) (x : ℕ) → x < P.opened past
    → P.waits_for_closed past x ≡ true → P.some_wait past ≡ true
unfolding P.some_wait
some_wait_from past x lt h = any_below-from (P.opened past) (P.waits_for_closed past) x lt h

pub some_wait_is : {N : Type 0} (most : ℕ) (past : List (Entry N)) (s : Summary)
    → is_legal most past ≡ true → Tells past s → S.some_wait s ≡ P.some_wait past
some_wait_is most past s legal t =
    let test : LiveHandle → Bool = λ (h : LiveHandle). not h.alive
    && not (S.is_busy s h.handle.0) in
    ap (list_any test) t.handles
    ∙ same_tests _ _
    (λ h.
    let r : (k : ℕ) × (a : LiveHandle) × (k < P.opened past) × (T.live_handle past k ≡ Some a)
    × (test a ≡ true) = any_listed-some test (T.live_handle past) (P.opened past) h in
    let c : (P.was_closed past r.0 ≡ false) × (described past r.0 ≡ r.1) =
    live_some past r.0 r.1 r.3 in
    let both : (not (P.is_alive past r.0) ≡ true) × (not (S.is_busy s r.0) ≡ true) =
    and_parts (not (P.is_alive past r.0)) (not (S.is_busy s r.0)) (ap test c.1 ∙ r.4) in
    some_wait_from past r.0 r.2 (waits_from past r.0 (below_opened most past r.0 legal r.2)
    (not-true _ both.0) (sym (busy_is past s r.0 t) ∙ not-true _ both.1) c.0))
    (λ h.
    let w : (x : ℕ) × (x < P.opened past) × (P.waits_for_closed past x ≡ true) =
    some_wait_parts past h in
    let c : (P.was_opened past w.0 ≡ true) × (P.is_alive past w.0 ≡ false)
    × (P.is_busy past w.0 ≡ false) × (P.was_closed past w.0 ≡ false) = closing past w.0 w.2 in
    any_listed-from test (T.live_handle past) (P.opened past) w.0 (described past w.0) w.1
    (cond-false (P.was_closed past w.0) None (Some (described past w.0)) c.3)
    (and_from (not (P.is_alive past w.0)) (not (S.is_busy s w.0)) (ap not c.1)
    (ap not (busy_is past s w.0 t ∙ c.2))))

-- ---- armed timers

pub armed_is : {N : Type 0} (past : List (Entry N)) (s : Summary) (n : ℕ) → Tells past s
    → S.is_armed s n ≡ P.is_armed past n
armed_is past s n t = ap (list_any (λ (a : ArmedTimer). a.timer == n)) t.armed
    ∙ any-map (λ (a : ArmedTimer). a.timer == n) (T.armed_timer past) (P.armed past)

first_map : {N : Type 0} (past : List (Entry N)) (moment n : ℕ) (ds : List (ℕ × ℕ))
    → S.is_first moment n (map (T.armed_timer past) ds) ≡ F.is_first_due moment n ds
first_map past moment n [] = refl
first_map past moment n (d ∷ ds) = refl

pub first_due_is : {N : Type 0} (past : List (Entry N)) (s : Summary) (n : ℕ) → Tells past s
    → S.is_first_due s n ≡ F.is_first_due (P.now past) n (P.armed past)
first_due_is past s n t =
    ap (λ m. S.is_first m n s.armed) t.moment
    ∙ (ap (S.is_first (P.now past) n) t.armed ∙ first_map past (P.now past) n (P.armed past))

all_and_any : {A : Type 0} (p q : A → Bool) (xs : List A) → list_all p xs ≡ true
    → list_any q xs ≡ true → (a : A) × (p a ≡ true) × (q a ≡ true)
all_and_any p q [] h k = absurd (false≢true k)
all_and_any p q (x ∷ xs) h k =
    let both : (p x ≡ true) × (list_all p xs ≡ true) = and_parts _ _ h in
    ⊎_elim (λ (t : q x ≡ true). (x, both.0, t))
    (λ (t : list_any q xs ≡ true). all_and_any p q xs both.1 t)
    (or_cases (q x) (list_any q xs) k)

before_reached : (d c : ℕ × ℕ) (moment : ℕ) → P.comes_before d c ≡ true → nat_le c.0 moment ≡ true
    → nat_le d.0 moment ≡ true
before_reached d c moment h k = go d.0 d.1 c.0 c.1 h k
  where
    go : (a b x y : ℕ) → (nat_lt a x || (a == x && nat_lt b y)) ≡ true → nat_le x moment ≡ true
        → nat_le a moment ≡ true
    go a b x y h k = grind (arith, nat_tests)

reached_map : {N : Type 0} (past : List (Entry N)) (moment : ℕ) (ds : List (ℕ × ℕ))
    → P.is_rising ds ≡ true → S.is_reached moment (map (T.armed_timer past) ds)
    ≡ list_any (λ (d : ℕ × ℕ). nat_le d.0 moment) ds
reached_map past moment [] h = refl
reached_map past moment (d ∷ ds) h =
    let both : (list_all (λ (c : ℕ × ℕ). P.comes_before d c) ds ≡ true) × (P.is_rising ds ≡ true) =
    and_parts _ _ h in
    same_tests _ _
    (λ k. or_left (nat_le d.0 moment) _ k)
    (λ k.
    ⊎_elim
    (λ (n : nat_le d.0 moment ≡ true). n)
    (λ (n : list_any (λ (c : ℕ × ℕ). nat_le c.0 moment) ds ≡ true).
    let r : (c : ℕ × ℕ) × (P.comes_before d c ≡ true) × (nat_le c.0 moment ≡ true) =
    all_and_any (λ (c : ℕ × ℕ). P.comes_before d c) (λ (c : ℕ × ℕ). nat_le c.0 moment) ds both.0
    n in
    before_reached d r.0 moment r.1 r.2)
    (or_cases (nat_le d.0 moment) _ k))

pub overdue_is : {N : Type 0} (most : ℕ) (past : List (Entry N)) (s : Summary)
    → is_legal most past ≡ true → Tells past s → S.is_overdue s ≡ P.is_overdue past
overdue_is most past s legal t =
    ap (λ m. S.is_reached m s.armed) t.moment
    ∙ (ap (S.is_reached (P.now past)) t.armed
    ∙ reached_map past (P.now past) (P.armed past) (armed_rising most past legal))

-- ---- waiting events

pub waiting_some : {N : Type 0} (past : List (Entry N)) (i : ℕ) (w : WaitingEvent)
    → T.waiting_event past i ≡ Some w → (event : Event) × (P.is_waiting past i ≡ true)
    × (P.event_at past i ≡ Some event) × (T.as_waiting past i event ≡ w)
waiting_some past i w h =
    ⊎_elim
    (λ (c : P.is_waiting past i ≡ true).
    let r : (event : Event) × (P.event_at past i ≡ Some event) × (T.as_waiting past i event ≡ w) =
    mapped (P.event_at past i) (sym (cond-true (P.is_waiting past i)
    (option_map (T.as_waiting past i) (P.event_at past i)) None c) ∙ h) in
    (r.0, c, r.1, r.2))
    (λ (c : P.is_waiting past i ≡ false).
    none_some w (sym (cond-false (P.is_waiting past i)
    (option_map (T.as_waiting past i) (P.event_at past i)) None c) ∙ h))
    (cases_Bool (P.is_waiting past i))
  where
    mapped : (event : Option Event) → option_map (T.as_waiting past i) event ≡ Some w → (ev : Event)
        × (event ≡ Some ev) × (T.as_waiting past i ev ≡ w)
    mapped None h = none_some w h
    mapped (Some ev) h = (ev, refl, some_is (T.as_waiting past i ev) w h)

pub waiting_from : {N : Type 0} (past : List (Entry N)) (i : ℕ) (event : Event)
    → P.is_waiting past i ≡ true → P.event_at past i ≡ Some event
    → T.waiting_event past i ≡ Some (T.as_waiting past i event)
waiting_from past i event w h = cond-true (P.is_waiting past i)
    (option_map (T.as_waiting past i) (P.event_at past i)) None w
    ∙ ap (option_map (T.as_waiting past i)) h

event_of_some : (event : Option Event) → is_some event ≡ true → (ev : Event) × (event ≡ Some ev)
event_of_some None h = absurd (false≢true h)
event_of_some (Some ev) h = (ev, refl)

pub waiting_event_at : {N : Type 0} (past : List (Entry N)) (i : ℕ) → P.is_waiting past i ≡ true
    → (ev : Event) × (P.event_at past i ≡ Some ev)
waiting_event_at past i w = event_of_some (P.event_at past i) (and_parts _ _ w).0

timeout_waits_parts : {N : Type 0} (past : List (Entry N)) (n : ℕ) → F.timeout_waits past n ≡ true
    → (i : ℕ) × (i < length past) × ((P.is_waiting past i
    && F.is_timeout_event n (P.event_at past i)) ≡ true)
unfolding F.timeout_waits
timeout_waits_parts past n h = any_below-some (length past) _ h

timeout_waits_from : {N : Type 0} (past : List (Entry N)) (n i : ℕ) → i < length past
    → P.is_waiting past i ≡ true → F.is_timeout_event n (P.event_at past i) ≡ true
    → F.timeout_waits past n ≡ true
unfolding F.timeout_waits
timeout_waits_from past n i lt w h =
    any_below-from (length past) (λ i. P.is_waiting past i
    && F.is_timeout_event n (P.event_at past i)) i lt (and_from _ _ w h)

pub timeout_waits_is : {N : Type 0} (past : List (Entry N)) (s : Summary) (n : ℕ) → Tells past s
    → S.timeout_waits s n ≡ F.timeout_waits past n
timeout_waits_is past s n t =
    let test : WaitingEvent → Bool = λ (w : WaitingEvent). P.is_timeout_of n w.upcall in
    ap (list_any test) t.waiting
    ∙ same_tests _ _
    (λ h.
    let r : (k : ℕ) × (w : WaitingEvent) × (k < length past) × (T.waiting_event past k ≡ Some w)
    × (test w ≡ true) = any_listed-some test (T.waiting_event past) (length past) h in
    let v : (event : Event) × (P.is_waiting past r.0 ≡ true) × (P.event_at past r.0 ≡ Some event)
    × (T.as_waiting past r.0 event ≡ r.1) = waiting_some past r.0 r.1 r.3 in
    timeout_waits_from past n r.0 r.2 v.1 (ap (F.is_timeout_event n) v.2 ∙ (ap test v.3 ∙ r.4)))
    (λ h.
    let r : (i : ℕ) × (i < length past)
    × ((P.is_waiting past i && F.is_timeout_event n (P.event_at past i)) ≡ true) =
    timeout_waits_parts past n h in
    let both : (P.is_waiting past r.0 ≡ true)
    × (F.is_timeout_event n (P.event_at past r.0) ≡ true) = and_parts _ _ r.2 in
    let ev : (ev : Event) × (P.event_at past r.0 ≡ Some ev) = waiting_event_at past r.0 both.0 in
    any_listed-from test (T.waiting_event past) (length past) r.0 (T.as_waiting past r.0 ev.0) r.1
    (waiting_from past r.0 ev.0 both.0 ev.1)
    (sym (ap (F.is_timeout_event n) ev.1) ∙ both.1))
