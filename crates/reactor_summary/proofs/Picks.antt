-- The pick of a summary is that of the past.
use Rattle.std.proofs.Common.{ℕ, ◌≡◌, ◌≢◌, ◌+◌, ◌<◌, ◌≤◌, ◌==◌, Bool, true, false, not, ◌&&◌, ◌||◌}
use Rattle.std.proofs.Common.{List, length, refl, sym, ap, ◌∙◌, subst, arith, Option, Some, None}
use Rattle.std.proofs.Common.{⊎_elim}
use Rattle.std.proofs.lemmas.Bool.{false≢true, and_parts, and_from, or_left, or_right, eqb-true}
use Rattle.std.proofs.lemmas.Bool.{eq-eqb, cases_Bool, cases_eq, cases_lt, both_ways, lt-ltb}
use Rattle.std.proofs.lemmas.Bool.{le-leb}
use Rattle.std.specs.Prelude.{nat_lt, nat_le}
use Rattle.std.specs.List.{find}
use Rattle.ev_types.specs.declared.upcall.Upcall.{Upcall}
use Rattle.ev_types.specs.declared.upcall.Upcall.TheVariants.{Input, Output, Except, Timeout}
use Rattle.ev_types.specs.declared.upcall.Upcall.TheVariants.{Notice}
use Rattle.reactor_journal.specs.Event.{Event}
use Rattle.reactor_journal.specs.declared.entry.Entry.{Entry}
use Rattle.reactor_journal.specs.Past as P
use Rattle.reactor_journal.specs.Follow.{is_legal}
use Rattle.reactor_journal.proofs.Basics.{event_at-within}
use Rattle.reactor_journal.proofs.OneOpen.{able_is_event}
use Rattle.reactor_journal.proofs.Steps.{same_tests}
use Rattle.reactor_journal.proofs.Picking.{pick_from, pick_one, pick_parts}
use Rattle.reactor_summary.specs.declared.parts.WaitingEvent.{WaitingEvent}
use Rattle.reactor_summary.specs.Summary as S
use Rattle.reactor_summary.specs.Summary.{Summary}
use Rattle.reactor_summary.specs.Tells as T
use Rattle.reactor_summary.specs.Tells.{Tells, listed}
use Rattle.reactor_summary.proofs.Reading.{resumed_is, busy_is, waiting_some, waiting_event_at}
use Rattle.reactor_summary.proofs.Reading.{waiting_from}
use Rattle.reactor_summary.proofs.Found.{Answers, find_answers}

-- ---- free handles and able events

free_tests : (a u b : Bool) → ((a && not u) && not b) ≡ (a && (not b && not u))
free_tests false u b = refl
free_tests true true true = refl
free_tests true true false = refl
free_tests true false true = refl
free_tests true false false = refl

pub free_is : {N : Type 0} (most : ℕ) (past : List (Entry N)) (s : Summary) (x : ℕ)
    → is_legal most past ≡ true → Tells past s
    → S.is_free s x ≡ (P.is_alive past x && (not (P.is_busy past x) && not (P.is_suspended past x)))
free_is most past s x legal t =
    ap (λ b. b && not (S.is_busy s x)) (resumed_is most past s x legal t)
    ∙ (ap (λ b. (P.is_alive past x && not (P.is_suspended past x)) && not b) (busy_is past s x t)
    ∙ free_tests (P.is_alive past x) (P.is_suspended past x) (P.is_busy past x))

able_of : {N : Type 0} (past : List (Entry N)) (i : ℕ) (event : Event) → P.is_waiting past i ≡ true
    → P.event_at past i ≡ Some event → P.may_run past (Some event) ≡ true → P.is_able past i ≡ true
unfolding P.is_able
able_of past i event w at h = and_from (P.is_waiting past i) (P.may_run past (P.event_at past i)) w
    (ap (P.may_run past) at ∙ h)

able_parts : {N : Type 0} (past : List (Entry N)) (i : ℕ) → P.is_able past i ≡ true
    → (P.is_waiting past i ≡ true) × (P.may_run past (P.event_at past i) ≡ true)
unfolding P.is_able
able_parts past i h = and_parts (P.is_waiting past i) (P.may_run past (P.event_at past i)) h

-- what waits for a free handle is able
pub able_from : {N : Type 0} (most : ℕ) (past : List (Entry N)) (s : Summary) (i : ℕ)
    (w : WaitingEvent) → is_legal most past ≡ true → Tells past s
    → T.waiting_event past i ≡ Some w → S.is_free s w.handle.0 ≡ true → P.is_able past i ≡ true
able_from most past s i w legal t is free =
    let v : (ev : Event) × (P.is_waiting past i ≡ true) × (P.event_at past i ≡ Some ev)
    × (T.as_waiting past i ev ≡ w) = waiting_some past i w is in
    let x : v.0.handle ≡ w.handle.0 = ap (λ (a : WaitingEvent). a.handle.0) v.3 in
    able_of past i v.0 v.1 v.2 (sym (free_is most past s v.0.handle legal t)
    ∙ (ap (S.is_free s) x ∙ free))

-- and the other way round
pub record AbleAs {N : Type 0} (past : List (Entry N)) (s : Summary) (i : ℕ) : Type 0 where
  pub event : Event
  pub at : P.event_at past i ≡ Some event
  pub waits : T.waiting_event past i ≡ Some (T.as_waiting past i event)
  pub free : S.is_free s event.handle ≡ true
  pub below : i < length past

pub able_as : {N : Type 0} (most : ℕ) (past : List (Entry N)) (s : Summary) (i : ℕ)
    → is_legal most past ≡ true → Tells past s → P.is_able past i ≡ true → AbleAs past s i
able_as most past s i legal t able =
    let parts : (P.is_waiting past i ≡ true) × (P.may_run past (P.event_at past i) ≡ true) =
    able_parts past i able in
    let v : (ev : Event) × (P.event_at past i ≡ Some ev) = waiting_event_at past i parts.0 in
    record {
      event = v.0;
      at = v.1;
      waits = waiting_from past i v.0 parts.0 v.1;
      free = free_is most past s v.0.handle legal t ∙ (sym (ap (P.may_run past) v.1) ∙ parts.1);
      below = event_at-within past i (able_is_event past i able);
    }

-- ---- the first of the first class

class_below : (u : Upcall) → P.class_of u < 5
class_below (Timeout timer) = omega arith
class_below (Notice kind) = omega arith
class_below Output = omega arith
class_below Except = omega arith
class_below Input = omega arith

-- the order of (class, number)
abbrev goes : ℕ → ℕ → ℕ → ℕ → Bool
goes a i b j = nat_lt a b || (a == b && nat_le i j)

goes_class : (a i b j : ℕ) → a < b → goes a i b j ≡ true
goes_class a i b j h = or_left (nat_lt a b) (a == b && nat_le i j) (lt-ltb a b h)

goes_number : (a i b j : ℕ) → a ≡ b → i ≤ j → goes a i b j ≡ true
goes_number a i b j q h = or_right (nat_lt a b) (a == b && nat_le i j)
    (and_from (a == b) (nat_le i j) (eq-eqb a b q) (le-leb i j h))

-- the answer is the first of the classes from c on that have an event of a free handle
record FirstFrom {N : Type 0} (past : List (Entry N)) (s : Summary) (c : ℕ)
    (a : WaitingEvent) : Type 0 where
  at : ℕ
  is : T.waiting_event past at ≡ Some a
  class : c ≤ P.class_of a.upcall
  free : S.is_free s a.handle.0 ≡ true
  first : (k : ℕ) (w : WaitingEvent) → k < length past → T.waiting_event past k ≡ Some w
      → c ≤ P.class_of w.upcall → S.is_free s w.handle.0 ≡ true
      → goes (P.class_of a.upcall) at (P.class_of w.upcall) k ≡ true

abbrev NoneFrom : {N : Type 0} → List (Entry N) → Summary → ℕ → Type 0
NoneFrom past s c = (k : ℕ) (w : WaitingEvent) → k < length past → T.waiting_event past k ≡ Some w
    → c ≤ P.class_of w.upcall → S.is_free s w.handle.0 ≡ true → ⊥

abbrev PicksFrom : {N : Type 0} → List (Entry N) → Summary → ℕ → Option WaitingEvent → Type 0
PicksFrom past s c None = NoneFrom past s c
PicksFrom past s c (Some a) = FirstFrom past s c a

abbrev test : Summary → ℕ → WaitingEvent → Bool
test s c w = P.class_of w.upcall == c && S.is_free s w.handle.0

passes_test : (s : Summary) (c : ℕ) (w : WaitingEvent) → P.class_of w.upcall ≡ c
    → S.is_free s w.handle.0 ≡ true → test s c w ≡ true
passes_test s c w q free = and_from (P.class_of w.upcall == c) (S.is_free s w.handle.0)
    (eq-eqb _ _ q) free

combined : {N : Type 0} (past : List (Entry N)) (s : Summary) (c : ℕ)
    (here later : Option WaitingEvent)
    → Answers (test s c) (T.waiting_event past) (length past) here → PicksFrom past s (c + 1) later
    → PicksFrom past s c (S.else_ here later)
combined past s c (Some a) later h r =
    let both : ((P.class_of a.upcall == c) ≡ true) × (S.is_free s a.handle.0 ≡ true) =
    and_parts _ _ h.passes in
    let same : P.class_of a.upcall ≡ c = eqb-true _ _ both.0 in
    record {
      at = h.at;
      is = h.is;
      class = omega arith;
      free = both.1;
      first = λ k w lt is from free.
          ⊎_elim
          (λ (q : P.class_of w.upcall ≡ c).
          ⊎_elim
          (λ (before : k < h.at). absurd (both_ways (test s c w) (h.first k w before is)
          (passes_test s c w q free)))
          (λ (behind : h.at ≤ k). goes_number (P.class_of a.upcall) h.at (P.class_of w.upcall) k
          (same ∙ sym q) behind)
          (cases_lt k h.at))
          (λ (q : P.class_of w.upcall ≢ c). goes_class (P.class_of a.upcall) h.at
          (P.class_of w.upcall) k (omega arith))
          (cases_eq (P.class_of w.upcall) c);
    }
combined past s c None (Some a) h r =
    record {
      at = r.at;
      is = r.is;
      class = let k : c + 1 ≤ P.class_of a.upcall = r.class in omega arith;
      free = r.free;
      first = λ k w lt is from free.
          ⊎_elim
          (λ (q : P.class_of w.upcall ≡ c). absurd
          (both_ways (test s c w) (h k w lt is) (passes_test s c w q free)))
          (λ (q : P.class_of w.upcall ≢ c). r.first k w lt is (omega arith) free)
          (cases_eq (P.class_of w.upcall) c);
    }
combined past s c None None h r = λ k w lt is from free.
    ⊎_elim
    (λ (q : P.class_of w.upcall ≡ c). both_ways (test s c w) (h k w lt is)
    (passes_test s c w q free))
    (λ (q : P.class_of w.upcall ≢ c). r k w lt is (omega arith) free)
    (cases_eq (P.class_of w.upcall) c)

class_answers : {N : Type 0} (past : List (Entry N)) (s : Summary) (c : ℕ) → Tells past s
    → Answers (test s c) (T.waiting_event past) (length past) (S.first_free s c)
class_answers past s c t =
    subst (Answers (test s c) (T.waiting_event past) (length past))
    (sym (ap (find (test s c)) t.waiting))
    (find_answers (test s c) (T.waiting_event past) (length past))

else_none : (o : Option WaitingEvent) → S.else_ o None ≡ o
else_none None = refl
else_none (Some w) = refl

pick_first : {N : Type 0} (past : List (Entry N)) (s : Summary) → Tells past s
    → PicksFrom past s 0 (S.pick s)
unfolding S.pick
pick_first past s t =
    combined past s 0 (S.first_free s 0) _ (class_answers past s 0 t)
    (combined past s 1 (S.first_free s 1) _ (class_answers past s 1 t)
    (combined past s 2 (S.first_free s 2) _ (class_answers past s 2 t)
    (combined past s 3 (S.first_free s 3) _ (class_answers past s 3 t)
    (subst (PicksFrom past s 4) (else_none (S.first_free s 4))
    (combined past s 4 (S.first_free s 4) None (class_answers past s 4 t)
    (λ k w lt is from free. let below : P.class_of w.upcall < 5 = class_below w.upcall in
    absurd (omega arith)))))))

-- ---- the pick

pub record Picked {N : Type 0} (past : List (Entry N)) (w : WaitingEvent) : Type 0 where
  pub pick : P.is_pick past w.event ≡ true
  pub waits : T.waiting_event past w.event ≡ Some w

picked_some : {N : Type 0} (most : ℕ) (past : List (Entry N)) (s : Summary) (a : WaitingEvent)
    → is_legal most past ≡ true → Tells past s → FirstFrom past s 0 a → Picked past a
picked_some most past s a legal t f =
    let v : (ev : Event) × (P.is_waiting past f.at ≡ true) × (P.event_at past f.at ≡ Some ev)
    × (T.as_waiting past f.at ev ≡ a) = waiting_some past f.at a f.is in
    let same : f.at ≡ a.event = ap (λ (w : WaitingEvent). w.event) v.3 in
    let class : P.class_at (P.event_at past f.at) ≡ P.class_of a.upcall =
    ap P.class_at v.2 ∙ ap (λ (w : WaitingEvent). P.class_of w.upcall) v.3 in
    let here : P.is_pick past f.at ≡ true =
    pick_from past f.at (able_from most past s f.at a legal t f.is f.free)
    (λ j lt able.
    let able_now : AbleAs past s j = able_as most past s j legal t able in
    ap (λ (c : ℕ). goes c f.at (P.class_at (P.event_at past j)) j) class
    ∙ (ap (λ ev. goes (P.class_of a.upcall) f.at (P.class_at ev) j) able_now.at
    ∙ f.first j (T.as_waiting past j able_now.event) lt able_now.waits (omega arith) able_now.free))
    in
    record {
      pick = subst (λ (k : ℕ). P.is_pick past k ≡ true) same here;
      waits = subst (λ (k : ℕ). T.waiting_event past k ≡ Some a) same f.is;
    }

pub pick_picks : {N : Type 0} (most : ℕ) (past : List (Entry N)) (s : Summary) (w : WaitingEvent)
    → is_legal most past ≡ true → Tells past s → S.pick s ≡ Some w → Picked past w
pick_picks most past s w legal t h =
    picked_some most past s w legal t (subst (PicksFrom past s 0) h (pick_first past s t))

pub pick_none : {N : Type 0} (most : ℕ) (past : List (Entry N)) (s : Summary) (i : ℕ)
    → is_legal most past ≡ true → Tells past s → S.pick s ≡ None → P.is_able past i ≡ false
pick_none most past s i legal t h =
    let none : NoneFrom past s 0 = subst (PicksFrom past s 0) h (pick_first past s t) in
    ⊎_elim
    (λ (able : P.is_able past i ≡ true).
    let able_now : AbleAs past s i = able_as most past s i legal t able in
    absurd (none i (T.as_waiting past i able_now.event) able_now.below able_now.waits (omega arith)
    able_now.free))
    (λ (f : P.is_able past i ≡ false). f)
    (cases_Bool (P.is_able past i))

pub pick_is : {N : Type 0} (most : ℕ) (past : List (Entry N)) (s : Summary) (i : ℕ)
    → is_legal most past ≡ true → Tells past s → S.is_pick s i ≡ P.is_pick past i
pick_is most past s i legal t = by_cases (S.pick s) refl
  where
    by_cases : (o : Option WaitingEvent) → S.pick s ≡ o → S.is_number i o ≡ P.is_pick past i
    by_cases None q =
        same_tests _ _
        (λ h. absurd (false≢true h))
        (λ h. absurd (both_ways (P.is_able past i) (pick_none most past s i legal t q)
        (pick_parts past i h).0))
    by_cases (Some w) q =
        let p : Picked past w = pick_picks most past s w legal t q in
        same_tests _ _
        (λ h. subst (λ (k : ℕ). P.is_pick past k ≡ true) (eqb-true w.event i h) p.pick)
        (λ h. eq-eqb w.event i (pick_one past w.event i p.pick h))
