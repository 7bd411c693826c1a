-- How a note changes the open events.
use Rattle.std.proofs.Common.{◌≡◌, ℕ, zero, suc, ◌+◌, ◌<◌, ◌≤◌, List, [], ◌∷◌, ◌++◌, Bool, cond}
use Rattle.std.proofs.Common.{eqb, sym, refl, ap, ◌∙◌, subst, arith, eq-eqb, ne_eqb, append-nil}
use Rattle.std.proofs.Common.{length-append, length, Option, Some, None}
use mathlib.Core.Logic.{dite}
use native.Mathlib.Decide.{ℕ_discrete}
use Rattle.leader_token.specs.declared.kept.View.{View}
use Rattle.leader_token.specs.Lists.{is_event, NoneAbove}
use Rattle.leader_token.specs.list_lemmas.specs.Times.{times}
use Rattle.leader_token.specs.Passes.{IsGot, MayPut, IsPut}
use Rattle.leader_token.proofs.Told.{Exact, put_is}
use Rattle.test_token.specs.declared.desk.Desk.{Desk}
use Rattle.test_token.specs.declared.desk.Note.{Note}
use Rattle.test_token.specs.declared.desk.Note.TheVariants.{Begun, Ended}
use Rattle.test_token.specs.Events.{without, open_events, DeskStands, desk_opens, desk_marks}

pub opens-append : (os : List ℕ) (xs ys : List Note)
    → open_events os (xs ++ ys) ≡ open_events (open_events os xs) ys
opens-append os [] ys = refl
opens-append os (Begun e ∷ xs) ys = opens-append (e ∷ os) xs ys
opens-append os (Ended e ∷ xs) ys = opens-append (without e os) xs ys

pub begun : (h : List Note) (e x : ℕ)
    → times x (open_events [] (h ++ Begun e ∷ [])) + 0
    ≡ times x (open_events [] h) + is_event x (Some e)
begun h e x = omega (arith, ap (times x) (opens-append [] h (Begun e ∷ [])))

eqb-flip : (x e : ℕ) → eqb x e ≡ eqb e x
eqb-flip x e = dite (ℕ_discrete x e) (λ p. eq-eqb x e p ∙ sym (eq-eqb e x (sym p)))
    (λ n. ne_eqb x e n ∙ sym (ne_eqb e x (λ p. n (sym p))))

times-without : (e x : ℕ) (os : List ℕ) → 0 < times e os
    → times x (without e os) + cond (eqb x e) 1 0 ≡ times x os
times-without e x [] some-there = absurd (omega arith)
times-without e x (o ∷ os) some-there = dite (ℕ_discrete e o)
    (λ p. rw (eq-eqb e o p) (omega (arith, ap (λ (n : ℕ). cond {A = ℕ} (eqb x n) 1 0) p)))
    (λ n. let tail : 0 < times e os = omega
    (arith, ap (λ (b : Bool). cond {A = ℕ} b 1 0) (ne_eqb e o n)) in
    rw (ne_eqb e o n) (omega (arith, times-without e x os tail)))

pub ended : (h : List Note) (e x : ℕ) → 0 < times e (open_events [] h)
    → times x (open_events [] (h ++ Ended e ∷ [])) + is_event x (Some e)
    ≡ times x (open_events [] h) + is_event x None
ended h e x open-there = omega (
  arith,
  ap (times x) (opens-append [] h (Ended e ∷ [])),
  times-without e x (open_events [] h) open-there,
)

abbrev V : Type 0
V = View Note (Unit {0})

abbrev Stood : Unit {0} → ℕ → Desk → List Note → Type 0
Stood terms first desk list = DeskStands desk list

abbrev Got : V → Desk → V → Type 0
Got = IsGot Stood desk_opens desk_marks

abbrev May : V → Desk → Type 0
May = MayPut Stood desk_opens desk_marks

abbrev Put : V → Desk → V → Type 0
Put = IsPut Stood desk_opens desk_marks

pub exact : Exact Stood desk_opens desk_marks
exact q n m t base g h _ _ a b = sym a.notes ∙ b.notes

pub marks-above : (a b : ℕ) (found : List ℕ) → a ∷ [] ≡ found → a ≤ b → NoneAbove found (b ∷ [])
marks-above a b found e le = subst (λ (l : List ℕ). NoneAbove l (b ∷ [])) e at
  where
    at : NoneAbove (a ∷ []) (b ∷ [])
    at zero = le
    at (suc k) = omega arith

-- what a note makes of the open events, as `put` asks it
abbrev pub Events : V → List Note → List Note → Option ℕ → Type 0
Events v list added mine = (x : ℕ)
    → times x (desk_opens (list ++ added)) + is_event x v.mine
    ≡ times x (desk_opens list) + is_event x mine

-- a desk that was got may be put back with more notes
abbrev pub may_put : (v w : V) (t u : Desk) → (got : Got v t w)
    → (added : List Note) (mine : Option ℕ) → DeskStands u (got.list ++ added) → t.faults ≤ u.faults
    → Events v got.list added mine → May w u
may_put v w t u got added mine stands faults events = record {
  base = record { list = got.list; marks = got.found };
  first = 0;
  list = got.list ++ added;
  mine = mine;
  is_base = ap (λ (x : V). x.base) got.view;
  stood = stands;
  longer = (added, refl);
  above = marks-above t.faults u.faults got.found got.marked faults;
  events = λ x. omega (arith, events x, ap (λ (y : V). is_event x y.mine) got.view);
}

-- the view after
abbrev pub After : V → V → List Note → Option ℕ → Type 0
After v z added mine = (z.mine ≡ mine) × (z.base ≡ None)
    × ((between : List Note) × (z.seen ≡ (v.seen ++ between) ++ added))

pub after : (v w z : V) (t u : Desk) → (got : Got v t w) → (added : List Note) (mine : Option ℕ)
    → DeskStands u (got.list ++ added) → t.faults ≤ u.faults → Events v got.list added mine
    → Put w u z
    → After v z added mine × (z.seen ≡ got.list ++ added)
after v w z t u got added mine stands faults events put =
    let is = put_is Stood desk_opens desk_marks exact w u z
    (may_put v w t u got added mine stands faults events) put in (
      (
        ap (λ (y : V). y.mine) is,
        ap (λ (y : V). y.base) is,
        (got.seen.0, ap (λ (y : V). y.seen) is ∙ ap (λ l. l ++ added) (sym got.seen.1)),
      ),
      ap (λ (y : V). y.seen) is,
    )

-- the desk after a note that begins an event
pub stands_begun : (t u : Desk) (list : List Note) (e : ℕ) → DeskStands t list → e ≡ length list
    → u.notes.items ≡ t.notes.items ++ Begun e ∷ [] → DeskStands u (list ++ Begun e ∷ [])
stands_begun t u list e old is items = record {
  notes = items ∙ ap (λ (l : List Note). l ++ Begun e ∷ []) old.notes;
  once = λ x. dite (ℕ_discrete x e)
      (λ same. omega (
        arith,
        begun list e x,
        old.below x (omega (arith, same, is)),
        is_event_le x (Some e),
      ))
      (λ apart. omega (
        arith,
        begun list e x,
        old.once x,
        ap (λ (b : Bool). cond {A = ℕ} b 1 0) (ne_eqb x e apart),
      ));
  below = λ x up. let more : length (list ++ Begun e ∷ []) ≡ length list + 1 =
      length-append list (Begun e ∷ []) in
      omega (
        arith,
        begun list e x,
        old.below x (omega (arith, more)),
        ap (λ (b : Bool). cond {A = ℕ} b 1 0)
            (ne_eqb x e (λ same. omega (arith, more, up, same, is))),
      );
}
  where
    is_event_le : (x : ℕ) (m : Option ℕ) → is_event x m ≤ 1
    is_event_le x None = omega arith
    is_event_le x (Some y) = dite (ℕ_discrete x y) (λ s. rw (eq-eqb x y s) (omega arith))
        (λ n. rw (ne_eqb x y n) (omega arith))

-- the desk after a note that ends an event
pub stands_ended : (t u : Desk) (list : List Note) (e : ℕ) → DeskStands t list
    → times e (desk_opens list) ≡ 1 → u.notes.items ≡ t.notes.items ++ Ended e ∷ []
    → DeskStands u (list ++ Ended e ∷ [])
stands_ended t u list e old open-there items = record {
  notes = items ∙ ap (λ (l : List Note). l ++ Ended e ∷ []) old.notes;
  once = λ x. omega (arith, ended list e x (omega (arith, open-there)), old.once x);
  below = λ x up. omega (
    arith,
    ended list e x (omega (arith, open-there)),
    old.below x (omega (arith, up, length-append list (Ended e ∷ []))),
  );
}

-- the desk with no note more
pub stands_same : (t u : Desk) (list : List Note) → DeskStands t list
    → u.notes.items ≡ t.notes.items → DeskStands u (list ++ [])
stands_same t u list old items = subst (λ (l : List Note). DeskStands u l) (sym (append-nil list))
    (record { notes = items ∙ old.notes; once = old.once; below = old.below })

-- no event begins or ends without a note
pub events_same : (v : V) (list : List Note) → Events v list [] v.mine
events_same v list x = omega (arith, ap (λ l. times x (desk_opens l)) (append-nil list))
