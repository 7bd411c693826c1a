-- What happened, one part of a turn after another.
use Rattle.std.proofs.Common.{◌≡◌, ◌∙◌, ◌+◌, ℕ, arith, Bool, List, [], ◌∷◌, ◌++◌}
use Rattle.std.proofs.Common.{length, refl, sym, ap, subst}
use Rattle.std.specs.Prelude.{◌||◌}
use Rattle.std.proofs.Math.Bool.{or_assoc, or-false}
use Rattle.std.proofs.lemmas.Grind.{flat_map-append}
use Rattle.std.specs.List.{flat_map}
use Rattle.std.proofs.lemmas.List.{length-append}
use Rattle.ev_base.specs.Counts.{Counts}
use Rattle.proactor.specs.Events.{Event, some_of}
use Rattle.proactor.specs.Events.{count_done, taken_by, given_by, read_done_by}
use Rattle.proactor.specs.Events.{write_done_by, starves}
use Rattle.proactor.specs.declared.sums.Sums.{Sums}
use Rattle.proactor.specs.Parts.{CountsMore, IsSummed}

pub some_of_append : (p : Event → Bool) (xs ys : List Event)
    → some_of p (xs ++ ys) ≡ some_of p xs || some_of p ys
some_of_append p [] ys = refl
some_of_append p (x ∷ xs) ys = ap (λ (b : Bool). p x || b) (some_of_append p xs ys)
    ∙ sym (or_assoc (p x) (some_of p xs) (some_of p ys))

pub lengths : {A B : Type 0} (f : A → List B) (xs ys : List A)
    → length (flat_map f (xs ++ ys)) ≡ length (flat_map f xs) + length (flat_map f ys)
lengths f xs ys = ap length (flat_map-append f xs ys)
    ∙ length-append (flat_map f xs) (flat_map f ys)

pub count_done_append : (xs ys : List Event) → count_done (xs ++ ys) ≡ count_done xs + count_done ys
count_done_append xs ys =
    omega (arith, lengths read_done_by xs ys, lengths write_done_by xs ys)

pub counts_on : (a b c x y z : ℕ) → CountsMore a x b → CountsMore b y c → z ≡ x + y
    → CountsMore a z c
counts_on a b c x y z f g is n h = subst (λ (k : ℕ). Counts c k) (omega (arith, is))
    (g (n + x) (f n h))

pub counts_same : (a : ℕ) → CountsMore a 0 a
counts_same a n h = subst (λ (k : ℕ). Counts a k) (omega arith) h

pub summed_on : (xs ys : List Event) (a b c : Sums) → IsSummed xs a b → IsSummed ys b c
    → IsSummed (xs ++ ys) a c
summed_on xs ys a b c f g = record {
  read = counts_on a.read b.read c.read _ _ _ f.read g.read (lengths taken_by xs ys);
  wrote = counts_on a.wrote b.wrote c.wrote _ _ _ f.wrote g.wrote (lengths given_by xs ys);
  completed = counts_on a.completed b.completed c.completed _ _ _ f.completed g.completed
      (count_done_append xs ys);
  starved = g.starved ∙ ap (λ (s : Bool). s || some_of starves ys) f.starved
      ∙ or_assoc a.starved (some_of starves xs) (some_of starves ys)
      ∙ ap (λ (s : Bool). a.starved || s) (sym (some_of_append starves xs ys));
}

pub summed_none : (a : Sums) → IsSummed [] a a
summed_none a = record {
  read = counts_same a.read;
  wrote = counts_same a.wrote;
  completed = counts_same a.completed;
  starved = sym (or-false a.starved);
}
