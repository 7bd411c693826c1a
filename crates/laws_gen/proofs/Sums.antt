-- Sums over all handlers.
use Rattle.std.proofs.Common.{◌≡◌, ◌∙◌, ℕ, zero, suc, ◌+◌, ◌*◌, ◌≤◌, ◌<◌, inl, inr, List, [], ◌∷◌}
use Rattle.std.proofs.Common.{reverse, refl, sym, ap, ap₂, add-one, arith}
use Rattle.std.proofs.Math.Nat.{suc-mul}
use Rattle.std.specs.List.{sum_by, range_with_len}
use Rattle.std.proofs.lemmas.Bool.{cases_eq}
use Rattle.std.proofs.lemmas.Grind.{reverse_onto}
use Rattle.std.proofs.lemmas.List.Sums.{sum_by-cons, sum_by-append}

-- the sum over the numbers below k
abbrev pub below : ℕ → (ℕ → ℕ) → ℕ
below k f = sum_by f (range_with_len 0 k)

pub sum_plus : {A : Type 0} (f g : A → ℕ) (xs : List A)
    → sum_by (λ x. f x + g x) xs ≡ sum_by f xs + sum_by g xs
sum_plus f g [] = refl
sum_plus f g (x ∷ xs) = omega (
  arith,
  sum_by-cons (λ y. f y + g y) x xs,
  sum_by-cons f x xs,
  sum_by-cons g x xs,
  sum_plus f g xs,
)

same_from : (f g : ℕ → ℕ) (n : ℕ) → ((c : ℕ) → c < n → f c ≡ g c) → (j a : ℕ) → a + j ≤ n
    → sum_by f (range_with_len a j) ≡ sum_by g (range_with_len a j)
same_from f g n same zero a le = refl
same_from f g n same (suc j) a le =
    sum_by-cons f a (range_with_len (a + 1) j)
    ∙ ap₂ ◌+◌ (same a (omega arith)) (same_from f g n same j (a + 1) (omega arith))
    ∙ sym (sum_by-cons g a (range_with_len (a + 1) j))

pub same_below : (f g : ℕ → ℕ) (n : ℕ) → ((c : ℕ) → c < n → f c ≡ g c) → below n f ≡ below n g
same_below f g n same = same_from f g n same n 0 (omega arith)

always_from : (v j a : ℕ) → sum_by (λ (c : ℕ). v) (range_with_len a j) ≡ j * v
always_from v zero a = omega arith
always_from v (suc j) a = sum_by-cons (λ (c : ℕ). v) a (range_with_len (a + 1) j)
    ∙ ap (λ (k : ℕ). v + k) (always_from v j (a + 1)) ∙ (omega (arith, suc-mul j v))

-- the same number of each
pub always_below : (n v : ℕ) (f : ℕ → ℕ) → ((c : ℕ) → c < n → f c ≡ v) → below n f ≡ n * v
always_below n v f is = same_below f (λ (c : ℕ). v) n is ∙ always_from v n 0

pub none_below : (n : ℕ) (f : ℕ → ℕ) → ((c : ℕ) → c < n → f c ≡ 0) → below n f ≡ 0
none_below n f none = always_below n 0 f none ∙ omega arith

none_from : (f : ℕ → ℕ) (x : ℕ) → ((y : ℕ) → (y ≡ x → ⊥) → f y ≡ 0) → (j a : ℕ) → x < a
    → sum_by f (range_with_len a j) ≡ 0
none_from f x others zero a lt = refl
none_from f x others (suc j) a lt =
    sum_by-cons f a (range_with_len (a + 1) j)
    ∙ ap₂ ◌+◌ (others a (λ (e : a ≡ x). omega arith))
    (none_from f x others j (a + 1) (omega arith))

one_from : (f : ℕ → ℕ) (x : ℕ) → ((y : ℕ) → (y ≡ x → ⊥) → f y ≡ 0) → (j a : ℕ) → a ≤ x → x < a + j
    → sum_by f (range_with_len a j) ≡ f x
one_from f x others zero a le lt = absurd (omega arith)
one_from f x others (suc j) a le lt =
    elim (cases_eq a x) [
      | inl same ↦ sum_by-cons f a (range_with_len (a + 1) j)
          ∙ ap₂ ◌+◌ (ap f same) (none_from f x others j (a + 1) (omega arith)) ∙ omega arith
      | inr other ↦ sum_by-cons f a (range_with_len (a + 1) j)
          ∙ ap₂ ◌+◌ (others a other) (one_from f x others j (a + 1) (let ne : a ≡ x → ⊥ = other in
          omega arith) (omega arith)) ∙ omega arith
    ]

-- only one of them has any
pub one_below : (n x : ℕ) (f : ℕ → ℕ) → x < n → ((y : ℕ) → (y ≡ x → ⊥) → f y ≡ 0) → below n f ≡ f x
one_below n x f lt others = one_from f x others n 0 (omega arith) (omega arith)

-- the first of them, and those after it
shifted : (f : ℕ → ℕ) (j a : ℕ) → sum_by f (range_with_len (a + 1) j)
    ≡ sum_by (λ (d : ℕ). f (suc d)) (range_with_len a j)
shifted f zero a = refl
shifted f (suc j) a =
    sum_by-cons f (a + 1) (range_with_len (a + 1 + 1) j)
    ∙ ap₂ ◌+◌ (ap f (add-one a)) (shifted f j (a + 1))
    ∙ sym (sum_by-cons (λ (d : ℕ). f (suc d)) a (range_with_len (a + 1) j))

pub first_and_rest : (n : ℕ) (f : ℕ → ℕ) → below (suc n) f ≡ f 0 + below n (λ d. f (suc d))
first_and_rest n f = sum_by-cons f 0 (range_with_len 1 n) ∙ ap (λ (k : ℕ). f 0 + k) (shifted f n 0)

-- a list read backwards
pub sum_back : {A : Type 0} (f : A → ℕ) (xs : List A) → sum_by f (reverse xs) ≡ sum_by f xs
sum_back f [] = refl
sum_back f (x ∷ xs) =
    ap (sum_by f) (reverse_onto xs x []) ∙ sum_by-append f (reverse xs) (x ∷ [])
    ∙ omega (arith, sum_back f xs, sum_by-cons f x [], sum_by-cons f x xs)
