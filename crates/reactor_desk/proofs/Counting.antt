-- How many elements of a list have a property, after its first n.
use Rattle.std.proofs.Common.{ℕ, zero, suc, ◌+◌, ◌≡◌, ◌≤◌, Bool, true, false, List, [], ◌∷◌, ◌++◌}
use Rattle.std.proofs.Common.{drop, arith, cond}
use Rattle.reactor_model.specs.reactor_journal.specs.Past.{count}

pub count_append : {A : Type 0} (p : A → Bool) (xs ys : List A)
    → count p (xs ++ ys) ≡ count p xs + count p ys
count_append p [] ys = omega arith
count_append p (x ∷ xs) ys = by_cases (p x) (count_append p xs ys)
  where
    by_cases : (b : Bool) → count p (xs ++ ys) ≡ count p xs + count p ys
        → cond {A = ℕ} b (suc (count p (xs ++ ys))) (count p (xs ++ ys))
        ≡ cond b (suc (count p xs)) (count p xs) + count p ys
    by_cases true h = omega (arith, h)
    by_cases false h = h

pub count_dropped : {A : Type 0} (p : A → Bool) (n : ℕ) (xs : List A)
    → count p (drop n xs) ≤ count p xs
count_dropped p zero xs = omega arith
count_dropped p (suc n) [] = omega arith
count_dropped p (suc n) (x ∷ xs) = by_cases (p x) (count_dropped p n xs)
  where
    by_cases : (b : Bool) → count p (drop n xs) ≤ count p xs
        → count p (drop n xs) ≤ cond b (suc (count p xs)) (count p xs)
    by_cases true h = omega (arith, h)
    by_cases false h = h

-- after the first n of a list with more at its end there are no more than after the first n of
-- the list, and those
pub count_more : {A : Type 0} (p : A → Bool) (n : ℕ) (xs ys : List A)
    → count p (drop n (xs ++ ys)) ≤ count p (drop n xs) + count p ys
count_more p zero xs ys = omega (arith, count_append p xs ys)
count_more p (suc n) [] ys = omega (arith, count_dropped p (suc n) ys)
count_more p (suc n) (x ∷ xs) ys = count_more p n xs ys
