-- Runs of bytes that pass a test, some at a time.
use Rattle.std.proofs.Common.{refl, ◌≡◌, ◌≤◌, ℕ, zero, suc, ◌+◌, ◌&&◌, length, Bool, true, false}
use Rattle.std.proofs.Common.{List, [], ◌∷◌, take, drop, ap, arith, subst}
use Rattle.std.specs.List.{prefix_len, list_all}
use Rattle.std.proofs.lemmas.List.{drop-drop}

run_first : (p : ℕ → Bool) (x : ℕ) (xs : List ℕ) (n : ℕ) (b : Bool) → p x ≡ b
    → list_all p (x ∷ take n xs) ≡ true →
    (list_all p (take n xs) ≡ true → prefix_len p xs ≡ n + prefix_len p (drop n xs))
    → prefix_len p (x ∷ xs) ≡ suc n + prefix_len p (drop n xs)
run_first p x xs n true e all run =
    let more : prefix_len p (x ∷ xs) ≡ suc (prefix_len p xs) = rw e (omega arith) in
    let behind : list_all p (take n xs) ≡ true =
    subst (λ b. (b && list_all p (take n xs)) ≡ true) e all in
    omega (arith, more, run behind)
run_first p x xs n false e all run =
    let never : (false && list_all p (take n xs)) ≡ true =
    subst (λ b. (b && list_all p (take n xs)) ≡ true) e all in
    absurd (cc never)

-- if the first n pass, the run is n and the run after them
run_on : (p : ℕ → Bool) (xs : List ℕ) (n : ℕ) → n ≤ length xs → list_all p (take n xs) ≡ true
    → prefix_len p xs ≡ n + prefix_len p (drop n xs)
run_on p xs zero le all = omega arith
run_on p [] (suc n) le all = absurd (omega (arith, le))
run_on p (x ∷ xs) (suc n) le all =
    run_first p x xs n (p x) refl all (λ rest. run_on p xs n (omega (arith, le)) rest)

-- so far at bytes passed, and the next n do
pub run_next : (p : ℕ → Bool) (xs part : List ℕ) (at n : ℕ)
    → prefix_len p xs ≡ at + prefix_len p (drop at xs) → n ≤ length (drop at xs)
    → part ≡ take n (drop at xs)
    → list_all p part ≡ true → prefix_len p xs ≡ (at + n) + prefix_len p (drop (at + n) xs)
run_next p xs part at n before le is all =
    let here : prefix_len p (drop at xs) ≡ n + prefix_len p (drop n (drop at xs)) =
    run_on p (drop at xs) n le (subst (λ ys. list_all p ys ≡ true) is all) in
    let place : prefix_len p (drop n (drop at xs)) ≡ prefix_len p (drop (at + n) xs) =
    ap (prefix_len p) (drop-drop n at xs) in
    omega (arith, before, here, place)
