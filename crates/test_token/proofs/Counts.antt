-- Counting up a writer's entries.
use Rattle.std.proofs.Common.{◌≡◌, ℕ, ◌+◌, ◌≤◌, ◌&&◌, List, [], ◌∷◌, ◌++◌, Bool, true, false, cond}
use Rattle.std.proofs.Common.{refl, ap, subst, arith, eq-eqb, ne_eqb}
use Rattle.std.specs.Prelude.{◌==◌}
use mathlib.Core.Logic.{dite}
use native.Mathlib.Decide.{ℕ_discrete}
use Rattle.test_token.specs.declared.log.Entry.{Entry}
use Rattle.test_token.specs.Logs.{counted, Adds, HasInOrder}

cond_up : (b : Bool) (n : ℕ) → n ≤ cond b (n + 1) n
cond_up true n = omega arith
cond_up false n = omega arith

counted-grows : (by n : ℕ) (es : List Entry) → n ≤ counted by n es
counted-grows by n [] = omega arith
counted-grows by n (e ∷ es) = omega (
  arith,
  cond_up (e.by == by && e.seq == n) n,
  counted-grows by (cond (e.by == by && e.seq == n) (n + 1) n) es,
)

counted-append : (by n : ℕ) (xs ys : List Entry)
    → counted by n (xs ++ ys) ≡ counted by (counted by n xs) ys
counted-append by n [] ys = refl
counted-append by n (e ∷ xs) ys = counted-append by (cond (e.by == by && e.seq == n) (n + 1) n) xs
    ys

counted-own : (by n m : ℕ) → n ≤ m → n + 1 ≤ counted by m (record { by = by; seq = n } ∷ [])
counted-own by n m le = dite (ℕ_discrete n m)
    (λ e. rw (eq-eqb by by refl, eq-eqb n m e) (omega arith))
    (λ ne. rw (ne_eqb n m ne, eq-eqb by by refl) (omega arith))

pub adds-counted : (by n : ℕ) (old new : List Entry) → Adds record { by = by; seq = n } old new
    → HasInOrder by n old → HasInOrder by (n + 1) new
adds-counted by n old new a h =
    let more : n ≤ counted by 0 (old ++ a.0) =
    omega (arith, counted-append by 0 old a.0, counted-grows by (counted by 0 old) a.0) in
    omega (
      arith,
      ap (counted by 0) a.1,
      counted-append by 0 (old ++ a.0) (record { by = by; seq = n } ∷ []),
      counted-own by n (counted by 0 (old ++ a.0)) more,
    )

-- what begins a list stands in it
pub begins-counted : (by n : ℕ) (old rest : List Entry) → HasInOrder by n old
    → HasInOrder by n (old ++ rest)
begins-counted by n old rest h = omega
    (arith, counted-append by 0 old rest, counted-grows by (counted by 0 old) rest)

pub still_counted : (by n : ℕ) (old new : List Entry) → (rest : List Entry) × (old ++ rest ≡ new)
    → HasInOrder by n old → HasInOrder by n new
still_counted by n old new b h = subst (λ (l : List Entry). HasInOrder by n l) b.1
    (begins-counted by n old b.0 h)
