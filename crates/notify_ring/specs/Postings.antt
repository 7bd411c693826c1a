-- Postings, and where the ring keeps them. Word 0 is how many places are held, word 1 the number of
-- postings drawn, and place p has its handle in word 2 + 2 * p and its gate in word 3 + 2 * p.
-- Posting n has place n mod 256.
use Rattle.std.specs.Prelude.{◌≡◌, ℕ, zero, suc, ◌+◌, ◌*◌, ◌%◌, ◌<◌, List, [], ◌∷◌, length}
use Rattle.std.specs.Prelude.{slice_index, cond, ◌==◌, Bool}
use Rattle.notify_ring.specs.Kinds.{kind_code}
use Rattle.notify_ring.specs.declared.posting.Posting.{Posting}

-- The sum of f over the numbers below n.
abbrev pub below : (ℕ → ℕ) → ℕ → ℕ
below f zero = 0
below f (suc n) = below f n + f n

-- 1 for true, 0 for false.
abbrev pub flag : Bool → ℕ
flag b = cond b 1 0

abbrev pub with_if : ℕ → Posting → List Posting → List Posting
with_if zero x xs = xs
with_if (suc n) x xs = x ∷ xs

abbrev pub from_is : ℕ → Posting → ℕ
from_is p x = flag (p == x.from)

-- The postings of poster p, in their order.
abbrev pub by_poster : ℕ → List Posting → List Posting
by_poster p [] = []
by_poster p (x ∷ xs) = with_if (from_is p x) x (by_poster p xs)

abbrev pub handle_at : ℕ → ℕ
handle_at n = 2 + 2 * (n % 256)

abbrev pub gate_at : ℕ → ℕ
gate_at n = 3 + 2 * (n % 256)

-- What a posting's gate holds: its kind and its poster, and never 0, which is an empty gate.
abbrev pub code : Posting → ℕ
code x = 1 + kind_code x.kind + 4 * x.from

-- Posting number n of a ring with so many posters.
pub record IsNumbered (made n : ℕ) (x : Posting) : Type 0 where
  pub number : x.number ≡ n
  pub from : x.from < made

-- How many postings of each poster were taken.
abbrev pub CountsByPoster : List ℕ → List Posting → Type 0
CountsByPoster counts got = (length counts ≡ 64)
    × ((p : ℕ) → p < 64 → slice_index counts p ≡ length (by_poster p got))
