-- What came out of a ring, at its end.
use Rattle.std.specs.Prelude.{◌≡◌, ◌<◌, ℕ, List, ◌++◌, length}
use mathlib.Core.Option.{some}
use lib.ListN.{get_elem?}
use Rattle.notify_ring.specs.declared.posting.Posting.{Posting}
use Rattle.notify_ring.specs.declared.view.View.{View}

-- The list taken is the first postings of a list of n, in which each stands at the place of its
-- number and is of one of the posters.
abbrev pub IsTaken : ℕ → ℕ → List Posting → Type 0
IsTaken posters n taken = (all : List Posting) × (length all ≡ n)
    × ((rest : List Posting) × (taken ++ rest ≡ all))
    × ((k : ℕ) (x : Posting) → get_elem? all k ≡ some x → (x.number ≡ k) × (x.from < posters))

-- The second is of the same root, and has as many posters and children as the first.
abbrev pub HasKinOf : View → View → Type 0
HasKinOf first second = (second.root ≡ first.root) × (second.posters ≡ first.posters)
    × (second.children ≡ first.children)
