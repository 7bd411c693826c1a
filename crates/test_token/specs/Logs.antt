-- A log that several writers add to, each its entries by rising number.
use Rattle.std.specs.Prelude.{◌≡◌, ◌≤◌, ◌+◌, ◌&&◌, ◌==◌, ℕ, List, [], ◌∷◌, ◌++◌, Bool, true, false}
use Rattle.std.specs.Prelude.{cond}
use Rattle.test_token.specs.declared.log.Entry.{Entry}

abbrev pub if_added : Bool → Entry → List Entry
if_added true e = e ∷ []
if_added false e = []

-- The new list is the old one, entries of others, and then the entry.
abbrev pub Adds : Entry → List Entry → List Entry → Type 0
Adds e old new = (between : List Entry) × (new ≡ (old ++ between) ++ e ∷ [])

-- How far the numbers of one writer are counted up in the list, if n of them stood before it.
abbrev pub counted : ℕ → ℕ → List Entry → ℕ
counted by n [] = n
counted by n (e ∷ es) = counted by (cond (e.by == by && e.seq == n) (n + 1) n) es

-- The entries 0 up to n of the writer stand in the list, in their order.
abbrev pub HasInOrder : ℕ → ℕ → List Entry → Type 0
HasInOrder by n es = n ≤ counted by 0 es
