-- Lists of entries, of events and of marks.
use Rattle.std.specs.Prelude.{◌≡◌, ℕ, ◌+◌, ◌≤◌, List, [], ◌∷◌, ◌++◌, length, max, slice_index, cond}
use Rattle.std.specs.Prelude.{◌==◌, nat_lt, Option, Some, None}

-- The second list is the first with more after it, or the same.
abbrev pub Begins : {E : Type 0} → List E → List E → Type 0
Begins {E} xs ys = (rest : List E) × (xs ++ rest ≡ ys)

-- Each number of the first list is at most the one in its place in the second.
abbrev pub NoneAbove : List ℕ → List ℕ → Type 0
NoneAbove xs ys = (k : ℕ) → slice_index xs k ≤ slice_index ys k

-- Of each two numbers in one place, the greater.
abbrev pub greater : List ℕ → List ℕ → List ℕ
greater [] ys = ys
greater (x ∷ xs) [] = x ∷ xs
greater (x ∷ xs) (y ∷ ys) = max x y ∷ greater xs ys

-- The longer of two lists: the first, if they are equally long.
abbrev pub longer : {E : Type 0} → List E → List E → List E
longer xs ys = cond (nat_lt (length xs) (length ys)) ys xs

-- The other of the two.
abbrev pub shorter : {E : Type 0} → List E → List E → List E
shorter xs ys = cond (nat_lt (length xs) (length ys)) xs ys

-- 1 if the event is e, else 0: how often e stands among one event or none.
abbrev pub is_event : ℕ → Option ℕ → ℕ
is_event e None = 0
is_event e (Some x) = cond (e == x) 1 0
