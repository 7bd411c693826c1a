-- Operations that stand, one after another.
use Rattle.std.specs.Prelude.{◌≡◌, Bool, true, false, List, [], ◌∷◌, length, Option, Some, None}

-- the first, which has a place of its own, and the others
abbrev pub listed : {A : Type 0} → Option A → List A → List A
listed None more = more
listed (Some first) more = first ∷ more

-- while others stand, one is the first
abbrev pub HasFront : {A : Type 0} → Option A → List A → Type 0
HasFront None more = length more ≡ 0
HasFront (Some first) more = Unit {0}

abbrev pub first_of : {A : Type 0} → List A → Option A
first_of [] = None
first_of (x ∷ xs) = Some x

abbrev pub none_stand : {A : Type 0} → List A → Bool
none_stand [] = true
none_stand (x ∷ xs) = false
