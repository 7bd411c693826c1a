-- A watch over several calls: it breaks only if its count of faults rose.
use Rattle.std.proofs.Common.{Bool, true, false, ℕ, ◌≡◌, ◌≤◌, refl, arith}
use Rattle.ev_base.specs.Counts.{Rose}

-- one that was not called does not break
pub breaks_none : (broken : Bool) (faults : ℕ) → broken ≡ false → broken ≡ true → Rose faults faults
breaks_none broken faults intact failed = absurd (cc (intact, failed))

-- one that broke in two calls broke in one of them
pub breaks_over : (old between new : Bool) (before meanwhile now : ℕ) → before ≤ meanwhile
    → meanwhile ≤ now
    → (old ≡ false → between ≡ true → Rose before meanwhile)
    → (between ≡ false → new ≡ true → Rose meanwhile now)
    → old ≡ false → new ≡ true → Rose before now
breaks_over old true new before meanwhile now first second one two intact failed = let rose =
    one intact refl in omega (arith, rose, second)
breaks_over old false new before meanwhile now first second one two intact failed = let rose =
    two refl failed in omega (arith, first, rose)
