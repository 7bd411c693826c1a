-- How long a handler may be kept: as long as its end.
use Rattle.std.proofs.Common.{[], ◌++◌}
use base.Fml.{Lft}
use contract.BorrowLft.{◌⊑◌, ⊑_meet, ⊑_static}

-- as long as one thing, and nothing else
alone : (κ e : Lft) → κ ⊑ e → κ ⊑ e ++ []
alone κ e h = ⊑_meet κ e [] h (⊑_static κ)

-- as long as a turn of a handler over such an end
abbrev turn : Lft → Lft
turn e = ((e ++ []) ++ (((e ++ []) ++ (e ++ [])) ++ [])) ++ []

turns : (κ e : Lft) → κ ⊑ e → κ ⊑ turn e
turns κ e h =
    let one : κ ⊑ e ++ [] = alone κ e h in
    alone κ ((e ++ []) ++ (((e ++ []) ++ (e ++ [])) ++ []))
    (⊑_meet κ (e ++ []) (((e ++ []) ++ (e ++ [])) ++ []) one
    (alone κ ((e ++ []) ++ (e ++ [])) (⊑_meet κ (e ++ []) (e ++ []) one one)))

pub handler_lives : (κ e : Lft) → κ ⊑ e → κ ⊑ (e ++ []) ++ (turn e ++ (turn e ++ []))
handler_lives κ e h = ⊑_meet κ (e ++ []) (turn e ++ (turn e ++ [])) (alone κ e h)
    (⊑_meet κ (turn e) (turn e ++ []) (turns κ e h) (alone κ (turn e) (turns κ e h)))
