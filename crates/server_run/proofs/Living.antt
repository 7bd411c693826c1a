-- How long a handler of the server may be kept: as long as its end.
use Rattle.std.proofs.Common.{[], ◌++◌}
use base.Fml.{Lft}
use contract.BorrowLft.{◌⊑◌, ⊑_meet, ⊑_static}

same : (κ e : Lft) → κ ⊑ e → κ ⊑ e ++ []
same κ e h = ⊑_meet κ e [] h (⊑_static κ)

turn : (κ e : Lft) → κ ⊑ e → κ ⊑ (e ++ []) ++ (((e ++ []) ++ (e ++ [])) ++ [])
turn κ e h = ⊑_meet κ (e ++ []) (((e ++ []) ++ (e ++ [])) ++ []) (same κ e h)
    (same κ ((e ++ []) ++ (e ++ [])) (⊑_meet κ (e ++ []) (e ++ []) (same κ e h) (same κ e h)))

abbrev turns : Lft → Lft
turns e = ((e ++ []) ++ (((e ++ []) ++ (e ++ [])) ++ [])) ++ []

pub handler_lives : (κ e : Lft) → κ ⊑ e
    → κ ⊑ (e ++ []) ++ ((((e ++ []) ++ (((e ++ []) ++ (e ++ [])) ++ [])) ++ [])
    ++ ((((e ++ []) ++ (((e ++ []) ++ (e ++ [])) ++ [])) ++ []) ++ []))
handler_lives κ e h =
    let all : κ ⊑ turns e = same κ ((e ++ []) ++ (((e ++ []) ++ (e ++ [])) ++ [])) (turn κ e h) in
    ⊑_meet κ (e ++ []) (turns e ++ (turns e ++ [])) (same κ e h)
    (⊑_meet κ (turns e) (turns e ++ []) all (same κ (turns e) all))
