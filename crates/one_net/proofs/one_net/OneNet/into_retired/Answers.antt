use Rattle.std.proofs.Common.{◌≡◌, ◌∷◌, [], arith, ap, length}
use Rattle.one_net.proofs.one_net.OneNet.into_retired.Goals as goal

pub destroy_empty-requires : goal.destroy_empty-requires
destroy_empty-requires g c =
    let one : c.args.self.retired.items ≡ (c.requires.0, c.requires.1) ∷ [] = let e =
    c.requires.2 in cc in
    let length_one = ap length one in
    grind arith

pub destroy_empty-requires-2 : goal.destroy_empty-requires-2
destroy_empty-requires-2 g c = let e = c.requires.3 in cc
