use Rattle.one_net.proofs.one_net.OneNet.close.Goals as goal

pub destroy_empty-requires : goal.destroy_empty-requires
destroy_empty-requires g c = let e = c.requires.retired in cc

pub destroy_empty-requires-2 : goal.destroy_empty-requires-2
destroy_empty-requires-2 g c = let e = c.requires.turned_away in cc
