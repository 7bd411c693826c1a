use Rattle.cmd_replay.proofs.playing.play.Given as goal

abbrev pub ghost-ground : goal.ghost-ground
ghost-ground g a = g.terms

abbrev pub ghost-serve : goal.ghost-serve
ghost-serve g a = g.terms
