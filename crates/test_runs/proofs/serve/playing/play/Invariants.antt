use Rattle.test_runs.specs.Playing.{terms_of}
use Rattle.test_runs.proofs.serve.playing.play.Given as goal

abbrev pub ghost-serve : goal.ghost-serve
ghost-serve g a = terms_of a.asked
