use Rattle.cmd_pool.specs.Starting.{pool_terms}
use Rattle.cmd_pool.proofs.serving.serve_given.Given as goal

abbrev pub ghost-serve_observed : goal.ghost-serve_observed
ghost-serve_observed g a = pool_terms
