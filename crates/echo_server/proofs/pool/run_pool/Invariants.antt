use Rattle.std.proofs.Common.{[], ◌∷◌}
use Rattle.echo_server.specs.Runs.{first_entry, run_terms}
use Rattle.echo_server.proofs.pool.run_pool.Given as goal

abbrev pub ghost-new : goal.ghost-new
ghost-new g a = (run_terms g.idle, first_entry ∷ [])
