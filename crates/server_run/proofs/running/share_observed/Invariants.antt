use Rattle.std.proofs.Common.{[], ◌∷◌}
use Rattle.server_run.specs.Journals.{first_entry}
use Rattle.server_run.proofs.running.share_observed.Given as goal

abbrev pub ghost-new : goal.ghost-new
ghost-new g a = (g.terms, first_entry ∷ [])
