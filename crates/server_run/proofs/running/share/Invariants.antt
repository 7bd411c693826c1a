use Rattle.server_run.proofs.running.share.Given as goal

abbrev pub ghost-share_observed : goal.ghost-share_observed
ghost-share_observed g a = g.terms
