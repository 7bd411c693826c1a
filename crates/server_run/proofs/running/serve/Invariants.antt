use Rattle.server_run.proofs.running.serve.Given as goal

abbrev pub ghost-share : goal.ghost-share
ghost-share g a = g.terms
