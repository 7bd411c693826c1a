use Rattle.cmd_serve.proofs.serving.serve_behind.Given as goal

abbrev pub ghost-serve_net : goal.ghost-serve_net
ghost-serve_net g a = g.terms
