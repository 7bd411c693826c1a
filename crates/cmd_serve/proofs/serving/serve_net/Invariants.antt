use Rattle.cmd_serve.proofs.serving.serve_net.Given as goal

abbrev pub ghost-serve : goal.ghost-serve
ghost-serve g a = g.terms
