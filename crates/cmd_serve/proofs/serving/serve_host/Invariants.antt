use Rattle.cmd_serve.specs.Starting.{terms_of}
use Rattle.cmd_serve.proofs.serving.serve_host.Given as goal

abbrev pub ghost-serve_given : goal.ghost-serve_given
ghost-serve_given g a = terms_of a.options (g.K.Sink.facts a.output) (g.V.Volumes.facts a.volumes)
