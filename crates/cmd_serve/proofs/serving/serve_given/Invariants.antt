use Rattle.std.proofs.Common.{Some}
use Rattle.cmd_serve.proofs.serving.serve_given.Given as goal

-- the sink that writes behind begins with what the output tells, and with its queue
abbrev pub ghosts-serve_behind : goal.ghosts-serve_behind
ghosts-serve_behind g a = record {
  facts = g.K.Sink.facts a.output;
  consumer = Some a.queue.consumer;
}

abbrev pub ghost-serve_behind : goal.ghost-serve_behind
ghost-serve_behind g a = g.terms

abbrev pub ghost-serve_net : goal.ghost-serve_net
ghost-serve_net g a = g.terms
