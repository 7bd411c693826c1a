use Rattle.cmd_aio.proofs.running.serve_net.Goals as goal

pub returns-in-Err : goal.returns-in-Err
returns-in-Err g c = c.in-Err.ensures.unopened c.args.until

pub returns-in-Ok : goal.returns-in-Ok
returns-in-Ok g c = c.serve.ensures (g.K.Sink.facts c.args.output) c.in-Ok.ensures.opened
