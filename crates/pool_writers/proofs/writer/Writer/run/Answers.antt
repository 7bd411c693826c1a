use Rattle.std.proofs.Common.{◌∙◌}
use Rattle.task_server.specs.Calls.{take_log}
use Rattle.pool_writers.proofs.Writers.{serves_more}
use Rattle.pool_writers.proofs.writer.Writer.run.Goals as goal

pub loop-preserved-in-Some-default : goal.loop-preserved-in-Some-default
loop-preserved-in-Some-default g c = (
  c.take.ensures.pool ∙ c.loop.invariant.0,
  c.take.ensures.pool ∙ c.loop.invariant.1,
  serves_more (take_log c.args.self.taker) (g.S.Service.served c.args.self.service)
      (take_log c.loop.taker) (take_log c.take.new.taker) (g.S.Service.served c.loop.service)
      (g.S.Service.served c.serve.new.self) c.in-Some-default.item c.loop.invariant.2
      c.in-Some-default.ensures.taken c.serve.ensures,
)
