use Rattle.std.proofs.Common.{subst, Bool}
use Rattle.proactor.specs.Standing.{QueuesOne}
use Rattle.proactor.proofs.Queueing.{both_taken_up}
use Rattle.proactor.proofs.standing.Standing.take_up.Goals as goal

pub returns-then-queue_one : goal.returns-then-queue_one
returns-then-queue_one c =
    both_taken_up c.args.ops c.args.self.now c.queue_one.new.self
    c.queue_one-then-queue_one.new.self c.queue_one-then-queue_one.result
    (subst (λ (b : Bool). QueuesOne c.args.ops.first c.args.self.now b c.queue_one.new.self)
    c.if-queue_one.true c.queue_one.ensures) c.queue_one-then-queue_one.ensures
