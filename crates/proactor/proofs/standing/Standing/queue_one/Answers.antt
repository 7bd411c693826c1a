use Rattle.std.proofs.Common.{subst}
use Rattle.proactor.specs.Operations.{IsOp, IsOpOrNone}
use Rattle.proactor.proofs.Queueing.{reads_pushed, writes_pushed}
use Rattle.proactor.proofs.standing.Standing.queue_one.Goals as goal

pub invariant_of-self : goal.invariant_of-self
invariant_of-self c =
    let is = subst IsOp c.in-Some-Read.field-0-is (subst IsOpOrNone c.in-Some-Read.is c.requires) in (
      reads_pushed c.self.inside.reads c.push.new.self _ c.push.result c.push.ensures.ok
          c.push.ensures.err c.self.invariant.0 is.0 is.1,
      c.self.invariant.1,
      c.self.invariant.2,
    )

pub invariant_of-self-in-Some-Write : goal.invariant_of-self-in-Some-Write
invariant_of-self-in-Some-Write c =
    let is = subst IsOp c.in-Some-Write.field-0-is
    (subst IsOpOrNone c.in-Some-Write.is c.requires) in
    let pushed = writes_pushed c.self.inside.writes c.push-in-Some-Write.new.self _
    c.self.inside.sent c.push-in-Some-Write.result c.push-in-Some-Write.ensures.ok
    c.push-in-Some-Write.ensures.err c.self.invariant.1 c.self.invariant.2 is in
    (c.self.invariant.0, pushed.0, pushed.1)
