use Rattle.proactor.proofs.Cancelling.{Cancelling}
use Rattle.proactor.specs.Turns.{count_standing}
use Rattle.proactor.proofs.closing.cancel_all.Given as goal

abbrev pub invariant-loop-id : goal.invariant-loop-id
invariant-loop-id g l = Cancelling g.C.CompletionHandler.follows l.initial.standing
    l.initial.handler l.initial.sums l.standing l.handler l.sums l.cancelled

abbrev pub decreases-loop-id : goal.decreases-loop-id
decreases-loop-id g l = count_standing l.standing
