use Rattle.std.proofs.Common.{sym, subst}
use Rattle.proactor.specs.declared.sums.Sums.{Sums}
use Rattle.proactor.proofs.Cancelling.{Cancelling, cancelling_all, cancelling_more, cancelling_none}
use Rattle.proactor.proofs.closing.cancel_all.Goals as goal

pub loop-id-init : goal.loop-id-init
loop-id-init g c = cancelling_none g.C.CompletionHandler.follows _ _ _

pub loop-id-preserved : goal.loop-id-preserved
loop-id-preserved g c = subst (λ (s : Sums). Cancelling g.C.CompletionHandler.follows
    c.args.standing.now c.args.handler.now c.args.sums.now c.take_out.new.self
    c.cancel.new.handler s c.saturating_add-cancelled.result) (sym c.complete.ensures)
    (cancelling_more g.C.CompletionHandler.follows c.args.standing.now c.args.handler.now
    c.args.sums.now c.loop-id.standing c.take_out.new.self c.loop-id.handler c.cancel.new.handler
    c.loop-id.sums c.loop-id.cancelled c.saturating_add-cancelled.result c.in-Some.id
    c.loop-id.invariant c.in-Some.ensures c.cancel.ensures c.saturating_add-cancelled.ensures)

pub returns : goal.returns
returns g c = cancelling_all g.C.CompletionHandler.follows c.args.standing.now c.args.handler.now
    c.args.sums.now c.loop-id.standing c.take_out.new.self c.loop-id.handler c.loop-id.sums
    c.loop-id.cancelled c.loop-id.invariant c.in_default.ensures
