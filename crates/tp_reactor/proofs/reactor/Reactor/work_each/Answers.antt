use Rattle.tp_reactor.specs.Hired.{IsBack}
use Rattle.tp_reactor.proofs.Seats.{zip_of, pair_at}
use Rattle.tp_reactor.proofs.reactor.Reactor.work_each.Goals as goal

pub returns : goal.returns
returns g c = zip_of (IsBack _ _ _ _ _) _ _ c.for_each_mut.auto.s (λ i d low.
    let each = (c.for_each_mut.ensures i d low).1 in
    pair_at (IsBack _ _ _ _ _) _ _ _ _ each.argument_is each.left each.call)
