use Rattle.std.proofs.Common.{refl, subst}
use Rattle.notify_ring.specs.Passes.{HasLooked}
use Rattle.notify_ring.specs.Words.{drainer_view}
use Rattle.reactor_desk.proofs.Drained.{found_empty, has_looked, looked_none, then_drains}
use Rattle.reactor_desk.proofs.desk.Desk.drain_one.Goals as goal

pub returns-then-finds_none-clause-drains : goal.returns-then-finds_none-clause-drains
returns-then-finds_none-clause-drains g c q F h o running =
    let look = subst (λ b. HasLooked (drainer_view c.args.self.now.drainer) b
    (drainer_view c.finds_none.new.drainer)) c.if-finds_none.true c.finds_none.ensures.looked in
    found_empty _ q F h c.args.self.now _ _ refl o o.core c.finds_none.ensures.ring
    (looked_none (drainer_view c.args.self.now.drainer) (drainer_view c.finds_none.new.drainer)
    look)

pub returns-clause-drains : goal.returns-clause-drains
returns-clause-drains g c q F h o running =
    let look = subst (λ b. HasLooked (drainer_view c.args.self.now.drainer) b
    (drainer_view c.finds_none.new.drainer)) c.if-finds_none.false c.finds_none.ensures.looked
    in
    then_drains _ q F h c.args.self.now _ _ _ look
    (c.record_one.ensures.drains q F h
    (has_looked _ q F h c.args.self.now _ refl c.finds_none.ensures.ring look o) running)
