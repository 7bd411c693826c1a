use Rattle.ev_base.specs.Terms.{open_terms}
use Rattle.test_nets.proofs.Beginning.{begins, begun}
use Rattle.test_reactor.proofs.steps.reactor.Goals as goal

pub new-made-requires-clause-begins : goal.new-made-requires-clause-begins
new-made-requires-clause-begins c = (
  open_terms c.args.most,
  begins _ _ _ c.args.moments.items c.args.reports.items c.args.most
      c.new-net.ensures.new c.new.ensures.timers c.new-2.ensures.facts,
)

pub returns-in-Ok : goal.returns-in-Ok
returns-in-Ok c =
    begun _ c.args.most c.in-Ok.core (c.in-Ok.ensures.ok (open_terms c.args.most)
    (begins _ _ _ c.args.moments.items c.args.reports.items c.args.most c.new-net.ensures.new
    c.new.ensures.timers c.new-2.ensures.facts))
