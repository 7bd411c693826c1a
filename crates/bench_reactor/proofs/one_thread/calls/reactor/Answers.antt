use Rattle.ev_base.specs.Terms.{open_terms}
use Rattle.test_nets.proofs.Beginning.{begins, begun}
use Rattle.bench_reactor.proofs.one_thread.calls.reactor.Goals as goal

pub new-made-requires-clause-begins : goal.new-made-requires-clause-begins
new-made-requires-clause-begins c = (
  open_terms 5,
  begins _ _ _ c.args.moments.items c.args.reports.items 5 c.new.ensures.new
      c.new-2.ensures.timers c.new-4.ensures.facts,
)

pub returns-in-Ok : goal.returns-in-Ok
returns-in-Ok c =
    begun _ 5 c.in-Ok.core (c.in-Ok.ensures.ok (open_terms 5)
    (begins _ _ _ c.args.moments.items c.args.reports.items 5 c.new.ensures.new
    c.new-2.ensures.timers c.new-4.ensures.facts))
