use Rattle.ev_base.specs.Terms.{open_terms}
use Rattle.test_nets.proofs.Beginning.{failing_begins, begun}
use Rattle.test_reactor.proofs.refusals.failing.Goals as goal

pub new-requires-2-clause-begins : goal.new-requires-2-clause-begins
new-requires-2-clause-begins c = (
  open_terms c.args.most,
  failing_begins c.new.result c.failing-net.result _ c.args.most
      c.failing-net.ensures c.new.ensures.attached c.new.ensures.failed_waits
      c.new.ensures.failed_attaches c.new-timers.ensures.timers,
)

pub returns-in-Ok : goal.returns-in-Ok
returns-in-Ok c =
    begun _ c.args.most c.in-Ok.core
    (c.in-Ok.ensures.ok (open_terms c.args.most)
    (failing_begins c.new.result c.failing-net.result _ c.args.most c.failing-net.ensures
    c.new.ensures.attached c.new.ensures.failed_waits c.new.ensures.failed_attaches
    c.new-timers.ensures.timers))
