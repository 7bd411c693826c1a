use Rattle.std.proofs.Common.{refl}
use Rattle.ev_base.specs.Terms.{open_terms}
use Rattle.test_nets.proofs.Beginning.{round_robin_begins, begun}
use Rattle.bench_reactor.proofs.one_thread.runs.made.Goals as goal

pub new-requires-clause-begins : goal.new-requires-clause-begins
new-requires-clause-begins c = (
  open_terms c.args.handles,
  round_robin_begins c.new-net.result _ _ c.args.handles
      c.new-net.ensures.attached c.new-net.ensures.failed_waits c.new-net.ensures.failed_attaches
      c.new-timers.ensures.timers refl,
)

pub returns-in-Ok : goal.returns-in-Ok
returns-in-Ok c =
    begun _ c.args.handles c.in-Ok.core
    (c.in-Ok.ensures.ok (open_terms c.args.handles)
    (round_robin_begins c.new-net.result _ _ c.args.handles c.new-net.ensures.attached
    c.new-net.ensures.failed_waits c.new-net.ensures.failed_attaches c.new-timers.ensures.timers
    refl))
