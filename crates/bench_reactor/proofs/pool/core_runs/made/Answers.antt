use Rattle.std.proofs.Common.{refl, []}
use Rattle.ev_base.specs.Terms.{open_terms}
use Rattle.test_nets.proofs.Beginning.{round_robin_begins}
use Rattle.bench_reactor.proofs.pool.core_runs.made.Goals as goal

pub new-requires-clause-begins : goal.new-requires-clause-begins
new-requires-clause-begins c = (
  open_terms c.args.handles,
  round_robin_begins c.new-net.result _ _ c.args.handles
      c.new-net.ensures.attached c.new-net.ensures.failed_waits c.new-net.ensures.failed_attaches
      c.new-timers.ensures.timers refl,
)

pub returns-in-Ok : goal.returns-in-Ok
returns-in-Ok c = record {
  terms = open_terms c.args.handles;
  limit = refl;
  first = 0;
  history = [];
  stands = c.in-Ok.ensures.ok (open_terms c.args.handles)
      (round_robin_begins c.new-net.result _ _ c.args.handles c.new-net.ensures.attached
      c.new-net.ensures.failed_waits c.new-net.ensures.failed_attaches c.new-timers.ensures.timers
      refl);
  none_open = refl;
}
