use Rattle.std.proofs.Common.{◌≡◌, ◌+◌, length, arith, subst}
use Rattle.reactor_core.specs.reactor_state.specs.State.{HasPlaces, IsPlaced, Shows}
use Rattle.reactor_core.specs.Stands.{meaning}
use Rattle.tp_reactor.specs.Workers.{RunsWorkers}
use Rattle.tp_reactor.proofs.Unhired.{none_hired, same_worker}
use Rattle.tp_reactor.proofs.reactor.Reactor.run_workers.Goals as goal

pub run_workers_observed-requires-clause-may : goal.run_workers_observed-requires-clause-may
run_workers_observed-requires-clause-may g c κs within =
    let may = c.requires.may in
    record {
      many = omega arith;
      few = omega (arith, may.few, may.many, c.in-Ok.ensures.all);
      is_root = may.is_root;
      idle = may.idle;
      limit = may.limit;
      room = may.room;
    }

pub returns-in-Ok-clause-runs : goal.returns-in-Ok-clause-runs
returns-in-Ok-clause-runs g c =
    let m = meaning g.H.EventHandler.means g.M.Net.facts g.M.Net.keeps (Shows g.Q.TimerQueue.timers)
    (HasPlaces g.Q.TimerQueue.spare) IsPlaced g.W.Watch.stands g.W.Watch.faults
    g.W.Watch.is_broken g.W.Watch.whole g.V.Volumes.facts in
    let many : length c.in-Ok.hired.items + 1 ≡ c.args.n =
    omega (arith, c.requires.may.many, c.in-Ok.ensures.all) in
    subst (λ n. RunsWorkers m n c.args.most_ms c.args.until c.args.root.now
    c.run_workers_observed.result c.run_workers_observed.new.root) many
    c.run_workers_observed.ensures.runs

pub returns-in-Err-clause-runs : goal.returns-in-Err-clause-runs
returns-in-Err-clause-runs g c = none_hired c.args.root.now _ _ c.args.most_ms c.args.until
    (omega (arith, c.in-Err.ensures.some))

pub returns-in-Err-clause-worker : goal.returns-in-Err-clause-worker
returns-in-Err-clause-worker g c =
    same_worker c.args.root.now _ c.requires.of c.requires.may.idle
