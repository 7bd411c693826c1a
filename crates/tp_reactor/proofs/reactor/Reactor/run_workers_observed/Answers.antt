use Rattle.std.proofs.Common.{◌≡◌, ◌<◌, ◌+◌, ◌-◌, arith, length, refl, subst, inl, inr}
use Rattle.notify_ring.specs.Words.{poster_view}
use Rattle.reactor_core.specs.reactor_state.specs.State.{HasPlaces, IsPlaced, Shows}
use Rattle.reactor_core.specs.Stands.{meaning}
use Rattle.tp_reactor.specs.Pool.{RunsPool}
use Rattle.tp_reactor.specs.Words.{known_by, poster_of}
use Rattle.tp_reactor.specs.Workers.{worker_end}
use Rattle.tp_reactor.specs.Working.{Runs}
use Rattle.tp_reactor.proofs.Grows.{ends_with_over, runs_grow, runs_posted, runs_tell}
use Rattle.tp_reactor.proofs.Observed.{pool_runs, runs_of}
use Rattle.tp_reactor.proofs.Pooled.{pool_kin, pool_marks, pool_over, pool_posts, pool_seen}
use Rattle.tp_reactor.proofs.Pooled.{pool_tells}
use Rattle.tp_reactor.proofs.Seats.{cond_one, empty_of}
use Rattle.tp_reactor.proofs.Solo.{runs_to}
use Rattle.tp_reactor.proofs.Unhired.{none_hired, same_worker}
use Rattle.tp_reactor.proofs.reactor.Reactor.run_workers_observed.Goals as goal

-- ---- one worker

pub returns-then-many-eq0-clause-runs : goal.returns-then-many-eq0-clause-runs
returns-then-many-eq0-clause-runs g c =
    let none : 1 < length c.args.hired.now.items + 1 → ⊥ =
    λ more. omega (arith, more, c.if-many-eq0.true, c.len-many.ensures) in
    let m = meaning g.H.EventHandler.means g.M.Net.facts g.M.Net.keeps (Shows g.Q.TimerQueue.timers)
    (HasPlaces g.Q.TimerQueue.spare) IsPlaced g.W.Watch.stands g.W.Watch.faults
    g.W.Watch.is_broken g.W.Watch.whole g.V.Volumes.facts in
    let runs : Runs m c.args.most_ms c.args.until (known_by c.args.root.now)
    (poster_view (poster_of c.args.root.now)) c.work.result (known_by c.work.new.worker)
    (poster_view (poster_of c.work.new.worker)) =
    runs_of m _ _ _ _ _ _ c.work.ensures.runs in
    record {
      one = λ is. runs;
      alone = λ is none. runs_to _ _ _ _ _ _ _ _ _
          (record { terms = refl; root = c.requires.may.is_root; children = none }) runs;
      several = λ more. absurd (none more);
      over = λ is. ends_with_over _ _ c.args.until _ _ _ _ c.requires.may.idle.1
          (subst (λ r. Runs m c.args.most_ms c.args.until (known_by c.args.root.now)
          (poster_view (poster_of c.args.root.now)) r (known_by c.work.new.worker)
          (poster_view (poster_of c.work.new.worker))) is runs);
      tells = runs_tell _ _ _ _ _ _ _ _ runs;
      posts = λ more. runs_posted _ _ _ _ _ _ _ _ runs more;
    }

pub returns-then-many-eq0-clause-worker : goal.returns-then-many-eq0-clause-worker
returns-then-many-eq0-clause-worker g c =
    let grown = runs_grow _ _ _ _ _ _ _ _ (runs_of _ _ _ _ _ _ _ c.work.ensures.runs) in
    record {
      of = c.work.ensures.of;
      idle = c.work.ensures.idle;
      kin = c.work.ensures.kin;
      seen = grown.seen;
      marks = grown.marks;
      once = omega (arith, c.work.ensures.once, cond_one c.is_some-owes_notice.result);
    }

pub returns-then-many-eq0-clause-observed : goal.returns-then-many-eq0-clause-observed
returns-then-many-eq0-clause-observed g c = record {
  one = λ none. (c.work.ensures.runs, empty_of _ none);
  several = λ more. absurd (omega (arith, more, c.if-many-eq0.true, c.len-many.ensures));
}

-- ---- several

pub returns-in-Ok-clause-runs : goal.returns-in-Ok-clause-runs
returns-in-Ok-clause-runs g c =
    let same : length c.args.hired.now.items ≡ length c.args.hired.now.items + 1 - 1 =
    omega arith in
    let m = meaning g.H.EventHandler.means g.M.Net.facts g.M.Net.keeps (Shows g.Q.TimerQueue.timers)
    (HasPlaces g.Q.TimerQueue.spare) IsPlaced g.W.Watch.stands g.W.Watch.faults
    g.W.Watch.is_broken g.W.Watch.whole g.V.Volumes.facts in
    let pool : RunsPool m c.args.most_ms c.args.until (length c.args.hired.now.items)
    (known_by c.args.root.now) (poster_view (poster_of c.args.root.now))
    (worker_end c.run_pool.result c.run_pool.new.root) =
    pool_runs _ _ _ _ _ _ _ _ _ _ c.run_pool.ensures.runs in
    record {
      one = λ is. absurd (c.if-many-eq0.false (omega (arith, is, c.len-many.ensures)));
      alone = λ is none. absurd (c.if-many-eq0.false (omega (arith, is, c.len-many.ensures)));
      several = λ more. inr (subst (λ n. RunsPool m c.args.most_ms c.args.until n
          (known_by c.args.root.now) (poster_view (poster_of c.args.root.now))
          (worker_end c.run_pool.result c.run_pool.new.root)) same pool);
      over = pool_over _ _ _ _ _ _ _ pool c.requires.may.idle.1;
      tells = pool_tells _ _ _ _ _ _ _ pool;
      posts = pool_posts _ _ _ _ _ _ _ pool;
    }

pub returns-in-Ok-clause-worker : goal.returns-in-Ok-clause-worker
returns-in-Ok-clause-worker g c =
    let pool = pool_runs _ _ _ _ _ _ _ _ _ _ c.run_pool.ensures.runs in
    record {
      of = c.run_pool.ensures.of;
      idle = c.run_pool.ensures.idle;
      kin = pool_kin _ _ _ _ _ _ _ pool;
      seen = pool_seen _ _ _ _ _ _ _ pool;
      marks = pool_marks _ _ _ _ _ _ _ pool;
      once = c.run_pool.ensures.once;
    }

pub returns-in-Ok-clause-observed : goal.returns-in-Ok-clause-observed
returns-in-Ok-clause-observed g c = record {
  one = λ none. absurd (c.if-many-eq0.false (omega (arith, none, c.len-many.ensures)));
  several = λ more. inr c.run_pool.ensures.runs;
}

-- ---- none, for want of memory

pub returns-in-Err-clause-runs : goal.returns-in-Err-clause-runs
returns-in-Err-clause-runs g c = none_hired c.args.root.now _ _ c.args.most_ms c.args.until
    (omega (arith, c.if-many-eq0.false, c.len-many.ensures))

pub returns-in-Err-clause-worker : goal.returns-in-Err-clause-worker
returns-in-Err-clause-worker g c =
    same_worker c.args.root.now _ c.requires.of c.requires.may.idle

pub returns-in-Err-clause-observed : goal.returns-in-Err-clause-observed
returns-in-Err-clause-observed g c = record {
  one = λ none. absurd (c.if-many-eq0.false (omega (arith, none, c.len-many.ensures)));
  several = λ more. inl ((refl, refl, refl), refl);
}
