use Rattle.reactor_state.proofs.Fewer.{has_fewer}
use Rattle.std.proofs.Common.{refl, arith}
use Rattle.reactor_core.proofs.PollDue.{dues_begin, dues_may, may_take, dues_go_on, dues_stop}
use Rattle.reactor_core.proofs.PollDue.{dues_all}
use Rattle.reactor_core.proofs.Frames.{rest_begins, rest_goes_on}
use Rattle.reactor_core.proofs.reactor.Core.take_dues.Goals as goal

pub loop-left-init : goal.loop-left-init
loop-left-init g c = record {
  dues =
      λ t F h s events pending k. dues_begin _ t c.args.self.now F s c.args.most events h pending k;
  net = refl;
  rest = rest_begins _ _;
}

pub due-requires-clause-can : goal.due-requires-clause-can
due-requires-clause-can g c =
    let o = c.requires.taking in
    (dues_may _ o.0 c.loop-left.self o.1 o.3 c.loop-left.left o.4 o.2 o.5
    (has_fewer g.Q.TimerQueue.spare) (omega (arith, c.loop-left-test.true))
    (c.loop-left.invariant.dues o.0 o.1 o.2 o.3 o.4 o.5 o.6)).can

pub due-requires-clause-room : goal.due-requires-clause-room
due-requires-clause-room g c =
    let o = c.requires.taking in
    (dues_may _ o.0 c.loop-left.self o.1 o.3 c.loop-left.left o.4 o.2 o.5
    (has_fewer g.Q.TimerQueue.spare) (omega (arith, c.loop-left-test.true))
    (c.loop-left.invariant.dues o.0 o.1 o.2 o.3 o.4 o.5 o.6)).place

pub append-requires : goal.append-requires
append-requires g c =
    let o = c.requires.taking in
    (dues_may _ o.0 c.loop-left.self o.1 o.3 c.loop-left.left o.4 o.2 o.5
    (has_fewer g.Q.TimerQueue.spare) (omega (arith, c.loop-left-test.true))
    (c.loop-left.invariant.dues o.0 o.1 o.2 o.3 o.4 o.5 o.6)).spare

pub returns-in_default-clause-dues : goal.returns-in_default-clause-dues
returns-in_default-clause-dues g c t F h s events pending k =
    dues_stop _ t c.loop-left.self _ F s _ events (has_fewer g.Q.TimerQueue.spare) h pending
    (record {
      same = refl;
      none = c.in_default.ensures.none;
      state = c.in_default.ensures.unchanged;
      places = c.in_default.ensures.unused;
    })
    (may_take _ t c.loop-left.self F s c.loop-left.left events h pending
    (omega (arith, c.loop-left-test.true))
    (c.loop-left.invariant.dues t F h s events pending k))

pub loop-left-preserved : goal.loop-left-preserved
loop-left-preserved g c = record {
  dues = λ t F h s events pending k.
      dues_go_on _ t c.loop-left.self _ F s _ events h pending c.in-Some.timer (record {
        appends = record {
          most = refl;
          first = refl;
          journal = c.append.ensures.entries;
          watch = c.append.ensures.watch;
          volumes = refl;
          marks = (refl, refl);
        };
        spare = c.append.ensures.spare;
        repo = refl;
        net = refl;
        first = c.in-Some.ensures.first;
        state = c.in-Some.ensures.steps;
        places = c.in-Some.ensures.places;
      }) (may_take _ t c.loop-left.self F s c.loop-left.left events h pending
      (omega (arith, c.loop-left-test.true))
      (c.loop-left.invariant.dues t F h s events pending k));
  net = c.loop-left.invariant.net;
  rest = rest_goes_on c.loop-left.invariant.rest
      (record {
        volume = refl;
        marks = refl;
        volumes = refl;
        wait_faults = refl;
        attach_faults = refl;
        watch = c.append.ensures.goes_on;
      });
}

pub returns-clause-dues : goal.returns-clause-dues
returns-clause-dues g c t F h s events pending k =
    dues_all _ t c.loop-left.self F s c.loop-left.left events h pending
    (omega (arith, c.loop-left-test.false))
    (c.loop-left.invariant.dues t F h s events pending k)
