use Rattle.std.proofs.Common.{arith, ap, length, refl}
use Rattle.notify_ring.specs.Words.{poster_view}
use Rattle.tp_reactor.specs.Observed.{loop_of}
use Rattle.tp_reactor.proofs.Observed.{begin_rounds, go_round, end_rounds}
use Rattle.tp_reactor.proofs.Rounds.{led_kin, kin_then}
use Rattle.tp_reactor.proofs.reactor.Reactor.work.Goals as goal

pub loop-init : goal.loop-init
loop-init g c = record {
  can = tt;
  finite = tt;
  of = c.lead-led.ensures.of;
  kin = led_kin _ _ _ c.args.most_ms c.lead-led.result c.lead-led.ensures.led;
  rounds = begin_rounds _ _ c.args.most_ms c.args.until
      (loop_of c.args.worker.now c.args.observer.now)
      (loop_of c.lead-led.new.worker c.args.observer.now) c.lead-led.result
      (ap poster_view c.lead-led.ensures.poster) refl c.lead-led.ensures.led;
  room = λ w. omega (
    arith,
    c.requires.room w,
    ap (λ p. length (poster_view p).posted) c.lead-led.ensures.poster,
  );
  once = omega (arith, ap (λ p. length (poster_view p).posted) c.lead-led.ensures.poster);
}

pub loop-preserved : goal.loop-preserved
loop-preserved g c = record {
  can = tt;
  finite = tt;
  of = c.round.ensures.of;
  kin = kin_then _ _ _ c.loop.invariant.kin c.round.ensures.kin;
  rounds = go_round _ _ c.args.most_ms c.args.until _ _ _ c.loop.led c.in-Ok.next
      c.loop.invariant.rounds c.in-Ok.ensures.goes;
  room = c.round.ensures.room;
  once = omega (arith, c.loop.invariant.once, c.round.ensures.once);
}

pub returns-in-Err-clause-runs : goal.returns-in-Err-clause-runs
returns-in-Err-clause-runs g c = end_rounds _ _ c.args.most_ms c.args.until _ _ _ c.loop.led
    c.in-Err.ran c.loop.invariant.rounds c.in-Err.ensures.goes
