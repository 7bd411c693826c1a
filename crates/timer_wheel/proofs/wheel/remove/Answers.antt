use Rattle.std.proofs.Common.{length, sym, subst, arith}
use Rattle.timer_queue.specs.Timers.{in_order, without_timer}
use Rattle.timer_wheel.specs.Chains.{AreChains}
use Rattle.timer_wheel.specs.Linked.{timers_in}
use Rattle.timer_queue.proofs.Contents.{apart_removed}
use Rattle.timer_wheel.proofs.Firsts.{wheel_removed, chains_removed_in_order, first_stays, behind}
use Rattle.timer_wheel.proofs.Ticks.{none_sooner}
use Rattle.timer_wheel.proofs.wheel.remove.Goals as goal

pub take_out-requires-clause-chains : goal.take_out-requires-clause-chains
take_out-requires-clause-chains c =
    let wheel = c.requires.wheel in
    record {
      spokes = wheel.some_spokes;
      ticks = wheel.ticks;
      apart = wheel.apart;
      chains = wheel.chains;
    }

pub next_from-requires-clause-chains : goal.next_from-requires-clause-chains
next_from-requires-clause-chains c =
    let old = c.args.chains.now in
    let new = c.take_out.new.self in
    let shape = c.take_out.ensures.shape in
    record {
      spokes = omega (arith, c.requires.wheel.some_spokes, shape.spokes);
      ticks = omega (arith, c.requires.wheel.ticks, shape.ticks);
      apart = apart_removed c.args.t (timers_in old) (timers_in new) c.requires.wheel.apart
          c.take_out.ensures.timers;
      chains = subst (λ r. AreChains (length new.heads.items) r new.heads.items new.places.items
          (in_order (timers_in new))) (sym shape.ticks)
          (chains_removed_in_order (length old.heads.items) old.resolution old.heads.items
          new.heads.items old.places.items new.places.items c.args.first.now c.args.t
          c.requires.wheel c.take_out.ensures.timers
          (subst (λ r. AreChains (length new.heads.items) r new.heads.items new.places.items
          (without_timer c.args.t.timer (in_order (timers_in old)))) shape.ticks
          c.take_out.ensures.chains));
    }

pub next_from-requires-clause-from : goal.next_from-requires-clause-from
next_from-requires-clause-from c =
    let old = c.args.chains.now in
    none_sooner (length old.heads.items) old.resolution old.heads.items old.places.items
    c.take_out.new.self.places.items c.args.first.now c.args.t c.requires.wheel
    c.take_out.ensures.timers c.requires.there (sym c.if-is_behind.ensures)

pub returns-then-is_behind-clause-wheel : goal.returns-then-is_behind-clause-wheel
returns-then-is_behind-clause-wheel c =
    let old = c.args.chains.now in
    let new = c.take_out.new.self in
    let shape = c.take_out.ensures.shape in
    wheel_removed (length old.heads.items) old.resolution old.heads.items new.heads.items
    old.places.items new.places.items c.args.first.now c.args.t c.requires.wheel
    c.take_out.ensures.timers c.args.first.now shape.spokes
    (subst (λ r. AreChains (length new.heads.items) r new.heads.items new.places.items
    (without_timer c.args.t.timer (in_order (timers_in old)))) shape.ticks
    c.take_out.ensures.chains)
    (first_stays (length old.heads.items) old.resolution old.heads.items new.heads.items
    old.places.items new.places.items c.args.first.now c.args.t c.requires.wheel
    c.take_out.ensures.timers
    (λ f e. behind c.args.first.now c.args.t f (sym c.if-is_behind.ensures) e))

pub returns-clause-wheel : goal.returns-clause-wheel
returns-clause-wheel c =
    let old = c.args.chains.now in
    let new = c.take_out.new.self in
    let shape = c.take_out.ensures.shape in
    wheel_removed (length old.heads.items) old.resolution old.heads.items new.heads.items
    old.places.items new.places.items c.args.first.now c.args.t c.requires.wheel
    c.take_out.ensures.timers c.next_from.result shape.spokes
    (subst (λ r. AreChains (length new.heads.items) r new.heads.items new.places.items
    (without_timer c.args.t.timer (in_order (timers_in old)))) shape.ticks
    c.take_out.ensures.chains) c.next_from.ensures
