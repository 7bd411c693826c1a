use Rattle.std.proofs.Common.{List, length, false, refl, sym, ap, subst, arith}
use Rattle.ev_base.specs.Net.{Call}
use Rattle.script_net.specs.declared.player.Player.{Player}
use Rattle.ev_base.specs.Playing.{played, Plays}
use Rattle.script_net.specs.Scripts.{group_views}
use Rattle.script_net.specs.Seating.{SeatsContent}
use Rattle.script_net.specs.Player.{Stands}
use Rattle.script_net.proofs.Made.{stands_new}
use Rattle.script_net.proofs.net.ScriptNet.new.Goals as goal

pub invariant_of-result : goal.invariant_of-result
invariant_of-result c =
    let seats = c.in_ok-new.ensures in
    let player : Player = record {
      groups = c.args.groups;
      next = 0;
      now = 0;
      unwanted = c.in_ok-with_capacity.field-0;
      held = c.in_ok-with_capacity-2.field-0;
      first = 0;
      changed = false;
      passed = c.in_ok-with_capacity-3.field-0;
      reports = c.in_ok-with_capacity-4.field-0;
      seats = c.in_ok-new.field-0;
    } in
    let stands = stands_new player c.args.connections refl refl refl
    c.in_ok-with_capacity.ensures.items c.in_ok-with_capacity-2.ensures.items
    c.in_ok-with_capacity-3.ensures.items seats
    (omega (arith, c.requires.steps, c.in_ok-with_capacity.ensures.exact))
    (omega (arith, c.requires.steps, c.in_ok-with_capacity-2.ensures.exact))
    (omega (arith, c.requires.steps, c.in_ok-with_capacity-3.ensures.exact))
    (omega (arith, c.in_ok-with_capacity-4.ensures.exact)) c.requires.order c.requires.within in
    let gs = group_views c.args.groups.items in
    let made = ap (λ (s : SeatsContent). s.made) seats in
    let attached = ap (λ (s : SeatsContent). length s.seats) seats in
    record {
      stands = subst (λ (cs : List Call). Stands player (played gs cs)) (sym c.none.ensures) stands;
      plays = subst (λ (cs : List Call). Plays gs cs) (sym c.none.ensures) tt;
      to_attach = omega (arith, made);
      to_retire = omega (arith, attached, ap length c.new-2.ensures.items);
      to_turn_away = omega (arith, ap length c.new-3.ensures.items);
    }
