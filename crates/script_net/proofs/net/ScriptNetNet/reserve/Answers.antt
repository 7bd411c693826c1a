use Rattle.std.proofs.Common.{◌∙◌, length, ap, arith}
use Rattle.ev_base.specs.Playing.{played}
use Rattle.script_net.specs.Scripts.{group_views}
use Rattle.script_net.specs.Seating.{SeatsContent}
use Rattle.script_net.proofs.StandsKept.{stands_seats}
use Rattle.script_net.proofs.net.ScriptNetNet.reserve.Goals as goal

pub invariant_of-self-2 : goal.invariant_of-self-2
invariant_of-self-2 c =
    let i = c.self.inside in
    let v = c.self.invariant in
    let p = played (group_views i.player.groups.items) i.calls in
    let same = c.reserve.ensures.same in
    let seats = ap (λ (s : SeatsContent). s.seats) same in
    let made = ap (λ (s : SeatsContent). s.made) same in
    record {
      stands = stands_seats i.player p c.reserve.new.self p.seats i.player.changed v.stands
          (seats ∙ v.stands.seats) (ap (λ (s : SeatsContent). s.marks) same) v.stands.unwanted;
      plays = v.plays;
      to_attach = omega (arith, made, c.in_ok-reserve.ensures.places);
      to_retire = omega (
        arith,
        ap length seats,
        ap length c.in_ok-reserve-3.ensures.items,
        c.in_ok-reserve-3.ensures.ok,
        c.made.ensures.few,
        c.made.ensures.made,
        c.in-Some.ensures,
      );
      to_turn_away = omega (
        arith,
        ap length c.in_ok-reserve-2.ensures.items,
        c.in_ok-reserve-2.ensures.ok,
      );
    }
