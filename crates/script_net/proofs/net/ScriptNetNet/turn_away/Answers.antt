use Rattle.std.proofs.Common.{◌≡◌, ◌∙◌, ◌∷◌, [], List, length, sym, ap, subst, arith}
use Rattle.std.proofs.lemmas.List.{length_push}
use Rattle.ev_base.specs.Terms.{StepEnd}
use Rattle.ev_base.specs.Net.{Call}
use Rattle.ev_base.specs.Playing.{played, Plays, dropped, end_of_serial}
use Rattle.script_net.specs.Scripts.{end_view, group_views}
use Rattle.script_net.specs.Seating.{SeatsContent}
use Rattle.script_net.specs.NetContent.{NetContent}
use Rattle.script_net.specs.Player.{Stands}
use Rattle.script_net.proofs.StandsKept.{stands_gone}
use Rattle.script_net.proofs.net.ScriptNetNet.turn_away.Goals as goal

pub invariant_of-self : goal.invariant_of-self
invariant_of-self c =
    let i = c.self.inside in
    let v = c.self.invariant in
    let gs = group_views i.player.groups.items in
    let p = played gs i.calls in
    let player = record i.player { seats = c.mark.new.self } in
    let end : end_view c.place.result ≡ end_of_serial c.serial-serial.result =
    c.place.ensures ∙ ap end_of_serial (sym c.serial-serial.ensures) in
    let gone = subst (λ (e : StepEnd). Stands player (dropped (e ∷ []) p)) end
    (stands_gone i.player p c.mark.new.self (end_view c.place.result) v.stands c.mark.ensures)
    in
    let made = ap (λ (s : SeatsContent). s.made) c.mark.ensures in
    let room = ap (λ (s : SeatsContent). s.room) c.mark.ensures in
    let seats = ap (λ (s : SeatsContent). length s.seats) c.mark.ensures in
    let long = ap length c.in-Ok.ensures.items ∙ length_push i.turned_away.items c.args.end in
    let spare = ap (λ (n : NetContent). n.spare) c.self.view_is in
    record {
      stands = subst (λ (cs : List Call). Stands player (played gs cs)) (sym c.add.ensures) gone;
      plays = subst (λ (cs : List Call). Plays gs cs) (sym c.add.ensures) v.plays;
      to_attach = omega (arith, v.to_attach, made, room);
      to_retire = omega (arith, v.to_retire, seats);
      to_turn_away = omega (
        arith,
        v.to_turn_away,
        long,
        c.in-Ok.ensures.capacity,
        c.requires,
        spare,
      );
    }
