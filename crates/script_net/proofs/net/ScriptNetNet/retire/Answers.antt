use Rattle.std.proofs.Common.{◌∙◌, List, length, sym, ap, subst, arith}
use Rattle.std.specs.List.{Contains}
use Rattle.std.proofs.lemmas.List.{length_push}
use Rattle.std.proofs.lemmas.Grind.{common_steps}
use Rattle.ev_base.specs.Net.{Call, RetiresEnd}
use Rattle.ev_base.specs.Playing.{Seat, played, Plays}
use Rattle.script_net.specs.Scripts.{end_view, group_views}
use Rattle.script_net.specs.Seating.{SeatsContent, handles_of}
use Rattle.script_net.specs.NetContent.{NetContent, script_net_facts, playing_of}
use Rattle.script_net.specs.Player.{Stands}
use Rattle.script_net.proofs.NetLemmas.{fewer, retires_end}
use Rattle.script_net.proofs.StandsKept.{stands_retired}
use Rattle.script_net.proofs.net.ScriptNetNet.retire.Goals as goal

pub invariant_of-self : goal.invariant_of-self
invariant_of-self c =
    let i = c.self.inside in
    let v = c.self.invariant in
    let gs = group_views i.player.groups.items in
    let p = played gs i.calls in
    let player = record i.player { seats = c.mark.new.self } in
    let has = subst (λ (ss : List Seat). Contains (handles_of ss) c.args.handle.0)
    (sym v.stands.seats) (subst (λ (n : NetContent).
    Contains (handles_of (playing_of n).seats) c.args.handle.0) (sym c.self.view_is) c.requires)
    in
    let less = fewer c.args.handle.0 i.player.seats.seats has in
    let gone = stands_retired i.player p c.args.handle.0 c.retire-place.new.self c.mark.new.self
    (end_view c.retire-place.result) v.stands c.retire-place.ensures.end
    c.retire-place.ensures.seats c.retire-place.ensures.rest c.mark.ensures in
    let made = ap (λ (s : SeatsContent). s.made) c.mark.ensures
    ∙ ap (λ (s : SeatsContent). s.made) c.retire-place.ensures.rest in
    let room = ap (λ (s : SeatsContent). s.room) c.mark.ensures
    ∙ ap (λ (s : SeatsContent). s.room) c.retire-place.ensures.rest in
    let seats = ap (λ (s : SeatsContent). length s.seats) c.mark.ensures
    ∙ ap length c.retire-place.ensures.seats in
    let long = ap length c.in-Ok.ensures.items
    ∙ length_push i.retired.items (c.args.handle.0, c.args.end) in
    record {
      stands = subst (λ (cs : List Call). Stands player (played gs cs)) (sym c.add.ensures) gone;
      plays = subst (λ (cs : List Call). Plays gs cs) (sym c.add.ensures) v.plays;
      to_attach = omega (arith, v.to_attach, made, room);
      to_retire = omega (arith, v.to_retire, seats, less, long, c.in-Ok.ensures.capacity);
      to_turn_away = v.to_turn_away;
    }

pub returns-clause-exactly : goal.returns-clause-exactly
returns-clause-exactly c = grind (arith, common_steps)

pub returns-clause-retires : goal.returns-clause-retires
returns-clause-retires c =
    subst (λ (n : NetContent). RetiresEnd (script_net_facts c.args.self.now) c.args.handle.0
    c.args.end (script_net_facts n)) (sym (returns-clause-exactly c))
    (retires_end c.args.self.now c.args.handle.0 c.args.end)
