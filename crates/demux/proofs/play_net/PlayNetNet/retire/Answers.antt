use Rattle.std.proofs.Common.{arith, rules, sym, subst, ◌≡◌, ◌<◌, length, List}
use Rattle.std.proofs.lemmas.Fn.{filter_same}
use Rattle.std.proofs.lemmas.Grind.{common_steps}
use Rattle.std.specs.List.{Contains}
use Rattle.ev_base.specs.Net.{RetiresEnd}
use Rattle.demux.specs.declared.watched.Watched.{Watched}
use Rattle.demux.specs.PlayNet.{play_net_facts, not_watching, handles_of}
use Rattle.demux.proofs.Playing.{retires_end, fewer_watched}
use Rattle.demux.proofs.play_net.PlayNetNet.retire.Goals as goal

left : (c : goal.After-add) → c.retain.new.self.items
    ≡ not_watching c.args.handle.0 c.self.inside.watched.items
left c = filter_same _ _ _ (λ x b f' k. search rules) _ _ c.retain.ensures.filtered

fewer : (c : goal.After-add) → length c.retain.new.self.items < length c.self.inside.watched.items
fewer c =
    let has : Contains (handles_of c.self.inside.watched.items) c.args.handle.0 =
    subst (λ n. Contains (handles_of n.watched) c.args.handle.0) (sym c.self.view_is) c.requires
    in
    subst (λ (ws : List Watched). length ws < length c.self.inside.watched.items) (sym (left c))
    (fewer_watched c.args.handle.0 c.self.inside.watched.items has)

pub invariant_of-self : goal.invariant_of-self
invariant_of-self c =
    let less = fewer c in (
      c.self.invariant.0,
      record {
        to_watch = omega (arith, c.retain.ensures.capacity);
        to_retire = omega (arith, c.in-Ok.ensures.capacity, c.in-Ok.ensures.len);
        to_turn_away = c.self.invariant.1.to_turn_away;
      },
    )

pub returns-clause-plays : goal.returns-clause-plays
returns-clause-plays c = let e = left c in grind (arith, common_steps, e)

pub returns-clause-retires : goal.returns-clause-retires
returns-clause-retires c =
    subst (λ n. RetiresEnd (play_net_facts c.args.self.now) c.args.handle.0 c.args.end
    (play_net_facts n)) (sym (returns-clause-plays c))
    (retires_end c.args.self.now c.args.handle c.args.end)
