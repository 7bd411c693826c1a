use Rattle.std.proofs.Common.{rules, arith, refl, ap, ◌∙◌, subst, sym, ◌≡◌, ◌<◌, not, ◌==◌, length}
use Rattle.std.proofs.Common.{List, ℕ, Some}
use Rattle.std.proofs.lemmas.Fn.{filter_same}
use Rattle.ev_base.specs.ev_types.specs.declared.upcall.Mask.{Mask}
use Rattle.ev_base.specs.Net.{without_mask}
use Rattle.one_net.specs.declared.one_end.OneEnd.{OneEnd}
use Rattle.one_net.proofs.Nets.{map-filter, fewer_masks, handles_of}
use Rattle.one_net.proofs.one_net.OneNetNet.retire.Goals as goal

pub invariant_of-self : goal.invariant_of-self
invariant_of-self g c =
    let less : length c.retain.new.self.items < length c.args.self.now.watched.items =
    subst (λ (ws : List (ℕ × Mask)). length ws < length c.args.self.now.watched.items)
    (sym (filter_same _ _ _ (λ x b f' k. search rules) _ _ c.retain.ensures.filtered))
    (fewer_masks c.args.handle.0 c.args.self.now.watched.items c.requires) in
    record {
      to_watch = omega (arith, c.retain.ensures.capacity);
      to_retire = omega (
        arith,
        c.retain.ensures.capacity,
        c.in-Ok.ensures.capacity,
        c.in-Ok.ensures.len,
      );
      to_turn_away = search rules;
    }

pub returns-clause-retires : goal.returns-clause-retires
returns-clause-retires g c =
    let left : c.retain.new.self.items
    ≡ without_mask c.args.handle.0 c.args.self.now.watched.items =
    filter_same _ _ _ (λ x b f' k. search rules) _ _ c.retain.ensures.filtered in
    record {
      attached = ap {A = List (ℕ × Mask)} handles_of left
          ∙ map-filter (λ (entry : ℕ × Mask). entry.0) (λ h. not (h == c.args.handle.0))
          c.args.self.now.watched.items;
      masks = ap {A = List (ℕ × Mask)} Some left;
      retired = ap {A = List (ℕ × OneEnd g.row.S.Denot)} Some c.in-Ok.ensures.items;
      calls = ap Some c.add.ensures;
      spare = omega arith;
      failed_waits = refl;
      failed_attaches = refl;
      now = refl;
      reports = refl;
      steady = refl;
      turned_away = refl;
    }
