use Rattle.std.proofs.Common.{rules, arith, refl, ap, ◌∙◌, subst, sym, ◌≡◌, ◌<◌, not, ◌==◌, length}
use Rattle.std.proofs.Common.{List, ℕ, Some}
use Rattle.std.proofs.lemmas.Fn.{filter_same}
use Rattle.ev_base.specs.ev_types.specs.declared.upcall.Mask.{Mask}
use Rattle.ev_base.specs.Net.{without_mask}
use Rattle.dial_memory.specs.declared.mem_dial_end.MemDialEnd.{MemDialEnd}
use Rattle.dial_memory.proofs.Nets.{map-filter, fewer_masks, handles_of}
use Rattle.dial_memory.proofs.mem_dial_net.MemDialNetNet.retire.Goals as goal

fewer : (c : goal.After-add) → length c.retain.new.self.items < length c.args.self.now.watched.items
fewer c = subst (λ (ws : List (ℕ × Mask)). length ws < length c.args.self.now.watched.items)
    (sym (filter_same _ _ _ (λ x b f' k. search rules) _ _ c.retain.ensures.filtered))
    (fewer_masks c.args.handle.0 c.args.self.now.watched.items c.requires)

pub invariant_of-self-clause-to_watch : goal.invariant_of-self-clause-to_watch
invariant_of-self-clause-to_watch c = let less = fewer c in omega (arith, c.retain.ensures.capacity)

pub invariant_of-self-clause-to_retire : goal.invariant_of-self-clause-to_retire
invariant_of-self-clause-to_retire c = let less = fewer c in
    omega (arith, c.retain.ensures.capacity, c.in-Ok.ensures.capacity, c.in-Ok.ensures.len)

pub returns-clause-retires : goal.returns-clause-retires
returns-clause-retires c =
    let left : c.retain.new.self.items
    ≡ without_mask c.args.handle.0 c.args.self.now.watched.items =
    filter_same _ _ _ (λ x b f' k. search rules) _ _ c.retain.ensures.filtered in
    record {
      attached = ap {A = List (ℕ × Mask)} handles_of left
          ∙ map-filter (λ (entry : ℕ × Mask). entry.0) (λ h. not (h == c.args.handle.0))
          c.args.self.now.watched.items;
      masks = ap {A = List (ℕ × Mask)} Some left;
      retired = ap {A = List (ℕ × MemDialEnd)} Some c.in-Ok.ensures.items;
      calls = ap Some c.add.ensures;
      spare = omega arith;
      failed_waits = refl;
      failed_attaches = refl;
      now = refl;
      reports = refl;
      steady = refl;
      turned_away = refl;
    }
