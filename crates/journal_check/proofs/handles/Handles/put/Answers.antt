use Rattle.std.proofs.Common.{ℕ, ◌≡◌, ◌==◌, true, map, is_some, refl, sym, ap, ◌∙◌, subst, cond}
use Rattle.std.specs.BTreeMap.{is_at, insert_entry}
use Rattle.std.specs.List.{list_any}
use Rattle.std.specs.Map.{values_of, lookup}
use Rattle.std.specs.Ordering.{nat_cmp}
use Rattle.reactor_summary.specs.Tells.{Each}
use Rattle.reactor_summary.specs.declared.parts.LiveHandle.{LiveHandle}
use Rattle.journal_check.specs.Numbered.{handle_number}
use Rattle.std.proofs.lemmas.Bool.{both_ways}
use Rattle.std.proofs.lemmas.Map.Lookups.{exact_unsigned}
use Rattle.journal_check.proofs.Keyed.{each_inserted, any_looked_up}
use Rattle.journal_check.proofs.Numbered.{number_agrees, put_over, must_be_ok}
use Rattle.journal_check.proofs.handles.Handles.put.Goals as goal

entries : (c : goal.After-insert) → c.insert.new.self.entries
    ≡ insert_entry nat_cmp c.self.inside.live.entries c.args.h.handle.0 c.args.h
entries c =
    let there : is_some (lookup (is_at (nat_cmp c.args.h.handle.0)) c.self.inside.live.entries)
    ≡ true =
    sym (any_looked_up (is_at (nat_cmp c.args.h.handle.0))
    (λ (g : LiveHandle). c.args.h.handle.0 == g.handle.0) c.self.inside.live.entries
    (number_agrees handle_number c.args.h.handle.0 c.self.inside.live.entries
    c.self.invariant.own))
    ∙ (ap (list_any (λ (g : LiveHandle). c.args.h.handle.0 == g.handle.0)) c.self.view_is
    ∙ c.requires)
    in
    must_be_ok c.insert.result c.insert.ensures.absent
    (λ absent. both_ways true (sym there ∙ ap is_some absent) refl) c.insert.ensures.entries

pub invariant_of-self : goal.invariant_of-self
invariant_of-self c =
    record {
      ordered = c.insert.ensures.ordered;
      own = subst (Each (λ (e : ℕ × LiveHandle). e.0 ≡ e.1.handle.0)) (sym (entries c))
          (each_inserted (λ (e : ℕ × LiveHandle). e.0 ≡ e.1.handle.0) nat_cmp
          c.self.inside.live.entries c.args.h.handle.0 c.args.h
          (exact_unsigned c.args.h.handle.0) c.self.invariant.own refl);
    }

pub returns : goal.returns
returns c =
    ap values_of (entries c)
    ∙ (put_over handle_number c.args.h c.self.inside.live.entries c.self.invariant.ordered
    c.self.invariant.own (ap (list_any (λ (g : LiveHandle). c.args.h.handle.0 == g.handle.0))
    c.self.view_is ∙ c.requires)
    ∙ ap (map (λ (g : LiveHandle). cond (c.args.h.handle.0 == g.handle.0) c.args.h g))
    c.self.view_is)
