use Rattle.std.proofs.Common.{ℕ, ◌≡◌, ◌==◌, not, sym, ap, ◌∙◌, subst}
use Rattle.std.specs.BTreeMap.{is_at}
use Rattle.std.specs.List.{filter}
use Rattle.std.specs.Map.{values_of, lookup}
use Rattle.std.specs.Ordering.{nat_cmp}
use Rattle.reactor_summary.specs.Tells.{Each}
use Rattle.reactor_summary.specs.declared.parts.LiveHandle.{LiveHandle}
use Rattle.journal_check.specs.Numbered.{handle_number}
use Rattle.journal_check.proofs.Keyed.{values_removed, each_removed}
use Rattle.journal_check.proofs.Numbered.{number_agrees}
use Rattle.journal_check.proofs.handles.Handles.close.Goals as goal

pub invariant_of-self : goal.invariant_of-self
invariant_of-self c =
    record {
      ordered = c.remove.ensures.ordered;
      own = subst (Each (λ (e : ℕ × LiveHandle). e.0 ≡ e.1.handle.0)) (sym c.remove.ensures.entries)
          (each_removed (λ (e : ℕ × LiveHandle). e.0 ≡ e.1.handle.0)
          (is_at (nat_cmp c.args.handle.0)) c.self.inside.live.entries c.self.invariant.own);
    }

pub returns : goal.returns
returns c =
    ap values_of c.remove.ensures.entries
    ∙ (values_removed (is_at (nat_cmp c.args.handle.0))
    (λ (h : LiveHandle). c.args.handle.0 == h.handle.0) c.self.inside.live.entries
    (number_agrees handle_number c.args.handle.0 c.self.inside.live.entries
    c.self.invariant.own)
    (ap (lookup (is_at (nat_cmp c.args.handle.0))) (sym c.remove.ensures.entries)
    ∙ c.remove.ensures.updates.1)
    ∙ ap (filter (λ (h : LiveHandle). not (c.args.handle.0 == h.handle.0))) c.self.view_is)
