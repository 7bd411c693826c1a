use Rattle.std.proofs.Common.{ℕ, ◌≡◌, ◌<◌, List, [], ◌∷◌, ◌++◌, refl, sym, ap, ◌∙◌, subst}
use Rattle.std.specs.Map.{values_of}
use Rattle.std.specs.Ordering.{nat_cmp}
use Rattle.reactor_summary.specs.Tells.{Each}
use Rattle.reactor_summary.specs.declared.parts.LiveHandle.{LiveHandle}
use Rattle.journal_check.specs.Numbered.{handle_number}
use Rattle.std.proofs.lemmas.Map.Lookups.{exact_unsigned}
use Rattle.journal_check.proofs.Keyed.{each_inserted}
use Rattle.journal_check.proofs.Numbered.{put_last}
use Rattle.journal_check.proofs.handles.Handles.push.Goals as goal

pub invariant_of-self-2 : goal.invariant_of-self-2
invariant_of-self-2 c =
    record {
      ordered = c.in_ok-insert.ensures.ordered;
      own = subst (Each (λ (e : ℕ × LiveHandle). e.0 ≡ e.1.handle.0))
          (sym c.in_ok-insert.ensures.entries)
          (each_inserted (λ (e : ℕ × LiveHandle). e.0 ≡ e.1.handle.0) nat_cmp
          c.self.inside.live.entries c.args.h.handle.0 c.args.h
          (exact_unsigned c.args.h.handle.0) c.self.invariant.own refl);
    }

pub returns : goal.returns
returns c below =
    ap values_of c.in_ok-insert.ensures.entries
    ∙ (put_last handle_number c.args.h c.self.inside.live.entries c.self.invariant.own
    (subst (Each (λ (g : LiveHandle). g.handle.0 < c.args.h.handle.0)) (sym c.self.view_is)
    below)
    ∙ ap (λ (hs : List LiveHandle). hs ++ c.args.h ∷ []) c.self.view_is)
