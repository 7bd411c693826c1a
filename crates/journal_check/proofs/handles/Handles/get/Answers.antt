use Rattle.std.proofs.Common.{◌==◌, List, ◌&&◌, Option, is_some, refl, sym, ap, ◌∙◌, subst}
use Rattle.std.specs.BTreeMap.{is_at}
use Rattle.std.specs.List.{list_any}
use Rattle.std.specs.Map.{lookup}
use Rattle.std.specs.Ordering.{nat_cmp}
use Rattle.reactor_summary.specs.declared.parts.LiveHandle.{LiveHandle}
use Rattle.journal_check.specs.Numbered.{handle_number, IsTheOne, passes}
use Rattle.std.specs.Option.{IfSome}
use Rattle.journal_check.proofs.Keyed.{any_looked_up}
use Rattle.journal_check.proofs.Numbered.{number_agrees, asked_of, one_or_none}
use Rattle.journal_check.proofs.handles.Handles.get.Goals as goal

pub returns-clause-asked : goal.returns-clause-asked
returns-clause-asked c q =
    ap (list_any (λ (h : LiveHandle). h.handle.0 == c.args.handle.0 && q h)) (sym c.self.view_is)
    ∙ (asked_of handle_number c.args.handle.0 q c.self.inside.live.entries c.self.invariant.ordered
    c.self.invariant.own
    ∙ ap (passes q) (sym (c.get.ensures.value)))

pub returns-clause-found : goal.returns-clause-found
returns-clause-found c =
    subst (λ (o : Option LiveHandle). IfSome o (IsTheOne c.args.handle.0 c.args.self.now))
    (sym (c.get.ensures.value))
    (subst (λ (hs : List LiveHandle). IfSome
    (lookup (is_at (nat_cmp c.args.handle.0)) c.self.inside.live.entries)
    (IsTheOne c.args.handle.0 hs)) c.self.view_is
    (one_or_none c.args.handle.0 c.self.inside.live.entries c.self.invariant
    (lookup (is_at (nat_cmp c.args.handle.0)) c.self.inside.live.entries) refl))

pub returns-clause-none : goal.returns-clause-none
returns-clause-none c q =
    ap (list_any (λ (h : LiveHandle). c.args.handle.0 == h.handle.0)) (sym c.self.view_is)
    ∙ (any_looked_up (is_at (nat_cmp c.args.handle.0))
    (λ (h : LiveHandle). c.args.handle.0 == h.handle.0) c.self.inside.live.entries
    (number_agrees handle_number c.args.handle.0 c.self.inside.live.entries
    c.self.invariant.own)
    ∙ ap is_some (sym (c.get.ensures.value) ∙ q))
