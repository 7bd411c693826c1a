use Rattle.std.proofs.Common.{◌&&◌, sym, ap, ◌∙◌}
use Rattle.reactor_journal.specs.Past as P
use Rattle.reactor_summary.specs.declared.parts.LiveHandle.{LiveHandle}
use Rattle.journal_check.specs.Numbered.{passes}
use Rattle.journal_check.proofs.handles.Handles.is_wanted.Goals as goal

pub returns-then-h : goal.returns-then-h
returns-then-h c =
    c.has_kind.ensures ∙ (sym (ap (λ b. b && P.has_kind c.in-Some.h.mask c.args.kind) c.if-h.true)
    ∙ sym (c.get.ensures.asked (λ (h : LiveHandle). h.alive && P.has_kind h.mask c.args.kind)
    ∙ ap (passes (λ (h : LiveHandle). h.alive && P.has_kind h.mask c.args.kind)) c.in-Some.is))

pub returns-else-h : goal.returns-else-h
returns-else-h c =
    c.if-h.false
    ∙ (sym (ap (λ b. b && P.has_kind c.in-Some.h.mask c.args.kind) c.if-h.false)
    ∙ sym (c.get.ensures.asked (λ (h : LiveHandle). h.alive && P.has_kind h.mask c.args.kind)
    ∙ ap (passes (λ (h : LiveHandle). h.alive && P.has_kind h.mask c.args.kind)) c.in-Some.is))

pub returns-in-None : goal.returns-in-None
returns-in-None c = sym (c.get.ensures.asked
    (λ (h : LiveHandle). h.alive && P.has_kind h.mask c.args.kind)
    ∙ ap (passes (λ (h : LiveHandle). h.alive && P.has_kind h.mask c.args.kind)) c.in-None.is)
