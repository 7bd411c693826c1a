use Rattle.std.proofs.Common.{not, ◌&&◌, sym, ap, ◌∙◌}
use Rattle.reactor_summary.specs.declared.parts.LiveHandle.{LiveHandle}
use Rattle.journal_check.specs.Numbered.{passes}
use Rattle.journal_check.proofs.handles.Handles.is_resumed.Goals as goal

pub returns-then-h : goal.returns-then-h
returns-then-h c =
    (sym (ap (λ b. b && not c.in-Some.h.suspended) c.if-h.true)
    ∙ sym (c.get.ensures.asked (λ (h : LiveHandle). h.alive && not h.suspended)
    ∙ ap (passes (λ (h : LiveHandle). h.alive && not h.suspended)) c.in-Some.is))

pub returns-else-h : goal.returns-else-h
returns-else-h c =
    c.if-h.false
    ∙ (sym (ap (λ b. b && not c.in-Some.h.suspended) c.if-h.false)
    ∙ sym (c.get.ensures.asked (λ (h : LiveHandle). h.alive && not h.suspended)
    ∙ ap (passes (λ (h : LiveHandle). h.alive && not h.suspended)) c.in-Some.is))

pub returns-in-None : goal.returns-in-None
returns-in-None c = sym (c.get.ensures.asked (λ (h : LiveHandle). h.alive && not h.suspended)
    ∙ ap (passes (λ (h : LiveHandle). h.alive && not h.suspended)) c.in-None.is)
