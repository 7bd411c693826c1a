use Rattle.std.proofs.Common.{sym, ap, ◌∙◌}
use Rattle.reactor_summary.specs.declared.parts.LiveHandle.{LiveHandle}
use Rattle.journal_check.specs.Numbered.{passes}
use Rattle.journal_check.proofs.handles.Handles.is_alive.Goals as goal

pub returns-in-Some : goal.returns-in-Some
returns-in-Some c = sym (c.get.ensures.asked (λ (h : LiveHandle). h.alive)
    ∙ ap (passes (λ (h : LiveHandle). h.alive)) c.in-Some.is)

pub returns-in-None : goal.returns-in-None
returns-in-None c = sym (c.get.ensures.asked (λ (h : LiveHandle). h.alive)
    ∙ ap (passes (λ (h : LiveHandle). h.alive)) c.in-None.is)
