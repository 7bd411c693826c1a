use Rattle.std.proofs.Common.{not, ◌&&◌, sym, ap, ◌∙◌}
use Rattle.reactor_state.specs.Sound.{handle_number}
use Rattle.reactor_state.proofs.Lists.{passes}
use Rattle.reactor_state.proofs.Rising.{any_found}
use Rattle.reactor_state.proofs.handles.is_resumed.Goals as goal

pub returns-then-h : goal.returns-then-h
returns-then-h c hi rising =
    sym (ap (λ b. b && not c.in-Some.h.suspended) c.if-h.true)
    ∙ ap (passes (λ h. h.alive && not h.suspended)) (c.in-Some.ensures hi rising)
    ∙ sym (any_found handle_number 0 hi c.args.handle.0 (λ h. h.alive && not h.suspended)
    c.args.handles.now rising)

pub returns-else-h : goal.returns-else-h
returns-else-h c hi rising =
    c.if-h.false ∙ sym (ap (λ b. b && not c.in-Some.h.suspended) c.if-h.false)
    ∙ ap (passes (λ h. h.alive && not h.suspended)) (c.in-Some.ensures hi rising)
    ∙ sym (any_found handle_number 0 hi c.args.handle.0 (λ h. h.alive && not h.suspended)
    c.args.handles.now rising)

pub returns-in-None : goal.returns-in-None
returns-in-None c hi rising = ap (passes (λ h. h.alive && not h.suspended))
    (c.in-None.ensures hi rising) ∙ sym
    (any_found handle_number 0 hi c.args.handle.0 (λ h. h.alive && not h.suspended)
    c.args.handles.now rising)
