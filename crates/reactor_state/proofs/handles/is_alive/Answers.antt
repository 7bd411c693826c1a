use Rattle.std.proofs.Common.{sym, ap, ◌∙◌}
use Rattle.reactor_state.specs.Sound.{handle_number}
use Rattle.reactor_state.proofs.Lists.{passes}
use Rattle.reactor_state.proofs.Rising.{any_found}
use Rattle.reactor_state.proofs.handles.is_alive.Goals as goal

pub returns-in-Some : goal.returns-in-Some
returns-in-Some c hi rising = ap (passes (λ h. h.alive)) (c.in-Some.ensures hi rising)
    ∙ sym (any_found handle_number 0 hi c.args.handle.0 (λ h. h.alive) c.args.handles.now rising)

pub returns-in-None : goal.returns-in-None
returns-in-None c hi rising = ap (passes (λ h. h.alive)) (c.in-None.ensures hi rising)
    ∙ sym (any_found handle_number 0 hi c.args.handle.0 (λ h. h.alive) c.args.handles.now rising)
