use Rattle.std.proofs.Common.{sym, ◌==◌}
use Rattle.reactor_state.specs.Sound.{handle_number}
use Rattle.reactor_state.proofs.Lists.{find_absent}
use Rattle.reactor_state.proofs.Rising.{absent_from, find_at}
use Rattle.reactor_state.proofs.handles.find_live.Goals as goal

pub returns-in-Some : goal.returns-in-Some
returns-in-Some c hi rising = sym (find_at handle_number 0 hi c.args.handle.0 c.in-Some.place
    c.args.handles.now _ rising c.in-Some.ensures.0 (c.in-Some.ensures.1 _))

pub returns-in-None : goal.returns-in-None
returns-in-None c hi rising = sym (find_absent (λ h. h.handle.0 == c.args.handle.0)
    c.args.handles.now (absent_from handle_number c.args.handle.0 _ c.in-None.ensures hi rising))
