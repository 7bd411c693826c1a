use Rattle.reactor_state.proofs.Edits.{suspended_set, suspended_same}
use Rattle.reactor_state.proofs.Rising.{absent_from}
use Rattle.reactor_state.specs.Sound.{handle_number}
use Rattle.reactor_state.proofs.handles.set_suspended.Goals as goal

pub returns-in-Some-clause-items : goal.returns-in-Some-clause-items
returns-in-Some-clause-items c hi rising =
    suspended_set c.args.handle.0 c.args.suspended hi c.in-Some.place c.args.handles.now.items
    c.deref.result.now c.index_mut-h.result.now c.deref.ensures.value rising c.in-Some.ensures
    c.index_mut-h.ensures.value

pub returns-in_default-clause-items : goal.returns-in_default-clause-items
returns-in_default-clause-items c hi rising =
    suspended_same c.args.handle.0 c.args.suspended hi c.args.handles.now.items c.deref.result.now
    c.deref.ensures.value rising (absent_from handle_number c.args.handle.0 _ c.in_default.ensures)
