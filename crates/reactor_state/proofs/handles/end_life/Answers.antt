use Rattle.reactor_state.proofs.Edits.{end_set, end_same, end_counted}
use Rattle.reactor_state.proofs.Rising.{absent_from}
use Rattle.reactor_state.specs.Sound.{handle_number}
use Rattle.reactor_state.proofs.handles.end_life.Goals as goal

pub returns-in-Some-clause-items : goal.returns-in-Some-clause-items
returns-in-Some-clause-items c hi rising =
    end_set c.args.handle hi c.in-Some.place c.args.handles.now.items c.deref.result.now
    c.index_mut-h.result.now c.deref.ensures.value rising c.in-Some.ensures
    c.index_mut-h.ensures.value

pub returns-in-None-clause-items : goal.returns-in-None-clause-items
returns-in-None-clause-items c hi rising =
    end_same c.args.handle hi c.args.handles.now.items c.deref.result.now c.deref.ensures.value
    rising (absent_from handle_number c.args.handle.0 _ c.in-None.ensures)

pub returns-in-Some-clause-alive : goal.returns-in-Some-clause-alive
returns-in-Some-clause-alive c = end_counted c.in-Some.place c.args.handles.now.items
    c.deref.result.now c.index_mut-h.result.now c.deref.ensures.value c.in-Some.ensures.0
    c.index_mut-h.ensures.value
