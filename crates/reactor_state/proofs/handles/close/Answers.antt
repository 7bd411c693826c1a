use Rattle.reactor_state.specs.Sound.{handle_number}
use Rattle.reactor_state.proofs.Rising.{absent_from, removed_at, removed_same}
use Rattle.reactor_state.proofs.Edits.{close_counted}
use Rattle.reactor_state.proofs.handles.close.Goals as goal

pub returns-in-Some-clause-items : goal.returns-in-Some-clause-items
returns-in-Some-clause-items c hi rising =
    removed_at handle_number hi c.args.handle.0 c.in-Some.place c.args.handles.now.items
    c.deref.result.now c.remove.new.self.items c.deref.ensures.value rising c.in-Some.ensures
    c.remove.ensures.items

pub returns-in-None-clause-items : goal.returns-in-None-clause-items
returns-in-None-clause-items c hi rising =
    removed_same handle_number hi c.args.handle.0 c.args.handles.now.items c.deref.result.now
    c.deref.ensures.value rising (absent_from handle_number c.args.handle.0 _ c.in-None.ensures)

pub returns-in-Some-clause-alive : goal.returns-in-Some-clause-alive
returns-in-Some-clause-alive c = close_counted c.in-Some.place c.args.handles.now.items
    c.deref.result.now c.remove.new.self.items c.remove.result c.deref.ensures.value
    c.in-Some.ensures.0 c.remove.ensures.value c.remove.ensures.items
