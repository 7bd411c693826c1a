use Rattle.reactor_state.specs.Tables.{timer_of}
use Rattle.reactor_state.proofs.Rising.{removed_at, removed_same}
use Rattle.reactor_state.proofs.armed.take_out.Goals as goal

pub returns-in-Some-clause-items : goal.returns-in-Some-clause-items
returns-in-Some-clause-items c hi rising =
    removed_at timer_of hi c.args.timer c.in-Some.place c.args.owners.now.items c.deref.result.now
    c.remove.new.self.items c.deref.ensures.value rising c.in-Some.ensures c.remove.ensures.items

pub returns-in_default-clause-items : goal.returns-in_default-clause-items
returns-in_default-clause-items c hi rising =
    removed_same timer_of hi c.args.timer c.args.owners.now.items c.deref.result.now
    c.deref.ensures.value rising c.in_default.ensures
