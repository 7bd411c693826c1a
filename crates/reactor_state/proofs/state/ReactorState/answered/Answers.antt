use Rattle.reactor_state.proofs.Stepped.{none_answered, closed_answered}
use Rattle.reactor_state.proofs.state.ReactorState.answered.Goals as goal

pub returns-in-None-clause-tables : goal.returns-in-None-clause-tables
returns-in-None-clause-tables g c s hi tables rising =
    none_answered g.Q.TimerQueue.timers c.args.self.now c.args.found c.args.answer s c.in-None.is
    tables

pub returns-in-Close-clause-tables : goal.returns-in-Close-clause-tables
returns-in-Close-clause-tables g c s hi tables rising =
    closed_answered g.Q.TimerQueue.timers c.end_of.new.self c.in-Some.event c.args.found
    c.args.answer s c.in-Some.is c.in-Close.is (c.end_of.ensures.tables s hi tables rising)
