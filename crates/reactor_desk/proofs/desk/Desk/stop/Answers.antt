use Rattle.reactor_desk.proofs.Asked.{stops}
use Rattle.reactor_desk.proofs.Marks.{core_rests, desk_keeps}
use Rattle.reactor_desk.proofs.desk.Desk.stop.Goals as goal

pub returns-clause-stops : goal.returns-clause-stops
returns-clause-stops g c q F h o may =
    stops _ c.args.self.now c.stop.new.self c.stop.ensures.rest.volume q F h may o
    (c.stop.ensures.stands q.run F h o.core)

pub returns-clause-marks : goal.returns-clause-marks
returns-clause-marks g c = desk_keeps _ _ _ (core_rests _ _ _ c.stop.ensures.rest)

pub stop-requires : goal.stop-requires
stop-requires g c = let o = c.requires.stands in record { stands = (o.0.run, o.1, o.2, o.3.core) }
