use Rattle.reactor_desk.proofs.Marks.{core_attaches, desk_keeps}
use Rattle.reactor_desk.proofs.Settled.{settles_desk}
use Rattle.reactor_desk.proofs.desk.Desk.settle.Goals as goal

pub returns-clause-settles : goal.returns-clause-settles
returns-clause-settles g c q F h o fits =
    settles_desk _ q F h c.args.done c.args.self.now _ _ c.settle.ensures.rest.volume o fits
    (c.settle.ensures.stands q.run F h o.core fits)

pub returns-clause-marks : goal.returns-clause-marks
returns-clause-marks g c = desk_keeps _ _ _ (core_attaches _ _ _ c.settle.ensures.rest)

pub settle-requires : goal.settle-requires
settle-requires g c = let o = c.requires.stands in
    record { stands = (o.0.run, o.1, o.2, o.3.core, o.4) }
