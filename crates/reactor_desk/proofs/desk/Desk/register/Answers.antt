use Rattle.reactor_desk.proofs.Asked.{registers}
use Rattle.reactor_desk.proofs.Marks.{core_attaches, desk_keeps}
use Rattle.reactor_desk.proofs.desk.Desk.register.Goals as goal

pub returns-clause-gives : goal.returns-clause-gives
returns-clause-gives g c q F h o may offered =
    registers _ c.args.self.now c.register.new.self c.register.ensures.rest.volume q F h c.args.mask
    c.args.timer c.register.result
    may o (c.register.ensures.stands q.run F h o.core offered)

pub returns-clause-marks : goal.returns-clause-marks
returns-clause-marks g c = desk_keeps _ _ _ (core_attaches _ _ _ c.register.ensures.rest)

pub register-requires-clause-stands : goal.register-requires-clause-stands
register-requires-clause-stands g c = let o = c.requires.stands in
    (o.0.run, o.1, o.2, o.3.core, o.4.1)

pub returns-clause-refused : goal.returns-clause-refused
returns-clause-refused g c = c.register.ensures.refused
