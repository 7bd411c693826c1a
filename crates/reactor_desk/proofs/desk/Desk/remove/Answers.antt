use Rattle.std.proofs.lemmas.Result.{on_ok_weaker}
use Rattle.reactor_desk.proofs.Asked.{removes}
use Rattle.reactor_desk.proofs.Marks.{core_rests, desk_keeps}
use Rattle.reactor_desk.proofs.desk.Desk.remove.Goals as goal

pub returns-clause-ok : goal.returns-clause-ok
returns-clause-ok g c = on_ok_weaker c.remove.result
    (λ r q F h o may. removes _ c.args.self.now c.remove.new.self c.remove.ensures.rest.volume q F h
    c.args.handle may o
    (r q.run F h o.core)) c.remove.ensures.ok

pub returns-clause-marks : goal.returns-clause-marks
returns-clause-marks g c = desk_keeps _ _ _ (core_rests _ _ _ c.remove.ensures.rest)

pub remove-requires : goal.remove-requires
remove-requires g c = let o = c.requires.stands in record { stands = (o.0.run, o.1, o.2, o.3.core) }

pub returns-clause-not_live : goal.returns-clause-not_live
returns-clause-not_live g c q F h o = c.remove.ensures.not_live q.run F h o.core
