use Rattle.std.proofs.Common.{◌+◌, refl}
use Rattle.std.proofs.lemmas.Result.{IfOk-weaker, on_err_weaker}
use Rattle.reactor_model.specs.reactor_journal.specs.declared.entry.Entry.TheVariants.{Scheduled}
use Rattle.reactor_core.specs.reactor_summary.specs.Summary.{Summary}
use Rattle.reactor_desk.proofs.Asked.{goes_on, as_before}
use Rattle.reactor_desk.proofs.Marks.{core_rests, desk_keeps}
use Rattle.reactor_desk.proofs.desk.Desk.schedule.Goals as goal

pub returns-clause-ok : goal.returns-clause-ok
returns-clause-ok g c = IfOk-weaker c.schedule.result _ _
    (λ timer goes. goes_on _ c.args.self.now c.schedule.new.self c.schedule.ensures.rest.volume
    (λ (s : Summary). Scheduled timer c.args.handle (s.moment + c.args.delay) c.args.every)
    (λ s. refl) goes) c.schedule.ensures.ok

pub returns-clause-err : goal.returns-clause-err
returns-clause-err g c = on_err_weaker c.schedule.result
    (as_before _ c.args.self.now c.schedule.new.self c.schedule.ensures.rest.volume)
    c.schedule.ensures.err

pub returns-clause-marks : goal.returns-clause-marks
returns-clause-marks g c = desk_keeps _ _ _ (core_rests _ _ _ c.schedule.ensures.rest)

pub schedule-requires-clause-stands : goal.schedule-requires-clause-stands
schedule-requires-clause-stands g c = let o = c.requires.stands in (o.0.run, o.1, o.2, o.3.core)

pub returns-clause-refused : goal.returns-clause-refused
returns-clause-refused g c = c.schedule.ensures.refused

pub returns-clause-cause : goal.returns-clause-cause
returns-clause-cause g c q F h o = c.schedule.ensures.cause q.run F h o.core
