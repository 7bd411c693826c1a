use Rattle.std.proofs.Common.{refl}
use Rattle.std.proofs.lemmas.Result.{on_ok_weaker, on_err_weaker}
use Rattle.reactor_model.specs.reactor_journal.specs.declared.entry.Entry.TheVariants.{Resumed}
use Rattle.reactor_core.specs.reactor_summary.specs.Summary.{Summary}
use Rattle.reactor_desk.proofs.Asked.{goes_on, as_before}
use Rattle.reactor_desk.proofs.Marks.{core_rests, desk_keeps}
use Rattle.reactor_desk.proofs.desk.Desk.resume.Goals as goal

pub returns-clause-ok : goal.returns-clause-ok
returns-clause-ok g c = on_ok_weaker c.resume.result
    (goes_on _ c.args.self.now c.resume.new.self c.resume.ensures.rest.volume
    (λ (s : Summary). Resumed c.args.handle)
    (λ s. refl)) c.resume.ensures.ok

pub returns-clause-err : goal.returns-clause-err
returns-clause-err g c = on_err_weaker c.resume.result
    (as_before _ c.args.self.now c.resume.new.self c.resume.ensures.rest.volume)
    c.resume.ensures.err

pub returns-clause-marks : goal.returns-clause-marks
returns-clause-marks g c = desk_keeps _ _ _ (core_rests _ _ _ c.resume.ensures.rest)

pub resume-requires : goal.resume-requires
resume-requires g c = let o = c.requires.stands in record { stands = (o.0.run, o.1, o.2, o.3.core) }

pub returns-clause-refused : goal.returns-clause-refused
returns-clause-refused g c = c.resume.ensures.refused

pub returns-clause-cause : goal.returns-clause-cause
returns-clause-cause g c q F h o = c.resume.ensures.cause q.run F h o.core
