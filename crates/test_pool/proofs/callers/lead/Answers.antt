use Rattle.std.proofs.Common.{refl, sym, ap, ◌∙◌, subst, Some}
use Rattle.test_pool.specs.Callers.{IsOpen}
use Rattle.tp_reactor.proofs.Rounds.{job_found}
use Rattle.test_pool.proofs.Calling.{free_put}
use Rattle.test_pool.proofs.callers.lead.Goals as goal

pub returns-in-Job-clause-ok : goal.returns-in-Job-clause-ok
returns-in-Job-clause-ok g c =
    let ready = job_found _ _ _ _ _ _ c.in-Job.is c.lead.ensures.led in
    record {
      of = c.lead.ensures.of;
      base = ready.base;
      terms = subst IsOpen (sym (ap (λ v. v.terms) c.lead.ensures.led.leaves.view))
          c.requires.terms;
      own = ready.mine ∙ ap Some (sym c.run.ensures.same.event);
      fits = c.run.ensures.fits _ _ ready.fits;
    }

pub returns-in-Over-clause-err : goal.returns-in-Over-clause-err
returns-in-Over-clause-err g c = free_put _ c.args.worker.now _ _ _ _ c.requires.terms
    c.lead.ensures.of c.in-Over.ensures.led.leaves.view refl

pub returns-in-NetFault-clause-err : goal.returns-in-NetFault-clause-err
returns-in-NetFault-clause-err g c =
    free_put _ c.args.worker.now _ _ _ _ c.requires.terms c.lead.ensures.of
    c.in-NetFault.ensures.led.leaves.view refl
