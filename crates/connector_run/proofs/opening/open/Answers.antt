use Rattle.std.proofs.Common.{subst, ◌∙◌}
use Rattle.std.proofs.lemmas.Result.{IfErr-weaker, IfOk-weaker}
use Rattle.connector_run.specs.Opening.{OpenHasCause}
use Rattle.connector_run.proofs.Beginning.{begins}
use Rattle.connector_run.proofs.opening.open.Goals as goal

pub register-requires-clause-may : goal.register-requires-clause-may
register-requires-clause-may g c =
    let r = c.requires.begins in (
      r.0,
      r.1,
      record {
        terms = r.2.terms;
        stands = c.in-Ok.ensures.ok r.0 (begins r.0 _ _ _ r.2.terms r.2.fresh r.2.kept
            c.new-timers.ensures.timers);
        fits = r.2.fits_none;
      },
    )

pub returns-in-Ok-clause-opened : goal.returns-in-Ok-clause-opened
returns-in-Ok-clause-opened g c = IfOk-weaker c.register.result _ _ (λ core held. λ t can.
    held t (record {
      terms = can.terms;
      stands = c.in-Ok.ensures.ok t (begins t _ _ _ can.terms can.fresh can.kept
          c.new-timers.ensures.timers);
      fits = can.fits_none;
    })) c.register.ensures.opened

pub returns-in-Ok-clause-unopened : goal.returns-in-Ok-clause-unopened
returns-in-Ok-clause-unopened g c = IfErr-weaker c.register.result _ _ (λ left held. λ t can.
    held t (record {
      terms = can.terms;
      stands = c.in-Ok.ensures.ok t (begins t _ _ _ can.terms can.fresh can.kept
          c.new-timers.ensures.timers);
      fits = can.fits_none;
    })) c.register.ensures.unopened

pub returns-in-Ok-clause-cause : goal.returns-in-Ok-clause-cause
returns-in-Ok-clause-cause g c = IfErr-weaker c.register.result _ _ (λ left held.
    subst (λ net. OpenHasCause left.why (g.M.Net.facts net).failed_attaches
    (g.M.Net.facts left.net).failed_attaches) c.in-Ok.ensures.parts.0 held)
    c.register.ensures.cause

pub returns-in-Ok-clause-volume : goal.returns-in-Ok-clause-volume
returns-in-Ok-clause-volume g c = IfOk-weaker c.register.result _ _ (λ core held.
    held ∙ c.in-Ok.ensures.volume ∙ c.volume_size-volume.ensures.size) c.register.ensures.volume
