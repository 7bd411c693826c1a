use Rattle.std.proofs.Common.{arith, refl, ap, ◌∙◌}
use Rattle.server_run.proofs.Leaving.{leaves_unmade}
use Rattle.server_run.proofs.Registering.{open_counts}
use Rattle.server_run.specs.declared.ending.Ending.TheVariants.{NoMemory}
use Rattle.server_run.proofs.opening.open.Goals as goal

pub register-requires-clause-may : goal.register-requires-clause-may
register-requires-clause-may g c =
    let o = c.requires.start in (
      o.0,
      record {
        stands = c.in-Ok.ensures.ok o.0 o.1.begins;
        place = omega (arith, o.1.begins.terms);
        listener_keeps_terms = o.1.listener;
        idle = o.1.terms.idle;
      },
    )

pub returns-in-Ok-clause-opens : goal.returns-in-Ok-clause-opens
returns-in-Ok-clause-opens g c t o =
    c.register.ensures.opens t (record {
      stands = c.in-Ok.ensures.ok t o.begins;
      place = omega (arith, o.begins.terms);
      listener_keeps_terms = o.listener;
      idle = o.terms.idle;
    })

pub returns-in-Ok-clause-counts : goal.returns-in-Ok-clause-counts
returns-in-Ok-clause-counts g c =
    open_counts _ _ _ c.in-Ok.core c.register.result
    (record {
      waits = ap (λ n. (g.M.Net.facts n).failed_waits) c.in-Ok.ensures.parts.0;
      attaches = ap (λ n. (g.M.Net.facts n).failed_attaches) c.in-Ok.ensures.parts.0;
      volumes_faults = c.in-Ok.ensures.volumes.faults;
    })
    c.register.ensures.counts

pub returns-in-Err-clause-opens : goal.returns-in-Err-clause-opens
returns-in-Err-clause-opens g c t o =
    let same = c.leave.ensures.parts in
    leaves_unmade _ g.Q.TimerQueue.timers t c.args.asked NoMemory c.leave.result
    c.leave.ensures.named _ _ _ _ _ g.met.W.Watch.broke refl o.begins
    (ap (λ p. p.journal.entries) same ∙ c.new-in-Err.ensures)
    (ap (λ p. p.first) same)
    (ap (λ p. p.net) same ∙ c.in-Err.ensures.err.0)
    (ap (λ p. p.timers) same ∙ c.in-Err.ensures.err.1)
    (ap (λ p. p.watch) same ∙ c.in-Err.ensures.err.2)
    (ap (λ p. p.volumes) same ∙ c.in-Err.ensures.err.3)
