use Rattle.std.proofs.Common.{None, Some, ap, refl}
use Rattle.core_loop.proofs.Idling.{any_limit, same_limit}
use Rattle.core_loop.proofs.Leading.{known_end}
use Rattle.connector_run.proofs.Ending.{ends_closed, ends_failed, ends_over, ends_wanting}
use Rattle.connector_run.proofs.Ending.{not_stopped}
use Rattle.connector_run.proofs.Waits.{asked_alive, asked_closed}
use Rattle.connector_run.proofs.running.run.Goals as goal

pub run-requires : goal.run-requires
run-requires g c =
    let r = c.requires in
    record {
      terms = r.terms;
      limit = r.limit;
      first = r.first;
      history = _;
      stands = r.stands;
      none_open = refl;
    }

pub returns-in-Enough-clause-leads : goal.returns-in-Enough-clause-leads
returns-in-Enough-clause-leads g c = λ t F wait stands fits.
    ends_closed _ t (λ up deed may. may) wait _ _ stands.settled.none_due
    (known_end _ t (Some 1) _ _ _ (Some c.run.result) _ (ap Some c.in-Enough.is)
    (c.run.ensures.leads t F _ stands fits refl))

pub returns-in-Over-clause-leads : goal.returns-in-Over-clause-leads
returns-in-Over-clause-leads g c = λ t F wait stands fits.
    ends_over _ t (λ up deed may. may) wait _ _ stands.settled.none_due
    (known_end _ t (Some 1) _ _ _ (Some c.run.result) _ (ap Some c.in-Over.is)
    (c.run.ensures.leads t F _ stands fits refl))

pub returns-in-NetFault-clause-leads : goal.returns-in-NetFault-clause-leads
returns-in-NetFault-clause-leads g c = λ t F wait stands fits.
    ends_failed _ t (λ up deed may. may) wait _ _ stands.settled.none_due
    (known_end _ t (Some 1) _ _ _ (Some c.run.result) _ (ap Some c.in-NetFault.is)
    (c.run.ensures.leads t F _ stands fits refl))

pub returns-in-NoMemory-clause-leads : goal.returns-in-NoMemory-clause-leads
returns-in-NoMemory-clause-leads g c = λ t F wait stands fits.
    ends_wanting _ t (λ up deed may. may) wait _ _ stands.settled.none_due
    (known_end _ t (Some 1) _ _ _ (Some c.run.result) _ (ap Some c.in-NoMemory.is)
    (c.run.ensures.leads t F _ stands fits refl))

pub returns-in-Enough-clause-asked : goal.returns-in-Enough-clause-asked
returns-in-Enough-clause-asked g c = λ t F wait limit stands.
    let on = returns-in-Enough-clause-leads g c t F wait stands (same_limit t None limit) in
    asked_closed _ t limit wait on.first on.history _ on.stands on.so

pub returns-in-Over-clause-asked : goal.returns-in-Over-clause-asked
returns-in-Over-clause-asked g c = λ t F wait limit stands.
    let on = returns-in-Over-clause-leads g c t F wait stands (same_limit t None limit) in
    asked_alive _ t limit wait on.first on.history _ on.stands on.so.0

pub returns-in-NetFault-clause-asked : goal.returns-in-NetFault-clause-asked
returns-in-NetFault-clause-asked g c = λ t F wait limit stands.
    let on = returns-in-NetFault-clause-leads g c t F wait stands (same_limit t None limit) in
    asked_alive _ t limit wait on.first on.history _ on.stands on.so

pub returns-in-NoMemory-clause-asked : goal.returns-in-NoMemory-clause-asked
returns-in-NoMemory-clause-asked g c = λ t F wait limit stands.
    let on = returns-in-NoMemory-clause-leads g c t F wait stands (same_limit t None limit) in
    asked_alive _ t limit wait on.first on.history _ on.stands on.so

pub unreachable-requires : goal.unreachable-requires
unreachable-requires g c =
    let r = c.requires in
    not_stopped _ r.terms (λ up deed may. may) r.wait _ _ r.stands.settled.none_due
    (known_end _ r.terms (Some 1) _ _ _ (Some c.run.result) _ (ap Some c.in-Stopped.is)
    (c.run.ensures.leads r.terms r.first _ r.stands (any_limit r.terms _ r.limit) refl))
