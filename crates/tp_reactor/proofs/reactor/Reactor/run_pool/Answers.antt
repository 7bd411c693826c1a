use Rattle.std.proofs.Common.{ap, length, refl, sym, ◌∙◌, subst, arith}
use Rattle.reactor_core.specs.Polling.{FitsLimit}
use Rattle.reactor_desk.specs.declared.terms.DeskTerms.{DeskTerms}
use Rattle.tp_reactor.proofs.Pooled.{dismisses_left}
use Rattle.tp_reactor.proofs.Seats.{as_observed, cond_one, first_pool, hired_ready, may_leave}
use Rattle.tp_reactor.proofs.Seats.{over_pool, zip_many}
use Rattle.tp_reactor.proofs.reactor.Reactor.run_pool.Goals as goal

pub run_all-ran-requires-clause-ready : goal.run_all-ran-requires-clause-ready
run_all-ran-requires-clause-ready g c κs within =
    hired_ready _ _ _ _ _ _ c.requires.limit c.hire_all-hired.ensures.hired

pub dismiss_all-requires-clause-leave : goal.dismiss_all-requires-clause-leave
dismiss_all-requires-clause-leave g c κs within =
    may_leave _ _ _ _ _ _ _ 0 _ _ c.hire_all-hired.ensures.hired c.run_all-ran.ensures.back

pub dismiss_all-requires-clause-places : goal.dismiss_all-requires-clause-places
dismiss_all-requires-clause-places g c κs within =
    let observers = c.args.observers.now in
    let hired = c.hire_all-hired.result.items in
    omega (
      arith,
      zip_many _ hired c.run_all-ran.result.1.items c.run_all-ran.ensures.back,
      as_observed hired,
      ap length c.hire_all-hired.ensures.observers,
      c.hire_all-hired.ensures.capacity,
      observers.ok.0,
      observers.ok.1,
    )

pub work-requires-clause-limit : goal.work-requires-clause-limit
work-requires-clause-limit g c =
    let left = dismisses_left _ _ _ c.dismiss_all.ensures.dismisses in
    subst (λ (q : DeskTerms). FitsLimit q.run c.args.most_ms)
    (sym (left.terms ∙ (c.run_all-ran.ensures.kin.terms
    ∙ ap (λ v. v.terms) c.hire_all-hired.ensures.known))) c.requires.limit

pub work-requires-clause-room : goal.work-requires-clause-room
work-requires-clause-room g c = λ waits. let left =
    dismisses_left _ _ _ c.dismiss_all.ensures.dismisses in
    omega (arith, c.run_all-ran.ensures.room waits, ap length left.posted)

pub returns-in-Over-clause-runs : goal.returns-in-Over-clause-runs
returns-in-Over-clause-runs g c =
    over_pool _ _ _ _ _ _ _ _ _ _ _ _ _ _ _ _ _ _ _ c.hire_all-hired.ensures.known
    c.hire_all-hired.ensures.posted c.hire_all-hired.ensures.observers
    c.dismiss_all.ensures.observers c.run_all-ran.ensures.runs c.hire_all-hired.ensures.hired
    c.run_all-ran.ensures.back c.dismiss_all.ensures.dismisses c.in-Over.is c.work.ensures.runs

pub returns-in-Over-clause-once : goal.returns-in-Over-clause-once
returns-in-Over-clause-once g c =
    let left = dismisses_left _ _ _ c.dismiss_all.ensures.dismisses in
    omega (
      arith,
      c.work.ensures.once,
      c.run_all-ran.ensures.once,
      ap length left.posted,
      ap (λ p. length p.posted) c.hire_all-hired.ensures.posted,
      cond_one c.is_some-owes_notice.result,
    )

pub returns-in_default : goal.returns-in_default
returns-in_default g c =
    let left = dismisses_left _ _ _ c.dismiss_all.ensures.dismisses in
    record {
      of = c.dismiss_all.ensures.of;
      idle = c.dismiss_all.ensures.idle;
      runs = first_pool _ _ _ _ _ _ _ _ _ _ _ _ _ _ _ _ _ _ c.hire_all-hired.ensures.known
          c.hire_all-hired.ensures.posted c.hire_all-hired.ensures.observers
          c.dismiss_all.ensures.observers c.run_all-ran.ensures.runs c.hire_all-hired.ensures.hired
          c.run_all-ran.ensures.back c.dismiss_all.ensures.dismisses c.in_default.not-Over refl;
      once = omega (
        arith,
        c.run_all-ran.ensures.once,
        ap length left.posted,
        ap (λ p. length p.posted) c.hire_all-hired.ensures.posted,
        cond_one c.is_some-owes_notice.result,
      );
    }
