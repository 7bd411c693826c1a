use Rattle.std.proofs.Common.{subst, true, false}
use Rattle.reactor_model.specs.reactor_journal.specs.Past.{past_of}
use Rattle.reactor_summary.specs.Summary.{summary}
use Rattle.reactor_core.specs.Acting.{CanInstall}
use Rattle.reactor_core.proofs.Refused.{may_after, installs_refused, installs_registered, rose_to}
use Rattle.reactor_core.proofs.Frames.{attaching_of, attaching_goes_on}
use Rattle.reactor_core.proofs.reactor.Core.install.Goals as goal

pub refuse-requires : goal.refuse-requires
refuse-requires g c =
    let o = c.requires.stands in
    let cause = subst (CanInstall o.0.most (summary (past_of o.2))) c.if-not-can_install.true
    (c.can_install.ensures o.0 o.1 o.2 o.3.tracks) in
    record { may = (o.0, o.1, o.2, record { stands = o.3; offered = o.4; may = cause }) }

pub returns-then-not-can_install-clause-stands : goal.returns-then-not-can_install-clause-stands
returns-then-not-can_install-clause-stands g c t F h st offered =
    let cause = subst (CanInstall t.most (summary (past_of h))) c.if-not-can_install.true
    (c.can_install.ensures t F h st.tracks) in
    let r = c.refuse.ensures.stands t F h (record { stands = st; offered = offered; may = cause })
    in
    installs_refused _ t c.args.self.now _ F h c.args.mask c.args.timer false r.0 cause
    (λ q. c.refuse.ensures.rest.attach_faults) r.1

pub admit-requires-clause-stands : goal.admit-requires-clause-stands
admit-requires-clause-stands g c =
    let o = c.requires.stands in
    let place = subst (CanInstall o.0.most (summary (past_of o.2))) c.if-not-can_install.false
    (c.can_install.ensures o.0 o.1 o.2 o.3.tracks) in
    (o.0, o.1, o.2, record { stands = o.3; place = place; offered = o.4 })

pub refuse-requires-in-Err : goal.refuse-requires-in-Err
refuse-requires-in-Err g c =
    let o = c.requires.stands in
    let place = subst (CanInstall o.0.most (summary (past_of o.2))) c.if-not-can_install.false
    (c.can_install.ensures o.0 o.1 o.2 o.3.tracks) in
    let gives = c.in-Err.ensures.stands o.0 o.1 o.2
    (record { stands = o.3; place = place; offered = o.4 }) in
    record {
      may = (
        o.0,
        o.1,
        o.2,
        record {
          stands = gives.0;
          offered = gives.1;
          may =
              may_after _ o.0 c.args.self.now c.args.self.now o.1 o.2 c.admit.new.self
              c.in-Err.ensures.leaves.1.0.rose o.3;
        },
      );
    }

pub returns-in-Ok-clause-stands : goal.returns-in-Ok-clause-stands
returns-in-Ok-clause-stands g c t F h st offered =
    let place = subst (CanInstall t.most (summary (past_of h))) c.if-not-can_install.false
    (c.can_install.ensures t F h st.tracks) in
    let gives = c.in-Ok.ensures.stands t F h
    (record { stands = st; place = place; offered = offered }) in
    installs_registered _ t c.args.self.now _ F h c.args.mask c.args.timer c.in-Ok.field-0 gives.0
    place c.in-Ok.ensures.leaves gives.1

pub returns-in-Err-clause-stands : goal.returns-in-Err-clause-stands
returns-in-Err-clause-stands g c t F h st offered =
    let place = subst (CanInstall t.most (summary (past_of h))) c.if-not-can_install.false
    (c.can_install.ensures t F h st.tracks) in
    let gives = c.in-Err.ensures.stands t F h
    (record { stands = st; place = place; offered = offered }) in
    let rose = c.in-Err.ensures.leaves.1.0.rose in
    let r = c.refuse-in-Err.ensures.stands t F h
    (record {
      stands = gives.0;
      offered = gives.1;
      may = may_after _ t c.args.self.now c.args.self.now F h c.admit.new.self rose st;
    }) in
    installs_refused _ t c.args.self.now _ F h c.args.mask c.args.timer true r.0
    (place, rose_to _ _ _ c.refuse-in-Err.ensures.rest.attach_faults rose) (λ q. absurd cc) r.1

pub returns-then-not-can_install-clause-rest : goal.returns-then-not-can_install-clause-rest
returns-then-not-can_install-clause-rest g c = attaching_of c.refuse.ensures.rest

pub returns-in-Ok-clause-rest : goal.returns-in-Ok-clause-rest
returns-in-Ok-clause-rest g c = c.in-Ok.ensures.rest

pub returns-in-Err-clause-rest : goal.returns-in-Err-clause-rest
returns-in-Err-clause-rest g c = attaching_goes_on c.in-Err.ensures.rest
    (attaching_of c.refuse-in-Err.ensures.rest)
