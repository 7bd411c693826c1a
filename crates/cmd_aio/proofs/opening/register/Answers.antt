use Rattle.std.proofs.Common.{[], ◌∙◌, None, Some, refl}
use Rattle.cmd_aio.specs.Starting.{aio_terms, terms_bound}
use Rattle.cmd_aio.proofs.Runs.{idle_at, leaves_refused, opens, refused_for, told_refused}
use Rattle.cmd_aio.proofs.opening.register.Goals as goal

pub register-requires-clause-stands : goal.register-requires-clause-stands
register-requires-clause-stands g c =
    let r = c.requires.may in
    (terms_bound None r.0, 0, [], r.1.stands None, r.1.fits None)

pub refusal-requires : goal.refusal-requires
refusal-requires g c =
    let r = c.requires.may in
    (refused_for _ r.0 None c.args.core c.register.new.self _ c.in-Err.refused
    (c.in-Err.ensures.stands (terms_bound None r.0) 0 [] (r.1.stands None) (r.1.fits None))).0

pub finish-requires : goal.finish-requires
finish-requires g c =
    let r = c.requires.may in
    idle_at _ r.0 c.register.new.self [] (refused_for _ r.0 None c.args.core c.register.new.self _
    c.in-Err.refused
    (c.in-Err.ensures.stands (terms_bound None r.0) 0 [] (r.1.stands None) (r.1.fits None))).1 refl

pub returns-in-Ok-clause-opened : goal.returns-in-Ok-clause-opened
returns-in-Ok-clause-opened g c = λ o may.
    opens _ o c.args.core c.register.new.self _ (λ bound.
    c.in-Ok.ensures.stands (terms_bound bound o) 0 [] (may.stands bound) (may.fits bound))

pub returns-in-Ok-clause-waits : goal.returns-in-Ok-clause-waits
returns-in-Ok-clause-waits g c = c.register.ensures.rest.wait_faults ∙ c.requires.waits

pub returns-in-Err-clause-unopened : goal.returns-in-Err-clause-unopened
returns-in-Err-clause-unopened g c = λ o may.
    let r = refused_for _ o (Some None) c.args.core c.register.new.self _ c.in-Err.refused
    (c.in-Err.ensures.stands (aio_terms o) 0 [] (may.stands (Some None)) (may.fits (Some None))) in
    leaves_refused _ _ g.K.Sink.facts o c.register.new.self c.finish.result c.refusal.result _
    c.requires.attaches (c.finish.ensures (aio_terms o) 0 [] r.1 refl)
    (told_refused c.refusal.result _ _ _ c.refusal.ensures r.2)
