use Rattle.std.proofs.Common.{[]}
use Rattle.echo_server.proofs.Runs.{caused, idle_at, idle_opened, opened, refused_for}
use Rattle.echo_server.proofs.opening.register.Goals as goal

pub refusal-requires : goal.refusal-requires
refusal-requires g c =
    let r = c.requires in
    (refused_for _ _ c.args.core c.register.new.self _ c.in-Err.refused
    (c.in-Err.ensures.stands _ 0 [] r.stands r.fits)).0

pub close-requires : goal.close-requires
close-requires g c =
    let r = c.requires in
    idle_at _ _ c.register.new.self (refused_for _ _ c.args.core c.register.new.self _
    c.in-Err.refused
    (c.in-Err.ensures.stands _ 0 [] r.stands r.fits)).1

pub returns-in-Ok-clause-opened : goal.returns-in-Ok-clause-opened
returns-in-Ok-clause-opened g c =
    let r = c.requires in
    opened _ _ c.args.core c.register.new.self _
    (c.in-Ok.ensures.stands _ 0 [] r.stands r.fits)

pub returns-in-Ok-clause-idle : goal.returns-in-Ok-clause-idle
returns-in-Ok-clause-idle g c =
    let r = c.requires in
    idle_opened _ _ c.register.new.self (opened _ _ c.args.core c.register.new.self _
    (c.in-Ok.ensures.stands _ 0 [] r.stands r.fits))

pub returns-in-Err-clause-cause : goal.returns-in-Err-clause-cause
returns-in-Err-clause-cause g c =
    let r = c.requires in
    caused c.refusal.result _ _ _ _ c.refusal.ensures c.close.ensures.attaches
    (refused_for _ _ c.args.core c.register.new.self _ c.in-Err.refused
    (c.in-Err.ensures.stands _ 0 [] r.stands r.fits)).2
