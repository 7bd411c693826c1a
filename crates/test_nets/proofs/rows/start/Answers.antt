use Rattle.std.proofs.Common.{Ok, ap, ◌∙◌}
use Rattle.core_loop.proofs.Upcalls.{goes_out, stays_idle}
use Rattle.test_nets.proofs.rows.start.Goals as goal

pub returns-in-Ok-Some-clause-ok : goal.returns-in-Ok-Some-clause-ok
returns-in-Ok-Some-clause-ok g c =
    goes_out _ c.args.core.now c.start.new.self c.start.result c.in-Ok-Some.job _ c.requires
    (c.in-Ok-Some.is ∙ ap Ok c.in-Ok-Some.field-0-is) c.start.ensures.ok c.run.ensures.fits

pub returns-in-Ok-None-clause-ok : goal.returns-in-Ok-None-clause-ok
returns-in-Ok-None-clause-ok g c =
    stays_idle _ c.args.core.now c.start.new.self c.start.result c.requires
    (c.in-Ok-None.is ∙ ap Ok c.in-Ok-None.field-0-is) c.start.ensures.ok
