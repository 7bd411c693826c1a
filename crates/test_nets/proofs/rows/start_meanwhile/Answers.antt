use Rattle.std.proofs.Common.{Ok, ap, ◌∙◌}
use Rattle.test_nets.proofs.TwoOut.{goes_out_again, stays_out}
use Rattle.test_nets.proofs.rows.start_meanwhile.Goals as goal

pub returns-in-Ok-Some-clause-ok : goal.returns-in-Ok-Some-clause-ok
returns-in-Ok-Some-clause-ok g c =
    goes_out_again _ c.args.core.now c.start.new.self c.start.result c.in-Ok-Some.job
    c.args.done.now _ c.requires c.settled_later.ensures
    (c.in-Ok-Some.is ∙ ap Ok c.in-Ok-Some.field-0-is) c.start.ensures.ok c.run.ensures.fits
    c.run.ensures.same

pub returns-in-Ok-None-clause-ok : goal.returns-in-Ok-None-clause-ok
returns-in-Ok-None-clause-ok g c =
    stays_out _ c.args.core.now c.start.new.self c.start.result c.args.done.now c.requires
    (c.in-Ok-None.is ∙ ap Ok c.in-Ok-None.field-0-is) c.start.ensures.ok
