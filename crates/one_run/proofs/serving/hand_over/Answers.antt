use Rattle.one_run.proofs.Keeping.{handed_over}
use Rattle.one_run.proofs.serving.hand_over.Goals as goal

pub returns-in-Ok-clause-stands : goal.returns-in-Ok-clause-stands
returns-in-Ok-clause-stands g c t F h stands =
    handed_over _ t _ _ F h c.in-Ok.field-0 (c.in-Ok.ensures.ok t F h stands) stands

pub returns-in-Ok-clause-volumes : goal.returns-in-Ok-clause-volumes
returns-in-Ok-clause-volumes g c =
    (c.in-Ok.ensures.ok c.requires.0 c.requires.1 c.requires.2 c.requires.3).faults

pub returns-in-Ok-clause-net : goal.returns-in-Ok-clause-net
returns-in-Ok-clause-net g c = (c.in-Ok.ensures.ok c.requires.0 c.requires.1 c.requires.2
    c.requires.3).others.net

pub returns-in-Ok-clause-watch : goal.returns-in-Ok-clause-watch
returns-in-Ok-clause-watch g c = (c.in-Ok.ensures.ok c.requires.0 c.requires.1 c.requires.2
    c.requires.3).others.watch
