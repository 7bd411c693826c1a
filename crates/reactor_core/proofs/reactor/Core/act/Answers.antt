use Rattle.std.proofs.Common.{refl, subst, ap, ◌∙◌, Some}
use Rattle.reactor_model.specs.reactor_journal.specs.Past.{past_of}
use Rattle.reactor_state.proofs.Fewer.{has_fewer}
use Rattle.reactor_core.specs.Settling.{act_places}
use Rattle.reactor_core.specs.Acting.{FitsAct}
use Rattle.reactor_core.proofs.Registered.{plain_of}
use Rattle.reactor_core.proofs.ActsOf.{acts_none, acts_install, acts_mask, acts_cancel, acts_stop}
use Rattle.reactor_core.proofs.Frames.{rest_begins, attaching_of}
use Rattle.reactor_core.proofs.reactor.Core.act.Goals as goal

pub returns-in-None-clause-stands : goal.returns-in-None-clause-stands
returns-in-None-clause-stands g c t F h st fits =
    acts_none _ t c.args.self.now _ F h c.args.handle c.args.act c.in-None.is refl
    (plain_of _ (has_fewer g.Q.TimerQueue.spare) 4 act_places t c.args.self.now F h st)

pub returns-in-Some-Install-clause-stands : goal.returns-in-Some-Install-clause-stands
returns-in-Some-Install-clause-stands g c t F h st fits =
    let f = subst (λ a. FitsAct g.H.EventHandler.means t (past_of h) a)
    (c.in-Some-Install.is ∙ ap Some c.in-Some-Install.field-0-is) fits in
    acts_install _ t c.args.self.now _ F h c.args.handle c.args.act c.in-Some-Install.handler
    c.in-Some-Install.mask c.in-Some-Install.timer
    (c.in-Some-Install.is ∙ ap Some c.in-Some-Install.field-0-is)
    (c.install.ensures.stands t F h st f.0)

pub returns-in-Some-MaskMine-clause-stands : goal.returns-in-Some-MaskMine-clause-stands
returns-in-Some-MaskMine-clause-stands g c t F h st fits =
    acts_mask _ t c.args.self.now _ F h c.args.handle c.args.act c.in-Some-MaskMine.mask
    (c.in-Some-MaskMine.is ∙ ap Some c.in-Some-MaskMine.field-0-is)
    c.mask_mine.ensures.rest.attach_faults (c.mask_mine.ensures.stands t F h st)

pub returns-in-Some-CancelMine-clause-stands : goal.returns-in-Some-CancelMine-clause-stands
returns-in-Some-CancelMine-clause-stands g c t F h st fits =
    acts_cancel _ t c.args.self.now _ F h c.args.handle c.args.act c.in-Some-CancelMine.timer
    (c.in-Some-CancelMine.is ∙ ap Some c.in-Some-CancelMine.field-0-is)
    c.cancel_mine.ensures.rest.attach_faults (c.cancel_mine.ensures.stands t F h st)

pub returns-in-Some-Stop-clause-stands : goal.returns-in-Some-Stop-clause-stands
returns-in-Some-Stop-clause-stands g c t F h st fits =
    acts_stop _ t c.args.self.now _ F h c.args.handle c.args.act
    (c.in-Some-Stop.is ∙ ap Some c.in-Some-Stop.field-0-is) c.stop.ensures.rest.attach_faults
    (c.stop.ensures.stands t F h (plain_of _ (has_fewer g.Q.TimerQueue.spare) 4 act_places t
    c.args.self.now F h st))

pub returns-in-None-clause-rest : goal.returns-in-None-clause-rest
returns-in-None-clause-rest g c = attaching_of (rest_begins _ _)

pub returns-in-Some-Install-clause-rest : goal.returns-in-Some-Install-clause-rest
returns-in-Some-Install-clause-rest g c = c.install.ensures.rest

pub returns-in-Some-MaskMine-clause-rest : goal.returns-in-Some-MaskMine-clause-rest
returns-in-Some-MaskMine-clause-rest g c = attaching_of c.mask_mine.ensures.rest

pub returns-in-Some-CancelMine-clause-rest : goal.returns-in-Some-CancelMine-clause-rest
returns-in-Some-CancelMine-clause-rest g c = attaching_of c.cancel_mine.ensures.rest

pub returns-in-Some-Stop-clause-rest : goal.returns-in-Some-Stop-clause-rest
returns-in-Some-Stop-clause-rest g c = attaching_of c.stop.ensures.rest
