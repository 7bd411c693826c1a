use Rattle.std.proofs.Common.{◌==◌, sym, ◌∙◌}
use Rattle.reactor_summary.specs.declared.parts.WaitingEvent.{WaitingEvent}
use Rattle.journal_check.proofs.Keyed.{filter_all}
use Rattle.journal_check.proofs.Queue.{five_out}
use Rattle.journal_check.proofs.waiting.Waiting.clear_all.Goals as goal

pub returns-in-Some : goal.returns-in-Some
returns-in-Some c = c.clear_between.ensures
    ∙ five_out c.in-Some.low c.args.handle.0 c.args.self.now c.in-Some.ensures.lane.0

pub returns-in_default : goal.returns-in_default
returns-in_default c = sym (filter_all (λ (w : WaitingEvent). c.args.handle.0 == w.handle.0)
    c.args.self.now (c.first_lane.ensures.none c.in_default.is))
