use Rattle.std.proofs.Common.{◌==◌, ◌&&◌, sym}
use Rattle.std.proofs.lemmas.Bool.{and_left}
use Rattle.reactor_summary.specs.declared.parts.WaitingEvent.{WaitingEvent}
use Rattle.journal_check.specs.Queue.{lane_of}
use Rattle.journal_check.proofs.Keyed.{filter_all, any_none}
use Rattle.journal_check.proofs.waiting.Waiting.clear_if.Goals as goal

pub returns-else-which : goal.returns-else-which
returns-else-which c =
    sym (filter_all (λ (w : WaitingEvent). c.args.which && lane_of w == c.args.lane) c.args.self.now
    (any_none (λ (w : WaitingEvent). c.args.which && lane_of w == c.args.lane) c.args.self.now
    (λ w. and_left c.args.which (lane_of w == c.args.lane) c.if-which.false)))
