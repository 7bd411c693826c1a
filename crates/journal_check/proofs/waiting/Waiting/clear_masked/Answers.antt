use Rattle.std.proofs.Common.{◌==◌, ◌&&◌, ◌+◌, not, List, sym, ap, ◌∙◌}
use Rattle.std.specs.List.{filter}
use Rattle.reactor_journal.specs.Past.{is_without}
use Rattle.reactor_summary.specs.declared.parts.WaitingEvent.{WaitingEvent}
use Rattle.journal_check.specs.Queue.{lane_of}
use Rattle.journal_check.proofs.Keyed.{filter_all}
use Rattle.journal_check.proofs.Queue.{masked_from, none_of_mask}
use Rattle.journal_check.proofs.waiting.Waiting.clear_masked.Goals as goal

pub returns-in-Some : goal.returns-in-Some
returns-in-Some c =
    c.clear_if-in-Some-2.ensures
    ∙ (ap (filter (λ (w : WaitingEvent).
    not (not c.args.mask.read && lane_of w == c.in-Some.first + 4))) c.clear_if-in-Some.ensures
    ∙ (ap (λ (xs : List WaitingEvent).
    filter (λ (w : WaitingEvent). not (not c.args.mask.read && lane_of w == c.in-Some.first
    + 4)) (filter (λ (w : WaitingEvent).
    not (not c.args.mask.except && lane_of w == c.in-Some.first + 3)) xs)) c.clear_if.ensures
    ∙ masked_from c.in-Some.first c.args.handle.0 c.args.mask c.args.self.now
    c.in-Some.ensures.lane.0))

pub returns-in_default : goal.returns-in_default
returns-in_default c = sym (filter_all
    (λ (w : WaitingEvent). c.args.handle.0 == w.handle.0 && is_without c.args.mask w.upcall)
    c.args.self.now (none_of_mask c.args.handle.0 c.args.mask c.args.self.now
    (c.first_lane.ensures.none c.in_default.is)))
