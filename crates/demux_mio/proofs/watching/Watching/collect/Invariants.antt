use Rattle.std.proofs.Common.{◌≡◌, ◌≤◌, length, All}
use Rattle.demux_mio.specs.Asked.{IsWanted}
use Rattle.demux_mio.proofs.watching.Watching.collect.Given as goal

abbrev pub invariant-loop-event : goal.invariant-loop-event
invariant-loop-event l =
    (goal.iterator-loop-event).can_next l.event-iterator ×
    (goal.iterator-loop-event).is_finite l.event-iterator ×
    (l.self ≡ l.initial.self) ×
    (length l.reports.items ≤ 256) ×
    All (IsWanted l.initial.self) l.reports.items
