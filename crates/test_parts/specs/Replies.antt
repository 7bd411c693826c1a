-- What each call of a timer queue answers and leaves, by the list of its timers alone.
use Rattle.std.specs.Prelude.{ℕ, nat_le, List, [], ◌∷◌, if◌then◌else◌, Option, Some, None}
use Rattle.timer_queue.specs.declared.timer.Timer.{Timer}
use Rattle.timer_queue.specs.Timers.{is_scheduled, with_timer, without_timer, without_handle}
use Rattle.timer_queue.specs.Timers.{first_deadline}
use Rattle.test_parts.specs.declared.timers.Call.{Call}
use Rattle.test_parts.specs.declared.timers.Call.TheVariants.{Schedule, Cancel, CancelAll, Earliest}
use Rattle.test_parts.specs.declared.timers.Call.TheVariants.{PopDue}
use Rattle.test_parts.specs.declared.timers.Reply.{Reply}
use Rattle.test_parts.specs.declared.timers.Reply.TheVariants.{WasThere, Done, Deadline, Due}

-- the first timer, if its deadline is at most now
abbrev pub first_due : ℕ → List Timer → Option Timer
first_due now [] = None
first_due now (t ∷ rest) = if nat_le t.deadline now then Some t else None

-- the list without it
abbrev pub without_due : ℕ → List Timer → List Timer
without_due now [] = []
without_due now (t ∷ rest) = if nat_le t.deadline now then rest else t ∷ rest

abbrev pub reply_of : Call → List Timer → Reply
reply_of (Schedule t) timers = WasThere (is_scheduled t.timer timers)
reply_of (Cancel number) timers = WasThere (is_scheduled number timers)
reply_of (CancelAll handle) timers = Done
reply_of Earliest timers = Deadline (first_deadline timers)
reply_of (PopDue now) timers = Due (first_due now timers)

abbrev pub timers_after : Call → List Timer → List Timer
timers_after (Schedule t) timers = with_timer t (without_timer t.timer timers)
timers_after (Cancel number) timers = without_timer number timers
timers_after (CancelAll handle) timers = without_handle handle.0 timers
timers_after Earliest timers = timers
timers_after (PopDue now) timers = without_due now timers
