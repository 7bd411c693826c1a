-- What a contract sees of a timer queue of a chosen kind.
use Rattle.std.specs.Prelude.{ℕ, List, Option, Some, None}
use Rattle.cmd_line.specs.declared.options.Timers.{Timers}
use Rattle.cmd_line.specs.declared.options.Timers.TheVariants as timers
use Rattle.timer_queue.specs.declared.timer.Timer.{Timer}
use Rattle.timer_queue.specs.Timers.{in_order}
use Rattle.timer_wheel.specs.Spokes.{timers_of as placed_timers}
use Rattle.chosen_timers.specs.declared.ChosenTimers.{ChosenTimers}
use Rattle.chosen_timers.specs.declared.ChosenTimers.TheVariants as queue

-- the timers in order of (deadline, timer)
abbrev pub timers_of : ChosenTimers → List Timer
timers_of (queue.List list) = list.timers
timers_of (queue.Heap heap) = in_order heap.slots
timers_of (queue.Wheel wheel) = in_order (placed_timers wheel.places)

-- how many more timers fit without taking memory
abbrev pub spare_of : ChosenTimers → ℕ
spare_of (queue.List list) = list.spare
spare_of (queue.Heap heap) = heap.spare
spare_of (queue.Wheel wheel) = wheel.spare

-- which of the three it is
abbrev pub kind_of : ChosenTimers → Timers
kind_of (queue.List list) = timers.List
kind_of (queue.Heap heap) = timers.Heap
kind_of (queue.Wheel wheel) = timers.Wheel

-- the milliseconds of a tick, of a wheel
abbrev pub resolution_of : ChosenTimers → Option ℕ
resolution_of (queue.List list) = None
resolution_of (queue.Heap heap) = None
resolution_of (queue.Wheel wheel) = Some wheel.resolution
