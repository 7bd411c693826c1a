-- How displaying ends, and what its two tasks give.
use Rattle.std.specs.Prelude.{ℕ, Bool, true, false, map}
use Rattle.module_stream.specs.Progress.{Gives}
use Rattle.module_stream.specs.Tasks.{formatted, separated}
use Rattle.cmd_display.specs.declared.showing.Stop.{Stop}
use Rattle.cmd_display.specs.declared.showing.Stop.TheVariants as stop
use Rattle.cmd_display.specs.declared.showing.DisplayEnd.{DisplayEnd}
use Rattle.cmd_display.specs.declared.showing.DisplayEnd.TheVariants as end

-- the formatting task formats each message, and the separating task ends each with a line feed
abbrev pub format_gives : Gives
format_gives messages = map formatted messages

abbrev pub separate_gives : Gives
separate_gives messages = map separated messages

-- how it ends if reading was not at fault: a failed write first, then want of memory
abbrev pub ending_by : Bool → Bool → DisplayEnd → DisplayEnd
ending_by true whole found = end.WriteFault
ending_by false false found = end.NoMemory
ending_by false true found = found

-- what was found at the end of the input, with bytes left there or none
abbrev pub found_at_end : ℕ → Bool → DisplayEnd
found_at_end place true = end.Done
found_at_end place false = end.BadRecord place

-- How it ends, by why no more records were read, whether a write failed, whether all came out of
-- the tasks, how many bytes were cut, and whether none is left after them: a failed read stands
-- before all.
abbrev pub ending_of : Stop → Bool → Bool → ℕ → Bool → DisplayEnd
ending_of stop.Failed broken whole place none_left = end.ReadFault
ending_of stop.Over broken whole place none_left =
    ending_by broken whole (found_at_end place none_left)
ending_of stop.Bad broken whole place none_left = ending_by broken whole (end.BadRecord place)
ending_of stop.TooLong broken whole place none_left = ending_by broken whole end.TooLong
ending_of stop.NoMemory broken whole place none_left = ending_by broken whole end.NoMemory
ending_of stop.Broken broken whole place none_left = end.WriteFault
