-- A line as the code keeps it, and what it is in the grammar.
use Rattle.std.specs.Prelude.{◌≡◌, ◌<◌, ◌^◌, ℕ, List, Option, Some, None}
use Rattle.script_net.specs.event_script.specs.Script.{ScriptStep, Opens, Brings, Shuts, Fails}
use Rattle.script_net.specs.event_script.specs.Script.{ListenerFails, opened}
use Rattle.script_net.specs.event_script.specs.Grammar.{Line as GrammarLine, At, Quiet, Stepping}
use Rattle.script_net.specs.event_script.specs.Grammar.{line_of, steps_in, IsBadBehind}
use Rattle.script_text.specs.declared.line.Step.{Step}
use Rattle.script_text.specs.declared.line.Step.TheVariants as step
use Rattle.script_text.specs.declared.line.Line.{Line}
use Rattle.script_text.specs.declared.line.Line.TheVariants as line

abbrev pub step_view : Step → ScriptStep
step_view (step.Open conn) = Opens conn
step_view (step.Data conn bytes) = Brings conn bytes.items
step_view (step.Shut conn) = Shuts conn
step_view (step.Fail conn) = Fails conn
step_view step.FailListener = ListenerFails

abbrev pub line_view : Line → GrammarLine
line_view (line.At moment) = At moment
line_view line.Quiet = Quiet
line_view (line.Step step) = Stepping (step_view step)

-- no line of the grammar, or one that may stand nowhere, since it has a number that is beyond all
-- limits
abbrev pub StandsNowhere : Option GrammarLine → Type 0
StandsNowhere line = (past : List GrammarLine) → opened (steps_in past) < 2 ^ 64
    → IsBadBehind past line

-- what was read is this line of the grammar; if nothing was, it stands nowhere
abbrev pub Says : Option GrammarLine → Option Line → Type 0
Says said (Some line) = said ≡ Some (line_view line)
Says said None = StandsNowhere said

abbrev pub SaysLine : List ℕ → Option Line → Type 0
SaysLine bytes line = Says (line_of bytes) line
