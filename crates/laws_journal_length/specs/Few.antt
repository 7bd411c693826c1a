-- How much a script has.
use Rattle.std.specs.Prelude.{ℕ, ◌+◌, Bool, true, false, List, [], ◌∷◌, length}
use Rattle.laws_one_worker.specs.reactor_journal.specs.Past.{count}
use Rattle.laws_one_worker.specs.event_script.specs.Script.{ScriptStep, Brings, ScriptGroup}

-- the bytes that a step brings, and those of all steps
abbrev pub bytes_in : ScriptStep → ℕ
bytes_in (Brings conn bytes) = length bytes
bytes_in _ = 0

abbrev pub all_bytes : List ScriptStep → ℕ
all_bytes [] = 0
all_bytes (step ∷ steps) = bytes_in step + all_bytes steps

-- the groups without steps: each is one line `quiet`
abbrev pub has_no_step : List ScriptStep → Bool
has_no_step [] = true
has_no_step (step ∷ steps) = false

abbrev pub is_quiet : ScriptGroup → Bool
is_quiet group = has_no_step group.steps

abbrev pub quiet_groups : List ScriptGroup → ℕ
quiet_groups groups = count is_quiet groups
