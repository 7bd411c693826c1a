-- What is said of a code and its number on standard error: the line of their status, by the table
-- of statuses.
use Rattle.std.specs.Prelude.{ℕ, List, [], Option, Some, None}
use Rattle.exit_status.specs.Statuses.{line_of, status_of}
use Rattle.exit_status.specs.declared.status.Status.{Status}
use Rattle.logging_server.specs.declared.fault.FaultLine.{FaultLine}

-- the code of a line, and the number that goes with it
abbrev pub line_status : FaultLine → ℕ
line_status line = line.status

abbrev pub line_at : FaultLine → ℕ
line_at line = line.at

-- the line of a status, if there is one
abbrev pub line_of_any : Option Status → List ℕ
line_of_any None = []
line_of_any (Some status) = line_of status

-- the line of a code and its number; code 0 has none, and a code that is none of a status has none
abbrev pub fault_text : ℕ → ℕ → List ℕ
fault_text code at = line_of_any (status_of code at)
