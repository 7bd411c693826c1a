-- What the table of statuses keeps.
use Rattle.std.specs.Prelude.{◌≡◌, Some}
use Rattle.exit_status.specs.Statuses.{code_of, number_of, status_of}
use Rattle.exit_status.specs.declared.status.Status.{Status}

-- a status is told whole by its code and its number
abbrev pub StatusesHaveCodes : Type 0
StatusesHaveCodes = (status : Status) → status_of (code_of status) (number_of status) ≡ Some status
