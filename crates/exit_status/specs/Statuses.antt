-- The statuses of the program `logd`, in one table: the code with which it ends, the number that
-- goes with it, and the line that tells it on standard error (this project's own). No status has
-- code 9.
use Rattle.std.specs.Prelude.{ℕ, List, [], ◌∷◌, ◌++◌, ◌==◌, if◌then◌else◌, codes, decimal}
use Rattle.std.specs.Prelude.{Option, Some, None}
use Rattle.exit_status.specs.declared.status.Status.{Status}
use Rattle.exit_status.specs.declared.status.Status.TheVariants as status

-- the code of a status
abbrev pub code_of : Status → ℕ
code_of status.Done = 0
code_of status.Usage = 1
code_of (status.BadText line) = 2
code_of status.ReadFault = 3
code_of status.WriteFault = 4
code_of status.NetFault = 5
code_of status.NoMemory = 6
code_of status.ListenFault = 7
code_of (status.BadRecord at) = 8
code_of (status.Illegal at) = 10
code_of (status.TooLong limit) = 11
code_of status.VolumeFault = 12
code_of status.PeerFault = 13
code_of (status.TimedOut at) = 14
code_of status.Unfinished = 15

-- the number that goes with a status, 0 if it has none
abbrev pub number_of : Status → ℕ
number_of (status.BadText line) = line
number_of (status.BadRecord at) = at
number_of (status.Illegal at) = at
number_of (status.TooLong limit) = limit
number_of (status.TimedOut at) = at
number_of _ = 0

-- a text and a line feed
abbrev pub as_line : List ℕ → List ℕ
as_line text = text ++ 10 ∷ []

-- the line of a status; if all is done there is none
abbrev pub line_of : Status → List ℕ
line_of status.Done = []
line_of status.Usage = as_line (codes "logd: usage")
line_of (status.BadText line) = as_line (codes "logd: bad line " ++ decimal line)
line_of status.ReadFault = as_line (codes "logd: read failed")
line_of status.WriteFault = as_line (codes "logd: write failed")
line_of status.NetFault = as_line (codes "logd: wait failed")
line_of status.NoMemory = as_line (codes "logd: out of memory")
line_of status.ListenFault = as_line (codes "logd: listen failed")
line_of (status.BadRecord at) = as_line (codes "logd: bad record at " ++ decimal at)
line_of (status.Illegal at) = as_line (codes "logd: illegal entry " ++ decimal at)
line_of (status.TooLong limit) = as_line (codes "logd: input over " ++ decimal limit)
line_of status.VolumeFault = as_line (codes "logd: volume failed")
line_of status.PeerFault = as_line (codes "logd: peer failed")
line_of (status.TimedOut at) = as_line (codes "logd: connect timed out at " ++ decimal at)
line_of status.Unfinished = as_line (codes "logd: unfinished")

-- the status of a code and of a number, which counts if the status has one; a code that is none
-- of a status has none
abbrev pub status_of : ℕ → ℕ → Option Status
status_of code number =
    if code == 0 then Some status.Done
    else (if code == 1 then Some status.Usage
    else (if code == 2 then Some (status.BadText number)
    else (if code == 3 then Some status.ReadFault
    else (if code == 4 then Some status.WriteFault
    else (if code == 5 then Some status.NetFault
    else (if code == 6 then Some status.NoMemory
    else (if code == 7 then Some status.ListenFault
    else (if code == 8 then Some (status.BadRecord number)
    else (if code == 10 then Some (status.Illegal number)
    else (if code == 11 then Some (status.TooLong number)
    else (if code == 12 then Some status.VolumeFault
    else (if code == 13 then Some status.PeerFault
    else (if code == 14 then Some (status.TimedOut number)
    else (if code == 15 then Some status.Unfinished
    else None))))))))))))))
