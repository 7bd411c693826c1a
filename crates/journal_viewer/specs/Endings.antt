-- The status of each ending, and the line that tells it (this project's own).
use Rattle.std.specs.Prelude.{ℕ, List, [], ◌∷◌, ◌++◌, codes, decimal}
use Rattle.journal_viewer.specs.declared.ending.ViewEnd.{ViewEnd}
use Rattle.journal_viewer.specs.declared.ending.ViewEnd.TheVariants.{Drawn, BadText, ReadFault}
use Rattle.journal_viewer.specs.declared.ending.ViewEnd.TheVariants.{WriteFault, NoMemory, Illegal}
use Rattle.journal_viewer.specs.declared.ending.ViewEnd.TheVariants.{TooLong}

abbrev pub status_of : ViewEnd → ℕ
status_of Drawn = 0
status_of (BadText line) = 2
status_of ReadFault = 3
status_of WriteFault = 4
status_of NoMemory = 6
status_of (Illegal at) = 10
status_of (TooLong limit) = 11

-- a text and a line feed
abbrev pub as_line : List ℕ → List ℕ
as_line text = text ++ 10 ∷ []

abbrev pub ending_line : ViewEnd → List ℕ
ending_line Drawn = []
ending_line (BadText line) = as_line (codes "journal_view: bad line " ++ decimal line)
ending_line ReadFault = as_line (codes "journal_view: read failed")
ending_line WriteFault = as_line (codes "journal_view: write failed")
ending_line NoMemory = as_line (codes "journal_view: out of memory")
ending_line (Illegal at) = as_line (codes "journal_view: illegal entry " ++ decimal at)
ending_line (TooLong limit) = as_line (codes "journal_view: input over " ++ decimal limit)
