-- What the parting of a command's words leaves.
use Rattle.std.specs.Prelude.{◌≡◌, false, List, []}
use Rattle.cmd_line.specs.Given.{Text}
use Rattle.program_words.specs.declared.takes.Takes.{Takes}
use Rattle.program_words.specs.Parting.{left_over, taken_off}

-- a command without options of the program's own sees all its words
abbrev pub OthersKeepAll : Type 0
OthersKeepAll = (takes : Takes) (words : List Text)
    → takes ≡ record { address = false; control = false; ace7 = false }
    → (taken_off takes false words ≡ []) × (left_over takes false words ≡ words)
