-- What the order octets that are widened come to.
use Rattle.std.specs.Prelude.{◌≡◌, ◌≤◌, ◌<◌, ℕ, List, ◌∷◌, ◌++◌, length}
use Rattle.cdr_record.specs.declared.record.LogRecord.{LogRecord}
use Rattle.cdr_record.specs.Grammar.{Spells}
use Rattle.ace7_input.specs.Wide.{as_wide, widened}

-- A record of version 2, whether its order octet is one of version 1 or says so, is given as it was
-- meant, and what follows it is read in the same way.
abbrev pub RecordIsWidened : Type 0
RecordIsWidened = (first : ℕ) (t rest : List ℕ) (r : LogRecord) → first < 4
    → Spells (widened first ∷ t) r
    → as_wide ((first ∷ t) ++ rest) ≡ (widened first ∷ t) ++ as_wide rest

-- what begins with no order octet is given as it is
abbrev pub OtherIsLeft : Type 0
OtherIsLeft = (first : ℕ) (t : List ℕ) → 4 ≤ first → as_wide (first ∷ t) ≡ first ∷ t

-- as many bytes are given
abbrev pub HasSameLength : Type 0
HasSameLength = (t : List ℕ) → length (as_wide t) ≡ length t
