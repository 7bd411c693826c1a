-- What the words of a program ask of the program itself (the GNU coding standards: `--help` and
-- `--version`).
use Rattle.std.specs.Prelude.{◌∷◌, ℕ, Bool, false, cond, List, [], Option, Some, None, codes}
use Rattle.std.specs.Str.{bytes_eq}
use Rattle.help_words.specs.declared.asking.Asks.{Asks}
use Rattle.help_words.specs.declared.asking.Asks.TheVariants.{Help, Version}

-- the words are this word alone
abbrev pub is_only : List ℕ → List (List ℕ) → Bool
is_only text [] = false
is_only text (word ∷ []) = bytes_eq word text
is_only text (word ∷ other ∷ rest) = false

-- what they ask: help, the version, or nothing
abbrev pub asked_by : List (List ℕ) → Option Asks
asked_by words = cond (is_only (codes "--help") words) (Some Help)
    (cond (is_only (codes "--version") words) (Some Version) None)
