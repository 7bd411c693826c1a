-- What the words of the command `aio` say.
use Rattle.std.specs.Prelude.{◌≤◌, ℕ, if◌then◌else◌, List, [], ◌∷◌, Option, Some, None, codes}
use Rattle.cmd_line.specs.Given.{Line, Text, given, text_of}
use Rattle.cmd_line.specs.Lines.{has_dashes, port_of}
use Rattle.cmd_line.specs.Numbers.{number_in}
use Rattle.cmd_line.specs.Options.{◌>>=◌, value_if}
use Rattle.aio_words.specs.declared.words.AioWords.{AioWords}

-- its options: a port, and after how many connections the run ends
abbrev pub aio_line : Line
aio_line = record { valued = codes "port" ∷ codes "until" ∷ []; flags = [] }

abbrev pub aio_by : (Text → Option Text) → Option AioWords
aio_by text = port_of (text (codes "port"))
    >>= λ port. value_if (number_in 1 4294967295) (text (codes "until"))
    >>= λ until. Some (record { port = port; until = until })

-- what options say that are those of the line and nothing else
unfoldable pub options_of : List Text → Option AioWords
options_of words = given aio_line words >>= λ entries. aio_by (text_of entries)

-- what the words say; the word `--` is in none
unfoldable pub aio_of : List Text → Option AioWords
aio_of words = if has_dashes words then None else options_of words

abbrev pub IsCount : Option ℕ → Type 0
IsCount None = Unit {0}
IsCount (Some count) = (1 ≤ count) × (count ≤ 4294967295)

pub record AreInRange (said : AioWords) : Type 0 where
  pub port_some : 1 ≤ said.port
  pub until : IsCount said.until
