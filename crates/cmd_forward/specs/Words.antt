-- Which words call `forward`, and what they say.
use Rattle.std.specs.Prelude.{if◌then◌else◌, List, [], ◌∷◌, Option, Some, None, codes}
use Rattle.std.specs.Str.{bytes_eq}
use Rattle.cmd_line.specs.Numbers.{number_in}
use Rattle.cmd_line.specs.Given.{Line, Text, given, text_of}
use Rattle.cmd_line.specs.Lines.{Texts, has_dashes, port_of}
use Rattle.cmd_line.specs.Options.{◌>>=◌, value_or}
use Rattle.cmd_line.specs.Ranges.{IsWithin}
use Rattle.cmd_forward.specs.declared.words.ForwardOptions.{ForwardOptions}

-- its options: the port, and for how long the connection is waited for
abbrev pub forward_line : Line
forward_line = record { valued = codes "port" ∷ codes "wait" ∷ []; flags = [] }

-- what they say: a port, which must be given, and milliseconds, 5,000 if these are not given
abbrev pub forward_by : Texts → Option ForwardOptions
forward_by text = do
  port ← port_of (text (codes "port"))
  wait ← value_or 5000 (number_in 1 4294967295) (text (codes "wait"))
  Some (record { port = port; wait = wait })

-- what the words say that stand after the command's name
unfoldable pub options_of : List Text → Option ForwardOptions
options_of words = given forward_line words >>= λ entries. forward_by (text_of entries)

-- the first word is the command's name
abbrev pub forward_from : List Text → Option ForwardOptions
forward_from [] = None
forward_from (name ∷ words) =
    if bytes_eq name (codes "forward") then options_of words else None

-- what the words say that stand after the program's name, if they call `forward`. The word `--`
-- is in none
unfoldable pub forward_of : List Text → Option ForwardOptions
forward_of words = if has_dashes words then None else forward_from words

-- the ranges of what they say
pub record AreInRange (options : ForwardOptions) : Type 0 where
  pub port : IsWithin 1 65535 options.port
  pub wait : IsWithin 1 4294967295 options.wait
