-- How the generator writes lines: numbers in decimal digits, bytes in lower-case hexadecimal
-- digits, and a line feed after each line.
use Rattle.std.specs.Prelude.{ℕ, List, ◌++◌, codes, decimal, flat_map}
use Rattle.hex.specs.Hex.{encode_lower}
use Rattle.event_script.specs.Script.{ScriptStep, Opens, Brings, Shuts, Fails, ListenerFails}
use Rattle.event_script.specs.Grammar.{Line, At, Quiet, Stepping}
use Rattle.script_generator.specs.Scripts.{lines}

abbrev pub step_words : ScriptStep → List ℕ
step_words (Opens conn) = codes "open " ++ decimal conn
step_words (Brings conn bytes) = codes "data " ++ decimal conn ++ codes " " ++ encode_lower bytes
step_words (Shuts conn) = codes "shut " ++ decimal conn
step_words (Fails conn) = codes "fail " ++ decimal conn
step_words ListenerFails = codes "fail listener"

abbrev pub line_words : Line → List ℕ
line_words (At moment) = codes "at " ++ decimal moment
line_words Quiet = codes "quiet"
line_words (Stepping step) = step_words step

abbrev pub line_text : Line → List ℕ
line_text line = line_words line ++ codes "\n"

-- the text of lines, one after another
abbrev pub text_of : List Line → List ℕ
text_of ls = flat_map line_text ls

-- the text of the generated script
unfoldable pub generated_text : ℕ → ℕ → List ℕ
generated_text n seed = text_of (lines n seed)
