-- That the parser of the command's options and their line take the same words, and give them the
-- same meaning.
use Rattle.std.proofs.Common.{◌≡◌, ◌∙◌, true, false, List, Option, Some, None, refl}
use Rattle.std.proofs.Common.{ap, codes}
use Rattle.clap.specs.Words.{App, Row, Text, first_of}
use Rattle.clap.specs.Walk.{nothing_held}
use Rattle.clap.specs.Simple.{built}
use Rattle.clap.proofs.FaultLemmas.{leaf_fault}
use Rattle.cmd_line.specs.Options.{◌>>=◌, value_or}
use Rattle.cmd_line.specs.Numbers.{number_in}
use Rattle.cmd_line.specs.Lines.{Texts, port_of}
use Rattle.cmd_line.specs.Parse.{are_taken, parser_of, rows_on}
use Rattle.cmd_line.proofs.Parsed as parsed
use Rattle.cmd_line.proofs.Parsed.{AreAlike, IsParser}
use Rattle.cmd_line.proofs.Readings.{AreWords}
use Rattle.cmd_forward.specs.Words.{forward_by, forward_line, options_of}
use Rattle.cmd_forward.specs.declared.words.ForwardOptions.{ForwardOptions}

abbrev pub forward_app : App
forward_app = parser_of (codes "forward") forward_line

forward_parser : IsParser forward_app (codes "forward") forward_line
forward_parser = record {
  fault = λ words. leaf_fault (built forward_app) nothing_held words refl;
  found = λ words. refl;
}

abbrev forward_with : (port wait : Option Text) → Option ForwardOptions
forward_with port wait =
    port_of port >>= λ port. value_or 5000 (number_in 1 4294967295) wait >>= λ wait.
    Some (record { port = port; wait = wait })

same : (f g : Texts) → AreAlike forward_line f g → forward_by f ≡ forward_by g
same f g alike =
    ap (λ x. forward_with x (f (codes "wait"))) (alike.texts (codes "port") refl)
    ∙ ap (λ x. forward_with (g (codes "port")) x) (alike.texts (codes "wait") refl)

pub taken : (words : List Text) (rows : List Row) → AreWords words
    → are_taken forward_app words ≡ true → rows ≡ rows_on forward_app words
    → forward_by (λ name. first_of name rows) ≡ options_of words
unfolding options_of
taken = parsed.taken (codes "forward") forward_line forward_by forward_parser same

pub refused : (words : List Text) → AreWords words → are_taken forward_app words ≡ false
    → None ≡ options_of words
unfolding options_of
refused = parsed.refused (codes "forward") forward_line forward_by forward_parser same
