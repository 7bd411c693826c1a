-- That the parser of the options takes the same words as their line.
use Rattle.std.proofs.Common.{◌≡◌, ◌∙◌, true, false, List, Option, Some, None, refl}
use Rattle.std.proofs.Common.{codes, ap}
use Rattle.clap.specs.Words.{App, Row, Text, first_of}
use Rattle.clap.specs.Walk.{nothing_held}
use Rattle.clap.specs.Simple.{built}
use Rattle.clap.proofs.FaultLemmas.{leaf_fault}
use Rattle.cmd_line.specs.Lines.{Texts, port_of}
use Rattle.cmd_line.specs.Numbers.{number_in}
use Rattle.cmd_line.specs.Options.{◌>>=◌, value_if}
use Rattle.cmd_line.specs.Parse.{are_taken, parser_of, rows_on}
use Rattle.cmd_line.proofs.Parsed as parsed
use Rattle.cmd_line.proofs.Parsed.{AreAlike, IsParser}
use Rattle.cmd_line.proofs.Readings.{AreWords}
use Rattle.aio_words.specs.Words.{aio_by, aio_line, options_of}
use Rattle.aio_words.specs.declared.words.AioWords.{AioWords}

abbrev pub aio_app : App
aio_app = parser_of (codes "aio") aio_line

aio_parser : IsParser aio_app (codes "aio") aio_line
aio_parser = record {
  fault = λ words. leaf_fault (built aio_app) nothing_held words refl;
  found = λ words. refl;
}

abbrev aio_with : (port until : Option Text) → Option AioWords
aio_with port until =
    port_of port >>= λ port. value_if (number_in 1 4294967295) until >>= λ until.
    Some (record { port = port; until = until })

same : (f g : Texts) → AreAlike aio_line f g → aio_by f ≡ aio_by g
same f g alike =
    ap (λ x. aio_with x (f (codes "until"))) (alike.texts (codes "port") refl)
    ∙ ap (λ x. aio_with (g (codes "port")) x) (alike.texts (codes "until") refl)

-- of words that it takes the options have the texts that were found
pub taken : (words : List Text) (rows : List Row) → AreWords words
    → are_taken aio_app words ≡ true → rows ≡ rows_on aio_app words
    → aio_by (λ name. first_of name rows) ≡ options_of words
unfolding options_of
taken = parsed.taken (codes "aio") aio_line aio_by aio_parser same

-- words that the parser refuses say nothing
pub refused : (words : List Text) → AreWords words → are_taken aio_app words ≡ false
    → None ≡ options_of words
unfolding options_of
refused = parsed.refused (codes "aio") aio_line aio_by aio_parser same
