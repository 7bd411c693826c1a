-- That the parser of the command takes the same words as its line, with the same meaning.
use Rattle.std.proofs.Common.{◌≡◌, ◌∙◌, true, false, List, Option, Some, None, refl}
use Rattle.std.proofs.Common.{ap, codes}
use Rattle.clap.specs.Words.{App, Row, Text, first_of}
use Rattle.clap.specs.Walk.{nothing_held}
use Rattle.clap.specs.Simple.{built}
use Rattle.clap.proofs.FaultLemmas.{leaf_fault}
use Rattle.cmd_line.specs.Lines.{Texts, port_of}
use Rattle.cmd_line.specs.Numbers.{number_in}
use Rattle.cmd_line.specs.Options.{◌>>=◌, value_if, value_or}
use Rattle.cmd_line.specs.Parse.{are_taken, parser_of, rows_on}
use Rattle.cmd_line.proofs.Parsed.{AreAlike, IsParser, refused, taken}
use Rattle.cmd_line.proofs.Readings.{AreWords}
use Rattle.cmd_pool.specs.Words.{options_by, options_of, pool_line}
use Rattle.cmd_pool.specs.declared.words.PoolOptions.{PoolOptions}

abbrev pub pool_app : App
pool_app = parser_of (codes "pool") pool_line

pool_parser : IsParser pool_app (codes "pool") pool_line
pool_parser = record {
  fault = λ words. leaf_fault (built pool_app) nothing_held words refl;
  found = λ words. refl;
}

abbrev options_with : (port workers writers until : Option Text) → Option PoolOptions
options_with port workers writers until =
    port_of port >>= λ port. value_or 1 (number_in 1 64) workers >>= λ workers.
    value_or 2 (number_in 1 16) writers >>= λ writers.
    value_if (number_in 1 4294967295) until >>= λ until.
    Some (record { port = port; workers = workers; writers = writers; until = until })

options_same : (f g : Texts) → AreAlike pool_line f g → options_by f ≡ options_by g
options_same f g alike =
    ap (λ x. options_with x (f (codes "workers")) (f (codes "writers")) (f (codes "until")))
    (alike.texts (codes "port") refl)
    ∙ ap (λ x. options_with (g (codes "port")) x (f (codes "writers")) (f (codes "until")))
    (alike.texts (codes "workers") refl)
    ∙ ap (λ x. options_with (g (codes "port")) (g (codes "workers")) x (f (codes "until")))
    (alike.texts (codes "writers") refl)
    ∙ ap (λ x. options_with (g (codes "port")) (g (codes "workers")) (g (codes "writers")) x)
    (alike.texts (codes "until") refl)

-- of words that it takes the options have the texts that were found
pub options_taken : (words : List Text) (rows : List Row) → AreWords words
    → are_taken pool_app words ≡ true → rows ≡ rows_on pool_app words
    → options_by (λ name. first_of name rows) ≡ options_of words
unfolding options_of
options_taken = taken (codes "pool") pool_line options_by pool_parser options_same

-- words that it refuses ask for nothing
pub options_refused : (words : List Text) → AreWords words → are_taken pool_app words ≡ false
    → None ≡ options_of words
unfolding options_of
options_refused = refused (codes "pool") pool_line options_by pool_parser options_same
