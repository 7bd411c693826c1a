use Rattle.std.proofs.Common.{◌∙◌, List, Option, map, string_bytes, subst}
use Rattle.clap.specs.Words.{App, Text, found_of, rows_of}
use Rattle.clap.specs.declared.parser.matches.ArgMatches.{ArgMatches}
use Rattle.cmd_line.specs.Parse.{Parses}
use Rattle.cmd_line.proofs.Letters.{are_words}
use Rattle.cmd_pool.proofs.Parsed.{options_refused, options_taken, pool_app}
use Rattle.cmd_pool.proofs.words.read_options.Goals as goal

pub returns-in-Some-clause-options : goal.returns-in-Some-clause-options
returns-in-Some-clause-options c =
    let words : List Text = map string_bytes c.args.words.now in
    let parses = subst (λ (p : Option ArgMatches). Parses pool_app words p) c.in-Some.is
    (subst (λ (a : App). Parses a words c.in_ok-matches.field-0) c.in_ok-parser.ensures
    c.in_ok-matches.ensures) in
    c.options_by.ensures.options ∙ options_taken words (rows_of (found_of c.in-Some.matches))
    (are_words c.args.words.now c.requires) parses.0 parses.1

pub returns-in-None-clause-options : goal.returns-in-None-clause-options
returns-in-None-clause-options c =
    let words : List Text = map string_bytes c.args.words.now in
    options_refused words (are_words c.args.words.now c.requires)
    (subst (λ (p : Option ArgMatches). Parses pool_app words p) c.in-None.is
    (subst (λ (a : App). Parses a words c.in_ok-matches.field-0) c.in_ok-parser.ensures
    c.in_ok-matches.ensures))
