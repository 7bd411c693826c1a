use Rattle.std.proofs.Common.{◌∙◌, List, Option, map, string_bytes, subst}
use Rattle.clap.specs.Words.{Text, found_of, rows_of}
use Rattle.clap.specs.declared.parser.matches.ArgMatches.{ArgMatches}
use Rattle.cmd_line.specs.Parse.{Parses}
use Rattle.cmd_line.proofs.Letters.{are_words}
use Rattle.cmd_forward.proofs.Options.{forward_app, refused, taken}
use Rattle.cmd_forward.proofs.words.read_options.Goals as goal

pub returns-in-Some-clause-options : goal.returns-in-Some-clause-options
returns-in-Some-clause-options c =
    let words : List Text = map string_bytes c.args.words.now in
    let parses = subst (λ (p : Option ArgMatches). Parses forward_app words p) c.in-Some.is
    c.in_ok-matches.ensures in
    c.options_by.ensures.options ∙ taken words (rows_of (found_of c.in-Some.matches))
    (are_words c.args.words.now c.requires) parses.0 parses.1

pub returns-in-None-clause-options : goal.returns-in-None-clause-options
returns-in-None-clause-options c =
    let words : List Text = map string_bytes c.args.words.now in
    refused words (are_words c.args.words.now c.requires)
    (subst (λ (p : Option ArgMatches). Parses forward_app words p) c.in-None.is
    c.in_ok-matches.ensures)
