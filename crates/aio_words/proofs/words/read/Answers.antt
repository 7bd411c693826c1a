use Rattle.std.proofs.Common.{◌∙◌, List, Option, map, string_bytes, subst}
use Rattle.clap.specs.Words.{App, Text, found_of, rows_of}
use Rattle.clap.specs.declared.parser.matches.ArgMatches.{ArgMatches}
use Rattle.cmd_line.specs.Parse.{Parses}
use Rattle.cmd_line.proofs.Letters.{are_words}
use Rattle.aio_words.proofs.Options.{aio_app, refused, taken}
use Rattle.aio_words.proofs.words.read.Goals as goal

pub returns-in-Some-clause-said : goal.returns-in-Some-clause-said
returns-in-Some-clause-said c =
    let words : List Text = map string_bytes c.args.words.now in
    let parses = subst (λ (p : Option ArgMatches). Parses aio_app words p) c.in-Some.is
    (subst (λ (a : App). Parses a words c.in_ok-matches.field-0) c.in_ok-command.ensures
    c.in_ok-matches.ensures) in
    c.read_by.ensures.said ∙ taken words (rows_of (found_of c.in-Some.matches))
    (are_words c.args.words.now c.requires) parses.0 parses.1

pub returns-in-None-clause-said : goal.returns-in-None-clause-said
returns-in-None-clause-said c =
    let words : List Text = map string_bytes c.args.words.now in
    refused words (are_words c.args.words.now c.requires)
    (subst (λ (p : Option ArgMatches). Parses aio_app words p) c.in-None.is
    (subst (λ (a : App). Parses a words c.in_ok-matches.field-0) c.in_ok-command.ensures
    c.in_ok-matches.ensures))
