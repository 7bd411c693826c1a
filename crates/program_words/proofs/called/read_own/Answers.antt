use Rattle.std.proofs.Common.{List, Option, map, string_bytes, subst}
use Rattle.clap.specs.Words.{App, Text, found_of, rows_of}
use Rattle.clap.specs.declared.parser.matches.ArgMatches.{ArgMatches}
use Rattle.cmd_line.specs.Parse.{Parses}
use Rattle.cmd_line.proofs.Letters.{are_words}
use Rattle.program_words.proofs.Options.{own_app, refused, taken}
use Rattle.program_words.proofs.called.read_own.Goals as goal

pub returns-in-Some : goal.returns-in-Some
returns-in-Some c =
    let words : List Text = map string_bytes c.args.words.now in
    let parses = subst (λ (p : Option ArgMatches). Parses own_app words p) c.in-Some.is
    (subst (λ (a : App). Parses a words c.in_ok-matches.field-0) c.in_ok-own_command.ensures
    c.in_ok-matches.ensures) in
    taken words (rows_of (found_of c.in-Some.matches)) c.own_by.result
    (are_words c.args.words.now c.requires) parses.0 parses.1 c.own_by.ensures

pub returns-in-None : goal.returns-in-None
returns-in-None c =
    let words : List Text = map string_bytes c.args.words.now in
    refused words (are_words c.args.words.now c.requires)
    (subst (λ (p : Option ArgMatches). Parses own_app words p) c.in-None.is
    (subst (λ (a : App). Parses a words c.in_ok-matches.field-0) c.in_ok-own_command.ensures
    c.in_ok-matches.ensures))
