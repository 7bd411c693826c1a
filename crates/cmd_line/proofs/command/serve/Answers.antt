use Rattle.std.proofs.Common.{◌∙◌, List, Option, map, string_bytes, subst}
use Rattle.clap.specs.Words.{Text, found_of, rows_of}
use Rattle.clap.specs.declared.parser.matches.ArgMatches.{ArgMatches}
use Rattle.cmd_line.specs.Parse.{Parses}
use Rattle.cmd_line.proofs.Letters.{are_words}
use Rattle.cmd_line.proofs.Parsed.{serve_app, serve_refused, serve_taken}
use Rattle.cmd_line.proofs.command.serve.Goals as goal

pub returns-in-Some-clause-command : goal.returns-in-Some-clause-command
returns-in-Some-clause-command c =
    let words : List Text = map string_bytes c.args.words.now in
    let parses = subst (λ (p : Option ArgMatches). Parses serve_app words p) c.in-Some.is
    c.in_ok-matches.ensures in
    c.serve_by.ensures.command ∙ serve_taken words (rows_of (found_of c.in-Some.matches))
    (are_words c.args.words.now c.requires) parses.0 parses.1

pub returns-in-None-clause-command : goal.returns-in-None-clause-command
returns-in-None-clause-command c =
    let words : List Text = map string_bytes c.args.words.now in
    serve_refused words (are_words c.args.words.now c.requires)
    (subst (λ (p : Option ArgMatches). Parses serve_app words p) c.in-None.is
    c.in_ok-matches.ensures)
