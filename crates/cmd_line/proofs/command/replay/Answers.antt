use Rattle.std.proofs.Common.{◌∙◌, List, Option, map, string_bytes, subst}
use Rattle.clap.specs.Words.{Text, found_of, rows_of}
use Rattle.clap.specs.declared.parser.matches.ArgMatches.{ArgMatches}
use Rattle.cmd_line.specs.Parse.{Parses}
use Rattle.cmd_line.proofs.Letters.{are_words}
use Rattle.cmd_line.proofs.Parsed.{replay_app, replay_refused, replay_taken}
use Rattle.cmd_line.proofs.command.replay.Goals as goal

pub returns-in-Some-clause-command : goal.returns-in-Some-clause-command
returns-in-Some-clause-command c =
    let words : List Text = map string_bytes c.args.words.now in
    let parses = subst (λ (p : Option ArgMatches). Parses replay_app words p) c.in-Some.is
    c.in_ok-matches.ensures in
    c.replay_by.ensures.command ∙ replay_taken words (rows_of (found_of c.in-Some.matches))
    (are_words c.args.words.now c.requires) parses.0 parses.1

pub returns-in-None-clause-command : goal.returns-in-None-clause-command
returns-in-None-clause-command c =
    let words : List Text = map string_bytes c.args.words.now in
    replay_refused words (are_words c.args.words.now c.requires)
    (subst (λ (p : Option ArgMatches). Parses replay_app words p) c.in-None.is
    c.in_ok-matches.ensures)
