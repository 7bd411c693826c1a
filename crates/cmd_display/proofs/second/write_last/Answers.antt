use Rattle.std.proofs.Common.{rules}
use Rattle.cmd_display.specs.Pipelines.{text_of}
use Rattle.cmd_display.proofs.Texts.{gathers-behind}
use Rattle.cmd_display.proofs.second.write_last.Goals as goal

pub returns-then-is_broken-clause-text : goal.returns-then-is_broken-clause-text
returns-then-is_broken-clause-text g c =
    λ o put h. gathers-behind g.K.Sink.facts o c.args.lines put (text_of c.args.messages)
    (search rules) h
