use Rattle.std.proofs.Common.{sym, ap, ◌∙◌, true, false}
use Rattle.std.specs.Option.{option_copied}
use Rattle.one_net.proofs.Nets.{report_of_last}
use Rattle.one_net.proofs.watched.first_report.Goals as goal

pub returns-then-first : goal.returns-then-first
returns-then-first c = report_of_last c.args.watched.now c.in_ok-first.first.now true
    (sym c.last.ensures.value ∙ ap option_copied c.in_ok-first.was) c.if-first.true

pub returns-else-first : goal.returns-else-first
returns-else-first c = report_of_last c.args.watched.now c.in_ok-first.first.now false
    (sym c.last.ensures.value ∙ ap option_copied c.in_ok-first.was) c.if-first.false
