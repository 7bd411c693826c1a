use Rattle.std.proofs.Common.{◌≡◌, ◌∙◌, ap, sym}
use Rattle.cmd_one.proofs.Endings.{end_unbegun, unbegun}
use Rattle.cmd_one.proofs.connection.give_up.Goals as goal
use Rattle.cmd_one.proofs.connection.give_up.Goals.{in-true, in-false}

pub returns : goal.returns
returns g c input output leaves =
    let is : c.if-left.end ≡ end_unbegun c.args.left.broken =
    elim c.if-left.branch [
      | in-true w ↦ w.end-is
          ∙ ap end_unbegun (sym w.in-true.is)
      | in-false w ↦ w.end-is
          ∙ ap end_unbegun (sym w.in-false.is)
    ] in
    unbegun g.S.Source.facts g.K.Sink.facts g.V.Volumes.facts input output c.args.left
    c.if-left.end is leaves
