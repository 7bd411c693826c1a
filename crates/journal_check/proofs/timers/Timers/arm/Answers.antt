use Rattle.std.proofs.Common.{◌==◌, ap, ◌∙◌}
use Rattle.std.specs.List.{list_any}
use Rattle.reactor_summary.specs.declared.parts.ArmedTimer.{ArmedTimer}
use Rattle.journal_check.proofs.Keyed.{none_left}
use Rattle.journal_check.proofs.timers.Timers.arm.Goals as goal

pub insert-requires : goal.insert-requires
insert-requires c =
    ap (list_any (λ (b : ArmedTimer). b.timer == c.args.a.timer)) c.disarm.ensures
    ∙ none_left (λ (b : ArmedTimer). b.timer == c.args.a.timer) c.args.self.now
