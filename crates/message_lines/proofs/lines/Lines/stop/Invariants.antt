use Rattle.std.proofs.Common.{◌≡◌}
use Rattle.crossbeam_queue.specs.Passes.{view}
use Rattle.message_lines.specs.Caller.{KeepsWhatCame, AreSame}
use Rattle.message_lines.proofs.lines.Lines.stop.Given as goal

-- nothing was put yet
abbrev pub invariant-loop : goal.invariant-loop
invariant-loop g l = KeepsWhatCame l.fn.self l.self
    × ((view l.self.puts).sent ≡ (view l.fn.self.puts).sent) × AreSame l.fn.self l.self
