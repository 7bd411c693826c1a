use Rattle.std.proofs.Common.{◌≡◌}
use Rattle.message_lines.specs.Caller.{KeepsWhatCame, AreSame}
use Rattle.message_lines.proofs.lines.Lines.take_rest.Given as goal

-- what came so far is kept
abbrev pub invariant-loop : goal.invariant-loop
invariant-loop g l = KeepsWhatCame l.fn.self l.self × (l.self.puts ≡ l.fn.self.puts)
    × AreSame l.fn.self l.self
