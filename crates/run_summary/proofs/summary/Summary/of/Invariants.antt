use Rattle.std.proofs.Common.{take}
use Rattle.run_summary.proofs.Counting.{TellsFirst}
use Rattle.run_summary.proofs.summary.Summary.of.Given as goal

abbrev pub invariant-loop-entry : goal.invariant-loop-entry
invariant-loop-entry l = TellsFirst l.summary (take l.entry-index l.entries)
