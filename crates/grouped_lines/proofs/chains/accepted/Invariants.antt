use Rattle.std.proofs.Common.{◌≡◌, ◌≤◌, take}
use Rattle.laws_script_runs.specs.Connections.{accepted}
use Rattle.grouped_lines.proofs.chains.accepted.Given as goal

-- those of the entries so far
abbrev pub invariant-loop-entry : goal.invariant-loop-entry
invariant-loop-entry l = (l.accepted ≡ accepted (take l.entry-index l.entries))
    × (l.accepted ≤ l.entry-index)
