use Rattle.std.proofs.Common.{◌≤◌, ◌-◌, length, vec_len}
use Rattle.server_run.proofs.running.no_observers.Given as goal

abbrev pub invariant-loop-observers : goal.invariant-loop-observers
invariant-loop-observers l = length l.observers.items ≤ l.many

abbrev pub decreases-loop-observers : goal.decreases-loop-observers
decreases-loop-observers l = l.many - vec_len l.observers
