use Rattle.std.proofs.Common.{◌≡◌}
use Rattle.demux_mio.proofs.watching.Watching.owe_listeners.Given as goal

abbrev pub invariant-loop-at : goal.invariant-loop-at
invariant-loop-at l = l.self ≡ l.initial.self
