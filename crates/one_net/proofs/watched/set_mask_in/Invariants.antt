use Rattle.std.proofs.Common.{◌≡◌, ◌++◌, take, drop, map}
use Rattle.one_net.specs.Watched.{masked}
use Rattle.one_net.proofs.watched.set_mask_in.Given as goal

abbrev pub invariant-loop-entry : goal.invariant-loop-entry
invariant-loop-entry l = l.watched
    ≡ map (masked l.handle.0 l.mask) (take l.entry-index l.initial.watched)
    ++ drop l.entry-index l.initial.watched
