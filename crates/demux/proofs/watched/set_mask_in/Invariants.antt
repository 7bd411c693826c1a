use Rattle.std.proofs.Common.{◌≡◌, ◌++◌, take, drop}
use Rattle.demux.specs.PlayNet.{with_mask}
use Rattle.demux.proofs.watched.set_mask_in.Given as goal

abbrev pub invariant-loop-w : goal.invariant-loop-w
invariant-loop-w l = l.watched ≡ with_mask l.handle.0 l.mask (take l.w-index l.initial.watched)
    ++ drop l.w-index l.initial.watched
