use Rattle.std.proofs.Common.{◌≡◌, drop}
use Rattle.demux.specs.PlayNet.{retired_of}
use Rattle.demux.proofs.watched.retired_in.Given as goal

abbrev pub invariant-loop-r : goal.invariant-loop-r
invariant-loop-r l = retired_of l.handle.0 (drop l.r-index l.retired)
    ≡ retired_of l.handle.0 l.retired
