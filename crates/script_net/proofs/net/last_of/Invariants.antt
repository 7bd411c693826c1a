use Rattle.std.proofs.Common.{◌≡◌, ◌≤◌, length, take, reverse}
use Rattle.script_net.specs.NetContent.{retired_of}
use Rattle.script_net.proofs.net.last_of.Given as goal

abbrev pub invariant-loop-left : goal.invariant-loop-left
invariant-loop-left l = (l.left ≤ length l.retired)
    × (retired_of l.handle (reverse (take l.left l.retired))
    ≡ retired_of l.handle (reverse l.retired))

abbrev pub decreases-loop-left : goal.decreases-loop-left
decreases-loop-left l = l.left
