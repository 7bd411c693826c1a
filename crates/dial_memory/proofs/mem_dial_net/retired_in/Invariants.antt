use Rattle.std.proofs.Common.{◌≡◌, drop}
use Rattle.dial_memory.specs.Retired.{retired_of}
use Rattle.dial_memory.proofs.mem_dial_net.retired_in.Given as goal

abbrev pub invariant-loop-entry : goal.invariant-loop-entry
invariant-loop-entry l = retired_of l.handle (drop l.entry-index l.retired)
    ≡ retired_of l.handle l.retired
