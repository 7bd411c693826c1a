use Rattle.std.specs.Io.KnownBytes.{Keeps}
use Rattle.ev_base.proofs.standard.read_again.Given as goal

-- an interrupted read left the bytes
abbrev pub invariant-loop : goal.invariant-loop
invariant-loop g l = Keeps (g.R.Read.remaining l.fn.inner) (g.R.Read.remaining l.inner)
