use Rattle.std.specs.Io.KnownBytes.{Keeps}
use Rattle.ev_base.proofs.standard.write_some.Given as goal

-- an interrupted write left the bytes
abbrev pub invariant-loop : goal.invariant-loop
invariant-loop g l = Keeps (g.W.Write.contents l.fn.inner) (g.W.Write.contents l.inner)
