-- A kind takes two bits of a gate.
use Rattle.std.proofs.Common.{◌<◌, arith}
use Rattle.ev_types.specs.declared.upcall.Kind.{Kind}
use Rattle.ev_types.specs.declared.upcall.Kind.TheVariants.{Read, Write, Except}
use Rattle.notify_ring.specs.Kinds.{kind_code}

pub kind_low : (k : Kind) → kind_code k < 3
kind_low Read = omega arith
kind_low Write = omega arith
kind_low Except = omega arith
