-- How a gate writes the kind of a posting.
use Rattle.std.specs.Prelude.{ℕ}
use Rattle.ev_types.specs.declared.upcall.Kind.{Kind}
use Rattle.ev_types.specs.declared.upcall.Kind.TheVariants.{Read, Write, Except}

abbrev pub kind_code : Kind → ℕ
kind_code Read = 0
kind_code Write = 1
kind_code Except = 2
