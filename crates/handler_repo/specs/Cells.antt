-- What a cell has.
use Rattle.std.specs.Prelude.{Option, Some, None, IsSome}
use Rattle.std.proofs.Common.{sym, true≢false}

-- the event handler of a cell that has one
abbrev pub held : {H : Type 0} (content : Option H) → IsSome content → H
held (Some h) there = h
held None there = absurd (true≢false (sym there))
