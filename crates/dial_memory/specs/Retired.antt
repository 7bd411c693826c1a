-- The ends that the net in memory took back.
use Rattle.std.specs.Prelude.{ℕ, ◌==◌, if◌then◌else◌, List, [], ◌∷◌, Option, Some, None}
use Rattle.dial_memory.specs.declared.mem_dial_end.MemDialEnd.{MemDialEnd}

-- the end that was retired last under a handle
abbrev pub retired_of : ℕ → List (ℕ × MemDialEnd) → Option MemDialEnd
retired_of handle [] = None
retired_of handle (entry ∷ retired) =
    if entry.0 == handle then Some entry.1 else retired_of handle retired
