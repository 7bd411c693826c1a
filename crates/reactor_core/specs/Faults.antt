-- Counts of faults over several calls.
use Rattle.std.specs.Prelude.{ℕ, ◌≤◌, ◌-◌, ◌^◌, min}

-- A count did not fall, up to the end at which counts stand still. So what rose in an earlier call
-- is above its old value still.
abbrev pub HasNotFallen : ℕ → ℕ → Type 0
HasNotFallen before now = min before (2 ^ 64 - 1) ≤ now
