-- Counts of calls and of faults. They are 64-bit numbers that stand still at their end, as all
-- counts of a long-lived server do.
use Rattle.std.specs.Prelude.{◌≡◌, ◌+◌, ◌-◌, ◌≤◌, ◌^◌, ℕ, min}

-- the count after one more
abbrev pub counted : ℕ → ℕ
counted n = min (n + 1) (2 ^ 64 - 1)

-- a count rose by one or more, or stands at its end
abbrev pub Rose : ℕ → ℕ → Type 0
Rose before now = counted before ≤ now

-- a count tells how many there were, up to its end
abbrev pub Counts : ℕ → ℕ → Type 0
Counts count many = count ≡ min many (2 ^ 64 - 1)
