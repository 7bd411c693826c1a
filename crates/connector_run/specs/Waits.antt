-- With which limits a run of one connector waits. Calls stand the latest first.
use Rattle.std.specs.Prelude.{ℕ, ◌≡◌, ◌-◌, nat_le, if◌then◌else◌, List, [], ◌∷◌, Option, Some}
use Rattle.std.specs.Prelude.{None}
use Rattle.ev_base.specs.Net.{Call, Waits}
use Rattle.ev_base.specs.declared.net.Waited.{Waited}
use Rattle.ev_base.specs.declared.net.Waited.TheVariants.{Reports, Quiet, Over, Failed}

-- the moment that the answer of a wait tells, in milliseconds since the start, or the one before it
abbrev pub moment_told : Waited → ℕ → ℕ
moment_told (Reports now count) before = now
moment_told (Quiet now) before = now
moment_told (Over now) before = now
moment_told Failed before = before

-- the moment that the last wait of these calls told, 0 before the first
abbrev pub moment_of : List Call → ℕ
moment_of [] = 0
moment_of (Waits most answer reports ∷ calls) = moment_told answer (moment_of calls)
moment_of (call ∷ calls) = moment_of calls

-- how many milliseconds are left from a moment until the deadline, of which there is at least one;
-- and none is said once the deadline is reached
abbrev pub left_until : ℕ → ℕ → Option ℕ
left_until deadline moment =
    if nat_le deadline moment then None else Some (deadline - moment)

-- Each wait of these calls was asked with exactly the time that was left until the deadline, from
-- the moment that the wait before it told; and without a limit if that had reached the deadline.
abbrev pub AskedUntil : ℕ → List Call → Type 0
AskedUntil deadline [] = Unit {0}
AskedUntil deadline (Waits most answer reports ∷ calls) =
    (most ≡ left_until deadline (moment_of calls)) × AskedUntil deadline calls
AskedUntil deadline (call ∷ calls) = AskedUntil deadline calls
