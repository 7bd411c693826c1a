-- The index of the armed timers: what is looked up stands for what is armed.
use Rattle.std.specs.Prelude.{ℕ, ◌≡◌, ◌==◌, Bool, true, not, List, Option, Some, None}
use Rattle.std.specs.List.{list_any}
use Rattle.std.specs.Ordering.{nat_cmp, ordering_then}
use Rattle.std.specs.declared.cmp.Ordering.{Ordering}
use Rattle.reactor_summary.specs.declared.parts.ArmedTimer.{ArmedTimer}
use Rattle.reactor_summary.specs.declared.parts.DueTimer.{DueTimer}
use Rattle.reactor_summary.specs.Tells.{Each}

-- pairs of numbers in order
abbrev pub pair_cmp : ℕ × ℕ → ℕ × ℕ → Ordering
pair_cmp a b = ordering_then (nat_cmp a.0 b.0) (nat_cmp a.1 b.1)

-- an armed timer stands at its deadline and number, is what its number leads to, and is among those
-- of its handle. A number may lead to a timer that is no longer armed
pub record IsArmedAt (lead : ℕ → Option ArmedTimer) (owns : ℕ × ℕ → Bool)
    (e : (ℕ × ℕ) × ArmedTimer) : Type 0 where
  pub key : e.0 ≡ (e.1.deadline, e.1.timer)
  pub led : lead e.1.timer ≡ Some e.1
  pub owned : owns (e.1.handle.0, e.1.timer) ≡ true

abbrev pub IsIndexed : List ((ℕ × ℕ) × ArmedTimer) → (ℕ → Option ArmedTimer) → (ℕ × ℕ → Bool)
    → Type 0
IsIndexed es lead owns = Each (IsArmedAt lead owns) es

-- the timer that came due is not armed
abbrev pub is_idle : Option DueTimer → List ArmedTimer → Bool
is_idle None armed = true
is_idle (Some due) armed = not (list_any (λ a. a.timer == due.timer) armed)
