-- Numbers that no timer has.
use Rattle.std.proofs.Common.{◌≡◌, ℕ, Bool, true, false, ◌==◌, List, [], ◌∷◌, if◌then◌else◌, refl}
use Rattle.std.proofs.Common.{arith}
use Rattle.std.proofs.lemmas.Grind.{common_steps}
use Rattle.timer_queue.specs.declared.timer.Timer.{Timer}
use Rattle.timer_queue.specs.Timers.{is_scheduled, with_timer, comes_before}

by_order : (number : ℕ) (t u : Timer) (rest : List Timer) (first : Bool)
    → (t.timer == number) ≡ false → is_scheduled number (u ∷ rest) ≡ false →
    is_scheduled number (with_timer t rest) ≡ false
    → is_scheduled number (if first then t ∷ u ∷ rest else u ∷ with_timer t rest) ≡ false
by_order number t u rest true other old ih = rw other old
by_order number t u rest false other old ih = grind (arith, common_steps)

-- a timer of another number is scheduled
pub fresh_with : (number : ℕ) (t : Timer) (ts : List Timer) → (t.timer == number) ≡ false
    → is_scheduled number ts ≡ false → is_scheduled number (with_timer t ts) ≡ false
fresh_with number t [] other old = rw other refl
fresh_with number t (u ∷ rest) other old =
    by_order number t u rest (comes_before t u) other old
    (fresh_with number t rest other (grind (arith, common_steps)))
