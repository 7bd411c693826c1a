-- A number that was taken out is not there.
use Rattle.std.proofs.Common.{ℕ, ◌≡◌, ◌==◌, Bool, true, false, not, cond, List, [], ◌∷◌, ◌<◌, ◌≤◌}
use Rattle.std.proofs.Common.{Option, Some, None, refl, sym, ap, ◌∙◌, arith}
use Rattle.std.proofs.lemmas.Bool.{or_from, le-leb, lt-leb, cond-true, cond-false}
use Rattle.std.specs.List.{All}
use Rattle.std.specs.Prelude.{nat_le, IfSome, IfNone}
use Rattle.timer_queue.specs.declared.timer.Timer.{Timer}
use Rattle.timer_queue.specs.Timers.{is_scheduled, without_timer}
use Rattle.test_parts.specs.Replies.{first_due, without_due}

pub taken_out : (number : ℕ) (timers : List Timer)
    → is_scheduled number (without_timer number timers) ≡ false
taken_out number [] = refl
taken_out number (t ∷ rest) = step (t.timer == number) refl (taken_out number rest)
  where
    step : (b : Bool) → (t.timer == number) ≡ b
        → is_scheduled number (without_timer number rest) ≡ false
        → is_scheduled number (cond (not b) (t ∷ without_timer number rest)
        (without_timer number rest)) ≡ false
    step true e r = r
    step false e r = or_from (t.timer == number) (is_scheduled number (without_timer number rest)) e
        r

-- what a queue took out as due is the first of the list
pub due_is : (now : ℕ) (timers new : List Timer) (r : Option Timer)
    → IfSome r (λ t. timers ≡ t ∷ new) → IfSome r (λ t. t.deadline ≤ now)
    → IfNone r (All (λ t. now < t.deadline) timers) → IfNone r (new ≡ timers)
    → (r ≡ first_due now timers) × (new ≡ without_due now timers)
due_is now timers new (Some t) taken due none same =
    let e : nat_le t.deadline now ≡ true = le-leb _ _ due in (
      sym (ap (first_due now) taken ∙ cond-true (nat_le t.deadline now) (Some t) None e),
      sym (ap (without_due now) taken ∙ cond-true (nat_le t.deadline now) new (t ∷ new) e),
    )
due_is now [] new None taken due none same = (refl, same)
due_is now (t ∷ rest) new None taken due none same =
    let e : nat_le t.deadline now ≡ false = lt-leb _ _ (none 0 t (omega arith)) in (
      sym (cond-false (nat_le t.deadline now) (Some t) None e),
      same
          ∙ sym (cond-false (nat_le t.deadline now) rest (t ∷ rest) e),
    )
