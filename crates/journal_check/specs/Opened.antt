-- The index of the open events: each is found by its number and by its handle.
use Rattle.std.specs.Prelude.{ℕ, ◌≡◌, ◌<◌, List, Option, Some}
use Rattle.std.specs.List.Sorted.{IsStrictlySortedBy}
use Rattle.std.specs.Map.{keys_of}
use Rattle.reactor_summary.specs.declared.parts.OpenEvent.{OpenEvent}
use Rattle.reactor_summary.specs.Tells.{Each}
use Rattle.std.specs.Ordering.{nat_cmp}

-- an open event stands at the number of its start, its number alone leads there, and its handle
-- leads to its number. Either may lead to an event that is no longer open
pub record IsStartedAt (starts events : ℕ → Option ℕ) (next : ℕ) (e : ℕ × OpenEvent) : Type 0 where
  pub led : starts e.1.event ≡ Some e.0
  pub only : (i : ℕ) → starts i ≡ Some e.0 → i ≡ e.1.event
  pub held : events e.1.handle.0 ≡ Some e.1.event
  pub below : e.0 < next

-- no number leads to a start that is yet to come
pub record IsOpenIndex (es : List (ℕ × OpenEvent)) (starts events : ℕ → Option ℕ) (next : ℕ) : Type
    0 where
  pub ordered : IsStrictlySortedBy nat_cmp (keys_of es)
  pub each : Each (IsStartedAt starts events next) es
  pub past : (i k : ℕ) → starts i ≡ Some k → k < next
