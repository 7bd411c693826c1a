-- The index of the live handles by number.
use Rattle.std.specs.Prelude.{ℕ, ◌≡◌, ◌==◌, Bool, true, false, List, Option, Some, None}
use Rattle.std.specs.List.{list_any}
use Rattle.std.specs.List.Sorted.{IsStrictlySortedBy}
use Rattle.std.specs.Map.{keys_of}
use Rattle.std.specs.Ordering.{nat_cmp}
use Rattle.reactor_summary.specs.declared.parts.LiveHandle.{LiveHandle}
use Rattle.reactor_summary.specs.Tells.{Each}

abbrev pub handle_number : LiveHandle → ℕ
handle_number h = h.handle.0

-- each stands at its number
pub record IsNumbered {X : Type 0} (num : X → ℕ) (es : List (ℕ × X)) : Type 0 where
  pub ordered : IsStrictlySortedBy nat_cmp (keys_of es)
  pub own : Each (λ e. e.0 ≡ num e.1) es

-- whether there is one that passes
abbrev pub passes : {X : Type 0} → (X → Bool) → Option X → Bool
passes q None = false
passes q (Some x) = q x

-- the live handle of a number
pub record IsTheOne (x : ℕ) (hs : List LiveHandle) (h : LiveHandle) : Type 0 where
  pub number : h.handle.0 ≡ x
  pub there : list_any (λ g. x == g.handle.0) hs ≡ true
  pub one : Each (λ g. g.handle.0 ≡ x → g ≡ h) hs
