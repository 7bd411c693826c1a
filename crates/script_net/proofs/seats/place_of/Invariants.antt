use Rattle.std.proofs.Common.{◌≡◌, ◌<◌, ℕ, true, Some}
use Rattle.std.specs.List.{slice_get}
use Rattle.script_net.specs.declared.seats.Place.{Place}
use Rattle.script_net.proofs.seats.place_of.Given as goal

abbrev pub invariant-loop-at : goal.invariant-loop-at
invariant-loop-at l = (k : ℕ) (p : Place) → k < l.at → slice_get l.places k ≡ Some p
    → p.attached ≡ true → p.handle ≡ l.handle.0 → ⊥
