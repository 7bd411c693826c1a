use Rattle.std.proofs.Common.{length, ◌-◌, ◌≡◌, ◌≤◌, ◌++◌, ℕ, List, take, drop}
use Rattle.ace7_input.specs.Places.{behind}
use Rattle.ace7_input.proofs.place.Place.pass_on.Given as goal

-- what is before the place of the next byte stands for the bytes so far, whatever follows
abbrev pub invariant-loop-at : goal.invariant-loop-at
invariant-loop-at l = record {
  within : l.at ≤ length l.bytes;
  passes : (t : List ℕ) → behind l.initial.self (l.initial.bytes ++ t)
      ≡ take l.at l.bytes ++ behind l.self (drop l.at l.bytes ++ t);
}

abbrev pub decreases-loop-at : goal.decreases-loop-at
decreases-loop-at l = length l.bytes - l.at
