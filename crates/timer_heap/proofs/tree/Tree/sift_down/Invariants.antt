use Rattle.std.proofs.Common.{ℕ, ◌<◌, ◌≤◌, ◌-◌, length}
use Rattle.timer_heap.specs.Tree.{IsClear, HasKeys, KeepsRoom, AreMoved, IsHeapAbove}
use Rattle.timer_heap.proofs.tree.Tree.sift_down.Given as goal

abbrev pub invariant-loop-child : goal.invariant-loop-child
invariant-loop-child l = record {
  from : l.from ≤ l.at;
  clear : (handle : ℕ) → IsClear handle l.initial.self.slots.items l.from
      → IsClear handle l.self.slots.items l.from;
  within : l.at < length l.self.slots.items;
  heap : IsHeapAbove l.self.slots.items l.at;
  moved : AreMoved l.initial.self.slots.items l.self.slots.items l.initial.self.keys.items
      l.self.keys.items;
  keyed : HasKeys l.self;
  room : KeepsRoom l.initial.self l.self;
}

abbrev pub decreases-loop-child : goal.decreases-loop-child
decreases-loop-child l = length l.self.slots.items - l.at
