use Rattle.std.proofs.Common.{◌≡◌, ◌<◌, ℕ, length, get_or}
use Rattle.timer_queue.specs.declared.timer.Timer.{Timer}
use Rattle.timer_heap.specs.Heap.{OnPath}
use Rattle.timer_heap.specs.Tree.{HasKeys, KeepsRoom, AreMoved, IsHeapBelow}
use Rattle.timer_heap.proofs.tree.Tree.sift_up.Given as goal

abbrev pub invariant-loop-at : goal.invariant-loop-at
invariant-loop-at l = record {
  within : l.at < length l.self.slots.items;
  heap : IsHeapBelow l.self.slots.items l.at;
  on_path : OnPath l.at l.from;
  path : (k : ℕ) (d : Timer) → (OnPath k l.from → ⊥)
      → get_or l.self.slots.items k d ≡ get_or l.initial.self.slots.items k d;
  moved : AreMoved l.initial.self.slots.items l.self.slots.items l.initial.self.keys.items
      l.self.keys.items;
  keyed : HasKeys l.self;
  room : KeepsRoom l.initial.self l.self;
}

abbrev pub decreases-loop-at : goal.decreases-loop-at
decreases-loop-at l = l.at
