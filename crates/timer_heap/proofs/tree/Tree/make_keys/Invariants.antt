use Rattle.std.proofs.Common.{◌≡◌, ◌<◌, ℕ, length, get_or}
use Rattle.std.specs.Vec.{vec_capacity}
use Rattle.timer_heap.specs.Tree.{HasKeys}
use Rattle.timer_heap.proofs.tree.Tree.make_keys.Given as goal

abbrev pub invariant-loop-key : goal.invariant-loop-key
invariant-loop-key l = record {
  slots : l.self.slots ≡ l.initial.self.slots;
  keyed : HasKeys l.self;
  keys : length l.self.keys.items ≡ l.key;
  places : length l.self.places.items ≡ l.key;
  kept : (k : ℕ) → k < length l.initial.self.keys.items
      → get_or l.self.keys.items k 0 ≡ get_or l.initial.self.keys.items k 0;
  keys_room : vec_capacity l.self.keys ≡ vec_capacity l.initial.self.keys;
  places_room : vec_capacity l.self.places ≡ vec_capacity l.initial.self.places;
}
