use Rattle.std.proofs.Common.{◌≡◌, ◌≤◌, ◌+◌, length}
use Rattle.std.specs.Vec.{vec_capacity}
use Rattle.timer_queue.specs.Timers.{in_order, without_handle}
use Rattle.timer_heap.specs.Tree.{IsClear, IsSound}
use Rattle.timer_heap.proofs.heap.HeapTimersTimerQueue.cancel_all.Given as goal

abbrev pub invariant-loop-end : goal.invariant-loop-end
invariant-loop-end l =
    let tree = l.self-inside.tree in
    let before = l.initial.self-inside.tree in
    record {
      sound : IsSound tree.slots.items tree.keys.items tree.places.items l.self-inside.index.items
          (vec_capacity tree.slots) (vec_capacity l.self-inside.index);
      others : without_handle l.handle.0 (in_order tree.slots.items)
          ≡ without_handle l.handle.0 (in_order before.slots.items);
      keys : length tree.keys.items ≡ length before.keys.items;
      fewer : length tree.slots.items ≤ length before.slots.items;
      within : l.end ≤ length tree.slots.items;
      clear : IsClear l.handle.0 tree.slots.items l.end;
    }

abbrev pub decreases-loop-end : goal.decreases-loop-end
decreases-loop-end l = l.end + length l.self-inside.tree.slots.items
