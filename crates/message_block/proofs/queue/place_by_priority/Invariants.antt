use Rattle.std.proofs.Common.{◌≡◌, ◌≤◌, drop, true}
use Rattle.std.specs.List.{list_all}
use Rattle.std.specs.VecDeque.{deque_len}
use Rattle.message_block.specs.Messages.{is_below}
use Rattle.message_block.proofs.queue.place_by_priority.Given as goal

abbrev pub invariant-loop-place : goal.invariant-loop-place
invariant-loop-place l = record {
  within : l.place ≤ deque_len l.messages;
  lower : list_all (is_below l.priority) (drop l.place l.messages.items) ≡ true;
}

abbrev pub decreases-loop-place : goal.decreases-loop-place
decreases-loop-place l = l.place
