use Rattle.std.proofs.Common.{◌≡◌, ◌≤◌, length}
use Rattle.std.specs.Vec.{vec_capacity}
use Rattle.timer_queue.specs.Timers.{in_order, without_handle}
use Rattle.timer_wheel.specs.Spokes.{timers_of}
use Rattle.timer_wheel.specs.Chains.{IsClear, IsWheel}
use Rattle.timer_wheel.specs.Index.{Covers}
use Rattle.timer_wheel.proofs.wheel.WheelTimersTimerQueue.cancel_all.Given as goal

abbrev pub invariant-loop-end : goal.invariant-loop-end
invariant-loop-end g l =
    let w = l.self-inside in
    let before = l.initial.self-inside in
    record {
      wheel : IsWheel (length before.chains.heads.items) w.chains.resolution w.chains.heads.items
          w.chains.places.items w.first;
      resolution : w.chains.resolution ≡ before.chains.resolution;
      others : without_handle l.handle.0 (in_order (timers_of w.chains.places.items))
          ≡ without_handle l.handle.0 (in_order (timers_of before.chains.places.items));
      capacity : vec_capacity w.chains.places ≡ vec_capacity before.chains.places;
      fewer : length w.chains.places.items ≤ length before.chains.places.items;
      index : w.index ≡ before.index;
      room : w.room ≡ before.room;
      covers : Covers w.index.items (timers_of w.chains.places.items);
      within : l.end ≤ length w.chains.places.items;
      clear : IsClear l.handle.0 w.chains.places.items l.end;
    }

abbrev pub decreases-loop-end : goal.decreases-loop-end
decreases-loop-end g l = l.end
