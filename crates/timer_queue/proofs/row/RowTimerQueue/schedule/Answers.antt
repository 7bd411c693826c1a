use Rattle.std.proofs.Common.{◌≡◌, ◌+◌, ◌-◌, ◌≤◌, ℕ, List, length, drop, false, sym, ap, ◌∙◌, subst}
use Rattle.std.proofs.Common.{arith}
use Rattle.std.proofs.lemmas.List.{length-drop}
use Rattle.std.specs.Vec.{vec_capacity}
use Rattle.timer_queue.specs.declared.timer.Timer.{Timer}
use Rattle.timer_queue.specs.Timers.{is_scheduled, with_timer, IsSchedule}
use Rattle.timer_queue.specs.Sorted.{IsSorted}
use Rattle.timer_queue.proofs.Schedules.{schedule_with, length-with_timer}
use Rattle.timer_queue.proofs.row.RowTimerQueue.schedule.Goals as goal
use Rattle.timer_queue.proofs.row.RowTimerQueue.schedule.Goals.{then-len-capacity}
use Rattle.timer_queue.proofs.row.RowTimerQueue.schedule.Goals.{else-len-capacity}

sorted_with : (t : Timer) (old items : List Timer) (head room capacity : ℕ) → IsSchedule old
    → is_scheduled t.timer old ≡ false → length old + 1 ≤ room → drop head items ≡ with_timer t old
    → head ≤ length items → room ≤ capacity → IsSorted items head room capacity
sorted_with t old items head room capacity sched fresh less is within places = record {
  schedule = subst IsSchedule (sym is) (schedule_with t old fresh sched);
  within = within;
  fits = omega (arith, less, ap length is, length-with_timer t old);
  places = places;
}

pub invariant_of-self : goal.invariant_of-self
invariant_of-self c =
    let live : List Timer = drop c.self.inside.head c.self.inside.timers.items in
    let fresh : is_scheduled c.args.t.timer live ≡ false =
    ap (λ q. is_scheduled c.args.t.timer q.timers) c.self.view_is ∙ c.requires.fresh in
    let spare : c.self.inside.room - (length c.self.inside.timers.items - c.self.inside.head)
    ≡ c.args.self.now.spare = ap (λ q. q.spare) c.self.view_is in
    let less : length live + 1 ≤ c.self.inside.room =
    omega (
      arith,
      spare,
      c.requires.room,
      length-drop c.self.inside.head c.self.inside.timers.items,
    ) in
    elim c.if-len-capacity.branch [
      | then-len-capacity w ↦
          let same : c.if-len-capacity.self-inside.timers ≡ w.close_up.new.timers =
          ap (λ s. s.timers) w.self-inside-is in
          let front : c.if-len-capacity.self-inside.head ≡ 0 = ap (λ s. s.head) w.self-inside-is in
          let room : c.if-len-capacity.self-inside.room ≡ c.self.inside.room =
          ap (λ s. s.room) w.self-inside-is in
          let held : drop c.if-len-capacity.self-inside.head
          c.if-len-capacity.self-inside.timers.items ≡ live =
          ap (λ h. drop h c.if-len-capacity.self-inside.timers.items) front
          ∙ ap (λ v. v.items) same ∙ w.close_up.ensures.items in
          sorted_with c.args.t live c.put_in.new.timers.items c.if-len-capacity.self-inside.head
          c.if-len-capacity.self-inside.room (vec_capacity c.put_in.new.timers)
          c.self.invariant.schedule fresh (omega (arith, less, room))
          (c.put_in.ensures.items ∙ ap (λ xs. with_timer c.args.t xs) held) (omega (arith, front))
          (omega (
            arith,
            room,
            c.self.invariant.places,
            c.put_in.ensures.capacity,
            ap (λ v. vec_capacity v) same,
            w.close_up.ensures.capacity,
          ))
      | else-len-capacity w ↦
          let front : c.if-len-capacity.self-inside.head ≡ c.self.inside.head =
          ap (λ s. s.head) w.self-inside-is in
          let room : c.if-len-capacity.self-inside.room ≡ c.self.inside.room =
          ap (λ s. s.room) w.self-inside-is in
          let same : c.if-len-capacity.self-inside.timers ≡ c.self.inside.timers =
          ap (λ s. s.timers) w.self-inside-is in
          let held : drop c.if-len-capacity.self-inside.head
          c.if-len-capacity.self-inside.timers.items ≡ live =
          ap (λ h. drop h c.if-len-capacity.self-inside.timers.items) front
          ∙ ap (λ v. drop c.self.inside.head v.items) same in
          sorted_with c.args.t live c.put_in.new.timers.items c.if-len-capacity.self-inside.head
          c.if-len-capacity.self-inside.room (vec_capacity c.put_in.new.timers)
          c.self.invariant.schedule fresh (omega (arith, less, room))
          (c.put_in.ensures.items ∙ ap (λ xs. with_timer c.args.t xs) held)
          (omega (
            arith,
            front,
            c.self.invariant.within,
            c.put_in.ensures.len,
            ap (λ v. length v.items) same,
          ))
          (omega (
            arith,
            room,
            c.self.invariant.places,
            c.put_in.ensures.capacity,
            ap (λ v. vec_capacity v) same,
          ))
    ]
