use Rattle.std.proofs.Common.{◌≡◌, ◌+◌, ◌++◌, List, length, length-append, ap, sym, ◌∙◌, subst}
use Rattle.std.proofs.Common.{arith}
use Rattle.timer_queue.specs.declared.timer.Timer.{Timer}
use Rattle.std.specs.List.Sorted.{IsPermutation}
use Rattle.timer_queue.specs.Content.{Content}
use Rattle.timer_queue.specs.Timers.{IsSchedule}
use Rattle.timer_queue.proofs.Schedules.{length-with_timer}
use Rattle.timer_queue.proofs.Merged.{IsMerging, merging_begins, merging_ends, passing_room}
use Rattle.timer_queue.proofs.Merged.{passing_room_more, passing_fresh, passing_more}
use Rattle.timer_queue.proofs.sorted.put_together.Goals as goal

pub loop-t-init : goal.loop-t-init
loop-t-init c = (
  merging_begins c.args.recent.now.timers c.args.list.now.timers
      c.args.merged.now.timers c.requires.empty c.requires.rises,
  arith_refl,
  omega (arith, ap length c.requires.empty),
)
  where
    arith_refl : c.args.list.now.spare + length c.args.list.now.timers
        ≡ c.args.list.now.spare + length c.args.list.now.timers
    arith_refl = λ i. c.args.list.now.spare + length c.args.list.now.timers

pub pass_before-requires-clause-order : goal.pass_before-requires-clause-order
pass_before-requires-clause-order c = c.loop-t.invariant.0.rises

pub pass_before-requires-clause-room : goal.pass_before-requires-clause-room
pass_before-requires-clause-room c =
    let begun : List Timer = c.args.recent.now.timers ++ c.args.list.now.timers in
    passing_room begun c.loop-t.merged.timers c.loop-t.list.timers c.loop-t.recent.timers
    c.args.merged.now.spare c.loop-t.merged.spare c.loop-t.invariant.0
    (omega (arith, length-append c.args.recent.now.timers c.args.list.now.timers, c.requires.room))
    c.loop-t.invariant.2

pub schedule-requires-clause-room : goal.schedule-requires-clause-room
schedule-requires-clause-room c =
    passing_room_more (c.args.recent.now.timers ++ c.args.list.now.timers)
    (c.loop-t.merged.timers ++ c.loop-t.list.timers) c.pass_before.new.to.timers
    c.pass_before.new.self.timers c.loop-t.recent.timers c.take_first.new.self.timers
    c.in-Some.t c.loop-t.invariant.0 c.pass_before.ensures.timers c.in-Some.ensures.taken
    c.args.merged.now.spare c.pass_before.new.to.spare
    (omega (
      arith,
      length-append c.args.recent.now.timers c.args.list.now.timers,
      c.requires.room,
    )) (c.pass_before.ensures.spare_there ∙ c.loop-t.invariant.2)

pub schedule-requires-clause-fresh : goal.schedule-requires-clause-fresh
schedule-requires-clause-fresh c =
    passing_fresh (c.args.recent.now.timers ++ c.args.list.now.timers)
    (c.loop-t.merged.timers ++ c.loop-t.list.timers) c.pass_before.new.to.timers
    c.pass_before.new.self.timers c.loop-t.recent.timers c.take_first.new.self.timers
    c.in-Some.t c.loop-t.invariant.0 c.pass_before.ensures.timers c.in-Some.ensures.taken
    c.requires.apart

pub loop-t-preserved : goal.loop-t-preserved
loop-t-preserved c =
    let begun : List Timer = c.args.recent.now.timers ++ c.args.list.now.timers in (
      subst (λ (xs : List Timer). IsMerging begun (xs ++ c.pass_before.new.self.timers)
          c.take_first.new.self.timers (length begun) (length c.take_first.new.self.timers))
          (sym c.schedule.ensures.timers)
          (passing_more begun (c.loop-t.merged.timers ++ c.loop-t.list.timers)
          c.pass_before.new.to.timers c.pass_before.new.self.timers c.loop-t.recent.timers
          c.take_first.new.self.timers c.in-Some.t c.loop-t.invariant.0
          c.pass_before.ensures.timers c.in-Some.ensures.taken c.requires.apart
          c.pass_before.ensures.behind),
      c.pass_before.ensures.spare ∙ c.loop-t.invariant.1,
      omega (
        arith,
        c.schedule.ensures.spare,
        ap length c.schedule.ensures.timers,
        length-with_timer c.in-Some.t c.pass_before.new.to.timers,
        c.pass_before.ensures.spare_there,
        c.loop-t.invariant.2,
      ),
    )

pub pass_all-requires-clause-order : goal.pass_all-requires-clause-order
pass_all-requires-clause-order c = c.loop-t.invariant.0.rises

pub pass_all-requires-clause-room : goal.pass_all-requires-clause-room
pass_all-requires-clause-room c =
    let begun : List Timer = c.args.recent.now.timers ++ c.args.list.now.timers in
    passing_room begun c.loop-t.merged.timers c.loop-t.list.timers c.loop-t.recent.timers
    c.args.merged.now.spare c.loop-t.merged.spare c.loop-t.invariant.0
    (omega (arith, length-append c.args.recent.now.timers c.args.list.now.timers, c.requires.room))
    c.loop-t.invariant.2

pub returns-clause-list : goal.returns-clause-list
returns-clause-list c =
    let begun : List Timer = c.args.recent.now.timers ++ c.args.list.now.timers in
    subst (λ (v : Content). IsPermutation begun v.timers) (sym c.swap.ensures.x_after)
    (subst (λ (xs : List Timer). IsPermutation begun xs) (sym c.pass_all.ensures.timers)
    (merging_ends begun (c.loop-t.merged.timers ++ c.loop-t.list.timers) c.loop-t.recent.timers
    (length begun) (length c.loop-t.recent.timers) c.in_default.ensures.none
    c.loop-t.invariant.0))

pub returns-clause-rises : goal.returns-clause-rises
returns-clause-rises c =
    subst (λ (v : Content). IsSchedule v.timers) (sym c.swap.ensures.x_after)
    (subst IsSchedule (sym c.pass_all.ensures.timers) c.loop-t.invariant.0.rises)
