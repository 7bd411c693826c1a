use Rattle.std.proofs.Common.{◌≡◌, ◌+◌, ◌-◌, ◌≤◌, ◌++◌, length, List, ap, ◌∙◌, arith, length-append}
use Rattle.std.proofs.lemmas.List.Sorted.{length_permutation}
use Rattle.timer_queue.specs.declared.timer.Timer.{Timer}
use Rattle.timer_queue.specs.Content.{Content}
use Rattle.timer_queue.specs.Timers.{in_order, is_scheduled, with_timer}
use Rattle.timer_queue.proofs.Schedules.{length-with_timer}
use Rattle.timer_queue.proofs.Merged.{fresh_in_recent, rows_added, added_recent, fresh_in_whole}
use Rattle.timer_queue.proofs.Merged.{room_in_whole, added_whole, rows_whole}
use Rattle.timer_queue.proofs.sorted.SortedTimersTimerQueue.schedule.Goals as goal

pub schedule-requires-clause-fresh : goal.schedule-requires-clause-fresh
schedule-requires-clause-fresh c =
    fresh_in_recent c.args.t c.self.inside.recent.timers c.self.inside.list.timers
    (ap (λ (v : Content). is_scheduled c.args.t.timer v.timers) c.self.view_is ∙ c.requires.fresh)

pub invariant_of-self : goal.invariant_of-self
invariant_of-self c =
    let spare : c.self.inside.room - (length c.self.inside.recent.timers
    + length c.self.inside.list.timers) ≡ c.args.self.now.spare =
    ap (λ (v : Content). v.spare) c.self.view_is in
    let fits : length c.self.inside.recent.timers + length c.self.inside.list.timers + 1
    ≤ c.self.inside.room = omega (arith, spare, c.requires.room) in
    rows_added c.args.t c.self.inside.recent.timers c.schedule.new.self.timers
    c.self.inside.list.timers c.self.inside.merged.timers c.self.inside.room
    c.self.inside.list.spare c.self.inside.merged.spare c.schedule.ensures.timers fits
    (ap (λ (v : Content). is_scheduled c.args.t.timer v.timers) c.self.view_is
    ∙ c.requires.fresh) c.self.invariant

pub returns-then-spare-gt0-clause-timers : goal.returns-then-spare-gt0-clause-timers
returns-then-spare-gt0-clause-timers c =
    ap (λ (xs : List Timer). in_order (xs ++ c.self.inside.list.timers)) c.schedule.ensures.timers
    ∙ (added_recent c.args.t c.self.inside.recent.timers c.self.inside.list.timers
    c.self.invariant.apart (ap (λ (v : Content). is_scheduled c.args.t.timer v.timers)
    c.self.view_is ∙ c.requires.fresh)
    ∙ ap (λ (v : Content). with_timer c.args.t v.timers) c.self.view_is)

pub returns-then-spare-gt0-clause-spare : goal.returns-then-spare-gt0-clause-spare
returns-then-spare-gt0-clause-spare c =
    let spare : c.self.inside.room - (length c.self.inside.recent.timers
    + length c.self.inside.list.timers) ≡ c.args.self.now.spare =
    ap (λ (v : Content). v.spare) c.self.view_is in
    let fits : length c.self.inside.recent.timers + length c.self.inside.list.timers + 1
    ≤ c.self.inside.room = omega (arith, spare, c.requires.room) in
    omega (
      arith,
      spare,
      fits,
      ap length c.schedule.ensures.timers,
      length-with_timer c.args.t c.self.inside.recent.timers,
    )

pub schedule-requires-2-clause-room : goal.schedule-requires-2-clause-room
schedule-requires-2-clause-room c =
    let spare : c.self.inside.room - (length c.self.inside.recent.timers
    + length c.self.inside.list.timers) ≡ c.args.self.now.spare =
    ap (λ (v : Content). v.spare) c.self.view_is in
    let fits : length c.self.inside.recent.timers + length c.self.inside.list.timers + 1
    ≤ c.self.inside.room = omega (arith, spare, c.requires.room) in
    room_in_whole c.self.inside.recent.timers c.self.inside.list.timers
    c.put_together.new.list.timers c.self.inside.room c.self.inside.merged.spare
    c.put_together.new.list.spare fits c.self.invariant.merged_room c.put_together.ensures.room
    (record { timers = c.put_together.ensures.list; rises = c.put_together.ensures.rises })

pub schedule-requires-2-clause-fresh : goal.schedule-requires-2-clause-fresh
schedule-requires-2-clause-fresh c =
    fresh_in_whole c.args.t c.self.inside.recent.timers c.self.inside.list.timers
    c.put_together.new.list.timers (ap (λ (v : Content). is_scheduled c.args.t.timer v.timers)
    c.self.view_is ∙ c.requires.fresh)
    (record { timers = c.put_together.ensures.list; rises = c.put_together.ensures.rises })

pub invariant_of-self-2 : goal.invariant_of-self-2
invariant_of-self-2 c =
    let spare : c.self.inside.room - (length c.self.inside.recent.timers
    + length c.self.inside.list.timers) ≡ c.args.self.now.spare =
    ap (λ (v : Content). v.spare) c.self.view_is in
    let fits : length c.self.inside.recent.timers + length c.self.inside.list.timers + 1
    ≤ c.self.inside.room = omega (arith, spare, c.requires.room) in
    rows_whole c.args.t c.self.inside.recent.timers c.self.inside.list.timers
    c.put_together.new.list.timers c.put_together.new.recent.timers
    c.put_together.new.merged.timers c.self.inside.room c.self.inside.merged.spare
    c.put_together.new.list.spare c.put_together.new.merged.spare
    c.put_together.ensures.recent c.put_together.ensures.merged fits c.self.invariant.merged_room
    c.put_together.ensures.room (omega
    (arith, c.put_together.ensures.merged_room, c.self.invariant.list_room))
    (ap (λ (v : Content). is_scheduled c.args.t.timer v.timers) c.self.view_is
    ∙ c.requires.fresh) c.self.invariant.apart
    (record { timers = c.put_together.ensures.list; rises = c.put_together.ensures.rises })
    c.schedule-2.new.self.timers c.schedule-2.new.self.spare c.schedule-2.ensures.timers
    c.schedule-2.ensures.spare

pub returns-clause-timers : goal.returns-clause-timers
returns-clause-timers c =
    ap (λ (xs : List Timer). in_order (xs ++ c.schedule-2.new.self.timers))
    c.put_together.ensures.recent
    ∙ (ap in_order c.schedule-2.ensures.timers
    ∙ (added_whole c.args.t c.self.inside.recent.timers c.self.inside.list.timers
    c.put_together.new.list.timers c.self.invariant.apart
    (ap (λ (v : Content). is_scheduled c.args.t.timer v.timers) c.self.view_is
    ∙ c.requires.fresh) (record {
      timers = c.put_together.ensures.list;
      rises = c.put_together.ensures.rises;
    }) ∙ ap (λ (v : Content). with_timer c.args.t v.timers)
    c.self.view_is))

pub returns-clause-spare : goal.returns-clause-spare
returns-clause-spare c =
    let spare : c.self.inside.room - (length c.self.inside.recent.timers
    + length c.self.inside.list.timers) ≡ c.args.self.now.spare =
    ap (λ (v : Content). v.spare) c.self.view_is in
    let fits : length c.self.inside.recent.timers + length c.self.inside.list.timers + 1
    ≤ c.self.inside.room = omega (arith, spare, c.requires.room) in
    omega (
      arith,
      spare,
      fits,
      ap length c.put_together.ensures.recent,
      ap length c.schedule-2.ensures.timers,
      length-with_timer c.args.t c.put_together.new.list.timers,
      length_permutation (c.self.inside.recent.timers ++ c.self.inside.list.timers)
          c.put_together.new.list.timers c.put_together.ensures.list,
      length-append c.self.inside.recent.timers c.self.inside.list.timers,
    )
