use Rattle.std.proofs.Common.{◌≡◌, ◌+◌, ◌-◌, ◌==◌, ◌||◌, ◌++◌, not, Bool, cond, length, List, sym}
use Rattle.std.proofs.Common.{ap, ◌∙◌, arith}
use Rattle.timer_queue.specs.declared.timer.Timer.{Timer}
use Rattle.timer_queue.specs.Content.{Content}
use Rattle.timer_queue.specs.Timers.{in_order, is_scheduled, without_timer}
use Rattle.timer_queue.proofs.Merged.{scheduled_both, filtered_both, cancelled_recent}
use Rattle.timer_queue.proofs.Merged.{rows_cancelled_recent, rows_cancelled_list, left_of}
use Rattle.timer_queue.proofs.sorted.SortedTimersTimerQueue.cancel.Goals as goal

pub invariant_of-self : goal.invariant_of-self
invariant_of-self c =
    rows_cancelled_recent c.args.timer c.self.inside.recent.timers c.cancel.new.self.timers
    c.self.inside.list.timers c.self.inside.merged.timers c.self.inside.room
    c.self.inside.list.spare c.self.inside.merged.spare c.cancel.ensures.timers
    (sym c.cancel.ensures.found ∙ c.if-cancel.true) c.self.invariant

pub invariant_of-self-else-cancel : goal.invariant_of-self-else-cancel
invariant_of-self-else-cancel c =
    let fewer : length c.cancel-else-cancel.new.self.timers + cond c.cancel-else-cancel.result 1 0
    ≡ length c.self.inside.list.timers =
    ap (λ (xs : List Timer). length xs + cond c.cancel-else-cancel.result 1 0)
    c.cancel-else-cancel.ensures.timers
    ∙ left_of c.args.timer c.self.inside.list.timers c.self.invariant.list_rises
    c.cancel-else-cancel.result c.cancel-else-cancel.ensures.found in
    rows_cancelled_list c.args.timer c.self.inside.recent.timers c.cancel.new.self.timers
    c.self.inside.list.timers c.cancel-else-cancel.new.self.timers c.self.inside.merged.timers
    c.self.inside.room c.self.inside.list.spare c.cancel-else-cancel.new.self.spare
    c.self.inside.merged.spare c.cancel.ensures.timers c.cancel-else-cancel.ensures.timers
    (sym c.cancel.ensures.found ∙ c.if-cancel.false)
    (omega (arith, fewer, c.cancel-else-cancel.ensures.spare)) c.self.invariant

pub returns-then-cancel-clause-found : goal.returns-then-cancel-clause-found
returns-then-cancel-clause-found c =
    c.if-cancel.true
    ∙ (ap (λ (found : Bool). found || is_scheduled c.args.timer c.self.inside.list.timers)
    (sym (sym c.cancel.ensures.found ∙ c.if-cancel.true))
    ∙ (sym (scheduled_both c.args.timer c.self.inside.recent.timers c.self.inside.list.timers)
    ∙ ap (λ (v : Content). is_scheduled c.args.timer v.timers) c.self.view_is))

pub returns-then-cancel-clause-timers : goal.returns-then-cancel-clause-timers
returns-then-cancel-clause-timers c =
    ap (λ (xs : List Timer). in_order (xs ++ c.self.inside.list.timers)) c.cancel.ensures.timers
    ∙ (cancelled_recent c.args.timer c.self.inside.recent.timers c.self.inside.list.timers
    c.self.invariant.apart (sym c.cancel.ensures.found ∙ c.if-cancel.true)
    ∙ ap (λ (v : Content). without_timer c.args.timer v.timers) c.self.view_is)

pub returns-then-cancel-clause-spare : goal.returns-then-cancel-clause-spare
returns-then-cancel-clause-spare c =
    let fewer : length c.cancel.new.self.timers + cond c.cancel.result 1 0
    ≡ length c.self.inside.recent.timers =
    ap (λ (xs : List Timer). length xs + cond c.cancel.result 1 0) c.cancel.ensures.timers
    ∙ left_of c.args.timer c.self.inside.recent.timers c.self.invariant.recent_rises
    c.cancel.result c.cancel.ensures.found in
    let spare : c.self.inside.room - (length c.self.inside.recent.timers
    + length c.self.inside.list.timers) ≡ c.args.self.now.spare =
    ap (λ (v : Content). v.spare) c.self.view_is in
    omega (arith, fewer, spare, c.self.invariant.fits)

pub returns-else-cancel-clause-found : goal.returns-else-cancel-clause-found
returns-else-cancel-clause-found c =
    c.cancel-else-cancel.ensures.found
    ∙ (ap (λ (found : Bool). found || is_scheduled c.args.timer c.self.inside.list.timers)
    (sym (sym c.cancel.ensures.found ∙ c.if-cancel.false))
    ∙ (sym (scheduled_both c.args.timer c.self.inside.recent.timers c.self.inside.list.timers)
    ∙ ap (λ (v : Content). is_scheduled c.args.timer v.timers) c.self.view_is))

pub returns-else-cancel-clause-timers : goal.returns-else-cancel-clause-timers
returns-else-cancel-clause-timers c =
    ap (λ (xs : List Timer). in_order (xs ++ c.cancel-else-cancel.new.self.timers))
    c.cancel.ensures.timers
    ∙ (ap (λ (xs : List Timer). in_order
    (without_timer c.args.timer c.self.inside.recent.timers ++ xs))
    c.cancel-else-cancel.ensures.timers
    ∙ (filtered_both (λ t. not (t.timer == c.args.timer)) c.self.inside.recent.timers
    c.self.inside.list.timers c.self.invariant.apart
    ∙ ap (λ (v : Content). without_timer c.args.timer v.timers) c.self.view_is))

pub returns-else-cancel-clause-spare : goal.returns-else-cancel-clause-spare
returns-else-cancel-clause-spare c =
    let none : length c.cancel.new.self.timers + cond c.cancel.result 1 0
    ≡ length c.self.inside.recent.timers =
    ap (λ (xs : List Timer). length xs + cond c.cancel.result 1 0) c.cancel.ensures.timers
    ∙ left_of c.args.timer c.self.inside.recent.timers c.self.invariant.recent_rises
    c.cancel.result c.cancel.ensures.found in
    let same : length c.cancel.new.self.timers + 0 ≡ length c.self.inside.recent.timers =
    ap (λ (found : Bool). length c.cancel.new.self.timers + cond found 1 0)
    (sym c.if-cancel.false) ∙ none in
    let fewer : length c.cancel-else-cancel.new.self.timers + cond c.cancel-else-cancel.result 1 0
    ≡ length c.self.inside.list.timers =
    ap (λ (xs : List Timer). length xs + cond c.cancel-else-cancel.result 1 0)
    c.cancel-else-cancel.ensures.timers
    ∙ left_of c.args.timer c.self.inside.list.timers c.self.invariant.list_rises
    c.cancel-else-cancel.result c.cancel-else-cancel.ensures.found in
    let spare : c.self.inside.room - (length c.self.inside.recent.timers
    + length c.self.inside.list.timers) ≡ c.args.self.now.spare =
    ap (λ (v : Content). v.spare) c.self.view_is in
    omega (arith, same, fewer, spare, c.self.invariant.fits)
