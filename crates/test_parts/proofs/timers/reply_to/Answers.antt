use Rattle.std.proofs.Common.{ap, sym, ◌∙◌}
use Rattle.timer_queue.specs.Timers.{is_scheduled}
use Rattle.test_parts.specs.declared.timers.Reply.TheVariants.{Due}
use Rattle.test_parts.specs.Replies.{reply_of, timers_after}
use Rattle.test_parts.proofs.Fresh.{taken_out, due_is}
use Rattle.test_parts.proofs.timers.reply_to.Goals as goal

pub schedule-requires-clause-fresh : goal.schedule-requires-clause-fresh
schedule-requires-clause-fresh g c =
    ap (is_scheduled c.in-Schedule.t.timer)
    (c.in_ok-reserve-in-Schedule.ensures.timers ∙ c.cancel-was_there.ensures.timers)
    ∙ taken_out c.in-Schedule.t.timer _

pub returns-in-PopDue-clause-reply : goal.returns-in-PopDue-clause-reply
returns-in-PopDue-clause-reply g c =
    let timers = g.Q.TimerQueue.timers in
    let d = due_is c.in-PopDue.now (timers c.args.queue.now) (timers c.pop_due.new.self)
    c.pop_due.result c.pop_due.ensures.taken c.pop_due.ensures.due c.pop_due.ensures.none
    c.pop_due.ensures.unchanged in
    ap Due d.0 ∙ ap (λ call. reply_of call (timers c.args.queue.now)) (sym c.in-PopDue.is)

pub returns-in-PopDue-clause-timers : goal.returns-in-PopDue-clause-timers
returns-in-PopDue-clause-timers g c =
    let timers = g.Q.TimerQueue.timers in
    let d = due_is c.in-PopDue.now (timers c.args.queue.now) (timers c.pop_due.new.self)
    c.pop_due.result c.pop_due.ensures.taken c.pop_due.ensures.due c.pop_due.ensures.none
    c.pop_due.ensures.unchanged in
    d.1 ∙ ap (λ call. timers_after call (timers c.args.queue.now)) (sym c.in-PopDue.is)
