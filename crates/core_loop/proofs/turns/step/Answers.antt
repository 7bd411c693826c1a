use Rattle.std.proofs.Common.{Ok, Err, Some, None, ap, sym, ◌∙◌}
use Rattle.reactor_core.specs.declared.polling.Polled.TheVariants as polled
use Rattle.reactor_core.specs.declared.polling.PollRefused.TheVariants as refused
use Rattle.core_loop.proofs.Idling.{none_found, none_next}
use Rattle.core_loop.proofs.Leading.{enough_of, goes_so, goes_then, known_turn, known_wait}
use Rattle.core_loop.proofs.Leading.{runs_nothing, same_below, step_enough, step_over, step_turned}
use Rattle.core_loop.proofs.Leading.{step_waited}
use Rattle.core_loop.proofs.turns.step.Goals as goal

pub poll-requires : goal.poll-requires
poll-requires g c = c.turn.ensures.none (c.in-Ok-None.is ∙ ap Ok c.in-Ok-None.field-0-is)

pub returns-in-Ok-Some-clause-ends : goal.returns-in-Ok-Some-clause-ends
returns-in-Ok-Some-clause-ends g c =
    let e = enough_of c.args.until c.in-Ok-Some.closed (sym c.is_enough.ensures
    ∙ c.if-is_enough.true)
    in (
      e.0,
      c.in-Ok-Some.closed,
      e.1,
      e.2,
      c.turn.ensures.closed c.in-Ok-Some.closed (c.in-Ok-Some.is ∙ ap Ok c.in-Ok-Some.field-0-is),
    )

pub returns-in-Ok-Some-clause-leads : goal.returns-in-Ok-Some-clause-leads
returns-in-Ok-Some-clause-leads g c = λ t F h stands fits none.
    step_enough _ t c.args.until c.in-Ok-Some.closed _ h _
    (known_turn _ t h _ c.turn.result _ (c.in-Ok-Some.is ∙ ap Ok c.in-Ok-Some.field-0-is)
    (c.turn.ensures.leads t F h stands none)) (sym c.is_enough.ensures ∙ c.if-is_enough.true)

pub returns-in-Ok-Some-2-clause-leads : goal.returns-in-Ok-Some-2-clause-leads
returns-in-Ok-Some-2-clause-leads g c = λ t F h stands fits none.
    step_turned _ t c.args.until c.in-Ok-Some.closed _ h _
    (known_turn _ t h _ c.turn.result _ (c.in-Ok-Some.is ∙ ap Ok c.in-Ok-Some.field-0-is)
    (c.turn.ensures.leads t F h stands none)) (sym c.is_enough.ensures ∙ c.if-is_enough.false)

pub returns-in-Ok-Over-clause-ends : goal.returns-in-Ok-Over-clause-ends
returns-in-Ok-Over-clause-ends g c =
    let over = c.poll.ensures.over (c.in-Ok-Over.is ∙ ap Ok c.in-Ok-Over.field-0-is) in
    let i = over.0 in (
      i,
      over.1,
      none_next c.poll.new.core i c.has_next.result
          (c.has_next.ensures i.terms i.first i.history i.stands) c.if-not-has_next.true,
    )

pub returns-in-Ok-Over-clause-leads : goal.returns-in-Ok-Over-clause-leads
returns-in-Ok-Over-clause-leads g c = λ t F h stands fits none.
    let a = known_turn _ t h _ c.turn.result (Ok None)
    (c.in-Ok-None.is ∙ ap Ok c.in-Ok-None.field-0-is) (c.turn.ensures.leads t F h stands none) in
    let b = known_wait _ t a.history _ _ c.poll.result (Ok polled.Over)
    (c.in-Ok-Over.is ∙ ap Ok c.in-Ok-Over.field-0-is)
    (c.poll.ensures.leads t a.first a.history a.stands fits a.none_open) in
    goes_then _ t h _ _ _ _ _ a b
    (step_over _ t c.args.until _ h a.history a.so.0 _ b
    (none_found _ t b.first b.history b.stands c.has_next.result
    (c.has_next.ensures t b.first b.history b.stands) c.if-not-has_next.true))

pub returns-in-Ok-clause-leads : goal.returns-in-Ok-clause-leads
returns-in-Ok-clause-leads g c = λ t F h stands fits none.
    let a = known_turn _ t h _ c.turn.result (Ok None)
    (c.in-Ok-None.is ∙ ap Ok c.in-Ok-None.field-0-is) (c.turn.ensures.leads t F h stands none) in
    let b = known_wait _ t a.history _ _ c.poll.result (Ok c.in-Ok.field-0) c.in-Ok.is
    (c.poll.ensures.leads t a.first a.history a.stands fits a.none_open) in
    goes_then _ t h _ _ _ _ _ a b (step_waited _ t c.args.until c.in-Ok.field-0 _ h a.history
    a.so.0 _ b)

pub returns-in-Err-Stopped-clause-ends : goal.returns-in-Err-Stopped-clause-ends
returns-in-Err-Stopped-clause-ends g c =
    c.poll.ensures.stopped (c.in-Err-Stopped.is ∙ ap Err c.in-Err-Stopped.field-0-is)

pub returns-in-Err-Stopped-clause-leads : goal.returns-in-Err-Stopped-clause-leads
returns-in-Err-Stopped-clause-leads g c = λ t F h stands fits none.
    let a = known_turn _ t h _ c.turn.result (Ok None)
    (c.in-Ok-None.is ∙ ap Ok c.in-Ok-None.field-0-is) (c.turn.ensures.leads t F h stands none) in
    let b = known_wait _ t a.history _ _ c.poll.result (Err refused.Stopped)
    (c.in-Err-Stopped.is ∙ ap Err c.in-Err-Stopped.field-0-is)
    (c.poll.ensures.leads t a.first a.history a.stands fits a.none_open) in
    let same = b.so.0 ∙ a.so.0 in
    goes_then _ t h _ _ _ _ _ a b (runs_nothing _ t c.args.until _ _ b.first h b.history same
    (same_below c.args.until h b.history same, b.so.1))

pub returns-in-Err-NetFailed-clause-leads : goal.returns-in-Err-NetFailed-clause-leads
returns-in-Err-NetFailed-clause-leads g c = λ t F h stands fits none.
    let a = known_turn _ t h _ c.turn.result (Ok None)
    (c.in-Ok-None.is ∙ ap Ok c.in-Ok-None.field-0-is) (c.turn.ensures.leads t F h stands none) in
    let b = known_wait _ t a.history _ _ c.poll.result (Err refused.NetFailed)
    (c.in-Err-NetFailed.is ∙ ap Err c.in-Err-NetFailed.field-0-is)
    (c.poll.ensures.leads t a.first a.history a.stands fits a.none_open) in
    let same = b.so ∙ a.so.0 in
    goes_then _ t h _ _ _ _ _ a b (runs_nothing _ t c.args.until _ _ b.first h b.history same
    (same_below c.args.until h b.history same))

pub returns-in-Err-NoMemory-poll-clause-leads : goal.returns-in-Err-NoMemory-poll-clause-leads
returns-in-Err-NoMemory-poll-clause-leads g c = λ t F h stands fits none.
    let a = known_turn _ t h _ c.turn.result (Ok None)
    (c.in-Ok-None.is ∙ ap Ok c.in-Ok-None.field-0-is) (c.turn.ensures.leads t F h stands none) in
    let b = known_wait _ t a.history _ _ c.poll.result (Err refused.NoMemory)
    (c.in-Err-NoMemory-poll.is ∙ ap Err c.in-Err-NoMemory-poll.field-0-is)
    (c.poll.ensures.leads t a.first a.history a.stands fits a.none_open) in
    let same = b.so ∙ a.so.0 in
    goes_then _ t h _ _ _ _ _ a b (runs_nothing _ t c.args.until _ _ b.first h b.history same
    (same_below c.args.until h b.history same))

pub returns-in-Err-NoMemory-clause-leads : goal.returns-in-Err-NoMemory-clause-leads
returns-in-Err-NoMemory-clause-leads g c = λ t F h stands fits none.
    let a = known_turn _ t h _ c.turn.result (Err c.in-Err-NoMemory.field-0)
    c.in-Err-NoMemory.is (c.turn.ensures.leads t F h stands none) in
    goes_so _ t h _ _ _ a (runs_nothing _ t c.args.until _ _ a.first h a.history a.so
    (same_below c.args.until h a.history a.so))

pub returns-in-Ok-2-clause-leads : goal.returns-in-Ok-2-clause-leads
returns-in-Ok-2-clause-leads g c = λ t F h stands fits none.
    let a = known_turn _ t h _ c.turn.result (Ok None)
    (c.in-Ok-None.is ∙ ap Ok c.in-Ok-None.field-0-is) (c.turn.ensures.leads t F h stands none) in
    let b = known_wait _ t a.history _ _ c.poll.result (Ok c.in-Ok.field-0) c.in-Ok.is
    (c.poll.ensures.leads t a.first a.history a.stands fits a.none_open) in
    goes_then _ t h _ _ _ _ _ a b (step_waited _ t c.args.until c.in-Ok.field-0 _ h a.history
    a.so.0 _ b)
