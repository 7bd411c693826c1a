use Rattle.one_run.proofs.Ends.{can_end_unserved}
use Rattle.one_run.proofs.Waiting.{first_wait, last_wait, either_wait}
use Rattle.one_run.proofs.Growing.{grows-none}
use Rattle.one_run.proofs.serving.wait.Goals as goal

pub poll-requires : goal.poll-requires
poll-requires g c =
    let q = c.requires in
    let over = c.in-Ok.ensures.stands q.0 q.1 q.2 q.3 in
    record { stands = (q.0, over.0, q.2, over.1, q.4.0.limit) }

pub returns-in-Err-clause-err : goal.returns-in-Err-clause-err
returns-in-Err-clause-err g c t F h stands terms may =
    let over = c.in-Err.ensures.stands t F h stands in
    (over.0, h, over.1, (can_end_unserved h may, grows-none 0 h))

pub returns-in-Err-NoMemory-clause-err : goal.returns-in-Err-NoMemory-clause-err
returns-in-Err-NoMemory-clause-err g c t F h stands terms may =
    let over = c.in-Ok.ensures.stands t F h stands in (
      over.0,
      h,
      c.in-Err-NoMemory.ensures.err t over.0 h over.1,
      (can_end_unserved h may, grows-none 0 h),
    )

pub returns-in-true-clause-err : goal.returns-in-true-clause-err
returns-in-true-clause-err g c t F h stands terms may =
    let over = c.in-Ok.ensures.stands t F h stands in
    either_wait _ _ _ _ t _ _ over.0 h c.in-Ok-poll.field-0 may over.1
    (c.in-Ok-poll.ensures.ok t over.0 h over.1 terms.limit)

pub returns-in-false-clause-first : goal.returns-in-false-clause-first
returns-in-false-clause-first g c t F h stands terms opened =
    let over = c.in-Ok.ensures.stands t F h stands in
    let w = first_wait _ _ _ _ t _ _ over.0 h c.in-Ok-poll.field-0 opened over.1
    (c.in-Ok-poll.ensures.ok t over.0 h over.1 terms.limit) in
    (w.0, w.1, w.2, w.3.0)

pub returns-in-false-clause-last : goal.returns-in-false-clause-last
returns-in-false-clause-last g c t F h stands terms shut =
    let over = c.in-Ok.ensures.stands t F h stands in
    last_wait _ _ _ _ t _ _ over.0 h c.in-Ok-poll.field-0
    (c.in-Ok-poll.ensures.ok t over.0 h over.1 terms.limit)
