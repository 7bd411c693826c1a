use Rattle.core_loop.proofs.Idling.{any_limit, polls, polls_on, same_limit, stopped_still}
use Rattle.core_loop.proofs.Leading.{polls_so}
use Rattle.core_loop.proofs.turns.poll.Goals as goal

pub poll-requires : goal.poll-requires
poll-requires g c =
    let i = c.requires.0 in
    record {
      stands = (
        i.terms,
        i.first,
        i.history,
        i.stands,
        any_limit i.terms c.args.most_ms i.limit,
      );
    }

pub returns-clause-idle : goal.returns-clause-idle
returns-clause-idle g c = polls c.args.core.now c.poll.new.self c.args.most_ms c.poll.result
    c.requires.0 c.poll.ensures.ok c.poll.ensures.err

pub returns-clause-within : goal.returns-clause-within
returns-clause-within g c = λ i. polls_on c.args.core.now c.poll.new.self c.args.most_ms
    c.poll.result i (same_limit i.terms c.args.most_ms i.limit) c.poll.ensures.ok
    c.poll.ensures.err

pub returns-clause-over : goal.returns-clause-over
returns-clause-over g c = λ is.
    let i = polls c.args.core.now c.poll.new.self c.args.most_ms c.poll.result c.requires.0
    c.poll.ensures.ok c.poll.ensures.err in
    (i, c.poll.ensures.number i.terms i.first i.history i.stands is)

pub returns-clause-stopped : goal.returns-clause-stopped
returns-clause-stopped g c = λ is.
    let i = c.requires.0 in
    stopped_still c.args.core.now c.poll.new.self c.poll.result i is
    (c.poll.ensures.stopped i.terms i.first i.history i.stands).0 c.poll.ensures.err

pub returns-clause-leads : goal.returns-clause-leads
returns-clause-leads g c = λ t F h stands fits none.
    polls_so _ t c.args.core.now c.poll.new.self c.args.most_ms c.poll.result _ F h stands fits none
    c.poll.ensures.ok c.poll.ensures.err (λ g at. c.poll.ensures.number t F g at)
    (c.poll.ensures.stopped t F h stands).0
