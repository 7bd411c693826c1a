use Rattle.std.proofs.Common.{None}
use Rattle.core_loop.proofs.Idling.{any_limit, polls}
use Rattle.test_nets.proofs.rows.poll.Goals as goal

pub poll-requires : goal.poll-requires
poll-requires g c =
    let i = c.requires in
    record { stands = (i.terms, i.first, i.history, i.stands, any_limit i.terms None i.limit) }

pub returns : goal.returns
returns g c = polls c.args.core.now c.poll.new.self None c.poll.result c.requires c.poll.ensures.ok
    c.poll.ensures.err
