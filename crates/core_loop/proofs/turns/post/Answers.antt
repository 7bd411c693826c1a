use Rattle.core_loop.proofs.Leading.{posts, stays_so}
use Rattle.core_loop.proofs.turns.post.Goals as goal

pub post-requires : goal.post-requires
post-requires g c = let i = c.requires in
    record { stands = (i.terms, i.first, i.history, i.stands) }

pub returns-clause-leads : goal.returns-clause-leads
returns-clause-leads g c =
    posts _ c.args.core.now c.post.new.self c.args.handle c.args.kind c.args.from c.args.seq
    c.post.result c.post.ensures.ok c.post.ensures.err
    (λ t F h stands. c.post.ensures.cause t F h stands)

pub returns-clause-idle : goal.returns-clause-idle
returns-clause-idle g c = stays_so _ c.args.core.now c.post.new.self (returns-clause-leads g c)
    c.requires
