use Rattle.bench_reactor.proofs.pool.core_runs.fill.Goals as goal

pub register-answer-requires : goal.register-answer-requires
register-answer-requires c = (c.loop.invariant, tt)
