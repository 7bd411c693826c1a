use Rattle.std.proofs.Common.{rules, ◌∙◌}
use Rattle.task_server.proofs.Moves.{balances_by, settles, sides_meet}
use Rattle.task_server.proofs.sides.Pool.close.Goals as goal

pub absorb-requires-clause-rule : goal.absorb-requires-clause-rule
absorb-requires-clause-rule g c = sides_meet _ _ _ _ c.args.p.apart c.args.t.apart

pub learn_as-requires-clause-rule : goal.learn_as-requires-clause-rule
learn_as-requires-clause-rule g c = settles _ _ (search rules) (search rules)

pub returns-clause-balance : goal.returns-clause-balance
returns-clause-balance g c items remain =
    balances_by _ _ _ items (c.learn_as.ensures.queue.1 ∙ c.absorb.ensures.rule) remain
