use Rattle.leader_token.proofs.Told.{as_it_was}
use Rattle.bench_parts.proofs.holds.visits.Goals as goal

pub put-requires-clause-may : goal.put-requires-clause-may
put-requires-clause-may g c = as_it_was _ _ _ _ _ _ c.get-held.ensures.got
