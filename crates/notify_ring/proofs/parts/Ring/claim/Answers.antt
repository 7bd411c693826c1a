use Rattle.std.proofs.Common.{rules}
use Rattle.notify_ring.proofs.Keeps.{claims_at}
use Rattle.notify_ring.proofs.parts.Ring.claim.Goals as goal

pub fetch_add-requires : goal.fetch_add-requires
fetch_add-requires c = (
  c.requires.table,
  search rules,
  claims_at _ _ _ c.requires.idle.0 c.requires.idle.1.0 c.requires.idle.1.1,
)
