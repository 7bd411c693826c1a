use Rattle.std.proofs.Common.{rules}
use Rattle.notify_ring.proofs.Keeps.{unclaims_at}
use Rattle.notify_ring.proofs.parts.Ring.unclaim.Goals as goal

pub fetch_sub-requires : goal.fetch_sub-requires
fetch_sub-requires c = (
  c.requires.table,
  search rules,
  unclaims_at _ _ c.requires.claimed.0.0 _ c.requires.claimed.0.1 c.requires.claimed.1.0
      c.requires.claimed.1.1,
)
