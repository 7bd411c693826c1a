use Rattle.std.proofs.Common.{rules}
use Rattle.notify_ring.proofs.Drains.{frees_at}
use Rattle.notify_ring.proofs.parts.Ring.release.Goals as goal

pub fetch_sub-requires : goal.fetch_sub-requires
fetch_sub-requires c = let r = c.requires.cleared in
    (c.requires.table, search rules, frees_at _ _ _ r.0 r.1.0 r.1.1)
