use Rattle.std.proofs.Common.{rules}
use Rattle.notify_ring.proofs.Draws.{draws_at}
use Rattle.notify_ring.proofs.parts.Ring.drawn.Goals as goal

pub fetch_add-requires : goal.fetch_add-requires
fetch_add-requires g c = (
  c.requires.table,
  search rules,
  draws_at _ _ c.requires.claimed.0 g.B.Posted.handle g.B.Posted.kind _ c.requires.claimed.1
      c.requires.claimed.2 c.requires.room c.requires.posts.0 c.requires.posts.1,
)
