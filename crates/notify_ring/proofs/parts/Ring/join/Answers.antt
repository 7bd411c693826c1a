use Rattle.std.proofs.Common.{rules}
use Rattle.notify_ring.proofs.Kin.{joins}
use Rattle.notify_ring.proofs.parts.Ring.join.Goals as goal

pub join_seat-requires : goal.join_seat-requires
join_seat-requires c =
    let other = c.args.other in (
      c.requires.ring.0,
      c.requires.ring.1,
      other.idle.1,
      search rules,
      joins _ _ _ _ c.requires.root c.requires.child other.posts.0 other.idle.0,
    )
