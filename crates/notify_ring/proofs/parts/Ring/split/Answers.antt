use Rattle.std.proofs.Common.{rules}
use Rattle.notify_ring.proofs.Kin.{splits}
use Rattle.notify_ring.proofs.parts.Ring.split.Goals as goal

pub split_seat-seat-requires : goal.split_seat-seat-requires
split_seat-seat-requires c = (
  c.requires.ring,
  search rules,
  splits _ _ c.requires.root c.requires.few,
)
