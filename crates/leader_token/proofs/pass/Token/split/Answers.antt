use Rattle.std.proofs.Common.{rules}
use Rattle.leader_token.proofs.Keeps.{splits}
use Rattle.leader_token.proofs.pass.Token.split.Goals as goal

pub split_seat-seat-requires : goal.split_seat-seat-requires
split_seat-seat-requires g c = (
  c.requires.token,
  search rules,
  splits _ _ _ _ _ _ c.args.root.now.live c.requires.root.0,
)
