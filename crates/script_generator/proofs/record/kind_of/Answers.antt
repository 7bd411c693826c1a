use Rattle.std.proofs.Common.{◌+◌, ◌%◌, arith}
use Rattle.std.proofs.lemmas.Nat.{pow_below}
use Rattle.script_generator.proofs.record.kind_of.Goals as goal

pub pow-requires : goal.pow-requires
pow-requires c = pow_below ((c.args.round + c.args.conn) % 11) 32 (omega arith)
