use Rattle.script_generator.specs.Pieces.{piece_of}
use Rattle.script_generator.proofs.Growing.{grows}
use Rattle.script_generator.proofs.generator.push_pieces.Goals as goal

pub loop-conn-preserved : goal.loop-conn-preserved
loop-conn-preserved c = grows (piece_of c.args.piece c.args.seed c.args.round) c.loop-conn.conn _ _
    _ c.loop-conn.invariant c.in_ok-push_piece.ensures
