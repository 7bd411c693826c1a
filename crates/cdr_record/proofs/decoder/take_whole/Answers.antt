use Rattle.cdr_record.proofs.Cutting.{is_left}
use Rattle.cdr_record.proofs.decoder.take_whole.Goals as goal

pub overflow_sub-taken : goal.overflow_sub-taken
overflow_sub-taken g c = rw c.in_ok-left.ensures.left (is_left c.args.piece.now).within
