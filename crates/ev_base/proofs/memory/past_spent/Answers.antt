use Rattle.std.proofs.Common.{arith, add-one, ◌∙◌, length, sym, ap}
use Rattle.ev_base.proofs.Pieces.{past-piece, has-byte, has-none}
use Rattle.ev_base.proofs.memory.past_spent.Goals as goal

pub loop-next-preserved : goal.loop-next-preserved
loop-next-preserved c =
    rw add-one
    (let past = past-piece c.args.pieces.now c.index-pieces-next.result c.as_slice-bytes.result.now
    c.loop-next.next c.loop-next.at c.loop-next-test.true c.index-pieces-next.is
    c.as_slice-bytes.ensures.value c.if-at-bytes.false in
    (past.0 ∙ c.loop-next.invariant.0, past.1 ∙ c.loop-next.invariant.1))

pub returns-then-at-bytes-clause-some : goal.returns-then-at-bytes-clause-some
returns-then-at-bytes-clause-some c =
    has-byte c.args.pieces.now c.index-pieces-next.result c.loop-next.next c.loop-next.at
    c.loop-next-test.true (sym c.index-pieces-next.is)
    (omega (arith, ap length c.as_slice-bytes.ensures.value))

pub returns-clause-some : goal.returns-clause-some
returns-clause-some c = has-none c.args.pieces.now c.loop-next.next c.loop-next.at
    c.loop-next-test.false
