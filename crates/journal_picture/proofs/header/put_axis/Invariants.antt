use Rattle.sink_buffer.specs.Texts.{Puts}
use Rattle.journal_picture.specs.Headers.{ticks}
use Rattle.journal_picture.proofs.header.put_axis.Given as goal

-- the numbers so far
abbrev pub invariant-loop-tick : goal.invariant-loop-tick
invariant-loop-tick g l = Puts g.T.TextOut.stands l.fn.out (ticks l.layout l.tick) l.out
