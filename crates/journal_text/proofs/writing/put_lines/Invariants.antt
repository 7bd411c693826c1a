use Rattle.std.proofs.Common.{take}
use Rattle.journal_text.specs.Texts.{entry_lines}
use Rattle.sink_buffer.specs.Texts.{Puts}
use Rattle.journal_text.proofs.writing.put_lines.Given as goal

-- the lines of the entries so far
abbrev pub invariant-loop-entry : goal.invariant-loop-entry
invariant-loop-entry g l = Puts g.T.TextOut.stands l.fn.out
    (entry_lines (take l.entry-index l.entries)) l.out
