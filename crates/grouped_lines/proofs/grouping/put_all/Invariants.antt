use Rattle.laws_script_runs.specs.laws_script_turns.specs.Grouped.{each_below}
use Rattle.sink_buffer.specs.Texts.{Puts}
use Rattle.laws_script_runs.specs.Connections.{lines_of}
use Rattle.grouped_lines.proofs.grouping.put_all.Given as goal

-- the lines of the connections so far
abbrev pub invariant-loop-conn : goal.invariant-loop-conn
invariant-loop-conn g l = Puts g.T.TextOut.stands l.fn.out
    (each_below l.conn (λ c. lines_of c l.entries)) l.out
