use Rattle.std.proofs.Common.{◌≡◌, ◌≤◌, length, ◌-◌, take, true, Some, slice_get, ℕ}
use Rattle.sink_buffer.specs.Texts.{Puts}
use Rattle.reactor_journal.specs.declared.entry.Entry.{Entry}
use Rattle.log_handler.specs.declared.note.ServerNote.{ServerNote}
use Rattle.laws_script_runs.specs.Connections.{lines_of, is_entry_of}
use Rattle.grouped_lines.proofs.grouping.put_one.Given as goal

-- the lines of the entries before this place were put, and this one is of the connection, if it is
-- no end
abbrev pub invariant-loop-at : goal.invariant-loop-at
invariant-loop-at g l =
    (l.at ≤ length l.entries)
    × Puts g.T.TextOut.stands l.fn.out (lines_of l.conn (take l.at l.entries)) l.out
    × ((e : Entry ServerNote) → slice_get l.entries l.at ≡ Some e → is_entry_of l.conn e ≡ true)

abbrev pub decreases-loop-at : goal.decreases-loop-at
decreases-loop-at g l = length l.entries - l.at
