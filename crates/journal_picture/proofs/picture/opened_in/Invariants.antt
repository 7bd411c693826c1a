use Rattle.std.proofs.Common.{◌≡◌, ◌≤◌, take}
use Rattle.std.specs.List.{count_by}
use Rattle.reactor_journal.specs.Past.{is_opened}
use Rattle.journal_picture.proofs.picture.opened_in.Given as goal

-- those of the entries so far
abbrev pub invariant-loop-entry : goal.invariant-loop-entry
invariant-loop-entry l = (l.opened ≡ count_by is_opened (take l.entry-index l.entries))
    × (l.opened ≤ l.entry-index)
