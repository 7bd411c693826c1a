-- The events that a journal leaves open, those started last first.
use Rattle.std.specs.Prelude.{ℕ, ◌==◌, not, List, [], ◌∷◌, filter}
use Rattle.reactor_summary.specs.reactor_journal.specs.declared.entry.Entry.{Entry}
use Rattle.reactor_summary.specs.reactor_journal.specs.declared.entry.Entry.TheVariants.{Started}
use Rattle.reactor_summary.specs.reactor_journal.specs.declared.entry.Entry.TheVariants.{Returned}
use Rattle.reactor_summary.specs.reactor_journal.specs.Past.{past_of}

-- an event that was started is open, and one that returned is not any more
abbrev pub opens_after : {N : Type 0} → Entry N → List ℕ → List ℕ
opens_after (Started event) before = event ∷ before
opens_after (Returned event answer note) before = filter (λ i. not (i == event)) before
opens_after _ before = before

abbrev pub open_events : {N : Type 0} → List (Entry N) → List ℕ
open_events [] = []
open_events (e ∷ past) = opens_after e (open_events past)

abbrev pub opens_of : {N : Type 0} → List (Entry N) → List ℕ
opens_of journal = open_events (past_of journal)
