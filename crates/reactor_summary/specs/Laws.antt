-- What holds of the summary of a legal journal.
use Rattle.std.specs.Prelude.{◌≡◌, ◌++◌, ◌∷◌, [], ℕ, List, Some, None, IsTrue, false}
use Rattle.reactor_journal.specs.declared.entry.Entry.{Entry}
use Rattle.reactor_journal.specs.Past as P
use Rattle.reactor_journal.specs.Past.{past_of}
use Rattle.reactor_journal.specs.Follow as F
use Rattle.reactor_journal.specs.Follow.{Legal}
use Rattle.reactor_summary.specs.declared.parts.WaitingEvent.{WaitingEvent}
use Rattle.reactor_summary.specs.Summary.{summary, step, pick}
use Rattle.reactor_summary.specs.Tells.{Tells, waiting_event}
use Rattle.reactor_summary.specs.Rules as R

-- it is kept entry by entry
abbrev pub IsKept : Type 0 → Type 0
IsKept N = (journal : List (Entry N)) (e : Entry N)
    → summary (past_of (journal ++ e ∷ [])) ≡ step (summary (past_of journal)) e

-- it tells what the journal tells
abbrev pub IsTold : Type 0 → Type 0
IsTold N = (journal : List (Entry N)) (most : ℕ) → Legal journal most
    → Tells (past_of journal) (summary (past_of journal))

-- its pick is the journal's, as it waits there; and if it has none no event is able
abbrev pub PicksThat : Type 0 → Type 0
PicksThat N =
    (journal : List (Entry N)) (most : ℕ) (w : WaitingEvent) → Legal journal most
    → pick (summary (past_of journal)) ≡ Some w
    → IsTrue (P.is_pick (past_of journal) w.event)
    × (waiting_event (past_of journal) w.event ≡ Some w)

abbrev pub PicksNone : Type 0 → Type 0
PicksNone N =
    (journal : List (Entry N)) (most i : ℕ) → Legal journal most
    → pick (summary (past_of journal)) ≡ None
    → P.is_able (past_of journal) i ≡ false

-- an entry may follow the journal exactly if the summary says so
abbrev pub SaysWhatFollows : Type 0 → Type 0
SaysWhatFollows N =
    (journal : List (Entry N)) (e : Entry N) (most : ℕ) → Legal journal most
    → R.may_follow most (F.follows_due (past_of journal)) (F.follows_ready (past_of journal))
    (summary (past_of journal)) e ≡ F.may_follow most (past_of journal) e
