-- What holds of every legal journal.
use Rattle.std.specs.Prelude.{◌≡◌, ◌≤◌, ◌<◌, ◌+◌, ◌*◌, ◌++◌, ◌∷◌, ℕ, List, IsTrue, [], length}
use Rattle.reactor_journal.specs.declared.entry.Entry.{Entry}
use Rattle.reactor_journal.specs.Past.{past_of, count, starts, closes, is_open, is_event}
use Rattle.reactor_journal.specs.Past.{is_dropped, is_waiting, was_started, was_closed, belongs_to}
use Rattle.reactor_journal.specs.Past.{event_at, exactly_one, names, is_stale, had, next_deadline}
use Rattle.reactor_journal.specs.Past.{is_pick, is_able, is_report, armed, is_rising, names_once}
use Rattle.reactor_journal.specs.Follow.{Legal}

-- no handle has two open events
abbrev pub HasOneOpenUpcall : Type 0 → Type 0
HasOneOpenUpcall N =
    (journal : List (Entry N)) (most i j x : ℕ) → Legal journal most
    → IsTrue (is_open (past_of journal) i) → IsTrue (is_open (past_of journal) j)
    → IsTrue (belongs_to x (event_at (past_of journal) i))
    → IsTrue (belongs_to x (event_at (past_of journal) j))
    → i ≡ j

-- each event is exactly one of started, dropped and waiting
abbrev pub HasOneFate : Type 0 → Type 0
HasOneFate N =
    (journal : List (Entry N)) (most i : ℕ) → Legal journal most
    → IsTrue (is_event (past_of journal) i)
    → IsTrue (exactly_one (was_started (past_of journal) i) (is_dropped (past_of journal) i)
    (is_waiting (past_of journal) i))

-- no entry is started twice
abbrev pub StartsOnce : Type 0 → Type 0
StartsOnce N = (journal : List (Entry N)) (most i : ℕ) → Legal journal most
    → count (starts i) journal ≤ 1

-- what is started is an event
abbrev pub StartsEvents : Type 0 → Type 0
StartsEvents N =
    (journal : List (Entry N)) (most i : ℕ) → Legal journal most
    → IsTrue (was_started (past_of journal) i)
    → IsTrue (is_event (past_of journal) i)

-- no handle is closed twice
abbrev pub ClosesOnce : Type 0 → Type 0
ClosesOnce N = (journal : List (Entry N)) (most x : ℕ) → Legal journal most
    → count (closes x) journal ≤ 1

-- after the `Closed` of a handle only `Stale` names it
abbrev pub OnlyStaleFollows : Type 0 → Type 0
OnlyStaleFollows N =
    (before after : List (Entry N)) (e : Entry N) (most x : ℕ) → Legal (before ++ e ∷ after) most
    → IsTrue (was_closed (past_of before) x) → IsTrue (names (past_of before) e x)
    → IsTrue (is_stale e)

-- from a moment at which an event of a handle is open to a later one at which it is open still, the
-- handler of it has had no turn
abbrev pub HasNoTurnMeanwhile : Type 0 → Type 0
HasNoTurnMeanwhile N =
    (journal more : List (Entry N)) (most i x : ℕ) → Legal (journal ++ more) most
    → IsTrue (is_open (past_of journal) i)
    → IsTrue (belongs_to x (event_at (past_of journal) i))
    → IsTrue (is_open (past_of (journal ++ more)) i)
    → had (past_of (journal ++ more)) x ≡ had (past_of journal) x

-- two picks are one
abbrev pub PicksOne : Type 0 → Type 0
PicksOne N =
    (journal : List (Entry N)) (i j : ℕ) → IsTrue (is_pick (past_of journal) i)
    → IsTrue (is_pick (past_of journal) j)
    → i ≡ j

-- if an event is able there is a pick
abbrev pub PicksSome : Type 0 → Type 0
PicksSome N =
    (journal : List (Entry N)) (i : ℕ) → IsTrue (is_able (past_of journal) i) → (j : ℕ)
    × IsTrue (is_pick (past_of journal) j)

-- each `Due`, `Ready` and `Posted` is an event
abbrev pub ReportsAreEvents : Type 0 → Type 0
ReportsAreEvents N =
    (journal : List (Entry N)) (e : Entry N) (most : ℕ) → Legal (journal ++ e ∷ []) most
    → IsTrue (is_report e)
    → IsTrue (is_event (past_of (journal ++ e ∷ [])) (length journal))

-- the armed timers stand in rising order of deadline and number
abbrev pub ArmedRises : Type 0 → Type 0
ArmedRises N = (journal : List (Entry N)) (most : ℕ) → Legal journal most
    → IsTrue (is_rising (armed (past_of journal)))

-- each of them stands there once
abbrev pub ArmedOnce : Type 0 → Type 0
ArmedOnce N = (journal : List (Entry N)) (most : ℕ) → Legal journal most
    → IsTrue (names_once (armed (past_of journal)))

-- the next deadline of a periodic timer is above the moment
abbrev pub IsAboveNow : Type 0
IsAboveNow = (d every moment : ℕ) → 0 < every → moment < next_deadline d every moment

-- it is d + k * every for some k from 1 on
abbrev pub IsOfTheRow : Type 0
IsOfTheRow = (d every moment : ℕ) → (k : ℕ) × (1 ≤ k)
    × (next_deadline d every moment ≡ d + k * every)

-- and it is the least of these above the moment
abbrev pub IsLeastAbove : Type 0
IsLeastAbove = (d every moment k : ℕ) → 0 < every → 1 ≤ k → moment < d + k * every
    → next_deadline d every moment ≤ d + k * every
