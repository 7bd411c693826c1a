-- How a journal goes on by turns.
use Rattle.std.specs.Prelude.{ℕ, ◌≡◌, true, List, ◌++◌, length}
use Rattle.std.specs.List.{list_all}
use Rattle.reactor_model.specs.ev_base.specs.Terms.{Terms}
use Rattle.reactor_model.specs.reactor_journal.specs.declared.entry.Entry.{Entry}
use Rattle.reactor_model.specs.reactor_journal.specs.Past.{past_of}
use Rattle.reactor_model.specs.Handling.{Handling}
use Rattle.laws_by_turns.specs.ByTurns.{GoesByTurns, EachGoesByTurn, BeginsWithNoTimer}
use Rattle.laws_by_turns.specs.ByTurns.{is_dispatching}

-- from its end on every journal does
abbrev pub BeginsByTurns : {H E N : Type 0} → Handling H E N → Type 0
BeginsByTurns {N = N} means = (t : Terms) (h : List (Entry N)) → GoesByTurns means t (length h) h

-- with what waits, notifications and starts bring at its end it does so still
abbrev pub GoesOnDispatching : {H E N : Type 0} → Handling H E N → Type 0
GoesOnDispatching {N = N} means =
    (t : Terms) (b : ℕ) (h more : List (Entry N)) → list_all is_dispatching more ≡ true
    → GoesByTurns means t b h → GoesByTurns means t b (h ++ more)

-- and with entries at its end each of which goes by turns there, of which the first sets no timer
abbrev pub GoesOnByTurns : {H E N : Type 0} → Handling H E N → Type 0
GoesOnByTurns {N = N} means =
    (t : Terms) (b : ℕ) (h more : List (Entry N)) → BeginsWithNoTimer more
    → EachGoesByTurn means t b (past_of h) more → GoesByTurns means t b h
    → GoesByTurns means t b (h ++ more)
