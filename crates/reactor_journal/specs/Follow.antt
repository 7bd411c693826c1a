-- Which entry may follow a journal, and which journals are legal: each entry may follow those
-- before it.
use Rattle.std.specs.Prelude.{ℕ, ◌==◌, nat_lt, nat_le, Bool, true, false, not, ◌&&◌, ◌||◌, List, []}
use Rattle.std.specs.Prelude.{◌∷◌, length, IsTrue}
use Rattle.reactor_journal.specs.declared.entry.Entry.{Entry}
use Rattle.reactor_journal.specs.declared.entry.Entry.TheVariants.{Opened, Scheduled, Cancelled}
use Rattle.reactor_journal.specs.declared.entry.Entry.TheVariants.{Polled, Due, Ready, Posted}
use Rattle.reactor_journal.specs.declared.entry.Entry.TheVariants.{Stale, Started, Returned, Masked}
use Rattle.reactor_journal.specs.declared.entry.Entry.TheVariants.{Suspended, Resumed, Refused}
use Rattle.reactor_journal.specs.declared.entry.Entry.TheVariants.{Removed, Closed, Ended}
use Rattle.reactor_journal.specs.Event.{Event}
use Rattle.reactor_journal.specs.Past.{past_of, any_below, opened, scheduled, live, ended, now}
use Rattle.reactor_journal.specs.Past.{mask_of, has_kind, is_suspended, is_alive, event_at}
use Rattle.reactor_journal.specs.Past.{is_timeout_of, is_waiting, is_open, is_pick, armed, is_armed}
use Rattle.reactor_journal.specs.Past.{is_overdue, waits_for_closed, some_wait}
use Rattle.std.specs.Prelude.{Option, Some, None}

-- the most handles that a journal may open
abbrev pub most_handles : ℕ
most_handles = 4294967295

-- the only entries that may stand after `Ended`, which itself stands there once
abbrev pub winds_up : {N : Type 0} → Entry N → Bool
winds_up (Returned event answer note) = true
winds_up (Removed handle) = true
winds_up (Closed handle note) = true
winds_up (Refused live fault note) = true
winds_up _ = false

-- whether the last entry is `Polled` or `Due`; or one of these or `Ready`. So the timers that come
-- due and the reports of one wait stand together after its `Polled`, the timers first
abbrev pub follows_due : {N : Type 0} → List (Entry N) → Bool
follows_due (Polled moment ∷ past) = true
follows_due (Due timer ∷ past) = true
follows_due _ = false

abbrev pub follows_ready : {N : Type 0} → List (Entry N) → Bool
follows_ready (Polled moment ∷ past) = true
follows_ready (Due timer ∷ past) = true
follows_ready (Ready handle kind ∷ past) = true
follows_ready _ = false

-- whether the timer is the first of the list, and its deadline is reached
abbrev pub is_first_due : ℕ → ℕ → List (ℕ × ℕ) → Bool
is_first_due moment t [] = false
is_first_due moment t (d ∷ rest) = d.1 == t && nat_le d.0 moment

-- whether the event is a timeout of the timer
abbrev pub is_timeout_event : ℕ → Option Event → Bool
is_timeout_event t None = false
is_timeout_event t (Some event) = is_timeout_of t event.upcall

-- whether a timeout of the timer waits to be started, an Again of one included
unfoldable pub timeout_waits : {N : Type 0} → List (Entry N) → ℕ → Bool
timeout_waits past t = any_below (length past)
    (λ i. is_waiting past i && is_timeout_event t (event_at past i))

-- whether the entry meets the case of its kind
abbrev pub fits : {N : Type 0} → ℕ → List (Entry N) → Entry N → Bool
fits most past (Opened handle mask) =
    handle.0 == opened past && (nat_lt (live past) most && nat_lt (opened past) most_handles)
fits most past (Scheduled timer handle first every) =
    timer == scheduled past && (is_alive past handle.0 && nat_lt (now past) first)
fits most past (Cancelled timer) = is_armed past timer || timeout_waits past timer
fits most past (Polled moment) = nat_le (now past) moment && not (some_wait past)
fits most past (Due timer) = follows_due past && is_first_due (now past) timer (armed past)
fits most past (Ready handle kind) =
    follows_ready past && (not (is_overdue past)
    && (is_alive past handle.0 && has_kind (mask_of past handle.0) kind))
fits most past (Posted handle kind from seq) = is_alive past handle.0
fits most past (Stale handle from seq) = not (is_alive past handle.0)
fits most past (Started event) = is_pick past event
    && (not (is_overdue past) && not (some_wait past))
fits most past (Returned event answer note) = is_open past event
fits most past (Masked handle mask) = is_alive past handle.0
fits most past (Suspended handle) = is_alive past handle.0 && not (is_suspended past handle.0)
fits most past (Resumed handle) = is_alive past handle.0 && is_suspended past handle.0
fits most past (Refused number fault note) =
    number == live past && (live past == most
    || (opened past == most_handles || (fault || ended past)))
fits most past (Removed handle) = is_alive past handle.0
fits most past (Closed handle note) = waits_for_closed past handle.0
fits most past Ended = not (some_wait past)

-- whether the entry may follow these
unfoldable pub may_follow : {N : Type 0} → ℕ → List (Entry N) → Entry N → Bool
may_follow most past e = (winds_up e || not (ended past)) && fits most past e

-- whether each entry may follow those before it
abbrev pub is_legal : {N : Type 0} → ℕ → List (Entry N) → Bool
is_legal most [] = true
is_legal most (e ∷ past) = may_follow most past e && is_legal most past

-- the journal is legal, if at most this number of handles may be live at once
abbrev pub Legal : {N : Type 0} → List (Entry N) → ℕ → Type 0
Legal journal most = IsTrue (is_legal most (past_of journal))
