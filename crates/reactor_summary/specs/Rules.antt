-- Which entry may follow a journal, read off its summary.
use Rattle.std.specs.Prelude.{◌-◌, ◌==◌, nat_lt, nat_le, ℕ, Bool, not, ◌&&◌, ◌||◌}
use Rattle.reactor_journal.specs.declared.entry.Entry.{Entry}
use Rattle.reactor_journal.specs.declared.entry.Entry.TheVariants.{Opened, Scheduled, Cancelled}
use Rattle.reactor_journal.specs.declared.entry.Entry.TheVariants.{Polled, Due, Ready, Posted}
use Rattle.reactor_journal.specs.declared.entry.Entry.TheVariants.{Stale, Started, Returned, Masked}
use Rattle.reactor_journal.specs.declared.entry.Entry.TheVariants.{Suspended, Resumed, Refused}
use Rattle.reactor_journal.specs.declared.entry.Entry.TheVariants.{Removed, Closed, Ended}
use Rattle.reactor_journal.specs.Follow.{most_handles, winds_up}
use Rattle.reactor_summary.specs.Summary.{Summary, is_alive, is_suspended, is_resumed, is_wanted}
use Rattle.reactor_summary.specs.Summary.{is_open, waits_for_closed, some_wait, is_armed}
use Rattle.reactor_summary.specs.Summary.{timeout_waits, is_overdue, is_first_due, is_pick}

-- how many handles are live
abbrev pub live : Summary → ℕ
live s = s.opened - s.closed

-- the case of each kind of entry. `due` says whether the last entry is `Polled` or `Due`, and
-- `ready` whether it is one of these or `Ready`
abbrev pub fits : {N : Type 0} → ℕ → Bool → Bool → Summary → Entry N → Bool
fits most due ready s (Opened handle mask) =
    handle.0 == s.opened && (nat_lt (live s) most && nat_lt s.opened most_handles)
fits most due ready s (Scheduled timer handle first every) =
    timer == s.scheduled && (is_alive s handle.0 && nat_lt s.moment first)
fits most due ready s (Cancelled timer) = is_armed s timer || timeout_waits s timer
fits most due ready s (Polled moment) = nat_le s.moment moment && not (some_wait s)
fits most due ready s (Due timer) = due && is_first_due s timer
fits most due ready s (Ready handle kind) =
    ready && (not (is_overdue s) && is_wanted s handle.0 kind)
fits most due ready s (Posted handle kind from seq) = is_alive s handle.0
fits most due ready s (Stale handle from seq) = not (is_alive s handle.0)
fits most due ready s (Started event) = is_pick s event && (not (is_overdue s) && not (some_wait s))
fits most due ready s (Returned event answer note) = is_open s event
fits most due ready s (Masked handle mask) = is_alive s handle.0
fits most due ready s (Suspended handle) = is_resumed s handle.0
fits most due ready s (Resumed handle) = is_suspended s handle.0
fits most due ready s (Refused number fault note) =
    number == live s && (live s == most || (s.opened == most_handles || (fault || s.ended)))
fits most due ready s (Removed handle) = is_alive s handle.0
fits most due ready s (Closed handle note) = waits_for_closed s handle.0
fits most due ready s Ended = not (some_wait s)

abbrev pub may_follow : {N : Type 0} → ℕ → Bool → Bool → Summary → Entry N → Bool
may_follow most due ready s e = (winds_up e || not s.ended) && fits most due ready s e
