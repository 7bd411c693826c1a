-- What the notifications of a reactor's user append, and why they are refused (C++NPv2 chapter 4,
-- `notify` of `ACE_Reactor`).
use Rattle.std.specs.Prelude.{ℕ, ◌≡◌, ◌↔◌, true, if◌then◌else◌, Result, IsErrOf}
use Rattle.reactor_summary.specs.ev_types.specs.declared.upcall.Handle.{Handle}
use Rattle.reactor_summary.specs.ev_types.specs.declared.upcall.Kind.{Kind}
use Rattle.reactor_model.specs.reactor_journal.specs.declared.entry.Entry.{Entry}
use Rattle.reactor_model.specs.reactor_journal.specs.declared.entry.Entry.TheVariants.{Posted}
use Rattle.reactor_model.specs.reactor_journal.specs.declared.entry.Entry.TheVariants.{Stale}
use Rattle.reactor_summary.specs.Summary.{Summary, is_alive}
use Rattle.reactor_state.specs.declared.places.Places.{Places}
use Rattle.reactor_core.specs.declared.postings.PostRefused.{PostRefused}
use Rattle.reactor_core.specs.declared.postings.PostRefused.TheVariants.{Stopped}

-- the entry of a notification: `Posted` if its handle is alive, and else `Stale`
abbrev pub posting : {N : Type 0} → Summary → Handle → Kind → ℕ → ℕ → Entry N
posting s handle kind from seq = if is_alive s handle.0 then Posted handle kind from seq else Stale
    handle from seq

-- the places of one notification: the event that it is
abbrev pub post_places : Places
post_places = record { handles = 0; timers = 0; timeouts = 0; events = 1; opens = 0 }

-- Why a notification is not taken: `Stopped` exactly if the reactor was stopped.
abbrev pub IsPostAnswer : Summary → Result (Unit {0}) PostRefused → Type 0
IsPostAnswer s result = IsErrOf result Stopped ↔ (s.ended ≡ true)
