-- What holds of each summary that a reactor reaches: what its tables are searched by, and that its
-- numbers fit. Each entry that fits keeps it.
use Rattle.std.specs.Prelude.{ℕ, ◌≡◌, ◌≤◌, ◌<◌, ◌+◌, ◌^◌, ◌==◌, Bool, false, true, List, length}
use Rattle.std.specs.Prelude.{Option, Some, None}
use Rattle.std.specs.List.{list_any}
use Rattle.reactor_summary.specs.reactor_journal.specs.declared.entry.Entry.{Entry}
use Rattle.reactor_summary.specs.reactor_journal.specs.declared.entry.Entry.TheVariants.{Opened}
use Rattle.reactor_summary.specs.reactor_journal.specs.declared.entry.Entry.TheVariants.{Scheduled}
use Rattle.reactor_summary.specs.reactor_journal.specs.declared.entry.Entry.TheVariants.{Polled}
use Rattle.reactor_summary.specs.reactor_journal.specs.declared.entry.Entry.TheVariants.{Due}
use Rattle.reactor_summary.specs.reactor_journal.specs.declared.entry.Entry.TheVariants.{Closed}
use Rattle.reactor_summary.specs.reactor_journal.specs.Past.{count}
use Rattle.reactor_summary.specs.declared.parts.LiveHandle.{LiveHandle}
use Rattle.reactor_summary.specs.declared.parts.DueTimer.{DueTimer}
use Rattle.reactor_summary.specs.declared.parts.WaitingEvent.{WaitingEvent}
use Rattle.reactor_summary.specs.declared.parts.ArmedTimer.{ArmedTimer}
use Rattle.reactor_summary.specs.Summary.{Summary, is_first_due}
use Rattle.reactor_summary.specs.Tells.{Each}
use Rattle.reactor_state.specs.Rises.{RisesIn}

-- the number of a live handle, and of a waiting event
abbrev pub handle_number : LiveHandle → ℕ
handle_number h = h.handle.0

abbrev pub event_number : WaitingEvent → ℕ
event_number w = w.event

-- if the live handles rise in number, P
abbrev pub IfRising : List LiveHandle → Type 0 → Type 0
IfRising handles P = (bound : ℕ) → RisesIn handle_number 0 bound handles → P

-- whether the event is a coming due of the timer
abbrev pub is_due_of : ℕ → Option DueTimer → Bool
is_due_of t None = false
is_due_of t (Some due) = due.timer == t

-- how often the timer is armed or came due in an event that waits
abbrev pub times : ℕ → List ArmedTimer → List WaitingEvent → ℕ
times t armed waiting = count (λ (a : ArmedTimer). a.timer == t) armed
    + count (λ (w : WaitingEvent). is_due_of t w.due) waiting

-- the deadline that was reached is not past the moment
abbrev pub IsReached : ℕ → Option DueTimer → Type 0
IsReached moment None = Unit {0}
IsReached moment (Some due) = (due.deadline ≤ moment) × (due.every ≤ 4294967295)

-- each deadline and period fits
abbrev pub IsWithin : ArmedTimer → Type 0
IsWithin a = (a.deadline ≤ 2 ^ 63) × (a.every ≤ 4294967295)

pub record IsSound (s : Summary) : Type 0 where
  -- numbers
  pub entries : s.entries ≤ 2 ^ 62
  pub moment : s.moment ≤ 2 ^ 62
  pub opened : s.opened ≤ 4294967295
  pub live : s.closed + length s.handles ≡ s.opened
  pub finished : s.closed + s.refused ≤ s.entries
  pub scheduled : s.scheduled ≤ s.entries
  -- the handles rise, and so do the numbers of the waiting events
  pub handles : RisesIn handle_number 0 s.opened s.handles
  pub waiting : RisesIn event_number 0 s.entries s.waiting
  -- deadlines and periods fit
  pub armed : Each IsWithin s.armed
  pub dues : Each (λ w. IsReached s.moment w.due) s.waiting
  -- a timer is armed, or waits in one event, or neither; and none is named before it is set
  pub once : (t : ℕ) → times t s.armed s.waiting ≤ 1
  pub fresh : (t : ℕ) → s.scheduled ≤ t → times t s.armed s.waiting ≡ 0

-- the premise under which an entry keeps that
abbrev pub Fits : {N : Type 0} → Summary → Entry N → Type 0
Fits s (Opened handle mask) = (handle.0 ≡ s.opened) × (s.opened < 4294967295)
Fits s (Scheduled timer handle first every) =
    (timer ≡ s.scheduled) × (first ≤ 2 ^ 63) × (every ≤ 4294967295)
Fits s (Polled now) = (s.moment ≤ now) × (now ≤ 2 ^ 62)
Fits s (Due timer) = is_first_due s timer ≡ true
Fits s (Closed handle note) = list_any (λ h. h.handle.0 == handle.0) s.handles ≡ true
Fits s _ = Unit {0}
