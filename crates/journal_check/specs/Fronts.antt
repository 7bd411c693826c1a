-- What the checker keeps beside a summary: the events that go first among those of their handles,
-- if these may be started, and the handles that wait for their close.
use Rattle.std.specs.Prelude.{ℕ, ◌≡◌, ◌==◌, Bool, true, false, ◌&&◌, if◌then◌else◌, List, Option}
use Rattle.std.specs.Prelude.{Some, None, option_map}
use Rattle.std.specs.List.{find}
use Rattle.std.specs.Ordering.{is_eq, nat_cmp}
use Rattle.std.specs.BTreeSet.{contains}
use Rattle.ev_types.specs.declared.upcall.Handle.{Handle}
use Rattle.reactor_journal.specs.Past.{class_of, is_timeout_of}
use Rattle.reactor_journal.specs.declared.entry.Entry.{Entry}
use Rattle.reactor_journal.specs.declared.entry.Entry.TheVariants.{Opened, Cancelled, Due, Ready}
use Rattle.reactor_journal.specs.declared.entry.Entry.TheVariants.{Posted, Started, Returned}
use Rattle.reactor_journal.specs.declared.entry.Entry.TheVariants.{Masked, Suspended, Resumed}
use Rattle.reactor_journal.specs.declared.entry.Entry.TheVariants.{Removed, Closed}
use Rattle.reactor_summary.specs.declared.parts.ArmedTimer.{ArmedTimer}
use Rattle.reactor_summary.specs.declared.parts.OpenEvent.{OpenEvent}
use Rattle.reactor_summary.specs.declared.parts.WaitingEvent.{WaitingEvent}
use Rattle.reactor_summary.specs.Summary.{Summary, else_, is_free, waits_for_closed, pick}
use Rattle.reactor_summary.specs.Summary.{armed_timer, open_event, waiting_event}
use Rattle.reactor_summary.specs.Tells.{Each}
use Rattle.journal_check.specs.Index.{pair_cmp}
use Rattle.journal_check.specs.declared.checker.Checker.{Checker}

-- the waiting event of a handle that goes first: the first of the first class that has one
abbrev pub front_in : List WaitingEvent → ℕ → ℕ → Option WaitingEvent
front_in ws x class = find (λ w. class_of w.upcall == class && x == w.handle.0) ws

abbrev pub front : List WaitingEvent → ℕ → Option WaitingEvent
front ws x = else_ (front_in ws x 0)
    (else_ (front_in ws x 1) (else_ (front_in ws x 2) (else_ (front_in ws x 3) (front_in ws x 4))))

-- its class and number, if an event of the handle may be started
abbrev pub key_of : WaitingEvent → ℕ × ℕ
key_of w = (class_of w.upcall, w.event)

abbrev pub front_key : Summary → ℕ → Option (ℕ × ℕ)
front_key s x = if is_free s x then option_map key_of (front s.waiting x) else None

-- the two sets say what the summary says
pub record IsUpToDate (s : Summary) (fronts : ℕ × ℕ → Bool) (closing : ℕ → Bool) : Type 0 where
  pub front : (k : ℕ × ℕ) → fronts k ≡ true → (x : ℕ) × (front_key s x ≡ Some k)
  pub has : (k : ℕ × ℕ) (x : ℕ) → front_key s x ≡ Some k → fronts k ≡ true
  pub waits : (x : ℕ) → closing x ≡ waits_for_closed s x

-- a checker's two sets say what its summary says
abbrev pub AreUpToDate : Checker → Type 0
AreUpToDate c = IsUpToDate c.machine (contains pair_cmp c.fronts) (contains nat_cmp c.closing)

-- the number of the event to be started next
abbrev pub number_of : WaitingEvent → ℕ
number_of w = w.event

abbrev pub pick_number : Summary → Option ℕ
pick_number s = option_map number_of (pick s)

-- the handle that an entry is about
abbrev pub timer_handle : ArmedTimer → Handle
timer_handle a = a.handle

abbrev pub open_handle : OpenEvent → Handle
open_handle o = o.handle

abbrev pub waiting_handle : WaitingEvent → Handle
waiting_handle w = w.handle

abbrev pub IsAbout : {N : Type 0} → Summary → Entry N → Option Handle → Type 0
IsAbout s (Opened handle mask) o = o ≡ Some handle
IsAbout s (Cancelled timer) o = Each (λ w. is_timeout_of timer w.upcall ≡ true → o ≡ Some w.handle)
    s.waiting
IsAbout s (Due timer) o = o ≡ option_map timer_handle (armed_timer s timer)
IsAbout s (Ready handle kind) o = o ≡ Some handle
IsAbout s (Posted handle kind from seq) o = o ≡ Some handle
IsAbout s (Started event) o = o ≡ option_map waiting_handle (waiting_event s event)
IsAbout s (Returned event answer note) o = o ≡ option_map open_handle (open_event s event)
IsAbout s (Masked handle mask) o = o ≡ Some handle
IsAbout s (Suspended handle) o = o ≡ Some handle
IsAbout s (Resumed handle) o = o ≡ Some handle
IsAbout s (Removed handle) o = o ≡ Some handle
IsAbout s (Closed handle note) o = o ≡ Some handle
IsAbout s _ o = o ≡ None

-- a set with one key more, or less, if there is one
abbrev pub Adds : Option (ℕ × ℕ) → (ℕ × ℕ → Bool) → (ℕ × ℕ → Bool) → Type 0
Adds None has later = (q : ℕ × ℕ) → later q ≡ has q
Adds (Some k) has later = (q : ℕ × ℕ) → later q ≡ (if is_eq (pair_cmp k q) then true else has q)

abbrev pub Drops : Option (ℕ × ℕ) → (ℕ × ℕ → Bool) → (ℕ × ℕ → Bool) → Type 0
Drops None has later = (q : ℕ × ℕ) → later q ≡ has q
Drops (Some k) has later = (q : ℕ × ℕ) → later q ≡ (if is_eq (pair_cmp k q) then false else has q)

-- a set with one key in the place of another, if there are such
pub record Replaces (before after : Option (ℕ × ℕ)) (has later : ℕ × ℕ → Bool) : Type 0 where
  pub less : ℕ × ℕ → Bool
  pub drops : Drops before has less
  pub adds : Adds after less later
