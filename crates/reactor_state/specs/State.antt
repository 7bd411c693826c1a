-- What a reactor's state stands for, and how much room it has: the state of a reactor's event loop
-- (C++NPv2 chapter 3), seen as the summary of its journal.
use Rattle.std.specs.Prelude.{ℕ, ◌≡◌, ◌≤◌, ◌<◌, ◌+◌, ◌-◌, ◌*◌, ◌^◌, Bool, ◌++◌, if◌then◌else◌, List}
use Rattle.std.specs.Prelude.{length, map, slice_get, vec_capacity, Option, Some, option_map}
use Rattle.ev_types.specs.declared.upcall.Handle.{Handle}
use Rattle.ev_types.specs.declared.upcall.Answer.{Answer}
use Rattle.ev_types.specs.declared.upcall.Answer.TheVariants.{Keep, Again, Close}
use Rattle.reactor_summary.specs.reactor_journal.specs.declared.entry.Entry.{Entry}
use Rattle.reactor_summary.specs.declared.parts.OpenEvent.{OpenEvent}
use Rattle.reactor_summary.specs.Summary.{Summary, step, with_end, of_handle, without_events_of}
use Rattle.reactor_summary.specs.Summary.{without_timers_of, waiting_again, event_of}
use Rattle.timer_queue.specs.declared.timer.Timer.{Timer}
use Rattle.reactor_state.specs.declared.places.Places.{Places}
use Rattle.reactor_state.specs.declared.places.Pick.{Pick}
use Rattle.reactor_state.specs.declared.state.ReactorState.{ReactorState}
use Rattle.reactor_state.specs.Tables.{alive_count, queues, by_class, queue_of, capacities, HasRoom}
use Rattle.reactor_state.specs.Tables.{HasArmed, HasTimerRoom}
use Rattle.reactor_state.specs.Sound.{IsSound}

-- the summary after an entry without a note
abbrev pub after : Summary → Entry (Unit {0}) → Summary
after s e = step s e

-- the summary when the life of a handle ended, but for the entry that ended it
abbrev pub without_handle : Handle → Summary → Summary
without_handle handle s = record s {
  handles = map (with_end (of_handle handle)) s.handles;
  waiting = without_events_of (of_handle handle) s.waiting;
  armed = without_timers_of (of_handle handle) s.armed;
}

-- the summary when an event was answered, but for the entry and the open events
abbrev pub answered : Option OpenEvent → Answer → Summary → Summary
answered found Keep s = s
answered found Again s = record s { waiting = s.waiting ++ waiting_again s found }
answered found Close s = record s {
  handles = map (with_end (option_map event_of found)) s.handles;
  waiting = without_events_of (option_map event_of found) s.waiting;
  armed = without_timers_of (option_map event_of found) s.armed;
}

-- no places
abbrev pub no_places : Places
no_places = record { handles = 0; timers = 0; timeouts = 0; events = 0; opens = 0 }

-- places but for one waiting event of whatever class
abbrev pub but_an_event : Places → Places
but_an_event p = record p { timeouts = p.timeouts - 1; events = p.events - 1 }

-- the numbers of a summary, and how many of its handles are alive
pub record Numbers : Type 0 where
  pub entries : ℕ
  pub moment : ℕ
  pub opened : ℕ
  pub closed : ℕ
  pub scheduled : ℕ
  pub refused : ℕ
  pub ended : Bool
  pub alive : ℕ

abbrev pub numbers_in : Summary → Numbers
numbers_in s = record {
  entries = s.entries;
  moment = s.moment;
  opened = s.opened;
  closed = s.closed;
  scheduled = s.scheduled;
  refused = s.refused;
  ended = s.ended;
  alive = alive_count s.handles;
}

-- each number of places of the first is at most that of the second
pub record IsFewer (few many : Places) : Type 0 where
  pub handles : few.handles ≤ many.handles
  pub timers : few.timers ≤ many.timers
  pub timeouts : few.timeouts ≤ many.timeouts
  pub events : few.events ≤ many.events
  pub opens : few.opens ≤ many.opens

module _ {Q : Type 0} where
  -- it can take so many more handles, timers, waiting timeouts, other waiting events (of each of
  -- the four other classes) and open events without memory
  pub record HasPlaces (spare : Q → ℕ) (need : Places) (state : ReactorState Q) : Type 0 where
    pub handles : length state.handles.items + need.handles ≤ vec_capacity state.handles
    pub timers : HasTimerRoom spare need.timers state.armed
    pub waiting : HasRoom (capacities state.waiting) need.timeouts need.events
        (queues state.waiting)
    pub opens : length state.opens.items + need.opens ≤ vec_capacity state.opens

  -- it has what places the old state has
  abbrev pub KeepsPlaces : (Q → ℕ) → ReactorState Q → ReactorState Q → Type 0
  KeepsPlaces spare old new = (p : Places) → HasPlaces spare p old → HasPlaces spare p new

  -- it has what is left of the places that the old state has
  abbrev pub UsesPlaces : (Q → ℕ) → ReactorState Q → (Places → Places) → ReactorState Q → Type 0
  UsesPlaces spare old left new = (p : Places) → HasPlaces spare p old
      → HasPlaces spare (left p) new

  -- its numbers
  abbrev pub numbers_of : ReactorState Q → Numbers
  numbers_of state = record {
    entries = state.entries;
    moment = state.moment;
    opened = state.opened;
    closed = state.closed;
    scheduled = state.scheduled;
    refused = state.refused;
    ended = state.ended;
    alive = state.alive;
  }

  -- its tables have what the summary has
  pub record HasTables (timers : Q → List Timer) (state : ReactorState Q) (s : Summary) : Type 0
    where
      pub numbers : numbers_of state ≡ numbers_in s
      pub handles : state.handles.items ≡ s.handles
      pub opens : state.opens.items ≡ s.opens
      pub waiting : queues state.waiting ≡ by_class s.waiting
      pub armed : HasArmed timers state.armed s.armed

  -- it stands for the summary, which is one that a reactor reaches
  pub record Shows (timers : Q → List Timer) (state : ReactorState Q) (s : Summary) : Type 0 where
    pub tables : HasTables timers state s
    pub sound : IsSound s

  -- it stands for some summary with P
  abbrev pub CanStep : (Q → List Timer) → ReactorState Q → (Summary → Type 0) → Type 0
  CanStep timers state P = (s : Summary) × Shows timers state s × P s

  -- for each summary with P that the old state stands for, the new one stands for the next
  abbrev pub TakesTo : (Q → List Timer) → ReactorState Q → (Summary → Type 0) → (Summary → Summary)
      → ReactorState Q → Type 0
  TakesTo timers old P next new = (s : Summary) → Shows timers old s → P s
      → Shows timers new (next s)

  -- P holds of each summary that it stands for
  abbrev pub Tells : (Q → List Timer) → ReactorState Q → (Summary → Type 0) → Type 0
  Tells timers state P = (s : Summary) → Shows timers state s → P s

  -- the pick stands where it says
  abbrev pub IsPlaced : ReactorState Q → Pick → Type 0
  IsPlaced state p = slice_get (queue_of p.event.upcall (queues state.waiting)) p.place
      ≡ Some p.event

-- there is room in the numbers for one more entry
abbrev pub HasNumber : Summary → Type 0
HasNumber s = s.entries < 2 ^ 62

-- how many places of the journal are owed: five for each open event, two for each alive handle, one
-- for each other live one, and one while the reactor was not stopped
abbrev pub owed : Summary → ℕ
owed s = 5 * length s.opens + (alive_count s.handles + length s.handles)
    + (if s.ended then 0 else 1)
