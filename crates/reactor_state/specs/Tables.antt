-- The tables of a reactor's state, as the summary has what stands in them (POSA2, Reactor: the
-- demultiplexing table and the timer queue). The order of the classes is that of this project's
-- journal.
use Rattle.std.specs.Prelude.{ℕ, ◌≡◌, ◌≤◌, ◌<◌, ◌+◌, ◌==◌, Bool, not, ◌&&◌, if◌then◌else◌, List, []}
use Rattle.std.specs.Prelude.{◌∷◌, ◌++◌, length, map, filter, vec_capacity, Option, Some, None}
use Rattle.std.specs.List.{list_any}
use Rattle.std.specs.VecDeque.{deque_items, deque_capacity}
use Rattle.ev_types.specs.declared.upcall.Mask.{Mask}
use Rattle.ev_types.specs.declared.upcall.Upcall.{Upcall}
use Rattle.ev_types.specs.declared.upcall.Upcall.TheVariants.{Input, Output, Except, Timeout}
use Rattle.ev_types.specs.declared.upcall.Upcall.TheVariants.{Notice}
use Rattle.reactor_summary.specs.reactor_journal.specs.Past.{class_of, count}
use Rattle.reactor_summary.specs.declared.parts.LiveHandle.{LiveHandle}
use Rattle.reactor_summary.specs.declared.parts.WaitingEvent.{WaitingEvent}
use Rattle.reactor_summary.specs.declared.parts.OpenEvent.{OpenEvent}
use Rattle.reactor_summary.specs.declared.parts.ArmedTimer.{ArmedTimer}
use Rattle.timer_queue.specs.declared.timer.Timer.{Timer}
use Rattle.reactor_state.specs.declared.waiting.Waiting.{Waiting}
use Rattle.reactor_state.specs.declared.armed.Owner.{Owner}
use Rattle.reactor_state.specs.declared.armed.Armed.{Armed}
use Rattle.reactor_state.specs.Rises.{RisesIn}

-- ---- live handles

-- how many of the handles are alive
abbrev pub alive_count : List LiveHandle → ℕ
alive_count handles = count (λ (h : LiveHandle). h.alive) handles

-- whether an event of the handle may be started: it is alive and not suspended, and has none open
abbrev pub is_free : List LiveHandle → List OpenEvent → ℕ → Bool
is_free handles opens x = list_any (λ h. h.handle.0 == x && (h.alive && not h.suspended)) handles
    && not (list_any (λ o. o.handle.0 == x) opens)

-- ---- waiting events

-- the waiting events of each class, the first to be started first
pub record Queues : Type 0 where
  pub timeouts : List WaitingEvent
  pub notices : List WaitingEvent
  pub outputs : List WaitingEvent
  pub excepts : List WaitingEvent
  pub inputs : List WaitingEvent

-- those that stand in the table
abbrev pub queues : Waiting → Queues
queues w = record {
  timeouts = deque_items w.timeouts;
  notices = deque_items w.notices;
  outputs = deque_items w.outputs;
  excepts = deque_items w.excepts;
  inputs = deque_items w.inputs;
}

-- a list of events by their classes
abbrev pub of_class : ℕ → List WaitingEvent → List WaitingEvent
of_class class waiting = filter (λ w. class_of w.upcall == class) waiting

abbrev pub by_class : List WaitingEvent → Queues
by_class waiting = record {
  timeouts = of_class 0 waiting;
  notices = of_class 1 waiting;
  outputs = of_class 2 waiting;
  excepts = of_class 3 waiting;
  inputs = of_class 4 waiting;
}

-- the queue in which an event with the upcall stands
abbrev pub queue_of : Upcall → Queues → List WaitingEvent
queue_of (Timeout timer) q = q.timeouts
queue_of (Notice kind) q = q.notices
queue_of Output q = q.outputs
queue_of Except q = q.excepts
queue_of Input q = q.inputs

-- with another queue there
abbrev pub with_queue : Upcall → List WaitingEvent → Queues → Queues
with_queue (Timeout timer) events q = record q { timeouts = events }
with_queue (Notice kind) events q = record q { notices = events }
with_queue Output events q = record q { outputs = events }
with_queue Except events q = record q { excepts = events }
with_queue Input events q = record q { inputs = events }

-- one event more
abbrev pub with_event : WaitingEvent → Queues → Queues
with_event w q = with_queue w.upcall (queue_of w.upcall q ++ w ∷ []) q

-- those that pass alone
abbrev pub kept : (WaitingEvent → Bool) → Queues → Queues
kept p q = record {
  timeouts = filter p q.timeouts;
  notices = filter p q.notices;
  outputs = filter p q.outputs;
  excepts = filter p q.excepts;
  inputs = filter p q.inputs;
}

-- without the events of a handle, if that is asked for
abbrev pub dropped : Bool → ℕ → List WaitingEvent → List WaitingEvent
dropped which x events = if which then filter (λ w. not (x == w.handle.0)) events else events

-- without the reports of a handle that its mask lacks
abbrev pub masked : ℕ → Mask → Queues → Queues
masked x mask q = record q {
  outputs = dropped (not mask.write) x q.outputs;
  excepts = dropped (not mask.except) x q.excepts;
  inputs = dropped (not mask.read) x q.inputs;
}

-- how many places each queue has
pub record Capacities : Type 0 where
  pub timeouts : ℕ
  pub notices : ℕ
  pub outputs : ℕ
  pub excepts : ℕ
  pub inputs : ℕ

abbrev pub capacities : Waiting → Capacities
capacities w = record {
  timeouts = deque_capacity w.timeouts;
  notices = deque_capacity w.notices;
  outputs = deque_capacity w.outputs;
  excepts = deque_capacity w.excepts;
  inputs = deque_capacity w.inputs;
}

-- there is room for so many timeouts, and for so many events in each other queue
pub record HasRoom (c : Capacities) (n m : ℕ) (q : Queues) : Type 0 where
  pub timeouts : length q.timeouts + n ≤ c.timeouts
  pub notices : length q.notices + m ≤ c.notices
  pub outputs : length q.outputs + m ≤ c.outputs
  pub excepts : length q.excepts + m ≤ c.excepts
  pub inputs : length q.inputs + m ≤ c.inputs

-- there is room for one event with the upcall
abbrev pub HasRoomFor : Upcall → Capacities → Queues → Type 0
HasRoomFor (Timeout timer) c q = length q.timeouts < c.timeouts
HasRoomFor (Notice kind) c q = length q.notices < c.notices
HasRoomFor Output c q = length q.outputs < c.outputs
HasRoomFor Except c q = length q.excepts < c.excepts
HasRoomFor Input c q = length q.inputs < c.inputs

-- ---- armed timers

-- a timer of the timer queue, as the summary has it
abbrev pub armed_of : Timer → ArmedTimer
armed_of t = record { deadline = t.deadline; timer = t.timer; handle = t.handle; every = t.every }

-- no timer is armed twice
abbrev pub IsOnce : List ArmedTimer → Type 0
IsOnce armed = (n : ℕ) → count (λ (a : ArmedTimer). a.timer == n) armed ≤ 1

-- the first deadline
abbrev pub first_armed_deadline : List ArmedTimer → Option ℕ
first_armed_deadline [] = None
first_armed_deadline (a ∷ armed) = Some a.deadline

-- the number of an owner's timer, by which they stand in rising order
abbrev pub timer_of : Owner → ℕ
timer_of o = o.timer

-- the table of owners has the armed timers with their handles: whatever is asked of a timer's
-- number and its handle holds of as many there as here
pub record HasOwners (owners : List Owner) (armed : List ArmedTimer) : Type 0 where
  pub bound : ℕ
  pub rising : RisesIn timer_of 0 bound owners
  pub same : (p : ℕ → ℕ → Bool) → count (λ (o : Owner). p o.timer o.handle.0) owners
      ≡ count (λ (a : ArmedTimer). p a.timer a.handle.0) armed

module _ {Q : Type 0} where
  -- the table has the armed timers
  pub record HasArmed (timers : Q → List Timer) (table : Armed Q) (armed : List ArmedTimer) : Type 0
    where
      pub timers_are : map armed_of (timers table.timers) ≡ armed
      pub owners : HasOwners table.owners.items armed

  -- P holds of the armed timers that the table has
  abbrev pub TellsArmed : (Q → List Timer) → Armed Q → (List ArmedTimer → Type 0) → Type 0
  TellsArmed timers table P = (armed : List ArmedTimer) → HasArmed timers table armed → P armed

  -- the new table has the next of what the old one has
  abbrev pub TakesArmedTo : (Q → List Timer) → Armed Q → (List ArmedTimer → List ArmedTimer)
      → Armed Q → Type 0
  TakesArmedTo timers old next new =
      (armed : List ArmedTimer) → HasArmed timers old armed → HasArmed timers new (next armed)

  -- there is room for so many more
  pub record HasTimerRoom (spare : Q → ℕ) (n : ℕ) (table : Armed Q) : Type 0 where
    pub timers : n ≤ spare table.timers
    pub owners : length table.owners.items + n ≤ vec_capacity table.owners

  -- there is room for as many as before
  abbrev pub KeepsTimerRoom : (Q → ℕ) → Armed Q → Armed Q → Type 0
  KeepsTimerRoom spare old new = (n : ℕ) → HasTimerRoom spare n old → HasTimerRoom spare n new
