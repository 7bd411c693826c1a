-- What a reactor keeps of its journal: data that each entry changes by a small step, and what is
-- read off it.
use Rattle.std.specs.Prelude.{ℕ, suc, ◌==◌, nat_lt, nat_le, Bool, true, false, not, ◌&&◌, ◌||◌}
use Rattle.std.specs.Prelude.{if◌then◌else◌, List, [], ◌∷◌, ◌++◌, map, Option, Some, None}
use Rattle.std.specs.Prelude.{option_map}
use Rattle.std.specs.List.{list_any, filter, find}
use Rattle.ev_types.specs.declared.upcall.Mask.{Mask}
use Rattle.ev_types.specs.declared.upcall.Handle.{Handle}
use Rattle.ev_types.specs.declared.upcall.Answer.TheVariants.{Again, Close}
use Rattle.ev_types.specs.declared.upcall.Kind.{Kind}
use Rattle.ev_types.specs.declared.upcall.Upcall.TheVariants.{Timeout, Notice}
use Rattle.reactor_journal.specs.Event.{Event}
use Rattle.reactor_journal.specs.declared.entry.Entry.{Entry}
use Rattle.reactor_journal.specs.declared.entry.Entry.TheVariants.{Opened, Scheduled, Cancelled}
use Rattle.reactor_journal.specs.declared.entry.Entry.TheVariants.{Due, Ready, Posted, Started}
use Rattle.reactor_journal.specs.declared.entry.Entry.TheVariants.{Returned, Masked, Suspended}
use Rattle.reactor_journal.specs.declared.entry.Entry.TheVariants.{Resumed, Refused, Removed}
use Rattle.reactor_journal.specs.declared.entry.Entry.TheVariants.{Closed, Ended}
use Rattle.reactor_journal.specs.Past.{has_kind, upcall_of, class_of, is_without, is_timeout_of}
use Rattle.reactor_journal.specs.Past.{belongs_to, next_deadline, now_after}
use Rattle.reactor_summary.specs.declared.parts.LiveHandle.{LiveHandle}
use Rattle.reactor_summary.specs.declared.parts.DueTimer.{DueTimer}
use Rattle.reactor_summary.specs.declared.parts.WaitingEvent.{WaitingEvent}
use Rattle.reactor_summary.specs.declared.parts.OpenEvent.{OpenEvent}
use Rattle.reactor_summary.specs.declared.parts.ArmedTimer.{ArmedTimer}

pub record Summary : Type 0 where
  -- how many entries there are, and the moment of the last wait
  pub entries : ℕ
  pub moment : ℕ
  -- how many handles were opened and closed, timers set, and handlers not registered
  pub opened : ℕ
  pub closed : ℕ
  pub scheduled : ℕ
  pub refused : ℕ
  -- whether the reactor was stopped
  pub ended : Bool
  -- the live handles by number, the waiting events by number, the open events in the order in which
  -- they were started, and the armed timers in the order in which they come due
  pub handles : List LiveHandle
  pub waiting : List WaitingEvent
  pub opens : List OpenEvent
  pub armed : List ArmedTimer

-- that of no entries
abbrev pub nothing : Summary
nothing = record {
  entries = 0;
  moment = 0;
  opened = 0;
  closed = 0;
  scheduled = 0;
  refused = 0;
  ended = false;
  handles = [];
  waiting = [];
  opens = [];
  armed = [];
}

-- ---- what is read off a summary

-- whether the handle is alive; or alive and suspended; or alive and wants reports of the kind
abbrev pub is_alive : Summary → ℕ → Bool
is_alive s x = list_any (λ h. h.handle.0 == x && h.alive) s.handles

abbrev pub is_suspended : Summary → ℕ → Bool
is_suspended s x = list_any (λ h. h.handle.0 == x && (h.alive && h.suspended)) s.handles

abbrev pub is_resumed : Summary → ℕ → Bool
is_resumed s x = list_any (λ h. h.handle.0 == x && (h.alive && not h.suspended)) s.handles

abbrev pub is_wanted : Summary → ℕ → Kind → Bool
is_wanted s x kind = list_any (λ h. h.handle.0 == x && (h.alive && has_kind h.mask kind)) s.handles

-- whether the event is open, and whether one of the handle is
abbrev pub is_open : Summary → ℕ → Bool
is_open s i = list_any (λ o. o.event == i) s.opens

abbrev pub is_busy : Summary → ℕ → Bool
is_busy s x = list_any (λ o. o.handle.0 == x) s.opens

-- whether an event of the handle may be started
abbrev pub is_free : Summary → ℕ → Bool
is_free s x = is_resumed s x && not (is_busy s x)

-- whether the handle, or some handle, waits for its close
abbrev pub waits_for_closed : Summary → ℕ → Bool
waits_for_closed s x = list_any (λ h. h.handle.0 == x && not h.alive) s.handles && not (is_busy s x)

abbrev pub some_wait : Summary → Bool
some_wait s = list_any (λ h. not h.alive && not (is_busy s h.handle.0)) s.handles

-- whether a timeout of the timer waits
abbrev pub timeout_waits : Summary → ℕ → Bool
timeout_waits s t = list_any (λ w. is_timeout_of t w.upcall) s.waiting

-- whether the timer is armed; whether the first deadline is reached, and is that of the timer
abbrev pub is_armed : Summary → ℕ → Bool
is_armed s t = list_any (λ a. a.timer == t) s.armed

abbrev pub is_reached : ℕ → List ArmedTimer → Bool
is_reached moment [] = false
is_reached moment (a ∷ rest) = nat_le a.deadline moment

abbrev pub is_overdue : Summary → Bool
is_overdue s = is_reached s.moment s.armed

abbrev pub is_first : ℕ → ℕ → List ArmedTimer → Bool
is_first moment t [] = false
is_first moment t (a ∷ rest) = a.timer == t && nat_le a.deadline moment

abbrev pub is_first_due : Summary → ℕ → Bool
is_first_due s t = is_first s.moment t s.armed

-- the event to be started next: the first of the first class that has an event of a free handle
abbrev pub first_free : Summary → ℕ → Option WaitingEvent
first_free s class = find (λ w. class_of w.upcall == class && is_free s w.handle.0) s.waiting

abbrev pub else_ : Option WaitingEvent → Option WaitingEvent → Option WaitingEvent
else_ None other = other
else_ (Some w) other = Some w

unfoldable pub pick : Summary → Option WaitingEvent
pick s = else_ (first_free s 0) (else_ (first_free s 1)
    (else_ (first_free s 2) (else_ (first_free s 3) (first_free s 4))))

abbrev pub is_number : ℕ → Option WaitingEvent → Bool
is_number i None = false
is_number i (Some w) = w.event == i

abbrev pub is_pick : Summary → ℕ → Bool
is_pick s i = is_number i (pick s)

-- ---- one more entry

-- the handle and upcall of an open event
abbrev pub event_of : OpenEvent → Event
event_of o = record { handle = o.handle.0; upcall = o.upcall }

abbrev pub open_event : Summary → ℕ → Option OpenEvent
open_event s i = find (λ o. o.event == i) s.opens

abbrev pub waiting_event : Summary → ℕ → Option WaitingEvent
waiting_event s i = find (λ w. w.event == i) s.waiting

abbrev pub event_open : Summary → ℕ → Option Event
event_open s i = option_map event_of (open_event s i)

-- handles
abbrev pub with_mask : ℕ → Mask → LiveHandle → LiveHandle
with_mask x mask h = if x == h.handle.0 then record h { mask = mask } else h

abbrev pub with_suspended : ℕ → Bool → LiveHandle → LiveHandle
with_suspended x suspended h = if x == h.handle.0 then record h { suspended = suspended } else h

abbrev pub with_end : Option Event → LiveHandle → LiveHandle
with_end event h = if belongs_to h.handle.0 event then record h { alive = false } else h

abbrev pub of_handle : Handle → Option Event
of_handle handle = Some (record { handle = handle.0; upcall = Timeout 0 })

abbrev pub handles_after : {N : Type 0} → Summary → Entry N → List LiveHandle
handles_after s (Opened handle mask) =
    s.handles ++ record { handle = handle; mask = mask; suspended = false; alive = true } ∷ []
handles_after s (Masked handle mask) = map (with_mask handle.0 mask) s.handles
handles_after s (Suspended handle) = map (with_suspended handle.0 true) s.handles
handles_after s (Resumed handle) = map (with_suspended handle.0 false) s.handles
handles_after s (Removed handle) = map (with_end (of_handle handle)) s.handles
handles_after s (Returned event Close note) = map (with_end (event_open s event)) s.handles
handles_after s (Closed handle note) = filter (λ h. not (handle.0 == h.handle.0)) s.handles
handles_after s _ = s.handles

-- open events
abbrev pub opens_from : ℕ → Option WaitingEvent → List OpenEvent
opens_from moment None = []
opens_from moment (Some w) = record {
  event = w.event;
  handle = w.handle;
  upcall = w.upcall;
  moment = moment;
} ∷ []

abbrev pub opens_after : {N : Type 0} → Summary → Entry N → List OpenEvent
opens_after s (Started event) = s.opens ++ opens_from s.moment (waiting_event s event)
opens_after s (Returned event answer note) = filter (λ o. not (event == o.event)) s.opens
opens_after s _ = s.opens

-- waiting events
abbrev pub without_events_of : Option Event → List WaitingEvent → List WaitingEvent
without_events_of event waiting = filter (λ w. not (belongs_to w.handle.0 event)) waiting

-- an event that comes due of an armed timer
abbrev pub due_of : ArmedTimer → DueTimer
due_of a = record { timer = a.timer; deadline = a.deadline; every = a.every }

abbrev pub waiting_due : ℕ → Option ArmedTimer → List WaitingEvent
waiting_due i None = []
waiting_due i (Some a) = record {
  event = i;
  handle = a.handle;
  upcall = Timeout a.timer;
  due = Some (due_of a);
} ∷ []

abbrev pub armed_timer : Summary → ℕ → Option ArmedTimer
armed_timer s t = find (λ a. a.timer == t) s.armed

-- an event that asks for the same upcall once more, if the handle is alive
abbrev pub waiting_again : Summary → Option OpenEvent → List WaitingEvent
waiting_again s None = []
waiting_again s (Some o) = if is_alive s o.handle.0 then record {
  event = s.entries;
  handle = o.handle;
  upcall = o.upcall;
  due = None;
} ∷ [] else []

abbrev pub waiting_after : {N : Type 0} → Summary → Entry N → List WaitingEvent
waiting_after s (Due timer) = s.waiting ++ waiting_due s.entries (armed_timer s timer)
waiting_after s (Ready handle kind) =
    s.waiting ++ record { event = s.entries; handle = handle; upcall = upcall_of kind; due = None }
    ∷ []
waiting_after s (Posted handle kind from seq) =
    s.waiting ++ record { event = s.entries; handle = handle; upcall = Notice kind; due = None }
    ∷ []
waiting_after s (Returned event Again note) = s.waiting ++ waiting_again s (open_event s event)
waiting_after s (Returned event Close note) = without_events_of (event_open s event) s.waiting
waiting_after s (Removed handle) = without_events_of (of_handle handle) s.waiting
waiting_after s (Masked handle mask) =
    filter (λ w. not (handle.0 == w.handle.0 && is_without mask w.upcall)) s.waiting
waiting_after s (Cancelled timer) = filter (λ w. not (is_timeout_of timer w.upcall)) s.waiting
waiting_after s (Started event) = filter (λ w. not (event == w.event)) s.waiting
waiting_after s _ = s.waiting

-- armed timers
abbrev pub comes_before : ArmedTimer → ArmedTimer → Bool
comes_before a b = nat_lt a.deadline b.deadline
    || (a.deadline == b.deadline && nat_lt a.timer b.timer)

abbrev pub with_timer : ArmedTimer → List ArmedTimer → List ArmedTimer
with_timer a [] = a ∷ []
with_timer a (b ∷ rest) = if comes_before a b then a ∷ b ∷ rest else b ∷ with_timer a rest

abbrev pub without_timer : ℕ → List ArmedTimer → List ArmedTimer
without_timer t armed = filter (λ a. not (a.timer == t)) armed

abbrev pub without_timers_of : Option Event → List ArmedTimer → List ArmedTimer
without_timers_of None armed = armed
without_timers_of (Some event) armed = filter (λ a. not (a.handle.0 == event.handle)) armed

-- a periodic timer is armed again, at the deadline after the one that was reached
abbrev pub with_next : ℕ → Handle → Option DueTimer → List ArmedTimer → List ArmedTimer
with_next moment handle None armed = armed
with_next moment handle (Some due) armed =
    if due.every == 0 then armed else with_timer
    (record {
      deadline = next_deadline due.deadline due.every moment;
      timer = due.timer;
      handle = handle;
      every = due.every;
    }) armed

abbrev pub with_started : ℕ → Option WaitingEvent → List ArmedTimer → List ArmedTimer
with_started moment None armed = armed
with_started moment (Some w) armed = with_next moment w.handle w.due armed

abbrev pub armed_after : {N : Type 0} → Summary → Entry N → List ArmedTimer
armed_after s (Scheduled timer handle first every) =
    with_timer (record { deadline = first; timer = timer; handle = handle; every = every }) s.armed
armed_after s (Cancelled timer) = without_timer timer s.armed
armed_after s (Due timer) = without_timer timer s.armed
armed_after s (Started event) = with_started s.moment (waiting_event s event) s.armed
armed_after s (Returned event Close note) = without_timers_of (event_open s event) s.armed
armed_after s (Removed handle) = without_timers_of (of_handle handle) s.armed
armed_after s _ = s.armed

-- numbers
abbrev pub opened_after : {N : Type 0} → Entry N → ℕ → ℕ
opened_after (Opened handle mask) n = suc n
opened_after _ n = n

abbrev pub closed_after : {N : Type 0} → Entry N → ℕ → ℕ
closed_after (Closed handle note) n = suc n
closed_after _ n = n

abbrev pub scheduled_after : {N : Type 0} → Entry N → ℕ → ℕ
scheduled_after (Scheduled timer handle first every) n = suc n
scheduled_after _ n = n

abbrev pub refused_after : {N : Type 0} → Entry N → ℕ → ℕ
refused_after (Refused live fault note) n = suc n
refused_after _ n = n

abbrev pub ended_after : {N : Type 0} → Entry N → Bool → Bool
ended_after Ended ended = true
ended_after _ ended = ended

-- the summary after one more entry
abbrev pub step : {N : Type 0} → Summary → Entry N → Summary
step s e = record {
  entries = suc s.entries;
  moment = now_after e s.moment;
  opened = opened_after e s.opened;
  closed = closed_after e s.closed;
  scheduled = scheduled_after e s.scheduled;
  refused = refused_after e s.refused;
  ended = ended_after e s.ended;
  handles = handles_after s e;
  waiting = waiting_after s e;
  opens = opens_after s e;
  armed = armed_after s e;
}

-- the summary of a past
abbrev pub summary : {N : Type 0} → List (Entry N) → Summary
summary [] = nothing
summary (e ∷ past) = step (summary past) e
