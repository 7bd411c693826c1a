-- What a summary tells of the past that it stands for.
use Rattle.std.specs.Prelude.{ℕ, zero, suc, ◌≡◌, ◌==◌, Bool, true, false, if◌then◌else◌, List, []}
use Rattle.std.specs.Prelude.{◌∷◌, ◌++◌, length, map, Option, Some, None, option_map}
use Rattle.std.specs.List.{list_any}
use Rattle.std.specs.Option.{option_to_list}
use Rattle.reactor_journal.specs.Event.{Event, Timer}
use Rattle.reactor_journal.specs.declared.entry.Entry.{Entry}
use Rattle.reactor_journal.specs.declared.entry.Entry.TheVariants.{Refused}
use Rattle.reactor_journal.specs.Past as P
use Rattle.reactor_summary.specs.declared.parts.LiveHandle.{LiveHandle}
use Rattle.reactor_summary.specs.declared.parts.DueTimer.{DueTimer}
use Rattle.reactor_summary.specs.declared.parts.WaitingEvent.{WaitingEvent}
use Rattle.reactor_summary.specs.declared.parts.OpenEvent.{OpenEvent}
use Rattle.reactor_summary.specs.declared.parts.ArmedTimer.{ArmedTimer}
use Rattle.reactor_summary.specs.Summary.{Summary}

-- what f gives at the numbers below n, in order
abbrev pub listed : {A : Type 0} → (ℕ → Option A) → ℕ → List A
listed f zero = []
listed f (suc n) = listed f n ++ option_to_list (f n)

-- each element of the list has P
abbrev pub Each : {A : Type 0} → (A → Type 0) → List A → Type 0
Each P [] = Unit {0}
Each P (x ∷ xs) = P x × Each P xs

-- the handle x, if it is live
abbrev pub live_handle : {N : Type 0} → List (Entry N) → ℕ → Option LiveHandle
live_handle past x = if P.was_closed past x then None else Some
    (record {
      handle = record { 0 = x };
      mask = P.mask_of past x;
      suspended = P.is_suspended past x;
      alive = P.is_alive past x;
    })

-- the event i, if it waits
abbrev pub due_timer : {N : Type 0} → List (Entry N) → ℕ → DueTimer
due_timer past t = record {
  timer = t;
  deadline = P.deadline past t;
  every = P.period (P.timer_of past t);
}

abbrev pub as_waiting : {N : Type 0} → List (Entry N) → ℕ → Event → WaitingEvent
as_waiting past i event = record {
  event = i;
  handle = record { 0 = event.handle };
  upcall = event.upcall;
  due = option_map (due_timer past) (P.due_at past i);
}

abbrev pub waiting_event : {N : Type 0} → List (Entry N) → ℕ → Option WaitingEvent
waiting_event past i = if P.is_waiting past i then option_map (as_waiting past i)
    (P.event_at past i) else None

-- the event i, if it is open
abbrev pub as_open : {N : Type 0} → List (Entry N) → ℕ → Event → OpenEvent
as_open past i event = record {
  event = i;
  handle = record { 0 = event.handle };
  upcall = event.upcall;
  moment = P.started_at past i;
}

abbrev pub open_event : {N : Type 0} → List (Entry N) → ℕ → Option OpenEvent
open_event past i = if P.is_open past i then option_map (as_open past i) (P.event_at past i)
    else None

-- a timer that is armed at a deadline
abbrev pub owner : Option Timer → ℕ
owner None = 0
owner (Some timer) = timer.handle

abbrev pub armed_timer : {N : Type 0} → List (Entry N) → ℕ × ℕ → ArmedTimer
armed_timer past d = record {
  deadline = d.0;
  timer = d.1;
  handle = record { 0 = owner (P.timer_of past d.1) };
  every = P.period (P.timer_of past d.1);
}

abbrev pub is_refused : {N : Type 0} → Entry N → Bool
is_refused (Refused live fault note) = true
is_refused _ = false

-- the summary tells what the past tells
pub record Tells {N : Type 0} (past : List (Entry N)) (s : Summary) : Type 0 where
  pub entries : s.entries ≡ length past
  pub moment : s.moment ≡ P.now past
  pub opened : s.opened ≡ P.opened past
  pub closed : s.closed ≡ P.count P.is_closed past
  pub scheduled : s.scheduled ≡ P.scheduled past
  pub refused : s.refused ≡ P.count is_refused past
  pub ended : s.ended ≡ P.ended past
  -- its handles are those that were opened and not closed, in order of their numbers
  pub handles : s.handles ≡ listed (live_handle past) (P.opened past)
  -- its waiting events are all of them, in order of their numbers
  pub waiting : s.waiting ≡ listed (waiting_event past) (length past)
  -- its open events are open, and each open event is one of them
  pub opens : Each (λ o. open_event past o.event ≡ Some o) s.opens
  pub all_opens : (i : ℕ) → P.is_open past i ≡ true → list_any (λ o. o.event == i) s.opens ≡ true
  -- its armed timers are all of them, in the order in which they come due
  pub armed : s.armed ≡ map (armed_timer past) (P.armed past)
