-- What a journal tells of its handles, timers and events: the reactor of C++NPv2 chapters 3 and 4
-- and of POSA2's Reactor and Leader/Followers, with this project's own order of dispatch.
--
-- A journal is read backwards. A past is the entries so far, the latest first, so that each
-- definition says in one clause what one more entry changes. The number of an entry is how many
-- entries stand before it. Handles and timers are named by their numbers.
use Rattle.std.specs.Prelude.{ℕ, zero, suc, ◌+◌, ◌-◌, ◌*◌, ◌/◌, ◌==◌, nat_lt, nat_le, Bool, true}
use Rattle.std.specs.Prelude.{false, not, ◌&&◌, ◌||◌, if◌then◌else◌, List, [], ◌∷◌, ◌++◌, length}
use Rattle.std.specs.Prelude.{reverse, filter, Option, Some, None, is_some, option_map}
use Rattle.std.specs.List.{list_any, list_all}
use Rattle.ev_types.specs.declared.upcall.Mask.{Mask}
use Rattle.ev_types.specs.declared.upcall.Kind.{Kind}
use Rattle.ev_types.specs.declared.upcall.Kind.TheVariants.{Read, Write, Except}
use Rattle.ev_types.specs.declared.upcall.Answer.{Answer}
use Rattle.ev_types.specs.declared.upcall.Answer.TheVariants.{Again, Close}
use Rattle.ev_types.specs.declared.upcall.Upcall.{Upcall}
use Rattle.ev_types.specs.declared.upcall.Upcall.TheVariants.{Input, Output, Except as ExceptUp}
use Rattle.ev_types.specs.declared.upcall.Upcall.TheVariants.{Timeout, Notice}
use Rattle.ev_types.specs.declared.upcall.Why.{Why}
use Rattle.ev_types.specs.declared.upcall.Why.TheVariants.{Own, Removed as RemovedBy}
use Rattle.reactor_journal.specs.Event.{Timer, Event, Item, Origin}
use Rattle.reactor_journal.specs.declared.entry.Entry.{Entry}
use Rattle.reactor_journal.specs.declared.entry.Entry.TheVariants.{Opened, Scheduled, Cancelled}
use Rattle.reactor_journal.specs.declared.entry.Entry.TheVariants.{Polled, Due, Ready, Posted}
use Rattle.reactor_journal.specs.declared.entry.Entry.TheVariants.{Stale, Started, Returned, Masked}
use Rattle.reactor_journal.specs.declared.entry.Entry.TheVariants.{Suspended, Resumed, Refused}
use Rattle.reactor_journal.specs.declared.entry.Entry.TheVariants.{Removed, Closed, Ended}

-- the entries of a journal, the latest first
abbrev pub past_of : {N : Type 0} → List (Entry N) → List (Entry N)
past_of journal = reverse journal

-- whether some number below n, or each, passes the test
abbrev pub any_below : ℕ → (ℕ → Bool) → Bool
any_below zero test = false
any_below (suc n) test = test n || any_below n test

abbrev pub all_below : ℕ → (ℕ → Bool) → Bool
all_below zero test = true
all_below (suc n) test = test n && all_below n test

-- how many numbers below n pass the test
abbrev pub count_below : ℕ → (ℕ → Bool) → ℕ
count_below zero test = 0
count_below (suc n) test = if test n then suc (count_below n test) else count_below n test

-- how many pass the test (std's `count_by` is a fold from the front, which does not compute at one
-- more entry)
abbrev pub count : {A : Type 0} → (A → Bool) → List A → ℕ
count test [] = 0
count test (x ∷ xs) = if test x then suc (count test xs) else count test xs

-- ---- tests of one entry

abbrev pub is_opened : {N : Type 0} → Entry N → Bool
is_opened (Opened handle mask) = true
is_opened _ = false

abbrev pub is_scheduled : {N : Type 0} → Entry N → Bool
is_scheduled (Scheduled timer handle first every) = true
is_scheduled _ = false

abbrev pub is_closed : {N : Type 0} → Entry N → Bool
is_closed (Closed handle note) = true
is_closed _ = false

abbrev pub is_ended : {N : Type 0} → Entry N → Bool
is_ended Ended = true
is_ended _ = false

abbrev pub opens : {N : Type 0} → ℕ → Entry N → Bool
opens x (Opened handle mask) = handle.0 == x
opens x _ = false

abbrev pub closes : {N : Type 0} → ℕ → Entry N → Bool
closes x (Closed handle note) = handle.0 == x
closes x _ = false

abbrev pub starts : {N : Type 0} → ℕ → Entry N → Bool
starts i (Started event) = event == i
starts i _ = false

abbrev pub returns : {N : Type 0} → ℕ → Entry N → Bool
returns i (Returned event answer note) = event == i
returns i _ = false

-- ---- numbers, moments and masks

-- how many handles were opened, and how many timers were set
abbrev pub opened : {N : Type 0} → List (Entry N) → ℕ
opened past = count is_opened past

abbrev pub scheduled : {N : Type 0} → List (Entry N) → ℕ
scheduled past = count is_scheduled past

-- how many handles are live: opened and not closed
abbrev pub live : {N : Type 0} → List (Entry N) → ℕ
live past = count is_opened past - count is_closed past

-- whether the handle was opened, or closed; whether the event was started, or returned
abbrev pub was_opened : {N : Type 0} → List (Entry N) → ℕ → Bool
was_opened past x = list_any (opens x) past

abbrev pub was_closed : {N : Type 0} → List (Entry N) → ℕ → Bool
was_closed past x = list_any (closes x) past

abbrev pub was_started : {N : Type 0} → List (Entry N) → ℕ → Bool
was_started past i = list_any (starts i) past

abbrev pub was_returned : {N : Type 0} → List (Entry N) → ℕ → Bool
was_returned past i = list_any (returns i) past

-- whether the reactor was stopped
abbrev pub ended : {N : Type 0} → List (Entry N) → Bool
ended past = list_any is_ended past

-- the moment of the last wait in milliseconds, or 0
abbrev pub now_after : {N : Type 0} → Entry N → ℕ → ℕ
now_after (Polled moment) before = moment
now_after _ before = before

abbrev pub now : {N : Type 0} → List (Entry N) → ℕ
now [] = 0
now (e ∷ past) = now_after e (now past)

-- the mask of the last `Opened` or `Masked` of the handle
abbrev pub no_mask : Mask
no_mask = record { read = false; write = false; except = false }

abbrev pub mask_after : {N : Type 0} → ℕ → Entry N → Mask → Mask
mask_after x (Opened handle mask) before = if handle.0 == x then mask else before
mask_after x (Masked handle mask) before = if handle.0 == x then mask else before
mask_after x _ before = before

abbrev pub mask_of : {N : Type 0} → List (Entry N) → ℕ → Mask
mask_of [] x = no_mask
mask_of (e ∷ past) x = mask_after x e (mask_of past x)

abbrev pub has_kind : Mask → Kind → Bool
has_kind mask Read = mask.read
has_kind mask Write = mask.write
has_kind mask Except = mask.except

-- whether the handle is suspended by hand: the last `Suspended` or `Resumed` of it is `Suspended`
abbrev pub held_after : {N : Type 0} → ℕ → Entry N → Bool → Bool
held_after x (Suspended handle) before = handle.0 == x || before
held_after x (Resumed handle) before = not (handle.0 == x) && before
held_after x _ before = before

abbrev pub is_suspended : {N : Type 0} → List (Entry N) → ℕ → Bool
is_suspended [] x = false
is_suspended (e ∷ past) x = held_after x e (is_suspended past x)

-- ---- timers as they were set

-- the timer of that number, if it was set

abbrev pub timer_after : {N : Type 0} → ℕ → Entry N → Option Timer → Option Timer
timer_after t (Scheduled timer handle first every) before =
    if timer == t then Some (record { handle = handle.0; every = every }) else before
timer_after t _ before = before

abbrev pub timer_of : {N : Type 0} → List (Entry N) → ℕ → Option Timer
timer_of [] t = None
timer_of (e ∷ past) t = timer_after t e (timer_of past t)

-- ---- events

-- the upcall that a report of the kind asks for
abbrev pub upcall_of : Kind → Upcall
upcall_of Read = Input
upcall_of Write = Output
upcall_of Except = ExceptUp

-- the class of an upcall. The smaller class goes first: timeouts, notifications, output,
-- exceptional data, input (this project's own order)
abbrev pub class_of : Upcall → ℕ
class_of (Timeout timer) = 0
class_of (Notice kind) = 1
class_of Output = 2
class_of ExceptUp = 3
class_of Input = 4

-- whether the event is one of the handle
abbrev pub belongs_to : ℕ → Option Event → Bool
belongs_to x None = false
belongs_to x (Some event) = event.handle == x

-- the event, if its handle is alive
abbrev pub only_if_alive : (ℕ → Bool) → Option Event → Option Event
only_if_alive alive None = None
only_if_alive alive (Some event) = if alive event.handle then Some event else None

-- the event that the timer makes when it comes due
abbrev pub timeout_of : ℕ → Timer → Event
timeout_of t timer = record { handle = timer.handle; upcall = Timeout t }

-- the event that an entry is, by the timers, the events and the handles alive before it: a `Due`,
-- `Ready` or `Posted`; and a `Returned` with Again whose handle was alive, which asks for the same
-- upcall once more
abbrev pub event_made : {N : Type 0} → Entry N → (ℕ → Option Timer) → (ℕ → Option Event)
    → (ℕ → Bool) → Option Event
event_made (Due timer) timers events alive = option_map (timeout_of timer) (timers timer)
event_made (Ready handle kind) timers events alive =
    Some (record { handle = handle.0; upcall = upcall_of kind })
event_made (Posted handle kind from seq) timers events alive =
    Some (record { handle = handle.0; upcall = Notice kind })
event_made (Returned event Again note) timers events alive = only_if_alive alive (events event)
event_made _ timers events alive = None

-- whether the entry ends the handle's life, by the events before it: its `Removed`, or a `Returned`
-- with Close of one of its events (ACE's -1 ends the registration for one mask; here it ends the
-- whole one)
abbrev pub ends : {N : Type 0} → ℕ → (ℕ → Option Event) → Entry N → Bool
ends x events (Removed handle) = handle.0 == x
ends x events (Returned event Close note) = belongs_to x (events event)
ends x events _ = false

module _ {N : Type 0} where
  abbrev mutual
    -- the event that entry number i is, if it is one. An Again is followed to the report that it
    -- began with
    pub event_at : List (Entry N) → ℕ → Option Event
    event_at [] i = None
    event_at (e ∷ past) i =
        elim (i == length past) [
          | true ↦ event_made e (timer_of past) (event_at past)
              (λ x. was_opened past x && not (was_removed past x))
          | false ↦ event_at past i
        ]

    -- whether an entry ended the handle's life
    pub was_removed : List (Entry N) → ℕ → Bool
    was_removed [] x = false
    was_removed (e ∷ past) x = ends x (event_at past) e || was_removed past x

-- whether the handle is alive: it was opened, and no entry ended its life
abbrev pub is_alive : {N : Type 0} → List (Entry N) → ℕ → Bool
is_alive past x = was_opened past x && not (was_removed past x)

-- whether an upcall asks for a kind of report that the mask lacks
abbrev pub is_without : Mask → Upcall → Bool
is_without mask Input = not mask.read
is_without mask Output = not mask.write
is_without mask ExceptUp = not mask.except
is_without mask _ = false

-- whether the upcall is a timeout of the timer
abbrev pub is_timeout_of : ℕ → Upcall → Bool
is_timeout_of t (Timeout timer) = timer == t
is_timeout_of t _ = false

-- whether the entry drops this event, by the events before it. These are the four recorded
-- removals: the handle's `Removed`, a `Returned` with Close of one of its events, a `Masked` of it
-- without the event's kind, and a `Cancelled` of the event's timer
abbrev pub drops : {N : Type 0} → Event → (ℕ → Option Event) → Entry N → Bool
drops event events (Removed handle) = handle.0 == event.handle
drops event events (Returned other Close note) = belongs_to event.handle (events other)
drops event events (Masked handle mask) = handle.0 == event.handle && is_without mask event.upcall
drops event events (Cancelled timer) = is_timeout_of timer event.upcall
drops event events _ = false

abbrev pub drops_it : {N : Type 0} → Option Event → (ℕ → Option Event) → Entry N → Bool
drops_it None events e = false
drops_it (Some event) events e = drops event events e

-- whether one of the recorded removals of event i stands after it
abbrev pub was_taken : {N : Type 0} → List (Entry N) → ℕ → Bool
was_taken [] i = false
was_taken (e ∷ past) i = drops_it (event_at past i) (event_at past) e || was_taken past i

-- whether entry i is an event; whether that event is dropped, waits to be started, or is open. An
-- event that was started is not dropped
abbrev pub is_event : {N : Type 0} → List (Entry N) → ℕ → Bool
is_event past i = is_some (event_at past i)

abbrev pub is_dropped : {N : Type 0} → List (Entry N) → ℕ → Bool
is_dropped past i = is_event past i && (not (was_started past i) && was_taken past i)

abbrev pub is_waiting : {N : Type 0} → List (Entry N) → ℕ → Bool
is_waiting past i = is_event past i && (not (was_started past i) && not (was_taken past i))

abbrev pub is_open : {N : Type 0} → List (Entry N) → ℕ → Bool
is_open past i = was_started past i && not (was_returned past i)

-- whether the handle is busy: one of its events is open
unfoldable pub is_busy : {N : Type 0} → List (Entry N) → ℕ → Bool
is_busy past x = any_below (length past) (λ i. is_open past i && belongs_to x (event_at past i))

-- whether an event may be started by its handle: that is alive, not busy and not suspended by hand
abbrev pub may_run : {N : Type 0} → List (Entry N) → Option Event → Bool
may_run past None = false
may_run past (Some event) = is_alive past event.handle
    && (not (is_busy past event.handle) && not (is_suspended past event.handle))

-- whether event i waits and may be started by its handle
unfoldable pub is_able : {N : Type 0} → List (Entry N) → ℕ → Bool
is_able past i = is_waiting past i && may_run past (event_at past i)

abbrev pub class_at : Option Event → ℕ
class_at None = 0
class_at (Some event) = class_of event.upcall

-- whether event i goes before event j, or is it: by class, and in one class by number
abbrev pub goes_first : {N : Type 0} → List (Entry N) → ℕ → ℕ → Bool
goes_first past i j =
    let a = class_at (event_at past i) in
    let b = class_at (event_at past j) in
    nat_lt a b || (a == b && nat_le i j)

-- whether i is the event to be started next: the able one that goes before every other
unfoldable pub is_pick : {N : Type 0} → List (Entry N) → ℕ → Bool
is_pick past i = is_able past i && all_below (length past)
    (λ j. not (is_able past j) || goes_first past i j)

-- ---- armed timers

-- the least d + k * every, for k from 1 on, that is above the moment
abbrev pub next_deadline : ℕ → ℕ → ℕ → ℕ
next_deadline d every moment = d + ((moment - d) / every + 1) * every

-- the timer of the `Due` that is entry number i
abbrev pub due_made : {N : Type 0} → Entry N → Option ℕ
due_made (Due timer) = Some timer
due_made _ = None

abbrev pub due_at : {N : Type 0} → List (Entry N) → ℕ → Option ℕ
due_at [] i = None
due_at (e ∷ past) i = elim (i == length past) [ true ↦ due_made e | false ↦ due_at past i ]

-- the period of a timer, 0 for once
abbrev pub period : Option Timer → ℕ
period None = 0
period (Some timer) = timer.every

-- the timer that is set again by the `Started` of its `Due`, which is so if it has a period. The
-- `Started` of an Again sets none
abbrev pub rearms : {N : Type 0} → List (Entry N) → Option ℕ → Option ℕ
rearms past None = None
rearms past (Some t) = if period (timer_of past t) == 0 then None else Some t

abbrev pub rearmed : {N : Type 0} → List (Entry N) → Entry N → Option ℕ
rearmed past (Started event) = rearms past (due_at past event)
rearmed past _ = None

-- the deadline that timer t was last given: the one at which it comes due, or came due last
abbrev pub first_of : {N : Type 0} → ℕ → Entry N → ℕ → ℕ
first_of t (Scheduled timer handle first every) before = if timer == t then first else before
first_of t _ before = before

abbrev pub moved : {N : Type 0} → List (Entry N) → ℕ → Option ℕ → ℕ → ℕ
moved past t None before = before
moved past t (Some timer) before =
    if timer == t then next_deadline before (period (timer_of past t)) (now past) else before

abbrev pub deadline : {N : Type 0} → List (Entry N) → ℕ → ℕ
deadline [] t = 0
deadline (e ∷ past) t = moved past t (rearmed past e) (first_of t e (deadline past t))

-- a list of (deadline, timer) in rising order with one more
abbrev pub comes_before : ℕ × ℕ → ℕ × ℕ → Bool
comes_before a b = nat_lt a.0 b.0 || (a.0 == b.0 && nat_lt a.1 b.1)

abbrev pub with_deadline : ℕ × ℕ → List (ℕ × ℕ) → List (ℕ × ℕ)
with_deadline a [] = a ∷ []
with_deadline a (b ∷ rest) = if comes_before a b then a ∷ b ∷ rest else b ∷ with_deadline a rest

-- the list without a timer, or without the timers of a handle
abbrev pub without_timer : ℕ → List (ℕ × ℕ) → List (ℕ × ℕ)
without_timer t armed = filter (λ d. not (d.1 == t)) armed

abbrev pub is_timer_of : ℕ → Option Timer → Bool
is_timer_of x None = false
is_timer_of x (Some timer) = timer.handle == x

abbrev pub without_handle : {N : Type 0} → List (Entry N) → ℕ → List (ℕ × ℕ) → List (ℕ × ℕ)
without_handle past x armed = filter (λ d. not (is_timer_of x (timer_of past d.1))) armed

abbrev pub without_owner : {N : Type 0} → List (Entry N) → Option Event → List (ℕ × ℕ)
    → List (ℕ × ℕ)
without_owner past None armed = armed
without_owner past (Some event) armed = without_handle past event.handle armed

-- the list with a timer set again at the deadline after the one that came due
abbrev pub with_rearmed : {N : Type 0} → List (Entry N) → Option ℕ → List (ℕ × ℕ) → List (ℕ × ℕ)
with_rearmed past None armed = armed
with_rearmed past (Some t) armed =
    with_deadline (next_deadline (deadline past t) (period (timer_of past t)) (now past), t) armed

-- what one more entry changes: `Scheduled` adds a timer and `Due` takes it away, `Started` of a
-- periodic timer's `Due` sets it again, and `Cancelled` and the end of a handle's life take timers
-- away
abbrev pub armed_after : {N : Type 0} → List (Entry N) → Entry N → List (ℕ × ℕ) → List (ℕ × ℕ)
armed_after past (Scheduled timer handle first every) armed = with_deadline (first, timer) armed
armed_after past (Cancelled timer) armed = without_timer timer armed
armed_after past (Due timer) armed = without_timer timer armed
armed_after past (Started event) armed = with_rearmed past (rearms past (due_at past event)) armed
armed_after past (Returned event Close note) armed = without_owner past (event_at past event) armed
armed_after past (Removed handle) armed = without_handle past handle.0 armed
armed_after past _ armed = armed

-- the armed timers, as (deadline, timer) in rising order. Deadlines are whole numbers without an
-- upper bound
abbrev pub armed : {N : Type 0} → List (Entry N) → List (ℕ × ℕ)
armed [] = []
armed (e ∷ past) = armed_after past e (armed past)

abbrev pub is_armed : {N : Type 0} → List (Entry N) → ℕ → Bool
is_armed past t = list_any (λ d. d.1 == t) (armed past)

-- whether a deadline is reached
abbrev pub is_overdue : {N : Type 0} → List (Entry N) → Bool
is_overdue past = list_any (λ d. nat_le d.0 (now past)) (armed past)

-- ---- handles that wait for their `Closed`

-- whether the handle waits for its `Closed`: it was opened, is neither alive nor busy, and was not
-- closed
unfoldable pub waits_for_closed : {N : Type 0} → List (Entry N) → ℕ → Bool
waits_for_closed past x = was_opened past x
    && (not (is_alive past x) && (not (is_busy past x) && not (was_closed past x)))

-- whether some handle does
unfoldable pub some_wait : {N : Type 0} → List (Entry N) → Bool
some_wait past = any_below (opened past) (waits_for_closed past)

-- ---- what the handler of x has had

-- the moment at which event i was started
abbrev pub started_at : {N : Type 0} → List (Entry N) → ℕ → ℕ
started_at [] i = 0
started_at (e ∷ past) i = elim (starts i e) [ true ↦ now past | false ↦ started_at past i ]

-- the turn that a `Returned` records, for the handle x
abbrev pub item_of : {N : Type 0} → ℕ → Option Event → ℕ → Answer → N → List (Item N)
item_of x None moment answer note = []
item_of x (Some event) moment answer note =
    if event.handle == x then record {
      upcall = event.upcall;
      moment = moment;
      answer = answer;
      note = note;
    } ∷ [] else []

abbrev pub items_made : {N : Type 0} → List (Entry N) → ℕ → Entry N → List (Item N)
items_made past x (Returned event answer note) =
    item_of x (event_at past event) (started_at past event) answer note
items_made past x _ = []

-- the turns that the handler of x has had, in order of their `Returned`
abbrev pub had : {N : Type 0} → List (Entry N) → ℕ → List (Item N)
had [] x = []
had (e ∷ past) x = had past x ++ items_made past x e

-- ---- where a handler comes from, and why it is closed

-- the turn that the last entry records, if it is a `Returned`
abbrev pub turn_settled : {N : Type 0} → List (Entry N) → Option (Origin N)
turn_settled (Returned event answer note ∷ past) =
    Some (record { note = note; moment = started_at past event })
turn_settled _ = None

-- the origin of a handler that is offered here: the turn that was settled just before, though one
-- `Closed` may stand between; or none
abbrev pub offered_here : {N : Type 0} → List (Entry N) → Option (Origin N)
offered_here (Closed handle note ∷ past) = turn_settled past
offered_here past = turn_settled past

-- the origin of the handler of x, which its `Opened` gives
abbrev pub origin_of : {N : Type 0} → List (Entry N) → ℕ → Option (Origin N)
origin_of [] x = None
origin_of (e ∷ past) x = elim (opens x e) [ true ↦ offered_here past | false ↦ origin_of past x ]

-- the origins of the handlers that were not registered, in order of their `Refused`
abbrev pub refused_by : {N : Type 0} → List (Entry N) → Entry N → List (Option (Origin N))
refused_by past (Refused live fault note) = offered_here past ∷ []
refused_by past _ = []

abbrev pub refused_origins : {N : Type 0} → List (Entry N) → List (Option (Origin N))
refused_origins [] = []
refused_origins (e ∷ past) = refused_origins past ++ refused_by past e

-- whether the entry is a `Returned` with Close of an event of x
abbrev pub closes_itself : {N : Type 0} → ℕ → (ℕ → Option Event) → Entry N → Bool
closes_itself x events (Returned event Close note) = belongs_to x (events event)
closes_itself x events _ = false

-- whether such an entry ended the life of x
abbrev pub ended_itself : {N : Type 0} → List (Entry N) → ℕ → Bool
ended_itself [] x = false
ended_itself (e ∷ past) x = elim (was_removed past x)
    [ true ↦ ended_itself past x | false ↦ closes_itself x (event_at past) e ]

-- the reason for which the handler of x is closed
abbrev pub reason_of : {N : Type 0} → List (Entry N) → ℕ → Why
reason_of past x = if ended_itself past x then Own else RemovedBy

-- ---- fates

-- exactly one of the three holds
abbrev pub exactly_one : Bool → Bool → Bool → Bool
exactly_one true false false = true
exactly_one false true false = true
exactly_one false false true = true
exactly_one _ _ _ = false

-- whether the entry names the handle: its own, that of its event or that of its timer
abbrev pub names : {N : Type 0} → List (Entry N) → Entry N → ℕ → Bool
names past (Opened handle mask) x = handle.0 == x
names past (Scheduled timer handle first every) x = handle.0 == x
names past (Cancelled timer) x = is_timer_of x (timer_of past timer)
names past (Polled moment) x = false
names past (Due timer) x = is_timer_of x (timer_of past timer)
names past (Ready handle kind) x = handle.0 == x
names past (Posted handle kind from seq) x = handle.0 == x
names past (Stale handle from seq) x = handle.0 == x
names past (Started event) x = belongs_to x (event_at past event)
names past (Returned event answer note) x = belongs_to x (event_at past event)
names past (Masked handle mask) x = handle.0 == x
names past (Suspended handle) x = handle.0 == x
names past (Resumed handle) x = handle.0 == x
names past (Refused number fault note) x = false
names past (Removed handle) x = handle.0 == x
names past (Closed handle note) x = handle.0 == x
names past Ended x = false

-- whether the entry is a `Stale`
abbrev pub is_stale : {N : Type 0} → Entry N → Bool
is_stale (Stale handle from seq) = true
is_stale _ = false

-- the deadline that the entry adds to the armed ones
abbrev pub with_next : {N : Type 0} → List (Entry N) → Option ℕ → Option (ℕ × ℕ)
with_next past None = None
with_next past (Some t) = Some (
  next_deadline (deadline past t) (period (timer_of past t))
      (now past),
  t,
)

abbrev pub added : {N : Type 0} → List (Entry N) → Entry N → Option (ℕ × ℕ)
added past (Scheduled timer handle first every) = Some (first, timer)
added past (Started event) = with_next past (rearms past (due_at past event))
added past _ = None

-- the entries that are events of their own
abbrev pub is_report : {N : Type 0} → Entry N → Bool
is_report (Due timer) = true
is_report (Ready handle kind) = true
is_report (Posted handle kind from seq) = true
is_report _ = false

-- the list of (deadline, timer) rises, and names each timer once
abbrev pub is_rising : List (ℕ × ℕ) → Bool
is_rising [] = true
is_rising (d ∷ rest) = list_all (λ c. comes_before d c) rest && is_rising rest

abbrev pub names_once : List (ℕ × ℕ) → Bool
names_once [] = true
names_once (d ∷ rest) = not (list_any (λ c. c.1 == d.1) rest) && names_once rest
