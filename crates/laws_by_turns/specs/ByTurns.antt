-- A journal that goes by turns: it has what waits, notifications and the turns of handlers bring,
-- and nothing that a caller asked for. This project's own; the turns are those of C++NPv2 chapter
-- 3, the calls that an upcall makes of its reactor.
use Rattle.std.specs.Prelude.{ℕ, ◌≡◌, ◌≤◌, ◌+◌, Bool, true, false, List, [], ◌∷◌, ◌++◌, length}
use Rattle.std.specs.Prelude.{Option, Some, None}
use Rattle.reactor_model.specs.ev_types.specs.declared.upcall.Handle.{Handle}
use Rattle.reactor_model.specs.ev_types.specs.declared.upcall.Mask.{Mask}
use Rattle.reactor_model.specs.ev_base.specs.Terms.{Terms}
use Rattle.reactor_model.specs.reactor_journal.specs.Event.{Event}
use Rattle.reactor_model.specs.reactor_journal.specs.declared.entry.Entry.{Entry}
use Rattle.reactor_model.specs.reactor_journal.specs.declared.entry.Entry.TheVariants.{Opened}
use Rattle.reactor_model.specs.reactor_journal.specs.declared.entry.Entry.TheVariants.{Scheduled}
use Rattle.reactor_model.specs.reactor_journal.specs.declared.entry.Entry.TheVariants.{Cancelled}
use Rattle.reactor_model.specs.reactor_journal.specs.declared.entry.Entry.TheVariants.{Polled, Due}
use Rattle.reactor_model.specs.reactor_journal.specs.declared.entry.Entry.TheVariants.{Ready}
use Rattle.reactor_model.specs.reactor_journal.specs.declared.entry.Entry.TheVariants.{Posted}
use Rattle.reactor_model.specs.reactor_journal.specs.declared.entry.Entry.TheVariants.{Stale}
use Rattle.reactor_model.specs.reactor_journal.specs.declared.entry.Entry.TheVariants.{Started}
use Rattle.reactor_model.specs.reactor_journal.specs.declared.entry.Entry.TheVariants.{Returned}
use Rattle.reactor_model.specs.reactor_journal.specs.declared.entry.Entry.TheVariants.{Masked}
use Rattle.reactor_model.specs.reactor_journal.specs.declared.entry.Entry.TheVariants.{Suspended}
use Rattle.reactor_model.specs.reactor_journal.specs.declared.entry.Entry.TheVariants.{Resumed}
use Rattle.reactor_model.specs.reactor_journal.specs.declared.entry.Entry.TheVariants.{Refused}
use Rattle.reactor_model.specs.reactor_journal.specs.declared.entry.Entry.TheVariants.{Removed}
use Rattle.reactor_model.specs.reactor_journal.specs.declared.entry.Entry.TheVariants.{Closed}
use Rattle.reactor_model.specs.reactor_journal.specs.declared.entry.Entry.TheVariants.{Ended}
use Rattle.reactor_model.specs.reactor_journal.specs.Past.{past_of, ended, event_at, now}
use Rattle.reactor_model.specs.Handling.{Handling, Deed, Installing, Masking, Cancelling, Stopping}

-- the event of the `Returned` that stands last, or directly before a `Closed` that stands last
abbrev pub event_returned : {N : Type 0} → List (Entry N) → Option ℕ
event_returned (Returned event answer note ∷ past) = Some event
event_returned _ = None

abbrev pub returned_here : {N : Type 0} → List (Entry N) → Option ℕ
returned_here (Closed handle note ∷ past) = event_returned past
returned_here past = event_returned past

-- a `Closed` that stands last is that of this handle
abbrev pub ClosesOwn : {N : Type 0} → ℕ → List (Entry N) → Type 0
ClosesOwn x (Closed handle note ∷ past) = handle.0 ≡ x
ClosesOwn x _ = Unit {0}

-- a turn was settled just before, with the closing of its own handler or none, and at its upcall it
-- may have asked for this
pub record MayHere {H E N : Type 0} (means : Handling H E N) (t : Terms) (past : List (Entry N))
    (deed : Deed) : Type 0 where
  pub number : ℕ
  pub event : Event
  pub returned : returned_here past ≡ Some number
  pub is : event_at past number ≡ Some event
  pub closes_own : ClosesOwn event.handle past
  pub may : means.may t event.upcall deed

-- the timer of a registration: that of the `Scheduled` directly after it, at the moment and its
-- delay, or none
abbrev pub TimerBehind : {N : Type 0} → ℕ → List (Entry N) → Option (ℕ × ℕ) → Type 0
TimerBehind moment (Scheduled timer handle first every ∷ behind) asked =
    (delay : ℕ) × (first ≡ moment + delay) × (asked ≡ Some (delay, every))
TimerBehind moment _ asked = asked ≡ None

-- the last entry is the registration of the handle, from number b on
abbrev pub IsRegisteredHere : {N : Type 0} → ℕ → Handle → List (Entry N) → Type 0
IsRegisteredHere b handle (Opened opened mask ∷ past) = (opened ≡ handle) × (b ≤ length past)
IsRegisteredHere b handle _ = ⊥

-- directly after, or after the `Closed` directly after, an offered handler was registered or
-- refused
abbrev pub IsOfferBehind : {N : Type 0} → List (Entry N) → Type 0
IsOfferBehind (Opened handle mask ∷ behind) = Unit {0}
IsOfferBehind (Refused live fault note ∷ behind) = Unit {0}
IsOfferBehind _ = ⊥

abbrev pub OffersBehind : {N : Type 0} → List (Entry N) → Type 0
OffersBehind (Closed handle note ∷ behind) = IsOfferBehind behind
OffersBehind behind = IsOfferBehind behind

-- the entry, between those before it and those after it, goes by turns: no handle is suspended or
-- resumed; one is removed only once the reactor was stopped; a timer is set only with the
-- registration of its handle; and what a turn may ask for stands only after one was settled
-- that may ask for it
abbrev pub GoesByTurn : {H E N : Type 0} → Handling H E N → Terms → ℕ → List (Entry N) → Entry N
    → List (Entry N) → Type 0
GoesByTurn means t b past (Suspended handle) behind = ⊥
GoesByTurn means t b past (Resumed handle) behind = ⊥
GoesByTurn means t b past (Removed handle) behind = ended past ≡ true
GoesByTurn means t b past (Scheduled timer handle first every) behind =
    IsRegisteredHere b handle past
GoesByTurn means t b past (Opened handle mask) behind =
    (timer : Option (ℕ × ℕ)) × TimerBehind (now past) behind timer
    × MayHere means t past (Installing mask timer)
GoesByTurn means t b past (Refused live fault note) behind =
    (mask : Mask) × (timer : Option (ℕ × ℕ)) × MayHere means t past (Installing mask timer)
GoesByTurn means t b past (Masked handle mask) behind = MayHere means t past Masking
GoesByTurn means t b past (Cancelled timer) behind = MayHere means t past Cancelling
GoesByTurn means t b past Ended behind = MayHere means t past Stopping
GoesByTurn means t b past (Returned event answer note) behind =
    means.installs note ≡ true → OffersBehind behind
GoesByTurn means t b past _ behind = Unit {0}

-- From number b on each entry does.
abbrev pub DispatchedByTurns : {H E N : Type 0} → Handling H E N → Terms → ℕ → List (Entry N)
    → Type 0
DispatchedByTurns {N = N} means t b h =
    (before : List (Entry N)) (e : Entry N) (behind : List (Entry N)) → h ≡ before ++ e ∷ behind
    → b ≤ length before → GoesByTurn means t b (past_of before) e behind

-- From number b on, which is the number of an entry or the length, the journal goes by turns.
pub record GoesByTurns {H E N : Type 0} (means : Handling H E N) (t : Terms) (b : ℕ)
    (h : List (Entry N)) : Type 0 where
  pub within : b ≤ length h
  pub turns : DispatchedByTurns means t b h

-- an entry of a wait and what it brings, of a notification, or of the start of an upcall
abbrev pub is_dispatching : {N : Type 0} → Entry N → Bool
is_dispatching (Polled moment) = true
is_dispatching (Due timer) = true
is_dispatching (Ready handle kind) = true
is_dispatching (Posted handle kind from seq) = true
is_dispatching (Stale handle from seq) = true
is_dispatching (Started event) = true
is_dispatching _ = false

-- no timer is set at the front
abbrev pub BeginsWithNoTimer : {N : Type 0} → List (Entry N) → Type 0
BeginsWithNoTimer (Scheduled timer handle first every ∷ es) = ⊥
BeginsWithNoTimer _ = Unit {0}

-- each entry of the list goes by turns, after the past and the entries before it
abbrev pub EachGoesByTurn : {H E N : Type 0} → Handling H E N → Terms → ℕ → List (Entry N)
    → List (Entry N) → Type 0
EachGoesByTurn means t b past [] = Unit {0}
EachGoesByTurn means t b past (e ∷ es) =
    GoesByTurn means t b past e es × EachGoesByTurn means t b (e ∷ past) es
