-- The journal of a reactor whose one handler, on handle 0, is served from its first report on until
-- it closes itself.
use Rattle.std.specs.Prelude.{◌≡◌, ◌≤◌, ◌⊎◌, ◌+◌, ◌*◌, ℕ, suc, Bool, true, false, List, [], ◌∷◌}
use Rattle.std.specs.Prelude.{◌++◌, length, map, flat_map, ◌&&◌, None}
use Rattle.std.specs.List.{list_all, count_by}
use Rattle.ev_base.specs.ev_types.specs.declared.upcall.Answer.{Answer}
use Rattle.ev_base.specs.ev_types.specs.declared.upcall.Answer.TheVariants.{Again, Close}
use Rattle.ev_base.specs.ev_types.specs.declared.upcall.Handle.{Handle}
use Rattle.ev_base.specs.ev_types.specs.declared.upcall.Mask.{Mask}
use Rattle.ev_base.specs.ev_types.specs.declared.upcall.Upcall.TheVariants.{Input}
use Rattle.ev_base.specs.ev_types.specs.declared.upcall.Why.{Why}
use Rattle.ev_base.specs.ev_types.specs.declared.upcall.Why.TheVariants.{Own, Removed as ByRemoval}
use Rattle.ev_base.specs.ev_types.specs.declared.upcall.Why.TheVariants.{Refused as ByRefusal}
use Rattle.reactor_model.specs.reactor_journal.specs.Event.{Item}
use Rattle.reactor_model.specs.reactor_journal.specs.declared.entry.Entry.{Entry}
use Rattle.reactor_model.specs.reactor_journal.specs.declared.entry.Entry.TheVariants as entry
use Rattle.reactor_model.specs.reactor_journal.specs.Past.{past_of, had, reason_of, count}
use Rattle.reactor_model.specs.reactor_journal.specs.Past.{is_closed}
use Rattle.reactor_core.specs.reactor_summary.specs.declared.parts.LiveHandle.{LiveHandle}
use Rattle.reactor_core.specs.reactor_summary.specs.declared.parts.WaitingEvent.{WaitingEvent}
use Rattle.reactor_core.specs.reactor_summary.specs.declared.parts.OpenEvent.{OpenEvent}
use Rattle.reactor_core.specs.reactor_summary.specs.Summary.{Summary, summary}

-- the handle of the one connection, which wants to read
abbrev pub one_handle : Handle
one_handle = record { 0 = 0 }

abbrev pub read_mask : Mask
read_mask = record { read = true; write = false; except = false }

abbrev pub one_live : LiveHandle
one_live = record { handle = one_handle; mask = read_mask; suspended = false; alive = true }

-- its event of this number, which waits or is open
abbrev pub input_event : ℕ → WaitingEvent
input_event event = record { event = event; handle = one_handle; upcall = Input; due = None }

abbrev pub open_input : ℕ → OpenEvent
open_input event = record { event = event; handle = one_handle; upcall = Input; moment = 0 }

-- What a reactor keeps of its journal: before the first wait; while its event waits, which is the
-- last entry; while that is open; and once it was closed.
abbrev pub opened_summary : Summary
opened_summary = record {
  entries = 1;
  moment = 0;
  opened = 1;
  closed = 0;
  scheduled = 0;
  refused = 0;
  ended = false;
  handles = one_live ∷ [];
  waiting = [];
  opens = [];
  armed = [];
}

abbrev pub waiting_summary : ℕ → Summary
waiting_summary event = record {
  entries = suc event;
  moment = 0;
  opened = 1;
  closed = 0;
  scheduled = 0;
  refused = 0;
  ended = false;
  handles = one_live ∷ [];
  waiting = input_event event ∷ [];
  opens = [];
  armed = [];
}

abbrev pub out_summary : ℕ → Summary
out_summary event = record {
  entries = suc (suc event);
  moment = 0;
  opened = 1;
  closed = 0;
  scheduled = 0;
  refused = 0;
  ended = false;
  handles = one_live ∷ [];
  waiting = [];
  opens = open_input event ∷ [];
  armed = [];
}

abbrev pub closed_summary : ℕ → ℕ → Bool → Summary
closed_summary entries moment ended =
    record {
      entries = entries;
      moment = moment;
      opened = 1;
      closed = 1;
      scheduled = 0;
      refused = 0;
      ended = ended;
      handles = [];
      waiting = [];
      opens = [];
      armed = [];
    }

-- the notes of an entry, and of a journal
abbrev pub entry_notes : {N : Type 0} → Entry N → List N
entry_notes (entry.Returned event answer note) = note ∷ []
entry_notes (entry.Refused live fault note) = note ∷ []
entry_notes (entry.Closed handle note) = note ∷ []
entry_notes _ = []

abbrev pub notes_in : {N : Type 0} → List (Entry N) → List N
notes_in entries = flat_map entry_notes entries

abbrev pub note_of : {N : Type 0} → Item N → N
note_of item = item.note

-- a turn at which it read
abbrev pub input_turn : {N : Type 0} → Answer → N → Item N
input_turn answer note = record { upcall = Input; moment = 0; answer = answer; note = note }

-- the turns of the one handler
abbrev pub turns_in : {N : Type 0} → List (Entry N) → List (Item N)
turns_in h = had (past_of h) 0

-- a turn at which it read, and asked for the next
pub record ReadsOn {N : Type 0} (item : Item N) : Type 0 where
  pub upcall : item.upcall ≡ Input
  pub answer : item.answer ≡ Again

abbrev pub AllReadOn : {N : Type 0} → List (Item N) → Type 0
AllReadOn [] = Unit {0}
AllReadOn (item ∷ items) = ReadsOn item × AllReadOn items

-- the kinds of entries that stand after the first one until the end: waits and reports, upcalls
-- and closings
abbrev pub is_served : {N : Type 0} → Entry N → Bool
is_served (entry.Polled now) = true
is_served (entry.Ready handle kind) = true
is_served (entry.Started event) = true
is_served (entry.Returned event answer note) = true
is_served (entry.Closed handle note) = true
is_served _ = false

-- the return of an upcall
abbrev pub is_return : {N : Type 0} → Entry N → Bool
is_return (entry.Returned event answer note) = true
is_return _ = false

-- a history and what was appended to it, with so many returns of upcalls at most
pub record GrowsFrom {N : Type 0} (returns : ℕ) (before h : List (Entry N)) : Type 0 where
  pub more : List (Entry N)
  pub is : h ≡ before ++ more
  pub few : count_by is_return more ≤ returns

abbrev pub first_entry : {N : Type 0} → Entry N
first_entry = entry.Opened one_handle read_mask

-- The handler was registered, and nothing else.
abbrev pub IsOpened : {N : Type 0} → List (Entry N) → Type 0
IsOpened h = h ≡ first_entry ∷ []

-- the entries after the first, of the kinds of a connection that is served
pub record IsServedSo {N : Type 0} (h : List (Entry N)) : Type 0 where
  pub served : List (Entry N)
  pub is : h ≡ first_entry ∷ served
  pub kinds : list_all is_served served ≡ true

-- The handler was reported, and had so many turns, at each of which it read and asked for the next.
pub record IsRead {N : Type 0} (h : List (Entry N)) : Type 0 where
  pub event : ℕ
  pub sums : summary (past_of h) ≡ waiting_summary event
  pub so : IsServedSo h
  pub notes : notes_in h ≡ map note_of (turns_in h)
  pub read_on : AllReadOn (turns_in h)
  pub size : length h ≡ 3 + 2 * length (turns_in h)

-- all turns but the last read on, and that was one of input and answered Close
abbrev pub EndsItself : {N : Type 0} → List (Item N) → Type 0
EndsItself [] = ⊥
EndsItself (item ∷ []) = (item.upcall ≡ Input) × (item.answer ≡ Close)
EndsItself (item ∷ next ∷ items) = ReadsOn item × EndsItself (next ∷ items)

abbrev pub EndsBy : {N : Type 0} → Why → List (Item N) → Type 0
EndsBy Own turns = EndsItself turns
EndsBy ByRemoval turns = AllReadOn turns
EndsBy ByRefusal turns = ⊥

-- entries that end the history of a closed handler: waits and the end
abbrev pub is_rest : {N : Type 0} → Entry N → Bool
is_rest (entry.Polled now) = true
is_rest entry.Ended = true
is_rest _ = false

-- The handler was closed: after these entries, for this reason and with this note, and waits and
-- the end follow.
pub record HasClosed {N : Type 0} (h : List (Entry N)) : Type 0 where
  pub before : List (Entry N)
  pub note : N
  pub rest : List (Entry N)
  pub is : h ≡ (before ++ entry.Closed one_handle note ∷ []) ++ rest
  pub quiet : list_all is_rest rest ≡ true
  pub none_closed : count is_closed (past_of before) ≡ 0
  pub reason : Why
  pub closed_for : reason_of (past_of before) 0 ≡ reason
  pub ends : EndsBy reason (turns_in before)
  pub notes : notes_in before ≡ map note_of (turns_in before)
  pub size : length h ≤ 6 + 2 * length (turns_in before) + length rest

-- The handler closed itself, waits at these moments were made since, and the reactor was not
-- stopped.
pub record IsShut {N : Type 0} (moments : List ℕ) (h : List (Entry N)) : Type 0 where
  pub entries : ℕ
  pub moment : ℕ
  pub sums : summary (past_of h) ≡ closed_summary entries moment false
  pub so : IsServedSo h
  pub closed : HasClosed h
  pub own : closed.reason ≡ Own
  pub waits : closed.rest ≡ map entry.Polled moments

-- until the end there are only entries of those kinds
abbrev pub served_until_end : {N : Type 0} → List (Entry N) → Bool
served_until_end [] = true
served_until_end (entry.Ended ∷ rest) = true
served_until_end (e ∷ rest) = is_served e && served_until_end rest

-- The handler was closed, and the reactor stopped.
pub record IsFinished {N : Type 0} (h : List (Entry N)) : Type 0 where
  pub entries : ℕ
  pub moment : ℕ
  pub sums : summary (past_of h) ≡ closed_summary entries moment true
  pub served : List (Entry N)
  pub is : h ≡ first_entry ∷ served
  pub kinds : served_until_end served ≡ true
  pub closed : HasClosed h
  pub few : length closed.rest ≤ 2

-- The handler closed itself, and one wait at most was made since.
abbrev pub WasShut : {N : Type 0} → List (Entry N) → Type 0
WasShut h = (moments : List ℕ) × (length moments ≤ 1) × IsShut moments h

-- The reactor may be stopped: the handler is alive and at home, or closed itself.
abbrev pub CanEnd : {N : Type 0} → List (Entry N) → Type 0
CanEnd h = IsOpened h ⊎ (IsRead h ⊎ WasShut h)

-- the closing of h is that of the history that is finished, after which the reactor was stopped
pub record ClosesAs {N : Type 0} {h : List (Entry N)} (closed : HasClosed h) (over : List (Entry N))
    (finished : IsFinished over) : Type 0 where
  pub reason : finished.closed.reason ≡ closed.reason
  pub note : finished.closed.note ≡ closed.note
  pub rest : finished.closed.rest ≡ closed.rest ++ entry.Ended ∷ []
