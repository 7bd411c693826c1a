-- What the calls of a one-thread reactor lead to: from each history that it stood for to one that
-- begins with it, by turns and waits (C++NPv2 chapter 3, `ACE_Reactor::run_reactor_event_loop`).
use Rattle.std.specs.Prelude.{ℕ, ◌≡◌, ◌≤◌, ◌<◌, ◌+◌, ◌⊎◌, nat_le, Bool, true, false, not, List, []}
use Rattle.std.specs.Prelude.{◌∷◌, ◌++◌, map}
use Rattle.std.specs.Prelude.{length, Option, Some, None, Result, Ok, Err, IsTrue}
use Rattle.ev_base.specs.ev_types.specs.declared.upcall.Handle.{Handle}
use Rattle.ev_base.specs.ev_types.specs.declared.upcall.Kind.{Kind}
use Rattle.ev_base.specs.Terms.{Terms}
use Rattle.ev_base.specs.declared.net.Report.{Report}
use Rattle.timer_queue.specs.declared.timer.Timer.{Timer}
use Rattle.reactor_model.specs.Handling.{Handling}
use Rattle.reactor_model.specs.reactor_journal.specs.declared.entry.Entry.{Entry}
use Rattle.reactor_model.specs.reactor_journal.specs.declared.entry.Entry.TheVariants as entry
use Rattle.reactor_model.specs.reactor_journal.specs.Past.{past_of, count, is_pick}
use Rattle.reactor_core.specs.reactor_summary.specs.Summary.{summary, is_alive, is_overdue}
use Rattle.reactor_core.specs.Acting.{ActAppends, StopAppends}
use Rattle.reactor_core.specs.Beginning.{IsShutDown, PartsStand}
use Rattle.reactor_core.specs.Marks.{is_polled}
use Rattle.reactor_core.specs.Polling.{FitsLimit, due_of, ready_of}
use Rattle.reactor_core.specs.Postings.{posting}
use Rattle.reactor_core.specs.Settling.{IsClosing, returned}
use Rattle.reactor_core.specs.Stands.{Meaning, Stands}
use Rattle.reactor_core.specs.Upcalls.{DoneFits, HasNoPick}
use Rattle.reactor_core.specs.declared.job.Done.{Done}
use Rattle.reactor_core.specs.declared.polling.Polled.{Polled}
use Rattle.reactor_core.specs.declared.polling.Polled.TheVariants as polled
use Rattle.reactor_core.specs.declared.polling.PollRefused.{PollRefused}
use Rattle.reactor_core.specs.declared.polling.PollRefused.TheVariants as refused
use Rattle.reactor_core.specs.declared.postings.PostRefused.{PostRefused}
use Rattle.reactor_core.specs.declared.postings.PostRefused.TheVariants as post
use Rattle.reactor_core.specs.declared.reactor.Core.{Core}
use Rattle.reactor_core.specs.declared.reactor.Parts.{Parts}
use Rattle.reactor_core.specs.declared.upcalls.StartRefused.{StartRefused}
use Rattle.core_loop.specs.declared.turns.RunEnd.{RunEnd}
use Rattle.core_loop.specs.declared.turns.RunEnd.TheVariants as end

-- no upcall is on its way
abbrev pub NoneOpen : {N : Type 0} → List (Entry N) → Type 0
NoneOpen h = (summary (past_of h)).opens ≡ []

-- no armed deadline is reached
abbrev pub NoneDue : {N : Type 0} → List (Entry N) → Type 0
NoneDue h = is_overdue (summary (past_of h)) ≡ false

-- how many handlers were closed or refused
abbrev pub closed_of : {N : Type 0} → List (Entry N) → ℕ
closed_of h = (summary (past_of h)).closed + (summary (past_of h)).refused

-- ---- one step

-- a wait: its `Polled`, then the `Due` of each timer and the `Ready` of each report that was taken
pub record IsWait {N : Type 0} (entries : List (Entry N)) : Type 0 where
  pub now : ℕ
  pub timers : List ℕ
  pub reports : List Report
  pub is : entries ≡ entry.Polled now ∷ (map due_of timers ++ map ready_of reports)

-- A turn: the `Started` of the upcall that was next and its `Returned`, then the `Closed` of its
-- handler if its handle is not alive any more, and what its act appends. The upcall fits what
-- its handler had, and the act is one that the turn may carry. `before` and `after` are the net's
-- counts of failed attaches.
pub record IsTurn {H E N : Type 0} (means : Handling H E N) (t : Terms)
    (h entries : List (Entry N)) : Type 0 where
  pub event : ℕ
  pub picked : IsTrue (is_pick (past_of h) event)
  pub done : Done H N E
  pub same : done.event ≡ event
  pub fits : DoneFits means t (past_of (h ++ entry.Started event ∷ [])) done
  pub closing : List (Entry N)
  pub is_closing : IsClosing (not (is_alive (summary
      (returned done ∷ past_of (h ++ entry.Started event ∷ []))) done.handle.0)) done.handle
      closing
  pub before : ℕ
  pub after : ℕ
  pub acted : List (Entry N)
  pub is_acted : ActAppends t.most (summary
      (past_of (((h ++ entry.Started event ∷ []) ++ returned done ∷ []) ++ closing)))
      done.handle done.turn.act before after acted
  pub is : entries ≡ entry.Started event ∷ returned done ∷ (closing ++ acted)

abbrev pub IsStep : {H E N : Type 0} → Handling H E N → Terms → List (Entry N) → List (Entry N)
    → Type 0
IsStep means t h entries = IsWait entries ⊎ IsTurn means t h entries

-- A history is reached from an earlier one by these steps, the last first. After each of them the
-- timers have come due whose deadline is reached.
abbrev pub Reaches : {H E N : Type 0} → Handling H E N → Terms → List (Entry N)
    → List (List (Entry N)) → List (Entry N) → Type 0
Reaches means t before [] h = h ≡ before
Reaches {N = N} means t before (entries ∷ earlier) h =
    (between : List (Entry N)) × Reaches means t before earlier between
    × IsStep means t between entries × (h ≡ between ++ entries) × NoneDue h

-- ---- what a call leads to

-- it stands for a history that begins with an earlier one, of which `first` entries were handed
-- over and P holds, and no upcall is on its way
pub record GoesOn {H M Q W V N E : Type 0} (m : Meaning H M Q W V N E) (t : Terms)
    (before : List (Entry N)) (P : ℕ → List (Entry N) → Type 0)
    (core : Core H M Q W V N E) : Type 0 where
  pub first : ℕ
  pub history : List (Entry N)
  pub stands : Stands m t core first history
  pub none_open : NoneOpen history
  pub begins : (entries : List (Entry N)) × (history ≡ before ++ entries)
  pub so : P first history

-- from each history that the old one stands for with no upcall on its way, it goes on to such a one
abbrev pub Leads : {H M Q W V N E : Type 0} → Meaning H M Q W V N E
    → (Terms → List (Entry N) → ℕ → List (Entry N) → Type 0) → Core H M Q W V N E
    → Core H M Q W V N E → Type 0
Leads {N = N} m P old new = (t : Terms) (F : ℕ) (h : List (Entry N)) → Stands m t old F h
    → NoneOpen h → GoesOn m t h (P t h) new

-- the same of a call that may wait, with this limit: on terms that have it, or leave it open
abbrev pub LeadsWithin : {H M Q W V N E : Type 0} → Meaning H M Q W V N E → Option ℕ
    → (Terms → List (Entry N) → ℕ → List (Entry N) → Type 0) → Core H M Q W V N E
    → Core H M Q W V N E → Type 0
LeadsWithin {N = N} m most P old new =
    (t : Terms) (F : ℕ) (h : List (Entry N)) → Stands m t old F h → FitsLimit t most → NoneOpen h
    → GoesOn m t h (P t h) new

-- an upcall was made and settled, or there was none to make, or no memory
abbrev pub TurnedSo : {H E N : Type 0} → Handling H E N → Result (Option ℕ) StartRefused
    → Terms → List (Entry N) → ℕ → List (Entry N) → Type 0
TurnedSo {N = N} means (Ok (Some closed)) t before first h =
    (entries : List (Entry N)) × IsTurn means t before entries × (h ≡ before ++ entries)
    × (first ≤ length before) × (closed ≡ closed_of h)
TurnedSo means (Ok None) t before first h = (h ≡ before) × HasNoPick (past_of h)
TurnedSo means (Err why) t before first h = h ≡ before

-- a wait was made, and if nothing can be reported any more the reactor's last mark is its number
pub record IsWaited {N : Type 0} (found : Polled) (over : ℕ)
    (before h : List (Entry N)) : Type 0 where
  pub entries : List (Entry N)
  pub wait : IsWait entries
  pub is : h ≡ before ++ entries
  pub over_so : found ≡ polled.Over → over ≡ count is_polled (past_of h)

-- or none: the reactor was stopped, the wait failed, or there was no memory
abbrev pub PolledSo : {N : Type 0} → Result Polled PollRefused → ℕ → List (Entry N)
    → List (Entry N) → Type 0
PolledSo (Ok found) over before h = IsWaited found over before h
PolledSo (Err refused.Stopped) over before h =
    (h ≡ before) × ((summary (past_of h)).ended ≡ true)
PolledSo (Err refused.NetFailed) over before h = h ≡ before
PolledSo (Err refused.NoMemory) over before h = h ≡ before

-- a notification was posted, or there was no memory; a reactor that was stopped takes none
abbrev pub PostedSo : {N A : Type 0} → Handle → Kind → ℕ → ℕ → Result A PostRefused
    → List (Entry N) → List (Entry N) → Type 0
PostedSo handle kind from seq (Ok done) before h =
    h ≡ before ++ posting (summary (past_of before)) handle kind from seq ∷ []
PostedSo handle kind from seq (Err post.Stopped) before h =
    (h ≡ before) × ((summary (past_of h)).ended ≡ true)
PostedSo handle kind from seq (Err post.NoMemory) before h = h ≡ before

-- ---- a run

-- whether as many handlers were closed or refused as are asked for
abbrev pub is_enough : Option ℕ → ℕ → Bool
is_enough None closed = false
is_enough (Some enough) closed = nat_le enough closed

-- one that began with fewer closings and refusals than are asked for has fewer still
abbrev pub StaysBelow : {N : Type 0} → Option ℕ → List (Entry N) → List (Entry N) → Type 0
StaysBelow until before h =
    is_enough until (closed_of before) ≡ false → is_enough until (closed_of h) ≡ false

-- The last step was a turn, after which as many handlers were closed or refused as are asked for,
-- and not before it. Its entries are held.
pub record EndsEnough {H E N : Type 0} (means : Handling H E N) (t : Terms) (until : Option ℕ)
    (before : List (Entry N)) (first : ℕ) (h : List (Entry N)) : Type 0 where
  pub earlier : List (List (Entry N))
  pub between : List (Entry N)
  pub reaches : Reaches means t before earlier between
  pub entries : List (Entry N)
  pub turn : IsTurn means t between entries
  pub is : h ≡ between ++ entries
  pub held : first ≤ length between
  pub below : StaysBelow until before between
  pub enough : is_enough until (closed_of h) ≡ true

-- The last step was a wait, that of the reactor's last mark, which was answered Over, and there is
-- no upcall to make.
pub record EndsOver {H E N : Type 0} (means : Handling H E N) (t : Terms) (until : Option ℕ)
    (over : ℕ) (before h : List (Entry N)) : Type 0 where
  pub earlier : List (List (Entry N))
  pub between : List (Entry N)
  pub reaches : Reaches means t before earlier between
  pub entries : List (Entry N)
  pub wait : IsWait entries
  pub is : h ≡ between ++ entries
  pub over_so : over ≡ count is_polled (past_of h)
  pub none : HasNoPick (past_of h)
  pub below : StaysBelow until before h

-- why a run ended, if it did
abbrev pub EndedSo : {H E N : Type 0} → Handling H E N → Terms → Option ℕ → Option RunEnd → ℕ
    → List (Entry N) → ℕ → List (Entry N) → Type 0
EndedSo means t until (Some end.Enough) over before first h =
    EndsEnough means t until before first h
EndedSo means t until (Some end.Over) over before first h = EndsOver means t until over before h
EndedSo means t until (Some end.Stopped) over before first h =
    StaysBelow until before h × ((summary (past_of h)).ended ≡ true)
EndedSo means t until (Some end.Broken) over before first h = StaysBelow until before h
EndedSo means t until (Some end.NetFault) over before first h = StaysBelow until before h
EndedSo means t until (Some end.VolumeFault) over before first h = StaysBelow until before h
EndedSo means t until (Some end.NoMemory) over before first h = StaysBelow until before h
EndedSo means t until None over before first h = StaysBelow until before h

-- what a run appended, turn by turn and wait by wait, and why it ended, if it did
pub record RunsSo {H E N : Type 0} (means : Handling H E N) (until : Option ℕ)
    (ended : Option RunEnd) (over : ℕ) (t : Terms) (before : List (Entry N)) (first : ℕ)
    (h : List (Entry N)) : Type 0 where
  pub steps : List (List (Entry N))
  pub reaches : Reaches means t before steps h
  pub ends : EndedSo means t until ended over before first h

-- ---- the end

-- It was stopped and taken apart; if it was not stopped before, the handlers that were alive were
-- removed. Its parts stand for a history that begins with the one that it stood for.
pub record LeavesFrom {H M Q W V N E : Type 0} (m : Meaning H M Q W V N E) (armed : Q → List Timer)
    (t : Terms) (F : ℕ) (before : List (Entry N)) (parts : Parts N M Q W V) : Type 0 where
  pub entries : List (Entry N)
  pub stops : StopAppends (summary (past_of before)) (summary (past_of before)).ended entries
  pub over : IsShutDown (summary (past_of (before ++ entries)))
  pub stand : PartsStand m armed t F (before ++ entries) parts
