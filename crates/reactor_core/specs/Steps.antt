-- When a step of a call may be made.
use Rattle.std.specs.Prelude.{ℕ, ◌≡◌, Bool, List, [], Some, None}
use Rattle.reactor_summary.specs.ev_types.specs.declared.upcall.Handle.{Handle}
use Rattle.reactor_summary.specs.ev_types.specs.declared.upcall.Why.{Why}
use Rattle.ev_base.specs.Terms.{Terms}
use Rattle.reactor_model.specs.reactor_journal.specs.declared.entry.Entry.{Entry}
use Rattle.reactor_model.specs.reactor_journal.specs.Past.{past_of}
use Rattle.reactor_summary.specs.declared.parts.WaitingEvent.{WaitingEvent}
use Rattle.reactor_summary.specs.Summary as S
use Rattle.reactor_summary.specs.Summary.{summary}
use Rattle.reactor_state.specs.State.{HasNumber}
use Rattle.reactor_core.specs.Stands.{Meaning, Tracks, Stands, StandsWithRoom, HasRoom}
use Rattle.reactor_core.specs.Stands.{upcall_entries, upcall_places}
use Rattle.reactor_core.specs.Closing.{IsClosable}
use Rattle.reactor_core.specs.Settling.{IsReturned, act_places}
use Rattle.reactor_core.specs.Registering.{HasPlaceFor, IsOffered}
use Rattle.reactor_core.specs.Acting.{MayRefuseHandler}
use Rattle.reactor_core.specs.declared.reactor.Core.{Core}

-- the handler in hand may be closed: its handle waits for that
pub record MayClose {H M Q W V N E : Type 0} (m : Meaning H M Q W V N E) (handle : Handle)
    (handler : H) (why : Why) (t : Terms) (core : Core H M Q W V N E) (F : ℕ)
    (h : List (Entry N)) : Type 0 where
  pub tracks : Tracks m t core F h (Some handle.0) []
  pub closable : IsClosable m.means t (past_of h) handle.0 handler why
  pub number : HasNumber (summary (past_of h))

-- it may be taken back: its upcall was settled
pub record MayTakeBack {H M Q W V N E : Type 0} (m : Meaning H M Q W V N E) (handle : Handle)
    (handler : H) (why : Why) (t : Terms) (core : Core H M Q W V N E) (F : ℕ)
    (h : List (Entry N)) : Type 0 where
  pub tracks : Tracks m t core F h (Some handle.0) []
  pub back : IsReturned m.means t (past_of h) handle.0 handler why
  pub number : HasNumber (summary (past_of h))

-- an offered handler may be registered: there is a place for it
pub record MayOpen {H M Q W V N E : Type 0} (m : Meaning H M Q W V N E) (handler : H) (t : Terms)
    (core : Core H M Q W V N E) (F : ℕ) (h : List (Entry N)) : Type 0 where
  pub tracks : Tracks m t core F h None []
  pub place : HasPlaceFor t.most (summary (past_of h))
  pub number : HasNumber (summary (past_of h))
  pub offered : IsOffered m.means t (past_of h) handler

-- it may be registered with a timer: there is room for both
pub record MayAdmit {H M Q W V N E : Type 0} (m : Meaning H M Q W V N E) (handler : H) (t : Terms)
    (core : Core H M Q W V N E) (F : ℕ) (h : List (Entry N)) : Type 0 where
  pub stands : StandsWithRoom m 4 act_places t core F h
  pub place : HasPlaceFor t.most (summary (past_of h))
  pub offered : IsOffered m.means t (past_of h) handler

-- it may be closed instead, and its end turned away
pub record MayTurnAway {H M Q W V N E : Type 0} (m : Meaning H M Q W V N E) (handler : H)
    (fault : Bool) (t : Terms) (core : Core H M Q W V N E) (F : ℕ) (h : List (Entry N)) : Type 0
  where
    pub stands : StandsWithRoom m 4 act_places t core F h
    pub offered : IsOffered m.means t (past_of h) handler
    pub may : MayRefuseHandler m t.most core (past_of h) fault

-- the upcall of an event may be started: it is the pick, and there is room for what its settling
-- may append
pub record MayDispatch {H M Q W V N E : Type 0} (m : Meaning H M Q W V N E) (event : WaitingEvent)
    (t : Terms) (core : Core H M Q W V N E) (F : ℕ) (h : List (Entry N)) : Type 0 where
  pub stands : Stands m t core F h
  pub pick : S.pick (summary (past_of h)) ≡ Some event
  pub room : HasRoom m upcall_entries upcall_places core (summary (past_of h))
