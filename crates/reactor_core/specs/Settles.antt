-- What `settle` leaves.
use Rattle.std.specs.Prelude.{ℕ, ◌≤◌, ◌+◌, not, List, [], ◌∷◌, ◌++◌, length, None}
use Rattle.reactor_summary.specs.ev_types.specs.declared.upcall.Handle.{Handle}
use Rattle.reactor_summary.specs.ev_types.specs.declared.upcall.Answer.{Answer}
use Rattle.ev_base.specs.Terms.{Terms}
use Rattle.reactor_model.specs.reactor_journal.specs.declared.entry.Entry.{Entry}
use Rattle.reactor_model.specs.reactor_journal.specs.declared.entry.Entry.TheVariants.{Returned}
use Rattle.reactor_model.specs.reactor_journal.specs.Past.{past_of}
use Rattle.reactor_summary.specs.declared.parts.OpenEvent.{OpenEvent}
use Rattle.reactor_summary.specs.Summary.{summary, is_alive}
use Rattle.reactor_core.specs.Stands.{Meaning, Tracks, StandsWithRoom}
use Rattle.reactor_core.specs.Settling.{IsClosing, act_places}
use Rattle.reactor_core.specs.declared.reactor.Core.{Core}

-- the handler in hand went home if its handle is alive, and else was closed
pub record TakesBack {H M Q W V N E : Type 0} (m : Meaning H M Q W V N E) (t : Terms) (F : ℕ)
    (h : List (Entry N)) (handle : Handle) (old new : Core H M Q W V N E) : Type 0 where
  pub entries : List (Entry N)
  pub closing : IsClosing (not (is_alive (summary (past_of h)) handle.0)) handle entries
  pub tracks : Tracks m t new F (h ++ entries) None []
  pub journal : old.journal.spare ≤ new.journal.spare + length entries

-- the upcall was settled but for its act: its `Returned`, and the closing of its handler if its
-- handle is not alive any more
pub record SettlesEvent {H M Q W V N E : Type 0} (m : Meaning H M Q W V N E) (t : Terms) (F : ℕ)
    (h : List (Entry N)) (o : OpenEvent) (answer : Answer) (note : N)
    (new : Core H M Q W V N E) : Type 0 where
  pub entries : List (Entry N)
  pub closing : IsClosing (not (is_alive (summary (Returned o.event answer note ∷ past_of h))
      o.handle.0)) o.handle entries
  pub stands : StandsWithRoom m 4 act_places t new F
      ((h ++ Returned o.event answer note ∷ []) ++ entries)
