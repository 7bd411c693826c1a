-- What the settling of an upcall, and the removal of a handler, append.
use Rattle.std.specs.Prelude.{ℕ, ◌≡◌, Bool, true, false, List, [], ◌∷◌, ◌++◌, Some}
use Rattle.reactor_summary.specs.ev_types.specs.declared.upcall.Answer.{Answer}
use Rattle.reactor_summary.specs.ev_types.specs.declared.upcall.Handle.{Handle}
use Rattle.reactor_summary.specs.ev_types.specs.declared.upcall.Why.{Why}
use Rattle.reactor_summary.specs.ev_types.specs.declared.upcall.Why.TheVariants.{Own}
use Rattle.reactor_summary.specs.ev_types.specs.declared.upcall.Why.TheVariants.{
  Removed as ByRemoval,
}
use Rattle.reactor_model.specs.reactor_journal.specs.declared.entry.Entry.{Entry}
use Rattle.reactor_model.specs.reactor_journal.specs.declared.entry.Entry.TheVariants.{Returned}
use Rattle.reactor_model.specs.reactor_journal.specs.declared.entry.Entry.TheVariants.{Closed}
use Rattle.ev_base.specs.Terms.{Terms}
use Rattle.reactor_model.specs.reactor_journal.specs.Past.{had, origin_of, reason_of}
use Rattle.reactor_summary.specs.declared.parts.OpenEvent.{OpenEvent}
use Rattle.reactor_summary.specs.Summary.{summary, is_alive, is_busy, open_event}
use Rattle.reactor_model.specs.Handling.{Handling, EndsInClose}
use Rattle.reactor_core.specs.Handlers.{is_live}
use Rattle.reactor_state.specs.declared.places.Places.{Places}
use Rattle.reactor_core.specs.declared.job.Done.{Done}

-- if the handler is closed, its `Closed`, with some note, and else nothing
abbrev pub IsClosing : {N : Type 0} → Bool → Handle → List (Entry N) → Type 0
IsClosing {N} true handle es = (note : N) × (es ≡ Closed handle note ∷ [])
IsClosing false handle es = es ≡ []

-- the `Returned` of an upcall
abbrev pub returned : {H N E : Type 0} → Done H N E → Entry N
returned done = Returned done.event done.turn.answer done.turn.note

-- the room that is left for the act: four entries, and places for a registration with its timer
abbrev pub act_places : Places
act_places = record { handles = 1; timers = 1; timeouts = 0; events = 0; opens = 0 }

-- why a handler is closed when its upcall is settled: for itself if it was alive until then, and
-- else as it was removed
abbrev pub why_of : Bool → Why
why_of true = Own
why_of false = ByRemoval

-- an upcall that is settled: its event is open, and its handler fits what it had and the turn
pub record IsSettling {H E N : Type 0} (means : Handling H E N) (t : Terms) (past : List (Entry N))
    (o : OpenEvent) (answer : Answer) (note : N) (handler : H) : Type 0 where
  pub event : open_event (summary past) o.event ≡ Some o
  pub fits : means.fits t (origin_of past o.handle.0) handler
      (had past o.handle.0 ++ record {
        upcall = o.upcall;
        moment = o.moment;
        answer = answer;
        note = note;
      } ∷ [])

-- a handler whose upcall was settled: its handle is live and not busy, and if it is not alive
-- any more it is closed for the reason
pub record IsReturned {H E N : Type 0} (means : Handling H E N) (t : Terms) (past : List (Entry N))
    (x : ℕ) (handler : H) (why : Why) : Type 0 where
  pub live : is_live (summary past) x ≡ true
  pub idle : is_busy (summary past) x ≡ false
  pub fits : means.fits t (origin_of past x) handler (had past x)
  pub dead : is_alive (summary past) x ≡ false → (reason_of past x ≡ why)
      × (why ≡ Own → EndsInClose (had past x))
