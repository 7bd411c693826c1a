-- What a handler that is offered comes to.
use Rattle.std.specs.Prelude.{ℕ, ◌≡◌, ◌≤◌, ◌+◌, ◌-◌, List, [], ◌++◌, true, false, Option, None}
use Rattle.std.specs.Prelude.{Result, Ok, Err}
use Rattle.reactor_summary.specs.ev_types.specs.declared.upcall.Handle.{Handle}
use Rattle.reactor_summary.specs.ev_types.specs.declared.upcall.Mask.{Mask}
use Rattle.ev_base.specs.Counts.{Rose}
use Rattle.ev_base.specs.Terms.{Terms}
use Rattle.ev_base.specs.Net.{FailsToAttach}
use Rattle.reactor_model.specs.reactor_journal.specs.declared.entry.Entry.{Entry}
use Rattle.reactor_model.specs.reactor_journal.specs.Past.{past_of}
use Rattle.reactor_summary.specs.Summary.{summary}
use Rattle.reactor_state.specs.declared.places.Places.{Places}
use Rattle.reactor_core.specs.Stands.{Meaning, Tracks, Stands, StandsWithRoom}
use Rattle.reactor_core.specs.Registering.{HasPlaceFor, IsFull, IsOffered, registered}
use Rattle.reactor_core.specs.Settling.{act_places}
use Rattle.reactor_core.specs.declared.registering.RegisterRefused.{RegisterRefused}
use Rattle.reactor_core.specs.declared.registering.RegisterRefused.TheVariants.{Stopped, Full}
use Rattle.reactor_core.specs.declared.registering.RegisterRefused.TheVariants.{NoMemory, NetFailed}
use Rattle.reactor_summary.specs.Rules.{live}
use Rattle.reactor_core.specs.declared.reactor.Core.{Core}

-- the room that a new handle takes
pub record TakesHandle {H M Q W V N E : Type 0} (m : Meaning H M Q W V N E)
    (old new : Core H M Q W V N E) : Type 0 where
  pub journal : new.journal.spare + 1 ≡ old.journal.spare
  pub places : (p : Places) → m.places p old.state
      → m.places (record p { handles = p.handles - 1 }) new.state
  pub seats : new.repo.spare + 1 ≡ old.repo.spare
  pub net : (m.facts old.net).spare ≤ (m.facts new.net).spare + 1

-- the net could not take the end of a handler: it comes back as it was, and the count of failed
-- attaches rose
pub record ComesBack {H M Q W V N E : Type 0} (m : Meaning H M Q W V N E) (t : Terms) (F : ℕ)
    (h : List (Entry N)) (handler : H) (old new : Core H M Q W V N E) : Type 0 where
  pub tracks : Tracks m t new F h None []
  pub offered : IsOffered m.means t (past_of h) handler
  pub fails : FailsToAttach (m.facts old.net) (m.facts new.net)
  pub journal : new.journal ≡ old.journal
  pub state : new.state ≡ old.state
  pub repo : new.repo ≡ old.repo

-- the handler comes back, and the core stands as before
pub record GivesBack {H M Q W V N E : Type 0} (m : Meaning H M Q W V N E) (t : Terms) (F : ℕ)
    (h : List (Entry N)) (back : H) (new : Core H M Q W V N E) : Type 0 where
  pub stands : Stands m t new F h
  pub offered : IsOffered m.means t (past_of h) back

-- what `register` gives, by its answer; after a refusal the handler comes back, and all is as it
-- was
abbrev pub RegisterGives : {H M Q W V N E : Type 0} → Meaning H M Q W V N E → Terms → ℕ
    → List (Entry N) → Mask → Option (ℕ × ℕ) → Core H M Q W V N E
    → Result Handle (H × RegisterRefused) → Core H M Q W V N E → Type 0
RegisterGives m t F h mask timer old (Ok handle) new =
    HasPlaceFor t.most (summary (past_of h)) × (handle.0 ≡ (summary (past_of h)).opened)
    × Stands m t new F (h ++ registered (summary (past_of h)) handle mask timer)
RegisterGives m t F h mask timer old (Err (back, Stopped)) new =
    ((summary (past_of h)).ended ≡ true) × GivesBack m t F h back new
RegisterGives m t F h mask timer old (Err (back, Full live_now opened_now)) new =
    ((summary (past_of h)).ended ≡ false) × IsFull t.most (summary (past_of h))
    × (live_now ≡ live (summary (past_of h))) × (opened_now ≡ (summary (past_of h)).opened)
    × GivesBack m t F h back new
RegisterGives m t F h mask timer old (Err (back, NoMemory)) new =
    HasPlaceFor t.most (summary (past_of h)) × GivesBack m t F h back new
RegisterGives m t F h mask timer old (Err (back, NetFailed)) new =
    HasPlaceFor t.most (summary (past_of h))
    × Rose (m.facts old.net).failed_attaches (m.facts new.net).failed_attaches
    × GivesBack m t F h back new

-- what the admission of a handler for which there is room gives
abbrev pub AdmitGives : {H M Q W V N E : Type 0} → Meaning H M Q W V N E → Terms → ℕ
    → List (Entry N) → Mask → Option (ℕ × ℕ) → Core H M Q W V N E → Result Handle H
    → Core H M Q W V N E → Type 0
AdmitGives m t F h mask timer old (Ok handle) new =
    (handle.0 ≡ (summary (past_of h)).opened)
    × Stands m t new F (h ++ registered (summary (past_of h)) handle mask timer)
AdmitGives m t F h mask timer old (Err back) new =
    StandsWithRoom m 4 act_places t new F h × IsOffered m.means t (past_of h) back
