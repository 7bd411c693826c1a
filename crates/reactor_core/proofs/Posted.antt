-- A notification that is appended.
use Rattle.std.proofs.Common.{ℕ, ◌≡◌, ◌+◌, ◌-◌, true, false, not, ◌||◌, List, [], ◌∷◌, ◌++◌, refl}
use Rattle.std.proofs.Common.{sym, ap, subst, arith}
use Rattle.std.proofs.lemmas.Bool.{and_from, cond-true, cond-false}
use Rattle.reactor_summary.specs.ev_types.specs.declared.upcall.Handle.{Handle}
use Rattle.reactor_summary.specs.ev_types.specs.declared.upcall.Kind.{Kind}
use Rattle.ev_base.specs.Terms.{Terms}
use Rattle.reactor_model.specs.reactor_journal.specs.declared.entry.Entry.{Entry}
use Rattle.reactor_model.specs.reactor_journal.specs.declared.entry.Entry.TheVariants.{Posted}
use Rattle.reactor_model.specs.reactor_journal.specs.declared.entry.Entry.TheVariants.{Stale}
use Rattle.reactor_model.specs.reactor_journal.specs.Past.{past_of}
use Rattle.reactor_summary.specs.Summary.{summary, is_alive}
use Rattle.reactor_state.specs.State.{HasNumber, no_places, IsFewer}
use Rattle.reactor_state.specs.declared.places.Places.{Places}
use Rattle.reactor_core.specs.Stands.{Meaning, HasRoom, Stands, places_for}
use Rattle.reactor_core.specs.Postings.{posting, post_places}
use Rattle.reactor_core.specs.declared.reactor.Core.{Core}
use Rattle.reactor_core.proofs.Started.{places_same}
use Rattle.reactor_core.proofs.Quiet.{AppendsQuiet, net_alone, goes_on, has_number}

-- the place of the event is used
pub event_used : (places : Places → Type 0) (n : ℕ)
    → places (record {
      handles = n + 0;
      timers = n + 0;
      timeouts = n + 0;
      events = n + 1 - 1;
      opens = 0;
    }) → places (places_for n no_places)
event_used places n p = subst places (places_same _ _ refl refl refl (omega arith) refl) p

-- room for an event is room for none
pub event_spared : (places : Places → Type 0)
    → ((few many : Places) → IsFewer few many → places many → places few) → (n : ℕ)
    → places (places_for n post_places) → places (places_for n no_places)
event_spared places fewer n p = fewer (places_for n no_places) (places_for n post_places)
    (record {
      handles = omega arith;
      timers = omega arith;
      timeouts = omega arith;
      events = omega arith;
      opens = omega arith;
    }) p

-- ---- the two entries

module _ {H M Q W V N E : Type 0} (m : Meaning H M Q W V N E) (t : Terms)
    (old new : Core H M Q W V N E) (F : ℕ) (h : List (Entry N)) (handle : Handle) (kind : Kind)
    (from seq : ℕ) where
  pub posted : AppendsQuiet m old new (Posted handle kind from seq) post_places HasNumber
      → new.net ≡ old.net → is_alive (summary (past_of h)) handle.0 ≡ true
      → (summary (past_of h)).ended ≡ false
      → HasRoom m 1 post_places old (summary (past_of h)) → Stands m t old F h
      → Stands m t new F (h ++ posting (summary (past_of h)) handle kind from seq ∷ [])
  posted d net alive runs room o =
      subst (λ (e : Entry N). Stands m t new F (h ++ e ∷ []))
      (sym (cond-true (is_alive (summary (past_of h)) handle.0) (Posted handle kind from seq)
      (Stale handle from seq) alive))
      (goes_on m t old new F h (Posted handle kind from seq) post_places HasNumber refl d
      (net_alone m t old new F h (Posted handle kind from seq) net refl o.tracks)
      (and_from (false || not (summary (past_of h)).ended) _ (ap not runs) alive)
      (λ legal. o.settled.none_due) (has_number m old post_places (summary (past_of h)) room) room
      o)

  pub skipped : AppendsQuiet m old new (Stale handle from seq) post_places HasNumber
      → new.net ≡ old.net → is_alive (summary (past_of h)) handle.0 ≡ false
      → (summary (past_of h)).ended ≡ false
      → HasRoom m 1 post_places old (summary (past_of h)) → Stands m t old F h
      → Stands m t new F (h ++ posting (summary (past_of h)) handle kind from seq ∷ [])
  skipped d net dead runs room o =
      subst (λ (e : Entry N). Stands m t new F (h ++ e ∷ []))
      (sym (cond-false (is_alive (summary (past_of h)) handle.0) (Posted handle kind from seq)
      (Stale handle from seq) dead))
      (goes_on m t old new F h (Stale handle from seq) post_places HasNumber refl d
      (net_alone m t old new F h (Stale handle from seq) net refl o.tracks)
      (and_from (false || not (summary (past_of h)).ended) _ (ap not runs) (ap not dead))
      (λ legal. o.settled.none_due) (has_number m old post_places (summary (past_of h)) room) room
      o)
