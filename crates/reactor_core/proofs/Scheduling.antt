-- A timer that is set.
use Rattle.std.proofs.Common.{ℕ, ◌≡◌, ◌≤◌, ◌<◌, ◌+◌, ◌-◌, ◌==◌, Bool, true, false, not, ◌||◌, List}
use Rattle.std.proofs.Common.{[], ◌∷◌, ◌++◌, refl, ap, subst, arith, cond, ⊎_elim}
use Rattle.std.proofs.lemmas.Bool.{and_from, cases_Bool, leb-true, lt-ltb, eq-eqb}
use Rattle.reactor_summary.specs.ev_types.specs.declared.upcall.Handle.{Handle}
use Rattle.ev_base.specs.Terms.{Terms}
use Rattle.reactor_model.specs.reactor_journal.specs.declared.entry.Entry.{Entry}
use Rattle.reactor_model.specs.reactor_journal.specs.declared.entry.Entry.TheVariants.{Scheduled}
use Rattle.reactor_model.specs.reactor_journal.specs.Past.{past_of}
use Rattle.reactor_summary.specs.declared.parts.ArmedTimer.{ArmedTimer}
use Rattle.reactor_summary.specs.Summary as S
use Rattle.reactor_summary.specs.Summary.{Summary, summary, is_alive}
use Rattle.reactor_state.specs.State.{HasNumber, no_places}
use Rattle.reactor_state.specs.declared.places.Places.{Places}
use Rattle.reactor_core.specs.Stands.{Meaning, HasRoom, Stands, places_for}
use Rattle.reactor_core.specs.Timers.{timer_places}
use Rattle.reactor_core.specs.declared.reactor.Core.{Core}
use Rattle.reactor_core.proofs.Started.{places_same}
use Rattle.reactor_core.proofs.Suspension.{running}
use Rattle.reactor_core.proofs.Quiet.{AppendsQuiet, net_alone, goes_on, has_number}

-- the place of the timer is used
pub timer_used : (places : Places → Type 0) (n : ℕ)
    → places (record {
      handles = n + 0;
      timers = n + 1 - 1;
      timeouts = n + 0;
      events = n + 0;
      opens = 0;
    }) → places (places_for n no_places)
timer_used places n p = subst places (places_same _ _ refl (omega arith) refl refl refl) p

not_reached : (moment : ℕ) (a : ArmedTimer) → moment < a.deadline
    → S.is_reached moment (a ∷ []) ≡ false
not_reached moment a later =
    ⊎_elim
    (λ (k : S.is_reached moment (a ∷ []) ≡ true). let le : a.deadline ≤ moment =
    leb-true a.deadline moment k in absurd (omega (arith, le, later)))
    (λ (k : S.is_reached moment (a ∷ []) ≡ false). k)
    (cases_Bool (S.is_reached moment (a ∷ [])))

-- a deadline that is not reached keeps the first one unreached
none_reached : (moment : ℕ) (a : ArmedTimer) (armed : List ArmedTimer) → moment < a.deadline
    → S.is_reached moment armed ≡ false → S.is_reached moment (S.with_timer a armed) ≡ false
none_reached moment a [] later h = not_reached moment a later
none_reached moment a (b ∷ rest) later h = by_cases (S.comes_before a b)
  where
    by_cases : (c : Bool) → S.is_reached moment (cond c (a ∷ b ∷ rest) (b ∷ S.with_timer a rest))
        ≡ false
    by_cases true = not_reached moment a later
    by_cases false = h

pub scheduled : {H M Q W V N E : Type 0} (m : Meaning H M Q W V N E) (t : Terms)
    (old new : Core H M Q W V N E) (F : ℕ) (h : List (Entry N)) (timer : ℕ) (handle : Handle)
    (first delay every : ℕ)
    → AppendsQuiet m old new (Scheduled timer handle first every) timer_places HasNumber
    → new.net ≡ old.net → timer ≡ (summary (past_of h)).scheduled
    → is_alive (summary (past_of h)) handle.0 ≡ true
    → first ≡ (summary (past_of h)).moment + delay → 1 ≤ delay
    → HasRoom m 1 timer_places old (summary (past_of h)) → Stands m t old F h
    → Stands m t new F (h ++ Scheduled timer handle ((summary (past_of h)).moment + delay) every
    ∷ [])
scheduled {N = N} m t old new F h timer handle first delay every d net number alive at some room o =
    let s : Summary = summary (past_of h) in
    let later : s.moment < first = omega (arith, at, some) in
    subst (λ (k : ℕ). Stands m t new F (h ++ Scheduled timer handle k every ∷ [])) at
    (goes_on m t old new F h (Scheduled timer handle first every) timer_places HasNumber refl d
    (net_alone m t old new F h (Scheduled timer handle first every) net refl o.tracks)
    (and_from (false || not s.ended) _ (ap not (running s handle.0 o.settled alive))
    (and_from (timer == s.scheduled) _ (eq-eqb timer s.scheduled number)
    (and_from (is_alive s handle.0) _ alive (lt-ltb s.moment first later))))
    (λ legal. none_reached s.moment (record {
      deadline = first;
      timer = timer;
      handle = handle;
      every = every;
    }) s.armed later o.settled.none_due)
    (has_number m old timer_places s room) room o)
