-- A handler that is offered and not registered.
use Rattle.std.proofs.Common.{ℕ, ◌≡◌, ◌≤◌, ◌<◌, ◌+◌, ◌^◌, ◌==◌, Bool, true, false, ◌||◌, List, []}
use Rattle.std.proofs.Common.{◌∷◌, ◌++◌, length, refl, sym, ap, subst, arith, inl, inr, Option}
use Rattle.std.proofs.Common.{None, ⊎_elim}
use Rattle.std.proofs.lemmas.Bool.{and_from, or_left, or_right, eq-eqb}
use Rattle.reactor_summary.specs.ev_types.specs.declared.upcall.Why.TheVariants.{
  Refused as ByRefusal,
}
use Rattle.reactor_summary.specs.ev_types.specs.declared.upcall.Handle.{Handle}
use Rattle.reactor_summary.specs.ev_types.specs.declared.upcall.Mask.{Mask}
use Rattle.ev_base.specs.Counts.{Rose}
use Rattle.ev_base.specs.Terms.{Terms}
use Rattle.ev_base.specs.Net.{TurnsAwayEnd}
use Rattle.reactor_model.specs.reactor_journal.specs.declared.entry.Entry.{Entry}
use Rattle.reactor_model.specs.reactor_journal.specs.declared.entry.Entry.TheVariants.{Refused}
use Rattle.reactor_model.specs.reactor_journal.specs.Past.{past_of, offered_here, count}
use Rattle.reactor_model.specs.reactor_journal.specs.Follow.{follows_due, follows_ready}
use Rattle.reactor_model.specs.reactor_journal.specs.Follow.{most_handles}
use Rattle.reactor_model.specs.reactor_journal.proofs.Turning.{past_of-more}
use Rattle.reactor_summary.specs.Summary.{Summary, summary, step}
use Rattle.reactor_summary.specs.Rules as R
use Rattle.reactor_summary.proofs.Told.{told}
use Rattle.reactor_model.specs.Handling.{Names}
use Rattle.reactor_state.specs.State.{HasNumber, no_places}
use Rattle.reactor_state.specs.declared.places.Places.{Places}
use Rattle.reactor_model.specs.Entries.{is_fault}
use Rattle.reactor_core.specs.Handlers.{RepositoryStands}
use Rattle.reactor_core.specs.Stands.{Meaning, HasRoom, IsSettled, Stands, StandsWithRoom}
use Rattle.reactor_core.specs.Stands.{places_for}
use Rattle.reactor_core.specs.Registering.{HasPlaceFor, IsFull, IsOffered, registered}
use Rattle.reactor_core.specs.Settling.{act_places}
use Rattle.reactor_core.specs.Acting.{MayRefuseHandler, IsRefusalCause, CountsFaults, Installs}
use Rattle.reactor_core.specs.declared.reactor.Core.{Core}
use Rattle.reactor_core.proofs.Ends.{net_refused}
use Rattle.reactor_core.proofs.Opened.{count_le}
use Rattle.reactor_core.proofs.Seats.{seats_quiet}
use Rattle.reactor_core.proofs.SettleEvent.{Weakens}
use Rattle.reactor_core.proofs.Steps.{may_by, Appends, tracks_by}

-- what the body does
pub record Refuses {H M Q W V N E : Type 0} (m : Meaning H M Q W V N E)
    (old new : Core H M Q W V N E) (handler : H) (live : ℕ) (fault : Bool) (note : N)
    (serial : Option ℕ) (end : E) : Type 0 where
  pub appends : Appends m old new (Refused live fault note)
  pub spare : new.journal.spare + 1 ≡ old.journal.spare
  pub repo : new.repo ≡ old.repo
  pub state : (s : Summary) → m.shows old.state s → HasNumber s
      → m.shows new.state (step s (Refused live fault note))
  pub places : (p : Places) → m.places p old.state → m.places p new.state
  pub net : TurnsAwayEnd (m.facts old.net) serial end (m.facts new.net)
  pub gone : (t : Terms) (past : List (Entry N)) → IsOffered m.means t past handler
      → m.means.gone t (offered_here past) end [] ByRefusal note
  pub named : (t : Terms) (past : List (Entry N)) → IsOffered m.means t past handler
      → Names (m.means.serial t (offered_here past)) serial
  pub keeps : (t : Terms) (past : List (Entry N)) → IsOffered m.means t past handler
      → m.keeps t old.net → m.keeps t new.net

module _ {H M Q W V N E : Type 0} (m : Meaning H M Q W V N E) (weak : Weakens m) (t : Terms)
    (old new : Core H M Q W V N E) (F : ℕ) (h : List (Entry N)) where
  enough : (live : ℕ) (fault : Bool) (note : N) → MayRefuseHandler m t.most old (past_of h) fault
      → count is_fault (past_of h) ≤ (m.facts old.net).failed_attaches
      → count is_fault (Refused live fault note ∷ past_of h) ≤ (m.facts old.net).failed_attaches
  enough live true note may le = may
  enough live false note may le = le

  refused_fits : (live : ℕ) (fault : Bool) (note : N) → live ≡ R.live (summary (past_of h))
      → MayRefuseHandler m t.most old (past_of h) fault
      → R.fits {N = N} t.most (follows_due (past_of h)) (follows_ready (past_of h))
      (summary (past_of h)) (Refused live fault note) ≡ true
  refused_fits live fault note q may =
      and_from (live == R.live (summary (past_of h))) _
      (eq-eqb live (R.live (summary (past_of h))) q) (by_fault fault may)
    where
      s : Summary
      s = summary (past_of h)

      by_fault : (fault : Bool) → MayRefuseHandler m t.most old (past_of h) fault
          → (R.live s == t.most || (s.opened == most_handles || (fault || s.ended))) ≡ true
      by_fault true may = or_right (R.live s == t.most) _
          (or_right (s.opened == most_handles) (true || s.ended) refl)
      by_fault false may =
          ⊎_elim
          (λ (k : s.ended ≡ true). or_right (R.live s == t.most) _
          (or_right (s.opened == most_handles) s.ended k))
          (λ (k : IsFull t.most s).
          ⊎_elim
          (λ (k : R.live s ≡ t.most). or_left (R.live s == t.most) _ (eq-eqb (R.live s) t.most k))
          (λ (k : s.opened ≡ most_handles). or_right (R.live s == t.most) _
          (or_left (s.opened == most_handles) _ (eq-eqb s.opened most_handles k)))
          k)
          may

  -- the core goes on
  pub refused : (handler : _) (live : ℕ) (fault : Bool) (note : N) (serial : Option ℕ) (end : E)
      → Refuses m old new handler live fault note serial end → live ≡ R.live (summary (past_of h))
      → IsOffered m.means t (past_of h) handler → MayRefuseHandler m t.most old (past_of h) fault
      → StandsWithRoom m 4 act_places t old F h
      → Stands m t new F (h ++ Refused (R.live (summary (past_of h))) fault note ∷ [])
  refused handler live fault note serial end d q offered may st =
      let past : List (Entry N) = past_of h in
      let s : Summary = summary past in
      let e : Entry N = Refused live fault note in
      let same : past_of (h ++ e ∷ []) ≡ e ∷ past = past_of-more h e in
      let r = st.room in
      let number : HasNumber s = omega (arith, r.numbers) in
      let spare : new.repo.spare ≡ old.repo.spare = ap (λ x. x.spare) d.repo in
      subst (λ (n : ℕ). Stands m t new F (h ++ Refused n fault note ∷ [])) q (record {
        tracks = tracks_by m t old new F h e None None [] [] st.tracks d.appends
            (may_by t.most h e (follows_due past) (follows_ready past) st.tracks.legal refl refl
            (refused_fits live fault note q may))
            (d.state s st.tracks.state number)
            (subst (λ repo. RepositoryStands m.means t (e ∷ past) None repo.entries) (sym d.repo)
            (seats_quiet m.means t e past None old.repo.entries refl st.tracks.repository))
            (net_refused m.means t past live fault note serial end (m.facts old.net)
            (m.facts new.net) d.net (d.gone t past offered) (d.named t past offered)
            (enough live fault note may st.tracks.net.faults) st.tracks.net)
            (d.keeps t past offered st.tracks.keeps);
        settled = subst (λ ps. IsSettled (summary ps)) (sym same)
            (record {
              none_waits = st.settled.none_waits;
              none_due = st.settled.none_due;
              none_alive = st.settled.none_alive;
            });
        room = subst (λ ps. HasRoom m 0 no_places new (summary ps)) (sym same) (record {
          journal = omega (arith, r.journal, d.spare);
          numbers = omega (arith, r.numbers);
          state = weak new.state (places_for (length s.opens) no_places)
              (places_for (length s.opens) act_places)
              (record {
                handles = omega arith;
                timers = omega arith;
                timeouts = omega arith;
                events = omega arith;
                opens = omega arith;
              })
              (d.places (places_for (length s.opens) act_places) r.state);
          repository = omega (arith, r.repository, spare);
          net = omega (arith, r.net, d.net.spare);
        });
      })

-- ---- what an offered handler comes to

-- a count that rose is above what it was above before
above : (k before after : ℕ) → k ≤ before → k < 2 ^ 62 → Rose before after → k < after
above k before after le few rose = omega (arith, le, few, rose)

pub rose_to : (old mid new : ℕ) → new ≡ mid → Rose old mid → Rose old new
rose_to old mid new q r = subst (λ (n : ℕ). Rose old n) (sym q) r

module _ {H M Q W V N E : Type 0} (m : Meaning H M Q W V N E) (t : Terms)
    (old new : Core H M Q W V N E) (F : ℕ) (h : List (Entry N)) where
  -- if the net's count rose, a handler may be refused for a fault
  pub may_after : (mid : Core H M Q W V N E)
      → Rose (m.facts old.net).failed_attaches (m.facts mid.net).failed_attaches
      → StandsWithRoom m 4 act_places t old F h → MayRefuseHandler m t.most mid (past_of h) true
  may_after mid rose st =
      let entries : (summary (past_of h)).entries ≡ length (past_of h) =
      (told t.most (past_of h) st.tracks.legal).entries in
      let few : count is_fault (past_of h) ≤ length (past_of h) = count_le is_fault (past_of h) in
      above (count is_fault (past_of h)) (m.facts old.net).failed_attaches
      (m.facts mid.net).failed_attaches st.tracks.net.faults
      (omega (arith, st.room.numbers, entries, few)) rose

  pub installs_refused : (mask : Mask) (timer : Option (ℕ × ℕ)) (fault : Bool) (note : N)
      → IsRefusalCause t.most (summary (past_of h)) (m.facts old.net).failed_attaches
      (m.facts new.net).failed_attaches fault
      → CountsFaults {N = N} (Refused (R.live (summary (past_of h))) fault note ∷ [])
      (m.facts old.net).failed_attaches (m.facts new.net).failed_attaches
      → Stands m t new F (h ++ Refused (R.live (summary (past_of h))) fault note ∷ [])
      → Installs m t F h mask timer old new
  installs_refused mask timer fault note cause faults st = record {
    entries = Refused (R.live (summary (past_of h))) fault note ∷ [];
    appends = inr (record { fault = fault; note = note; cause = cause; is = refl });
    faults = faults;
    stands = st;
  }

  pub installs_registered : (mask : Mask) (timer : Option (ℕ × ℕ)) (handle : Handle)
      → handle.0 ≡ (summary (past_of h)).opened → HasPlaceFor t.most (summary (past_of h))
      → (m.facts new.net).failed_attaches ≡ (m.facts old.net).failed_attaches
      → Stands m t new F (h ++ registered (summary (past_of h)) handle mask timer)
      → Installs m t F h mask timer old new
  installs_registered mask timer handle number place same st = record {
    entries = registered (summary (past_of h)) handle mask timer;
    appends = inl (record { handle = handle; number = number; place = place; is = refl });
    faults = λ q. same;
    stands = st;
  }
