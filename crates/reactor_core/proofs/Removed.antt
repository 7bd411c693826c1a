-- What the removal of a handler leaves.
use Rattle.std.proofs.Common.{ℕ, ◌≡◌, ◌≤◌, ◌+◌, ◌==◌, Bool, true, false, not, ◌&&◌, ◌||◌, List, []}
use Rattle.std.proofs.Common.{◌∷◌, ◌++◌, length, refl, sym, ap, ◌∙◌, subst, arith, Option, Some}
use Rattle.std.proofs.Common.{None, ⊎_elim}
use Rattle.std.proofs.lemmas.Bool.{and_parts, both_ways, eq-eqb, eqb-true, cases_Bool, and_right}
use Rattle.std.proofs.lemmas.Bool.{not-true}
use Rattle.std.proofs.lemmas.List.{append-nil}
use Rattle.reactor_summary.specs.ev_types.specs.declared.upcall.Handle.{Handle}
use Rattle.reactor_summary.specs.ev_types.specs.declared.upcall.Why.TheVariants.{Own}
use Rattle.reactor_summary.specs.ev_types.specs.declared.upcall.Why.TheVariants.{
  Removed as ByRemoval,
}
use Rattle.ev_base.specs.Terms.{Terms}
use Rattle.reactor_model.specs.reactor_journal.specs.declared.entry.Entry.{Entry}
use Rattle.reactor_model.specs.reactor_journal.specs.declared.entry.Entry.TheVariants.{Removed}
use Rattle.reactor_model.specs.reactor_journal.specs.declared.entry.Entry.TheVariants.{Closed}
use Rattle.reactor_model.specs.reactor_journal.specs.Past as P
use Rattle.reactor_model.specs.reactor_journal.specs.Past.{past_of, had, origin_of, reason_of}
use Rattle.reactor_model.specs.reactor_journal.specs.Follow.{is_legal, may_follow, follows_due}
use Rattle.reactor_model.specs.reactor_journal.specs.Follow.{follows_ready}
use Rattle.reactor_model.specs.reactor_journal.proofs.Alive.{alive_not_removed}
use Rattle.reactor_model.specs.reactor_journal.proofs.Turning.{past_of-more}
use Rattle.reactor_summary.specs.Summary.{Summary, summary, step, is_alive, is_busy}
use Rattle.reactor_summary.specs.Summary.{waits_for_closed}
use Rattle.reactor_summary.proofs.Told.{told}
use Rattle.reactor_summary.proofs.Reading.{alive_is}
use Rattle.reactor_model.specs.Handling.{Handling}
use Rattle.handler_repo.specs.Seats as R
use Rattle.handler_repo.specs.declared.seat.Seat.{Seat}
use Rattle.handler_repo.specs.declared.seat.Seat.TheVariants.{Home, Out}
use Rattle.reactor_state.specs.State.{HasNumber, owed, no_places}
use Rattle.reactor_state.specs.declared.places.Places.{Places}
use Rattle.reactor_core.specs.Handlers.{is_live, IsHome, SeatStands, RepositoryStands}
use Rattle.reactor_core.specs.Closing.{IsClosable}
use Rattle.reactor_core.specs.Stands.{Meaning, Tracks, NetStands, HasRoom, IsQuiet, StandsQuiet}
use Rattle.reactor_core.specs.Stands.{SpendsRoom, VolumesStand, places_for}
use Rattle.reactor_core.specs.Settling.{IsClosing}
use Rattle.reactor_core.specs.Removing.{RemovesQuietly}
use Rattle.reactor_core.specs.declared.reactor.Core.{Core}
use Rattle.reactor_core.proofs.Seats.{seats_quiet, live_quiet}
use Rattle.reactor_core.proofs.Start.{any_weaker}
use Rattle.reactor_summary.specs.declared.parts.LiveHandle.{LiveHandle}
use Rattle.reactor_core.proofs.Moves.{seats_taken}
use Rattle.reactor_core.proofs.Ends.{net_quiet}
use Rattle.reactor_core.proofs.Steps.{may_by, Appends, tracks_by}
use Rattle.reactor_core.proofs.SettledHistory.{IsSettledBut, settled_removed, waits_now}
use Rattle.reactor_core.proofs.SettledHistory.{busy_waits_not, none_waits_by, quiet_closed}
use Rattle.reactor_core.proofs.Owed.{owed_removed, owed_closed}
use Rattle.reactor_core.proofs.WaitNumbers.{marks_kept}

pub record RemovesEntry {H M Q W V N E : Type 0} (m : Meaning H M Q W V N E)
    (old new : Core H M Q W V N E) (handle : Handle) : Type 0 where
  pub appends : Appends m old new (Removed handle)
  pub state : (s : Summary) → m.shows old.state s → HasNumber s
      → m.shows new.state (step {N = N} s (Removed handle))
  pub repo : new.repo.entries ≡ old.repo.entries
  pub net : new.net ≡ old.net

pub removed_on : {H M Q W V N E : Type 0} (m : Meaning H M Q W V N E) (t : Terms)
    (old new : Core H M Q W V N E) (F : ℕ) (h : List (Entry N)) (handle : Handle)
    → RemovesEntry m old new handle → is_alive (summary (past_of h)) handle.0 ≡ true
    → HasNumber (summary (past_of h)) → Tracks m t old F h None []
    → Tracks m t new F (h ++ Removed handle ∷ []) None []
removed_on {N = N} m t old new F h handle d alive number k =
    let past : List (Entry N) = past_of h in
    let e : Entry N = Removed handle in
    tracks_by m t old new F h e None None [] [] k d.appends
    (may_by t.most h e (follows_due past) (follows_ready past) k.legal refl refl alive)
    (d.state (summary past) k.state number)
    (subst (λ entries. RepositoryStands m.means t (e ∷ past) None entries) (sym d.repo)
    (seats_quiet m.means t e past None old.repo.entries refl k.repository))
    (subst (λ net. NetStands m.means t (e ∷ past) [] (m.facts net)) (sym d.net)
    (net_quiet m.means t e past [] (m.facts old.net) refl k.net))
    (subst (λ net. m.keeps t net) (sym d.net) k.keeps)

-- it is not alive any more, and it was removed
pub removed_dead : {N : Type 0} (most : ℕ) (past : List (Entry N)) (handle : Handle)
    → is_legal most (Removed handle ∷ past) ≡ true
    → is_alive (summary (Removed handle ∷ past)) handle.0 ≡ false
removed_dead {N} most past handle legal =
    alive_is most (Removed handle ∷ past) (summary (Removed handle ∷ past)) handle.0 legal
    (told most (Removed handle ∷ past) legal)
    ∙ and_right (P.was_opened past handle.0) _
    (ap (λ b. not (b || P.was_removed past handle.0)) (eq-eqb handle.0 handle.0 refl))

reason_of_removed : {N : Type 0} (past : List (Entry N)) (handle : Handle)
    → P.was_removed past handle.0 ≡ false → reason_of (Removed handle ∷ past) handle.0 ≡ ByRemoval
reason_of_removed past handle kept = rw (kept, P.ended_itself) refl

not_own : ByRemoval ≡ Own → ⊥
not_own q = cc

pub removed_closable : {H E N : Type 0} (means : Handling H E N) (t : Terms) (most : ℕ)
    (past : List (Entry N)) (handle : Handle) (handler : H)
    → is_legal most (Removed handle ∷ past) ≡ true → is_alive (summary past) handle.0 ≡ true
    → IsHome means t (Removed handle ∷ past) handle.0 handler
    → IsClosable means t (Removed handle ∷ past) handle.0 handler ByRemoval
removed_closable means t most past handle handler legal alive home =
    let before : is_legal most past ≡ true =
    (and_parts (may_follow most past (Removed handle)) _ legal).1 in
    let was : P.is_alive past handle.0 ≡ true =
    sym (alive_is most past (summary past) handle.0 before (told most past before)) ∙ alive in
    record {
      live = home.live;
      waits = waits_now most (Removed handle ∷ past) handle.0 legal home.live
          (removed_dead most past handle legal) home.busy;
      reason = reason_of_removed past handle (alive_not_removed past handle.0 was);
      own = λ q. absurd (not_own q);
      fits = home.fits;
    }

-- an alive handle is live, and is so after its `Removed`
pub alive_is_live : (s : Summary) (x : ℕ) → is_alive s x ≡ true → is_live s x ≡ true
alive_is_live s x h = any_weaker (λ (a : LiveHandle). a.handle.0 == x && a.alive)
    (λ (a : LiveHandle). a.handle.0 == x) s.handles
    (λ a k. (and_parts (a.handle.0 == x) a.alive k).0) h

pub live_removed : {N : Type 0} (past : List (Entry N)) (handle : Handle)
    → is_alive (summary past) handle.0 ≡ true
    → is_live (summary (Removed handle ∷ past)) handle.0 ≡ true
live_removed {N} past handle alive =
    live_quiet {N = N} (Removed handle) (summary past) handle.0 refl
    ∙ alive_is_live (summary past) handle.0 alive

-- there is room for both entries
pub both_owed : {N : Type 0} (past : List (Entry N)) (handle : Handle)
    → is_alive (summary past) handle.0 ≡ true → 2 ≤ owed (summary past)
both_owed {N} past handle alive =
    omega (
      arith,
      owed_removed N (summary past) handle alive,
      owed_closed {N = Unit {0}} (summary (Removed handle ∷ past)) handle tt
          (live_removed past handle alive),
    )

-- the handler is taken from home
pub record TakesHome {H M Q W V N E : Type 0} (old new : Core H M Q W V N E) (x : ℕ)
    (handler : H) : Type 0 where
  pub most : new.most ≡ old.most
  pub first : new.first ≡ old.first
  pub journal : new.journal ≡ old.journal
  pub state : new.state ≡ old.state
  pub home : R.seat_of x old.repo.entries ≡ Some (Home handler)
  pub repo : new.repo.entries ≡ R.with_seat x Out old.repo.entries
  pub net : new.net ≡ old.net
  pub watch : new.watch ≡ old.watch
  pub volumes : new.volumes ≡ old.volumes
  pub marks : new.marks ≡ old.marks

pub taken_home : {H M Q W V N E : Type 0} (m : Meaning H M Q W V N E) (t : Terms)
    (old new : Core H M Q W V N E) (F : ℕ) (h : List (Entry N)) (x : ℕ) (handler : H)
    → TakesHome old new x handler → Tracks m t old F h None [] → Tracks m t new F h (Some x) []
taken_home m t old new F h x handler d k = record {
  most = d.most ∙ k.most;
  few = subst (λ (n : ℕ). n ≤ 4097) (sym d.most) k.few;
  legal = k.legal;
  journal = record {
    first = d.first ∙ k.journal.first;
    within = k.journal.within;
    entries = ap (λ j. j.entries) d.journal ∙ k.journal.entries;
  };
  state = subst (λ state. m.shows state (summary (past_of h))) (sym d.state) k.state;
  repository = subst (λ entries. RepositoryStands m.means t (past_of h) (Some x) entries)
      (sym d.repo) (seats_taken m.means t (past_of h) x handler old.repo.entries d.home
      k.repository);
  net = subst (λ net. NetStands m.means t (past_of h) [] (m.facts net)) (sym d.net) k.net;
  keeps = subst (λ net. m.keeps t net) (sym d.net) k.keeps;
  watch = subst (λ w. m.watched t w h) (sym d.watch) k.watch;
  volumes = subst (λ v. VolumesStand t F h (m.volumes v)) (sym d.volumes) k.volumes;
  marks = marks_kept (past_of h) old.marks new.marks (m.facts old.net).calls (m.facts new.net).calls
      d.marks (ap (λ net. (m.facts net).calls) d.net) k.marks;
}

pub home_of_seat : {H E N : Type 0} (means : Handling H E N) (t : Terms) (past : List (Entry N))
    (x : ℕ) (handler : H) (entries : List (R.Entry H)) → R.seat_of x entries ≡ Some (Home handler)
    → RepositoryStands means t past None entries → IsHome means t past x handler
home_of_seat means t past x handler entries at st =
    subst (λ seat. SeatStands means t past x seat) at (st x)

-- a live handle that is not at home is busy
pub not_home_busy : {H E N : Type 0} (means : Handling H E N) (t : Terms) (past : List (Entry N))
    (x : ℕ) (entries : List (R.Entry H)) → R.home_of (R.seat_of x entries) ≡ None
    → is_live (summary past) x ≡ true
    → RepositoryStands means t past None entries → is_busy (summary past) x ≡ true
not_home_busy {H} means t past x entries none live st = by_seat (R.seat_of x entries) none (st x)
  where
    by_seat : (seat : Option (Seat H)) → R.home_of seat ≡ None → SeatStands means t past x seat
        → is_busy (summary past) x ≡ true
    by_seat None q s = absurd (both_ways _ s live)
    by_seat (Some Out) q s = s.busy
    by_seat (Some (Home handler)) q s = absurd (some_none q)
      where
        some_none : {A : Type 0} {a : A} → ◌≡◌ {A = Option A} (Some a) None → ⊥
        some_none k = cc

-- ---- the whole

pub quiet_at_last : (x : ℕ) (s : Summary) → IsSettledBut x s → waits_for_closed s x ≡ false
    → IsQuiet s
quiet_at_last x s b w = record {
  none_waits = none_waits_by s (λ y.
      ⊎_elim (λ (q : (x == y) ≡ true). subst (λ (k : ℕ). waits_for_closed s k ≡ false)
      (eqb-true x y q) w) (λ (q : (x == y) ≡ false). b.none_waits y q) (cases_Bool (x == y)));
  none_due = b.none_due;
}

module _ {H M Q W V N E : Type 0} (m : Meaning H M Q W V N E) (t : Terms)
    (old new : Core H M Q W V N E) (F : ℕ) (h : List (Entry N)) (handle : Handle) where
  -- the room: the `Removed` takes one of the two places of an alive handle, and the `Closed` the
  -- other
  room_then : (s : Summary) (spent : ℕ) → length s.opens ≡ length (summary (past_of h)).opens
      → owed s + spent ≤ owed (summary (past_of h))
      → s.entries ≡ (summary (past_of h)).entries + spent
      → old.journal.spare ≤ new.journal.spare + spent
      → ((p : Places) → m.places p old.state → m.places p new.state)
      → old.repo.spare ≤ new.repo.spare → (m.facts old.net).spare ≤ (m.facts new.net).spare
      → HasRoom m 0 no_places old (summary (past_of h)) → HasRoom m 0 no_places new s
  room_then s spent opens owes entries journal places seats net r = record {
    journal = omega (arith, r.journal, owes, journal);
    numbers = omega (arith, r.numbers, owes, entries);
    state = subst (λ (n : ℕ). m.places (places_for n no_places) new.state) (sym opens)
        (places (places_for (length (summary (past_of h)).opens) no_places) r.state);
    repository = omega (arith, r.repository, opens, seats);
    net = omega (arith, r.net, opens, net);
  }

  abbrev pub past1 : List (Entry N)
  past1 = Removed handle ∷ past_of h

  same : past_of (h ++ Removed handle ∷ []) ≡ past1
  same = past_of-more h (Removed handle)

  -- the handler is out: it is closed when its upcall is settled
  pub removed_out : StandsQuiet m t old F h → is_alive (summary (past_of h)) handle.0 ≡ true
      → is_busy (summary (past_of h)) handle.0 ≡ true
      → Tracks m t new F (h ++ Removed handle ∷ []) None []
      → SpendsRoom m 1 old new → RemovesQuietly m t F h handle new
  removed_out st alive busy k d = record {
    entries = [];
    closing = subst (λ (b : Bool). IsClosing {N = N} (not b) handle []) (sym busy) refl;
    stands = subst (λ hs. StandsQuiet m t new F hs) (sym (append-nil (h ++ Removed handle ∷ [])))
        (record {
          tracks = k;
          quiet = subst (λ ps. IsQuiet (summary ps)) (sym same)
              (quiet_at_last handle.0 (summary past1)
              (settled_removed t.most (past_of h) handle legal st.quiet.none_waits
              st.quiet.none_due)
              (busy_waits_not (summary past1) handle.0 busy));
          room = subst (λ ps. HasRoom m 0 no_places new (summary ps)) (sym same)
              (room_then (summary past1) 1 refl (owed_removed N (summary (past_of h)) handle alive)
              (omega arith) d.journal d.places d.seats d.net st.room);
        });
  }
    where
      legal : is_legal t.most past1 ≡ true
      legal = subst (λ ps. is_legal t.most ps ≡ true) same k.legal

  -- the handler was at home, and is closed at once
  pub removed_home : (note : N) → StandsQuiet m t old F h
      → is_alive (summary (past_of h)) handle.0 ≡ true
      → is_busy (summary (past_of h)) handle.0 ≡ false → is_live (summary past1) handle.0 ≡ true
      → is_legal t.most past1 ≡ true → Tracks m t new F
      ((h ++ Removed handle ∷ []) ++ Closed handle note ∷ []) None []
      → SpendsRoom m 2 old new → RemovesQuietly m t F h handle new
  removed_home note st alive idle live legal k d = record {
    entries = Closed handle note ∷ [];
    closing = subst (λ (b : Bool). IsClosing {N = N} (not b) handle (Closed handle note ∷ []))
        (sym idle) (note, refl);
    stands = record {
      tracks = k;
      quiet = subst (λ ps. IsQuiet (summary ps)) (sym last)
          (quiet_closed past1 handle note (settled_removed t.most (past_of h) handle legal
          st.quiet.none_waits st.quiet.none_due));
      room = subst (λ ps. HasRoom m 0 no_places new (summary ps)) (sym last)
          (room_then (summary (Closed handle note ∷ past1)) 2 refl
          (omega (
            arith,
            owed_removed N (summary (past_of h)) handle alive,
            owed_closed (summary past1) handle note live,
          )) (omega arith) d.journal d.places
          d.seats d.net st.room);
    };
  }
    where
      last : past_of ((h ++ Removed handle ∷ []) ++ Closed handle note ∷ [])
          ≡ Closed handle note ∷ past1
      last = past_of-more (h ++ Removed handle ∷ []) (Closed handle note)
          ∙ ap (λ ps. Closed handle note ∷ ps) same

pub number_of : {H M Q W V N E : Type 0} (m : Meaning H M Q W V N E) (t : Terms)
    (core : Core H M Q W V N E) (F : ℕ) (h : List (Entry N)) (handle : Handle)
    → StandsQuiet m t core F h → is_alive (summary (past_of h)) handle.0 ≡ true
    → HasNumber (summary (past_of h))
number_of {N = N} m t core F h handle st alive = let owes =
    owed_removed N (summary (past_of h)) handle alive in let r = st.room.numbers in
    omega (arith, r, owes)

-- the handler that was taken from home is to be closed
pub record ClosesNow {H M Q W V N E : Type 0} (m : Meaning H M Q W V N E) (t : Terms)
    (core : Core H M Q W V N E) (F : ℕ) (h : List (Entry N)) (handle : Handle) (handler : H) : Type
    0 where
  pub tracks : Tracks m t core F (h ++ Removed handle ∷ []) (Some handle.0) []
  pub closable : IsClosable m.means t (past_of (h ++ Removed handle ∷ [])) handle.0 handler
      ByRemoval
  pub number : HasNumber (summary (past_of (h ++ Removed handle ∷ [])))

pub closes_now : {H M Q W V N E : Type 0} (m : Meaning H M Q W V N E) (t : Terms)
    (old mid new : Core H M Q W V N E) (F : ℕ) (h : List (Entry N)) (handle : Handle) (handler : H)
    → RemovesEntry m old mid handle → TakesHome mid new handle.0 handler → StandsQuiet m t old F h
    → is_alive (summary (past_of h)) handle.0 ≡ true → ClosesNow m t new F h handle handler
closes_now {N = N} m t old mid new F h handle handler d e st alive =
    let k : Tracks m t mid F (h ++ Removed handle ∷ []) None [] =
    removed_on m t old mid F h handle d alive (number_of m t old F h handle st alive) st.tracks
    in
    let same : past_of (h ++ Removed handle ∷ []) ≡ Removed handle ∷ past_of h =
    past_of-more h (Removed handle) in
    let legal : is_legal t.most (Removed handle ∷ past_of h) ≡ true =
    subst (λ ps. is_legal t.most ps ≡ true) same k.legal in
    let home : IsHome m.means t (Removed handle ∷ past_of h) handle.0 handler =
    subst (λ ps. IsHome m.means t ps handle.0 handler) same
    (home_of_seat m.means t (past_of (h ++ Removed handle ∷ [])) handle.0 handler
    mid.repo.entries e.home k.repository) in
    let two : 2 ≤ owed (summary (past_of h)) = both_owed (past_of h) handle alive in
    let r = st.room.numbers in
    record {
      tracks = taken_home m t mid new F (h ++ Removed handle ∷ []) handle.0 handler e k;
      closable = subst (λ ps. IsClosable m.means t ps handle.0 handler ByRemoval) (sym same)
          (removed_closable m.means t t.most (past_of h) handle handler legal alive home);
      number = subst (λ ps. HasNumber (summary ps)) (sym same) (omega (arith, two, r));
    }

-- and then it was closed
pub removed_closed : {H M Q W V N E : Type 0} (m : Meaning H M Q W V N E) (t : Terms)
    (old mid new : Core H M Q W V N E) (F : ℕ) (h : List (Entry N)) (handle : Handle) (handler : H)
    (note : N)
    → ClosesNow m t mid F h handle handler
    → Tracks m t new F ((h ++ Removed handle ∷ []) ++ Closed handle note ∷ []) None []
    → SpendsRoom m 2 old new → StandsQuiet m t old F h
    → is_alive (summary (past_of h)) handle.0 ≡ true
    → RemovesQuietly m t F h handle new
removed_closed m t old mid new F h handle handler note c k d st alive =
    let same : past_of (h ++ Removed handle ∷ []) ≡ Removed handle ∷ past_of h =
    past_of-more h (Removed handle) in
    let legal : is_legal t.most (Removed handle ∷ past_of h) ≡ true =
    subst (λ ps. is_legal t.most ps ≡ true) same c.tracks.legal in
    let waits : waits_for_closed (summary (Removed handle ∷ past_of h)) handle.0 ≡ true =
    subst (λ ps. waits_for_closed (summary ps) handle.0 ≡ true) same c.closable.waits in
    let idle : is_busy (summary (past_of h)) handle.0 ≡ false =
    not-true _ (and_parts _ (not (is_busy (summary (past_of h)) handle.0)) waits).1 in
    removed_home m t old new F h handle note st alive idle (live_removed (past_of h) handle alive)
    legal k d
