-- What a registration leaves.
use Rattle.std.proofs.Common.{ℕ, ◌≡◌, ◌≤◌, ◌<◌, ◌+◌, ◌-◌, ◌==◌, Bool, true, false, ◌&&◌, ◌⊎◌, inl}
use Rattle.std.proofs.Common.{inr, List, [], ◌∷◌, ◌++◌, length, sym, ap, ◌∙◌, subst, arith, Option}
use Rattle.std.proofs.Common.{Some, None, append_assoc, ⊎_elim}
use Rattle.std.proofs.lemmas.Bool.{and_parts, and_cases, ltb-true, ltb-false}
use Rattle.std.specs.Prelude.{nat_lt}
use Rattle.reactor_summary.specs.ev_types.specs.declared.upcall.Handle.{Handle}
use Rattle.reactor_summary.specs.ev_types.specs.declared.upcall.Mask.{Mask}
use Rattle.ev_base.specs.Counts.{Rose}
use Rattle.ev_base.specs.Terms.{Terms}
use Rattle.reactor_model.specs.reactor_journal.specs.declared.entry.Entry.{Entry}
use Rattle.reactor_model.specs.reactor_journal.specs.declared.entry.Entry.TheVariants.{Opened}
use Rattle.reactor_model.specs.reactor_journal.specs.declared.entry.Entry.TheVariants.{Scheduled}
use Rattle.reactor_model.specs.reactor_journal.specs.declared.entry.Entry.TheVariants.{Closed}
use Rattle.reactor_model.specs.reactor_journal.specs.Past as P
use Rattle.reactor_model.specs.reactor_journal.specs.Past.{past_of}
use Rattle.reactor_model.specs.reactor_journal.specs.Follow.{is_legal, may_follow, most_handles}
use Rattle.reactor_model.specs.reactor_journal.proofs.Basics.{may_fits}
use Rattle.reactor_model.specs.reactor_journal.proofs.Turning.{past_of-more}
use Rattle.reactor_summary.specs.Summary.{Summary, summary, step}
use Rattle.reactor_summary.specs.Rules.{live}
use Rattle.reactor_summary.proofs.Told.{told}
use Rattle.reactor_state.specs.State.{owed, no_places}
use Rattle.reactor_state.specs.declared.places.Places.{Places}
use Rattle.reactor_core.specs.Stands.{Meaning, Tracks, HasRoom, IsSettled, Stands, StandsWithRoom}
use Rattle.reactor_core.specs.Stands.{places_for}
use Rattle.reactor_core.specs.Registering.{HasPlaceFor, IsFull, IsOffered, registered}
use Rattle.reactor_core.specs.Offering.{TakesHandle, ComesBack, GivesBack}
use Rattle.reactor_core.specs.Settling.{act_places}
use Rattle.reactor_core.specs.Acting.{CanInstall}
use Rattle.reactor_core.specs.Steps.{MayOpen, MayAdmit}
use Rattle.reactor_core.specs.declared.reactor.Core.{Core}
use Rattle.reactor_core.proofs.Owed.{owed_opened}
use Rattle.reactor_core.proofs.Opened.{settled_opened, settled_scheduled}
use Rattle.reactor_core.proofs.SettleEvent.{Weakens}

-- ---- no more are live than may be

live_le : {N : Type 0} (most : ℕ) (past : List (Entry N)) → is_legal most past ≡ true
    → P.live past ≤ most
live_le most [] legal = omega arith
live_le most (Opened handle mask ∷ past) legal =
    let parts : (may_follow most past (Opened handle mask) ≡ true) × (is_legal most past ≡ true) =
    and_parts _ _ legal in
    let fits = and_parts (handle.0 == P.opened past)
    (nat_lt (P.live past) most && nat_lt (P.opened past) most_handles)
    (may_fits most past (Opened handle mask) parts.0) in
    let lt : P.live past < most = ltb-true (P.live past) most
    (and_parts (nat_lt (P.live past) most) _ fits.1).0 in
    omega (arith, lt)
live_le most (Closed handle note ∷ past) legal = let rec : P.live past ≤ most =
    live_le most past (and_parts _ _ legal).1 in omega (arith, rec)
live_le most (_ ∷ past) legal = live_le most past (and_parts _ _ legal).1

pub live_within : {N : Type 0} (most : ℕ) (past : List (Entry N)) → is_legal most past ≡ true
    → live (summary past) ≤ most
live_within most past legal =
    let t = told most past legal in
    let le : P.live past ≤ most = live_le most past legal in
    omega (arith, t.opened, t.closed, le)

pub full_by : {N : Type 0} (most : ℕ) (past : List (Entry N)) → is_legal most past ≡ true
    → (summary past).opened ≤ 4294967295 → (most ≤ live (summary past))
    ⊎ (4294967295 ≤ (summary past).opened) → IsFull most (summary past)
full_by most past legal few h =
    let le : live (summary past) ≤ most = live_within most past legal in
    ⊎_elim (λ (k : most ≤ live (summary past)). inl (omega (arith, le, k)))
    (λ (k : 4294967295 ≤ (summary past).opened). inr (omega (arith, few, k))) h

-- if there is room for a handler and its timer, it may be opened
pub opens_by : {H M Q W V N E : Type 0} (m : Meaning H M Q W V N E) (handler : H) (t : Terms)
    (core : Core H M Q W V N E) (F : ℕ) (h : List (Entry N)) → MayAdmit m handler t core F h
    → MayOpen m handler t core F h
opens_by m handler t core F h o = record {
  tracks = o.stands.tracks;
  place = o.place;
  number = let r = o.stands.room.numbers in omega (arith, r);
  offered = o.offered;
}

-- ---- the whole

module _ {H M Q W V N E : Type 0} (m : Meaning H M Q W V N E) (weak : Weakens m) (t : Terms)
    (old mid new : Core H M Q W V N E) (F : ℕ) (h : List (Entry N)) (handle : Handle) (mask : Mask)
  where
    past1 : List (Entry N)
    past1 = Opened handle mask ∷ past_of h

    opened_room : TakesHandle m old mid → HasRoom m 4 act_places old (summary (past_of h))
        → HasRoom m 0 no_places mid (step {N = N} (summary (past_of h)) (Opened handle mask))
    opened_room d r =
        let owes : owed (step {N = N} (summary (past_of h)) (Opened handle mask))
        ≡ owed (summary (past_of h)) + 2 = owed_opened N (summary (past_of h)) handle mask in
        record {
          journal = omega (arith, r.journal, owes, d.journal);
          numbers = omega (arith, r.numbers, owes);
          state = weak mid.state (places_for (length (summary (past_of h)).opens) no_places)
              (record (places_for (length (summary (past_of h)).opens) act_places) {
                handles = length (summary (past_of h)).opens + 1 - 1;
              })
              (record {
                handles = omega arith;
                timers = omega arith;
                timeouts = omega arith;
                events = omega arith;
                opens = omega arith;
              })
              (d.places (places_for (length (summary (past_of h)).opens) act_places) r.state);
          repository = omega (arith, r.repository, d.seats);
          net = omega (arith, r.net, d.net);
        }

    -- without a timer
    pub admitted : TakesHandle m old mid → HasPlaceFor t.most (summary (past_of h))
        → StandsWithRoom m 4 act_places t old F h
        → Tracks m t mid F (h ++ Opened handle mask ∷ []) None []
        → Stands m t mid F (h ++ Opened handle mask ∷ [])
    admitted d p st k = record {
      tracks = k;
      settled = subst (λ ps. IsSettled (summary ps)) (sym (past_of-more h (Opened handle mask)))
          (settled_opened N (summary (past_of h)) handle mask p.running st.settled);
      room = subst (λ ps. HasRoom m 0 no_places mid (summary ps))
          (sym (past_of-more h (Opened handle mask))) (opened_room d st.room);
    }

    -- with one
    pub admitted_armed : (delay every : ℕ) → 1 ≤ delay → TakesHandle m old mid
        → HasPlaceFor t.most (summary (past_of h)) → StandsWithRoom m 4 act_places t old F h
        → Tracks m t new F ((h ++ Opened handle mask ∷ [])
        ++ Scheduled (summary (past_of (h ++ Opened handle mask ∷ []))).scheduled handle
        ((summary (past_of (h ++ Opened handle mask ∷ []))).moment + delay) every ∷ []) None []
        → new.journal.spare + 1 ≡ mid.journal.spare
        → ((p : Places) → m.places p mid.state
        → m.places (record p { timers = p.timers - 1 }) new.state) → new.repo ≡ mid.repo
        → new.net ≡ mid.net
        → Stands m t new F (h ++ registered (summary (past_of h)) handle mask (Some (delay, every)))
    admitted_armed delay every some d p st k journal places repo net =
        let s : Summary = summary (past_of h) in
        let same : past_of (h ++ Opened handle mask ∷ []) ≡ Opened handle mask ∷ past_of h =
        past_of-more h (Opened handle mask) in
        let e : Entry N = Scheduled s.scheduled handle (s.moment + delay) every in
        let whole : (h ++ Opened handle mask ∷ []) ++ e ∷ [] ≡ h ++ (Opened handle mask ∷ e ∷ []) =
        append_assoc h (Opened handle mask ∷ []) (e ∷ []) in
        let last : past_of ((h ++ Opened handle mask ∷ []) ++ e ∷ [])
        ≡ e ∷ (Opened handle mask ∷ past_of h) =
        past_of-more (h ++ Opened handle mask ∷ []) e ∙ ap (λ ps. e ∷ ps) same in
        let tracks : Tracks m t new F ((h ++ Opened handle mask ∷ []) ++ e ∷ []) None [] =
        subst (λ ps. Tracks m t new F ((h ++ Opened handle mask ∷ [])
        ++ Scheduled (summary ps).scheduled handle ((summary ps).moment + delay) every ∷ []) None
        []) same k in
        let owes : owed (step {N = N} s (Opened handle mask)) ≡ owed s + 2 =
        owed_opened N s handle mask in
        let r = st.room in
        subst (λ hs. Stands m t new F hs) whole (record {
          tracks = tracks;
          settled = subst (λ ps. IsSettled (summary ps)) (sym last)
              (settled_scheduled N (step {N = N} s (Opened handle mask)) s.scheduled
              (s.moment + delay) every handle (omega (arith, some))
              (settled_opened N s handle mask p.running st.settled));
          room = subst (λ ps. HasRoom m 0 no_places new (summary ps)) (sym last) (record {
            journal = omega (arith, r.journal, owes, d.journal, journal);
            numbers = omega (arith, r.numbers, owes);
            state = weak new.state (places_for (length s.opens) no_places)
                (record (places_for (length s.opens) act_places) {
                  handles = length s.opens + 1 - 1;
                  timers = length s.opens + 1 - 1;
                })
                (record {
                  handles = omega arith;
                  timers = omega arith;
                  timeouts = omega arith;
                  events = omega arith;
                  opens = omega arith;
                })
                (places (record (places_for (length s.opens) act_places) {
                  handles = length s.opens + 1 - 1;
                }) (d.places (places_for (length s.opens) act_places)
                r.state));
            repository = let q = ap (λ x. x.spare) repo in omega (arith, r.repository, d.seats, q);
            net = let q = ap (λ x. (m.facts x).spare) net in omega (arith, r.net, d.net, q);
          });
        })

-- the end was not taken: the room is as it was
pub back_with_room : {H M Q W V N E : Type 0} (m : Meaning H M Q W V N E) (t : Terms)
    (old new : Core H M Q W V N E) (F : ℕ) (h : List (Entry N)) (handler : H)
    → StandsWithRoom m 4 act_places t old F h → ComesBack m t F h handler old new
    → StandsWithRoom m 4 act_places t new F h
back_with_room m t old new F h handler st b =
    let r = st.room in
    record {
      tracks = b.tracks;
      settled = st.settled;
      room = record {
        journal = let q = ap (λ x. x.spare) b.journal in omega (arith, r.journal, q);
        numbers = r.numbers;
        state = subst (λ x. m.places (places_for (length (summary (past_of h)).opens) act_places) x)
            (sym b.state) r.state;
        repository = let q = ap (λ x. x.spare) b.repo in omega (arith, r.repository, q);
        net = omega (arith, r.net, b.fails.same.spare);
      };
    }

pub plain_of : {H M Q W V N E : Type 0} (m : Meaning H M Q W V N E) (weak : Weakens m) (entries : ℕ)
    (more : Places) (t : Terms) (core : Core H M Q W V N E) (F : ℕ) (h : List (Entry N))
    → StandsWithRoom m entries more t core F h → Stands m t core F h
plain_of m weak entries more t core F h st =
    let r = st.room in
    record {
      tracks = st.tracks;
      settled = st.settled;
      room = record {
        journal = omega (arith, r.journal);
        numbers = omega (arith, r.numbers);
        state = weak core.state (places_for (length (summary (past_of h)).opens) no_places)
            (places_for (length (summary (past_of h)).opens) more)
            (record {
              handles = omega arith;
              timers = omega arith;
              timeouts = omega arith;
              events = omega arith;
              opens = omega arith;
            }) r.state;
        repository = omega (arith, r.repository);
        net = omega (arith, r.net);
      };
    }

pub stands_at : {H M Q W V N E : Type 0} (m : Meaning H M Q W V N E) (t : Terms)
    (new : Core H M Q W V N E) (F : ℕ) (h : List (Entry N)) (handle : Handle) (mask : Mask)
    (timer is : Option (ℕ × ℕ)) → timer ≡ is
    → Stands m t new F (h ++ registered (summary (past_of h)) handle mask is)
    → Stands m t new F (h ++ registered (summary (past_of h)) handle mask timer)
stands_at m t new F h handle mask timer is q st =
    subst (λ tm. Stands m t new F (h ++ registered (summary (past_of h)) handle mask tm)) (sym q) st

pub room_of : {H M Q W V N E : Type 0} (m : Meaning H M Q W V N E) (entries : ℕ) (more : Places)
    (t : Terms) (core : Core H M Q W V N E) (F : ℕ) (h : List (Entry N)) → Stands m t core F h
    → HasRoom m entries more core (summary (past_of h)) → StandsWithRoom m entries more t core F h
room_of m entries more t core F h st r =
    record { tracks = st.tracks; settled = st.settled; room = r }

pub back_plain : {H M Q W V N E : Type 0} (m : Meaning H M Q W V N E) (weak : Weakens m) (t : Terms)
    (new : Core H M Q W V N E) (F : ℕ) (h : List (Entry N)) (back : H)
    → StandsWithRoom m 4 act_places t new F h → IsOffered m.means t (past_of h) back
    → GivesBack m t F h back new
back_plain m weak t new F h back st offered =
    record { stands = plain_of m weak 4 act_places t new F h st; offered = offered }

-- what the test for a place says
pub place_by : {N : Type 0} (most : ℕ) (past : List (Entry N)) (core_most live_now opened_now : ℕ)
    → core_most ≡ most → live_now ≡ live (summary past) → opened_now ≡ (summary past).opened
    → (summary past).ended ≡ false
    → (nat_lt live_now core_most && nat_lt opened_now 4294967295) ≡ true
    → HasPlaceFor most (summary past)
place_by most past core_most live_now opened_now m l o running h =
    let p : (nat_lt live_now core_most ≡ true) × (nat_lt opened_now 4294967295 ≡ true) =
    and_parts (nat_lt live_now core_most) (nat_lt opened_now 4294967295) h in
    record {
      running = running;
      live = let lt : live_now < core_most = ltb-true live_now core_most p.0 in
          omega (arith, lt, m, l);
      opened = let lt : opened_now < 4294967295 = ltb-true opened_now 4294967295 p.1 in
          omega (arith, lt, o);
    }

pub full_now : {N : Type 0} (most : ℕ) (past : List (Entry N)) (core_most live_now opened_now : ℕ)
    → is_legal most past ≡ true → (summary past).opened ≤ 4294967295 → core_most ≡ most
    → live_now ≡ live (summary past) → opened_now ≡ (summary past).opened
    → (nat_lt live_now core_most && nat_lt opened_now 4294967295) ≡ false
    → IsFull most (summary past)
full_now most past core_most live_now opened_now legal few m l o h =
    full_by most past legal few (⊎_elim
    (λ (k : nat_lt live_now core_most ≡ false). let le : core_most ≤ live_now =
    ltb-false live_now core_most k in inl (omega (arith, le, m, l)))
    (λ (k : nat_lt opened_now 4294967295 ≡ false). let le : 4294967295 ≤ opened_now =
    ltb-false opened_now 4294967295 k in inr (omega (arith, le, o)))
    (and_cases (nat_lt live_now core_most) (nat_lt opened_now 4294967295) h))

pub rose_from : (old mid new : ℕ) → mid ≡ old → Rose mid new → Rose old new
rose_from old mid new q r = subst (λ (n : ℕ). Rose n new) q r

-- both, by what the test found
pub can_by : {N : Type 0} (most : ℕ) (past : List (Entry N)) (core_most live_now opened_now : ℕ)
    → is_legal most past ≡ true → (summary past).opened ≤ 4294967295 → core_most ≡ most
    → live_now ≡ live (summary past) → opened_now ≡ (summary past).opened
    → (summary past).ended ≡ false → (found : Bool)
    → found ≡ (nat_lt live_now core_most && nat_lt opened_now 4294967295)
    → CanInstall most (summary past) found
can_by most past core_most live_now opened_now legal few m l o running true q =
    place_by most past core_most live_now opened_now m l o running (sym q)
can_by most past core_most live_now opened_now legal few m l o running false q =
    inr (full_now most past core_most live_now opened_now legal few m l o (sym q))
