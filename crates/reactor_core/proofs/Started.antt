-- What `start` leaves.
use Rattle.std.proofs.Common.{ℕ, ◌≡◌, ◌≤◌, ◌+◌, ◌-◌, true, false, List, [], ◌∷◌, ◌++◌, length, refl}
use Rattle.std.proofs.Common.{sym, ap, ◌∙◌, subst, arith, Option, Some, None, length-append}
use Rattle.std.proofs.lemmas.Bool.{and_parts, both_ways}
use Rattle.std.proofs.lemmas.List.{append-nil}
use Rattle.std.specs.List.{list_all, list_any}
use Rattle.reactor_summary.specs.ev_types.specs.declared.upcall.Answer.{Answer}
use Rattle.reactor_summary.specs.ev_types.specs.declared.upcall.Answer.TheVariants.{Keep, Again}
use Rattle.reactor_summary.specs.ev_types.specs.declared.upcall.Answer.TheVariants.{Close}
use Rattle.reactor_summary.specs.ev_types.specs.declared.upcall.Handle.{Handle}
use Rattle.reactor_summary.specs.ev_types.specs.declared.upcall.Upcall.{Upcall}
use Rattle.ev_base.specs.Terms.{Terms}
use Rattle.reactor_model.specs.reactor_journal.specs.Event.{Item}
use Rattle.reactor_model.specs.reactor_journal.specs.declared.entry.Entry.{Entry}
use Rattle.reactor_model.specs.reactor_journal.specs.declared.entry.Entry.TheVariants.{Started}
use Rattle.reactor_model.specs.reactor_journal.specs.Past as P
use Rattle.reactor_model.specs.reactor_journal.specs.Past.{past_of, had, origin_of}
use Rattle.reactor_model.specs.reactor_journal.specs.Follow.{may_follow, is_legal, follows_due}
use Rattle.reactor_model.specs.reactor_journal.specs.Follow.{follows_ready}
use Rattle.reactor_model.specs.reactor_journal.proofs.Turning.{past_of-more}
use Rattle.reactor_summary.specs.declared.parts.LiveHandle.{LiveHandle}
use Rattle.reactor_summary.specs.declared.parts.OpenEvent.{OpenEvent}
use Rattle.reactor_summary.specs.declared.parts.WaitingEvent.{WaitingEvent}
use Rattle.reactor_summary.specs.Summary as S
use Rattle.reactor_summary.specs.Summary.{Summary, summary, step, pick, is_alive}
use Rattle.reactor_summary.proofs.Told.{told}
use Rattle.reactor_summary.proofs.Lists.{some_is}
use Rattle.reactor_summary.proofs.Reading.{alive_is}
use Rattle.laws_turns.specs.Laws.{stays}
use Rattle.laws_turns.proofs.Turns.{had_stays}
use Rattle.reactor_model.specs.Handling.{Handling, GoesOn, NoClose}
use Rattle.handler_repo.specs.Seats as R
use Rattle.handler_repo.specs.declared.seat.Seat.{Seat}
use Rattle.handler_repo.specs.declared.seat.Seat.TheVariants.{Home, Out}
use Rattle.reactor_state.specs.State.{HasNumber, no_places}
use Rattle.reactor_state.specs.declared.places.Places.{Places}
use Rattle.reactor_core.specs.Handlers.{is_live, IsHome, RepositoryStands, SeatStands}
use Rattle.reactor_core.specs.Stands.{Meaning, Tracks, NetStands, HasRoom, IsSettled, Stands}
use Rattle.reactor_core.specs.Stands.{places_for, upcall_entries, upcall_places}
use Rattle.reactor_core.specs.Upcalls.{JobFits, StartGives}
use Rattle.reactor_core.specs.declared.reactor.Core.{Core}
use Rattle.reactor_core.specs.declared.job.Job.{Job}
use Rattle.reactor_core.proofs.Moves.{seats_taken}
use Rattle.reactor_core.proofs.Dispatch.{seats_started}
use Rattle.reactor_core.proofs.Ends.{net_quiet}
use Rattle.reactor_core.proofs.Steps.{may_by, Appends, tracks_by}
use Rattle.reactor_core.proofs.Start.{PickFacts, pick_facts, may_start, settled_started}
use Rattle.reactor_core.proofs.Start.{open_started, free_is_alive, free_is_live}

pub places_same : (a b : Places) → a.handles ≡ b.handles → a.timers ≡ b.timers
    → a.timeouts ≡ b.timeouts → a.events ≡ b.events → a.opens ≡ b.opens → a ≡ b
places_same a b h t o e p =
    ap (λ (x : ℕ). place x a.timers a.timeouts a.events a.opens) h
    ∙ (ap (λ (x : ℕ). place b.handles x a.timeouts a.events a.opens) t
    ∙ (ap (λ (x : ℕ). place b.handles b.timers x a.events a.opens) o
    ∙ (ap (λ (x : ℕ). place b.handles b.timers b.timeouts x a.opens) e
    ∙ ap (λ (x : ℕ). place b.handles b.timers b.timeouts b.events x) p)))
  where
    place : ℕ → ℕ → ℕ → ℕ → ℕ → Places
    place h t o e p = record { handles = h; timers = t; timeouts = o; events = e; opens = p }

open_same : (a b : OpenEvent) → a.event ≡ b.event → a.handle ≡ b.handle → a.upcall ≡ b.upcall
    → a.moment ≡ b.moment → a ≡ b
open_same a b e h u m =
    ap (λ (x : ℕ). open_of x a.handle a.upcall a.moment) e
    ∙ (ap (λ x. open_of b.event x a.upcall a.moment) h
    ∙ (ap (λ x. open_of b.event b.handle x a.moment) u
    ∙ ap (λ (x : ℕ). open_of b.event b.handle b.upcall x) m))
  where
    open_of : ℕ → Handle → Upcall → ℕ → OpenEvent
    open_of e h u m = record { event = e; handle = h; upcall = u; moment = m }

-- what the body does
pub record Starts {H M Q W V N E : Type 0} (m : Meaning H M Q W V N E)
    (old new : Core H M Q W V N E) (w : WaitingEvent) (handler : H) : Type 0 where
  pub appends : Appends m old new (Started w.event)
  pub spare : new.journal.spare + 1 ≡ old.journal.spare
  pub home : R.seat_of w.handle.0 old.repo.entries ≡ Some (Home handler)
  pub repo : new.repo.entries ≡ R.with_seat w.handle.0 Out old.repo.entries
  pub seats : new.repo.spare ≡ old.repo.spare
  pub state : (s : Summary) → m.shows old.state s → HasNumber s × (pick s ≡ Some w)
      → m.shows new.state (step {N = N} s (Started w.event))
  pub places : (p : Places) → m.places p old.state
      → m.places (record p { timers = p.timers - 1; opens = p.opens - 1 }) new.state
  pub net : new.net ≡ old.net

-- the turns of a handler that is alive
no_close_from : {N : Type 0} (items : List (Item N))
    → list_all (λ (item : Item N). stays item.answer) items ≡ true → NoClose items
no_close_from [] h = tt
no_close_from (item ∷ items) h = (
  goes item.answer (and_parts _ _ h).0,
  no_close_from items (and_parts _ _ h).1,
)
  where
    goes : (a : Answer) → stays a ≡ true → GoesOn a
    goes Keep q = tt
    goes Again q = tt
    goes Close q = cc

pub alive_no_close : {N : Type 0} (most : ℕ) (past : List (Entry N)) (x : ℕ)
    → is_legal most past ≡ true → is_alive (summary past) x ≡ true → NoClose (had past x)
alive_no_close most past x legal a =
    no_close_from (had past x) (had_stays most past x legal
    (sym (alive_is most past (summary past) x legal (told most past legal)) ∙ a))

-- numbers of the summary after the start
pub opens_started : (N : Type 0) (s : Summary) (w : WaitingEvent)
    → S.waiting_event s w.event ≡ Some w
    → length (step {N = N} s (Started w.event)).opens ≡ length s.opens + 1
opens_started N s w found = ap (λ e. length (s.opens ++ S.opens_from s.moment e)) found
    ∙ length-append s.opens (record {
      event = w.event;
      handle = w.handle;
      upcall = w.upcall;
      moment = s.moment;
    } ∷ [])

pub started : {H M Q W V N E : Type 0} (m : Meaning H M Q W V N E) (t : Terms)
    (old new : Core H M Q W V N E) (F : ℕ) (h : List (Entry N)) (w : WaitingEvent) (job : Job H N E)
    → job.event ≡ w.event → job.handle ≡ w.handle → job.upcall ≡ w.upcall
    → ((s : Summary) → m.shows old.state s → job.now ≡ s.moment)
    → Starts m old new w job.handler → pick (summary (past_of h)) ≡ Some w
    → HasRoom m upcall_entries upcall_places old (summary (past_of h)) → Stands m t old F h
    → StartGives m t F h (Some job) new
started {N = N} m t old new F h w job event handle upcall now d q room o =
    let past : List (Entry N) = past_of h in
    let s : Summary = summary past in
    let e : Entry N = Started w.event in
    let p : PickFacts past w = pick_facts t.most past w o.tracks.legal q in
    let number : HasNumber s = omega (arith, room.numbers) in
    let may : may_follow t.most past e ≡ true =
    may_by t.most h e (follows_due past) (follows_ready past) o.tracks.legal refl refl
    (may_start N t.most s w (follows_due past) (follows_ready past) o.settled q p.free) in
    let taken : RepositoryStands m.means t past (Some w.handle.0) new.repo.entries =
    subst (λ entries. RepositoryStands m.means t past (Some w.handle.0) entries) (sym d.repo)
    (seats_taken m.means t past w.handle.0 job.handler old.repo.entries d.home
    o.tracks.repository) in
    let tracks : Tracks m t new F (h ++ e ∷ []) None [] =
    tracks_by m t old new F h e None None [] [] o.tracks d.appends may
    (d.state s o.tracks.state (number, q))
    (seats_started m.means t t.most past w.event w new.repo.entries p.found taken)
    (subst (λ net. NetStands m.means t (e ∷ past) [] (m.facts net)) (sym d.net)
    (net_quiet m.means t e past [] (m.facts old.net) refl o.tracks.net))
    (subst (λ net. m.keeps t net) (sym d.net) o.tracks.keeps)
    in
    let same : past_of (h ++ e ∷ []) ≡ e ∷ past = past_of-more h e in
    let one : length (step {N = N} s (Started w.event)).opens ≡ length s.opens + 1 =
    opens_started N s w p.found in
    let home : IsHome m.means t past w.handle.0 job.handler =
    subst (λ seat. SeatStands m.means t past w.handle.0 seat) d.home
    (o.tracks.repository w.handle.0) in
    let alive : is_alive s w.handle.0 ≡ true = free_is_alive s w.handle.0 p.free in
    let settled : IsSettled (summary (past_of (h ++ e ∷ []))) =
    subst (λ ps. IsSettled (summary ps)) (sym same) (settled_started N s w p.found o.settled) in
    let there : HasRoom m 0 no_places new (summary (e ∷ past)) = record {
      journal = omega (arith, room.journal, d.spare, one);
      numbers = omega (arith, room.numbers, one);
      state = subst (λ p. m.places p new.state)
          (places_same _ _ (omega (arith, one)) (omega (arith, one)) (omega (arith, one))
          (omega (arith, one)) refl) (d.places (places_for (length s.opens) upcall_places)
          room.state);
      repository = omega (arith, room.repository, d.seats, one);
      net = subst (λ net. length (summary (e ∷ past)).opens + 0 ≤ (m.facts net).spare) (sym d.net)
          (omega (arith, room.net, one));
    } in
    let stands : Stands m t new F (h ++ e ∷ []) =
    record {
      tracks = tracks;
      settled = settled;
      room = subst (λ ps. HasRoom m 0 no_places new (summary ps)) (sym same) there;
    } in
    let legal : is_legal t.most (e ∷ past) ≡ true =
    subst (λ ps. is_legal t.most ps ≡ true) same tracks.legal in
    let number_of_job : job.handle.0 ≡ w.handle.0 = ap (λ (x : Handle). x.0) handle in (
      ap (P.is_pick past) event ∙ p.picked,
      subst (λ (k : ℕ). Stands m t new F (h ++ Started k ∷ [])) (sym event) stands,
      subst (λ (k : ℕ). JobFits m.means t (Started k ∷ past) job) (sym event) (record {
        event = ap (S.open_event (summary (e ∷ past))) event
            ∙ (open_started t.most past w legal p
            ∙ ap (λ (o : OpenEvent). Some o) (open_same _ _ (sym event) (sym handle) (sym upcall)
            (sym (now s o.tracks.state))));
        fits = subst (λ (k : ℕ). m.means.fits t (origin_of (e ∷ past) k) job.handler
            (had (e ∷ past) k)) (sym number_of_job)
            (subst (λ items. m.means.fits t (origin_of past w.handle.0) job.handler items)
            (sym (append-nil (had past w.handle.0))) home.fits);
        no_close = subst (λ (k : ℕ). NoClose (had (e ∷ past) k)) (sym number_of_job)
            (subst NoClose (sym (append-nil (had past w.handle.0)))
            (alive_no_close t.most past w.handle.0 o.tracks.legal alive));
      }),
    )

-- the handler of the pick is at home
pub home_at : {H E N : Type 0} (means : Handling H E N) (t : Terms) (past : List (Entry N)) (x : ℕ)
    (entries : List (R.Entry H)) → S.is_free (summary past) x ≡ true
    → RepositoryStands means t past None entries
    → (handler : H) × (R.seat_of x entries ≡ Some (Home handler))
home_at {H} means t past x entries free st = by_seat (R.seat_of x entries) (st x)
  where
    live : (is_live (summary past) x ≡ true) × (S.is_busy (summary past) x ≡ false)
        × (list_any (λ (h : LiveHandle). h.alive) (summary past).handles ≡ true)
    live = free_is_live (summary past) x free

    by_seat : (seat : Option (Seat H)) → SeatStands means t past x seat → (handler : H)
        × (seat ≡ Some (Home handler))
    by_seat None s = absurd (both_ways _ s live.0)
    by_seat (Some Out) s = absurd (both_ways _ live.1 s.busy)
    by_seat (Some (Home handler)) s = (handler, refl)

pub home_found : {H : Type 0} (seat : Option (Seat H)) (handler : H) → R.home_of seat ≡ Some handler
    → seat ≡ Some (Home handler)
home_found None handler q = absurd (none q)
  where
    none : {A : Type 0} {a : A} → ◌≡◌ {A = Option A} None (Some a) → ⊥
    none q = cc
home_found (Some Out) handler q = absurd (none q)
  where
    none : {A : Type 0} {a : A} → ◌≡◌ {A = Option A} None (Some a) → ⊥
    none q = cc
home_found (Some (Home other)) handler q = ap (λ x. Some (Home x)) (some_is other handler q)

-- it is not out
pub not_away : {H : Type 0} {seat : Option (Seat H)} {handler : H} → seat ≡ Some (Home handler)
    → R.home_of seat ≡ None → ⊥
not_away {H} {seat} {handler} at q = none (sym q ∙ ap R.home_of at)
  where
    none : {A : Type 0} {a : A} → ◌≡◌ {A = Option A} None (Some a) → ⊥
    none q = cc
