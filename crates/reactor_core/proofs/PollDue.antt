-- What a timer that comes due leaves.
use Rattle.std.proofs.Common.{ℕ, suc, ◌≡◌, ◌≤◌, ◌<◌, ◌+◌, ◌-◌, ◌==◌, Bool, true, false, not, ◌||◌}
use Rattle.std.proofs.Common.{List, [], ◌∷◌, ◌++◌, map, length, refl, sym, ap, ◌∙◌, subst, arith}
use Rattle.std.proofs.Common.{cond, None, append_assoc}
use Rattle.std.proofs.lemmas.Bool.{and_parts, and_from, false≢true}
use Rattle.std.proofs.lemmas.List.{append-nil, map-append}
use Rattle.std.specs.List.{filter}
use Rattle.ev_base.specs.Terms.{Terms}
use Rattle.ev_base.specs.declared.net.Report.{Report}
use Rattle.reactor_model.specs.reactor_journal.specs.declared.entry.Entry.{Entry}
use Rattle.reactor_model.specs.reactor_journal.specs.declared.entry.Entry.TheVariants.{Polled, Due}
use Rattle.reactor_model.specs.reactor_journal.specs.declared.entry.Entry.TheVariants.{Ready}
use Rattle.reactor_model.specs.reactor_journal.specs.Past.{past_of}
use Rattle.reactor_model.specs.reactor_journal.specs.Follow.{may_follow, follows_due, follows_ready}
use Rattle.reactor_model.specs.reactor_journal.proofs.Turning.{past_of-more}
use Rattle.reactor_summary.specs.Rules as R
use Rattle.reactor_summary.specs.declared.parts.ArmedTimer.{ArmedTimer}
use Rattle.reactor_summary.specs.Summary as S
use Rattle.reactor_summary.specs.Summary.{Summary, summary, step, some_wait, is_first_due}
use Rattle.reactor_summary.specs.Summary.{is_overdue}
use Rattle.reactor_state.specs.State.{HasNumber, IsFewer, no_places}
use Rattle.reactor_state.specs.declared.places.Places.{Places}
use Rattle.reactor_state.specs.declared.state.ReactorState.{ReactorState}
use Rattle.reactor_core.specs.Handlers.{RepositoryStands}
use Rattle.reactor_core.specs.Stands.{Meaning, Tracks, NetStands, HasRoom, places_for}
use Rattle.reactor_core.specs.Polling.{AreDue, due_of}
use Rattle.reactor_core.specs.Taking.{event_places, IsTaking, IsTakingDues, HasTakenDues, TakesDues}
use Rattle.reactor_core.specs.declared.reactor.Core.{Core}
use Rattle.reactor_core.proofs.Seats.{seats_quiet}
use Rattle.reactor_core.proofs.Ends.{net_quiet}
use Rattle.reactor_core.proofs.Steps.{may_by, Appends, tracks_by}
use Rattle.reactor_core.proofs.Started.{places_same}
use Rattle.reactor_core.proofs.PollWait.{room_less}

length-filter_le : {A : Type 0} (p : A → Bool) (xs : List A) → length (filter p xs) ≤ length xs
length-filter_le p [] = omega arith
length-filter_le {A} p (x ∷ xs) = by_cases (p x) (length-filter_le p xs)
  where
    by_cases : (b : Bool) → length (filter p xs) ≤ length xs
        → length (cond b (x ∷ filter p xs) (filter p xs)) ≤ suc (length xs)
    by_cases true h = omega (arith, h)
    by_cases false h = omega (arith, h)

-- the first timer is not armed any more
pub fewer_armed : (moment timer : ℕ) (armed : List ArmedTimer)
    → S.is_first moment timer armed ≡ true → length (S.without_timer timer armed) + 1 ≤ length armed
fewer_armed moment timer [] h = absurd (false≢true h)
fewer_armed moment timer (a ∷ rest) h =
    let p : ((a.timer == timer) ≡ true) × _ = and_parts (a.timer == timer) _ h in
    let less : length (S.without_timer timer rest) ≤ length rest =
    length-filter_le (λ (a : ArmedTimer). not (a.timer == timer)) rest in
    let same : S.without_timer timer (a ∷ rest) ≡ S.without_timer timer rest =
    ap (λ b. cond (not b) (a ∷ S.without_timer timer rest) (S.without_timer timer rest)) p.0 in
    let long = ap length same in
    omega (arith, less, long)

none_armed : (moment : ℕ) (armed : List ArmedTimer) → length armed ≤ 0
    → S.is_reached moment armed ≡ false
none_armed moment [] h = refl
none_armed moment (a ∷ rest) h = absurd (omega (arith, h))

-- what the body of the loop does
pub record TakesDue {H M Q W V N E : Type 0} (m : Meaning H M Q W V N E)
    (old new : Core H M Q W V N E) (timer : ℕ) : Type 0 where
  pub appends : Appends m old new (Due timer)
  pub spare : new.journal.spare + 1 ≡ old.journal.spare
  pub repo : new.repo ≡ old.repo
  pub net : new.net ≡ old.net
  pub first : (s : Summary) → m.shows old.state s → is_first_due s timer ≡ true
  pub state : (s : Summary) → m.shows old.state s → HasNumber s
      → m.shows new.state (step {N = N} s (Due timer))
  pub places : (p : Places) → m.places p old.state
      → m.places (record p { timeouts = p.timeouts - 1 }) new.state

module _ {H M Q W V N E : Type 0} (m : Meaning H M Q W V N E) (t : Terms)
    (old new : Core H M Q W V N E) (F : ℕ) (s0 : Summary) (left events : ℕ) where
  -- one timer came due
  pub due_taken : (h : List (Entry N)) (pending : List Report) (timer : ℕ)
      → TakesDue m old new timer → IsTakingDues m s0 (left + 1) events t old F h pending
      → (is_first_due (summary (past_of h)) timer ≡ true)
      × IsTakingDues m s0 left events t new F (h ++ Due timer ∷ []) pending
  due_taken h pending timer d k =
      let past : List (Entry N) = past_of h in
      let s : Summary = summary past in
      let e : Entry N = Due timer in
      let o : Tracks m t old F h None pending = k.taking.tracks in
      let r = k.taking.room.numbers in
      let number : HasNumber s = omega (arith, r) in
      let first = d.first s o.state in
      let fits : R.may_follow {N = N} t.most true (follows_ready past) s e ≡ true =
      and_from (false || not s.ended) _ (ap not k.taking.going) first in
      let follows : may_follow t.most past e ≡ true =
      may_by t.most h e true (follows_ready past) o.legal k.follows refl fits in
      let tracks : Tracks m t new F (h ++ e ∷ []) None pending =
      tracks_by m t old new F h e None None pending pending o d.appends follows
      (d.state s o.state number)
      (subst (λ repo. RepositoryStands m.means t (e ∷ past) None repo.entries) (sym d.repo)
      (seats_quiet m.means t e past None old.repo.entries refl o.repository))
      (subst (λ net. NetStands m.means t (e ∷ past) pending (m.facts net)) (sym d.net)
      (net_quiet m.means t e past pending (m.facts old.net) refl o.net))
      (subst (λ net. m.keeps t net) (sym d.net) o.keeps) in
      let same : past_of (h ++ e ∷ []) ≡ e ∷ past = past_of-more h e in
      let places : m.places (places_for (length s.opens) (event_places left events)) new.state =
      subst (λ p. m.places p new.state) (places_same _ _ refl refl (omega arith) refl refl)
      (d.places (places_for (length s.opens) (event_places (left + 1) events))
      k.taking.room.state) in
      let spare : (m.facts old.net).spare ≤ (m.facts new.net).spare = let e =
      ap (λ net. (m.facts net).spare) d.net in omega (arith, e) in
      let room : HasRoom m (left + events) (event_places left events) new (summary (e ∷ past)) =
      room_less m old new s e (left + events) (left + 1) events left events refl refl d.spare d.repo
      spare places
      (subst (λ (n : ℕ). HasRoom m n (event_places (left + 1) events) old s) (omega arith)
      k.taking.room) in (
        first,
        record {
          taking = record {
            tracks = tracks;
            none_waits = subst (λ ps. some_wait (summary ps) ≡ false) (sym same)
                k.taking.none_waits;
            going = subst (λ ps. (summary ps).ended ≡ false) (sym same) k.taking.going;
            handles = subst (λ ps. (summary ps).handles ≡ s0.handles) (sym same) k.taking.handles;
            room = subst (λ ps. HasRoom m (left + events) (event_places left events) new
                (summary ps)) (sym same) room;
          };
          follows = ap follows_due same;
          few = subst (λ ps. length (summary ps).armed ≤ left) (sym same) (let fewer =
              fewer_armed s.moment timer s.armed first in let few = k.few in
              omega (arith, fewer, few));
        },
      )

  -- the loop goes on
  pub dues_go_on : (h : List (Entry N)) (pending : List Report) (timer : ℕ)
      → TakesDue m old new timer → HasTakenDues m s0 (left + 1) events t old F h pending
      → HasTakenDues m s0 left events t new F h pending
  dues_go_on h pending timer d k =
      let now : List (Entry N) = h ++ map due_of k.timers in
      let e : Entry N = Due timer in
      let one = due_taken now pending timer d k.taking in
      let all : h ++ map due_of (k.timers ++ timer ∷ []) ≡ now ++ e ∷ [] =
      ap (λ es. h ++ es) (map-append due_of k.timers (timer ∷ []))
      ∙ sym (append_assoc h (map due_of k.timers) (e ∷ [])) in
      let past : past_of (h ++ map due_of (k.timers ++ timer ∷ [])) ≡ e ∷ past_of now =
      ap past_of all ∙ past_of-more now e in
      record {
        timers = k.timers ++ timer ∷ [];
        due = λ rest r. subst (λ ts. AreDue (summary (past_of h)) ts)
            (sym (append_assoc k.timers (timer ∷ []) rest))
            (k.due (timer ∷ rest) (one.0, subst (λ ps. AreDue (summary ps) rest) past r));
        taking = subst (λ es. IsTakingDues m s0 left events t new F es pending) (sym all) one.1;
      }

-- no timer came due yet
pub dues_begin : {H M Q W V N E : Type 0} (m : Meaning H M Q W V N E) (t : Terms)
    (core : Core H M Q W V N E) (F : ℕ) (s0 : Summary) (left events : ℕ) (h : List (Entry N))
    (pending : List Report)
    → IsTakingDues m s0 left events t core F h pending
    → HasTakenDues m s0 left events t core F h pending
dues_begin m t core F s0 left events h pending k = record {
  timers = [];
  due = λ rest r. subst (λ es. AreDue (summary (past_of es)) rest) (append-nil h) r;
  taking = subst (λ es. IsTakingDues m s0 left events t core F es pending) (sym (append-nil h)) k;
}

-- a report may follow if a timer may come due
follows_one : {N : Type 0} (e : Entry N) (past : List (Entry N)) → follows_due (e ∷ past) ≡ true
    → follows_ready (e ∷ past) ≡ true
follows_one (Polled moment) past h = refl
follows_one (Due timer) past h = refl
follows_one (Ready handle kind) past h = refl
follows_one _ past h = absurd (false≢true h)

follows_too : {N : Type 0} (past : List (Entry N)) → follows_due past ≡ true
    → follows_ready past ≡ true
follows_too [] h = absurd (false≢true h)
follows_too (e ∷ past) h = follows_one e past h

-- no deadline is reached any more
pub dues_end : {H M Q W V N E : Type 0} (m : Meaning H M Q W V N E) (t : Terms)
    (core : Core H M Q W V N E) (F : ℕ) (s0 : Summary) (events : ℕ) (h : List (Entry N))
    (pending : List Report)
    → (k : HasTakenDues m s0 0 events t core F h pending)
    → is_overdue (summary (past_of (h ++ map due_of k.timers))) ≡ false
    → TakesDues m s0 events t core F h pending
dues_end m t core F s0 events h pending k none = record {
  timers = k.timers;
  due = subst (λ ts. AreDue (summary (past_of h)) ts) (append-nil k.timers) (k.due [] none);
  taking = record {
    taking = k.taking.taking;
    follows = follows_too (past_of (h ++ map due_of k.timers)) k.taking.follows;
    none_due = none;
  };
}

-- what the body does if no deadline is reached
pub record StopsDue {H M Q W V N E : Type 0} (m : Meaning H M Q W V N E)
    (old new : Core H M Q W V N E) : Type 0 where
  pub same : new ≡ record old { state = new.state }
  pub none : (s : Summary) → m.shows old.state s → is_overdue s ≡ false
  pub state : (s : Summary) → m.shows old.state s → m.shows new.state s
  pub places : (p : Places) → m.places p old.state → m.places p new.state

module _ {H M Q W V N E : Type 0} (m : Meaning H M Q W V N E) (t : Terms)
    (old new : Core H M Q W V N E) (F : ℕ) (s0 : Summary) (left events : ℕ)
    (fewer : (state : ReactorState Q) (few many : Places) → IsFewer few many → m.places many state
    → m.places few state) where
  taking_stops : (h : List (Entry N)) (pending : List Report) → StopsDue m old new
      → IsTaking m s0 (left + 1) events t old F h pending
      → (is_overdue (summary (past_of h)) ≡ false) × IsTaking m s0 0 events t new F h pending
  taking_stops h pending d k =
      let s : Summary = summary (past_of h) in
      let o = k.tracks in
      let r = k.room in
      let numbers = r.numbers in
      let places : m.places (places_for (length s.opens) (event_places 0 events)) new.state =
      fewer new.state _ _ (record {
        handles = omega arith;
        timers = omega arith;
        timeouts = omega arith;
        events = omega arith;
        opens = omega arith;
      })
      (d.places (places_for (length s.opens) (event_places (left + 1) events)) r.state) in (
        d.none s o.state,
        subst (λ core. IsTaking m s0 0 events t core F h pending) (sym d.same) (record {
          tracks = record {
            most = o.most;
            few = o.few;
            legal = o.legal;
            journal =
                record {
                  first = o.journal.first;
                  within = o.journal.within;
                  entries = o.journal.entries;
                };
            state = d.state s o.state;
            repository = o.repository;
            net = o.net;
            keeps = o.keeps;
            watch = o.watch;
            volumes = o.volumes;
            marks = o.marks;
          };
          none_waits = k.none_waits;
          going = k.going;
          handles = k.handles;
          room = record {
            journal = let x = r.journal in omega (arith, x);
            numbers = omega (arith, numbers);
            state = places;
            repository = r.repository;
            net = r.net;
          };
        }),
      )

  -- the loop ends before it took so many
  pub dues_stop : (h : List (Entry N)) (pending : List Report) → StopsDue m old new
      → HasTakenDues m s0 (left + 1) events t old F h pending
      → TakesDues m s0 events t new F h pending
  dues_stop h pending d k =
      let stops = taking_stops (h ++ map due_of k.timers) pending d k.taking.taking in
      record {
        timers = k.timers;
        due = subst (λ ts. AreDue (summary (past_of h)) ts) (append-nil k.timers)
            (k.due [] stops.0);
        taking = record {
          taking = stops.1;
          follows = follows_too (past_of (h ++ map due_of k.timers)) k.taking.follows;
          none_due = stops.0;
        };
      }

-- it took so many
pub dues_all : {H M Q W V N E : Type 0} (m : Meaning H M Q W V N E) (t : Terms)
    (core : Core H M Q W V N E) (F : ℕ) (s0 : Summary) (left events : ℕ) (h : List (Entry N))
    (pending : List Report)
    → left ≡ 0 → HasTakenDues m s0 left events t core F h pending
    → TakesDues m s0 events t core F h pending
dues_all m t core F s0 left events h pending zero k =
    let all : HasTakenDues m s0 0 events t core F h pending =
    subst (λ (n : ℕ). HasTakenDues m s0 n events t core F h pending) zero k in
    let s : Summary = summary (past_of (h ++ map due_of all.timers)) in
    dues_end m t core F s0 events h pending all (none_armed s.moment s.armed all.taking.few)

-- the loop may take one more
pub may_take : {H M Q W V N E : Type 0} (m : Meaning H M Q W V N E) (t : Terms)
    (core : Core H M Q W V N E) (F : ℕ) (s0 : Summary) (left events : ℕ) (h : List (Entry N))
    (pending : List Report) → 0 < left → HasTakenDues m s0 left events t core F h pending
    → HasTakenDues m s0 ((left - 1) + 1) events t core F h pending
may_take m t core F s0 left events h pending some k =
    subst (λ (n : ℕ). HasTakenDues m s0 n events t core F h pending) (omega (arith, some)) k

-- the state may be asked, and there is room for an entry and a timeout
pub record MayTake {H M Q W V N E : Type 0} (m : Meaning H M Q W V N E)
    (core : Core H M Q W V N E) : Type 0 where
  pub can : (s : Summary) × m.shows core.state s × HasNumber s
  pub place : m.places (record no_places { timeouts = 1 }) core.state
  pub spare : 1 ≤ core.journal.spare

pub dues_may : {H M Q W V N E : Type 0} (m : Meaning H M Q W V N E) (t : Terms)
    (core : Core H M Q W V N E) (F : ℕ) (s0 : Summary) (left events : ℕ) (h : List (Entry N))
    (pending : List Report)
    → ((state : ReactorState Q) (few many : Places) → IsFewer few many → m.places many state
    → m.places few state) → 0 < left → HasTakenDues m s0 left events t core F h pending
    → MayTake m core
dues_may m t core F s0 left events h pending fewer some k =
    let now = h ++ map due_of k.timers in
    let r = k.taking.taking.room in
    let numbers = r.numbers in
    let journal = r.journal in
    record {
      can = (summary (past_of now), k.taking.taking.tracks.state, omega (arith, numbers, some));
      place = fewer core.state _ _ (record {
        handles = omega arith;
        timers = omega arith;
        timeouts = omega (arith, some);
        events = omega arith;
        opens = omega arith;
      }) r.state;
      spare = omega (arith, journal, some);
    }
