-- What a wait leaves.
use Rattle.std.proofs.Common.{ℕ, ◌≡◌, ◌≤◌, ◌<◌, ◌+◌, ◌^◌, true, false, not, ◌||◌, List, [], ◌∷◌}
use Rattle.std.proofs.Common.{◌++◌, length, refl, sym, ap, subst, arith, Option, Some, None}
use Rattle.std.proofs.lemmas.Bool.{and_from, le-leb}
use Rattle.std.specs.List.{filter}
use Rattle.std.specs.Prelude.{nat_le}
use Rattle.ev_base.specs.Terms.{Terms}
use Rattle.ev_base.specs.Net.{NetFacts, NetWaits, AnswersWait, FailsToWait}
use Rattle.ev_base.specs.declared.net.Report.{Report}
use Rattle.ev_base.specs.declared.net.Waited.{Waited}
use Rattle.ev_base.specs.declared.net.Waited.TheVariants.{Reports, Quiet, Over, Failed}
use Rattle.reactor_model.specs.reactor_journal.specs.declared.entry.Entry.{Entry}
use Rattle.reactor_model.specs.reactor_journal.specs.declared.entry.Entry.TheVariants.{Polled}
use Rattle.reactor_model.specs.reactor_journal.specs.Past.{past_of, count}
use Rattle.reactor_model.specs.reactor_journal.specs.Follow.{may_follow, follows_due, follows_ready}
use Rattle.reactor_model.specs.reactor_journal.proofs.Turning.{past_of-more}
use Rattle.reactor_summary.specs.Rules as R
use Rattle.reactor_summary.specs.Summary.{Summary, summary, step, some_wait}
use Rattle.reactor_state.specs.State.{HasNumber, owed}
use Rattle.reactor_state.specs.declared.places.Places.{Places}
use Rattle.reactor_core.specs.Handlers.{RepositoryStands}
use Rattle.reactor_core.specs.Calls.{is_taken}
use Rattle.reactor_model.specs.Entries.{IsAnsweredAt}
use Rattle.reactor_core.specs.Stands.{Meaning, Tracks, NetStands, HasRoom, Stands, StandsAsBefore}
use Rattle.reactor_core.specs.Stands.{places_for}
use Rattle.reactor_core.specs.Taking.{moment_of, count_of, event_places, MayWait, WaitGives}
use Rattle.reactor_core.specs.declared.reactor.Core.{Core}
use Rattle.reactor_core.proofs.Seats.{seats_quiet}
use Rattle.reactor_core.proofs.Ends.{net_kept, net_polled}
use Rattle.reactor_core.proofs.Steps.{may_by, Appends, tracks_by}
use Rattle.reactor_core.proofs.WaitNumbers.{marks_kept}
use Rattle.reactor_core.specs.Marks.{is_polled}
use Rattle.reactor_core.proofs.Opened.{count_le}
use Rattle.reactor_summary.proofs.Told.{told}

-- ---- answers of a wait

-- what a wait with a moment did
pub record IsAnswered {E : Type 0} (old : NetFacts E) (asked : Option ℕ) (answer : Waited) (now : ℕ)
    (new : NetFacts E) : Type 0 where
  pub answers : AnswersWait old asked answer now new
  pub moment : IsAnsweredAt now answer
  pub count : count_of answer ≡ length new.reports

pub answered : {E : Type 0} (old new : NetFacts E) (asked : Option ℕ) (answer : Waited) (now : ℕ)
    → moment_of answer ≡ Some now → NetWaits old asked answer new
    → IsAnswered old asked answer now new
answered old new asked (Reports at count) now q w = let same : at ≡ now = cc in record {
  answers = subst (λ (k : ℕ). AnswersWait old asked (Reports at count) k new) same w.0;
  moment = same;
  count = sym w.1;
}
answered old new asked (Quiet at) now q w = let same : at ≡ now = cc in record {
  answers = subst (λ (k : ℕ). AnswersWait old asked (Quiet at) k new) same w.0;
  moment = same;
  count = sym (ap length w.1);
}
answered old new asked (Over at) now q w = let same : at ≡ now = cc in record {
  answers = subst (λ (k : ℕ). AnswersWait old asked (Over at) k new) same w.0;
  moment = same;
  count = sym (ap length w.1);
}
answered old new asked Failed now q w = cc

pub not_answered : {E : Type 0} (old new : NetFacts E) (asked : Option ℕ) (answer : Waited)
    → moment_of answer ≡ None → NetWaits old asked answer new → FailsToWait old new
not_answered old new asked (Reports at count) q w = cc
not_answered old new asked (Quiet at) q w = cc
not_answered old new asked (Over at) q w = cc
not_answered old new asked Failed q w = w

-- ---- a core whose net alone was changed

-- the wait failed
pub wait_failed : {H M Q W V N E : Type 0} (m : Meaning H M Q W V N E) (t : Terms)
    (old new : Core H M Q W V N E) (F : ℕ) (h : List (Entry N))
    → new ≡ record old { net = new.net } → FailsToWait (m.facts old.net) (m.facts new.net)
    → m.keeps t new.net → Stands m t old F h → Stands m t new F h
wait_failed m t old new F h same f keeps o =
    let k = o.tracks in
    let net : NetStands m.means t (past_of h) [] (m.facts new.net) =
    net_kept m.means t (past_of h) [] (m.facts old.net) (m.facts new.net)
    (omega (arith, f.failed_attaches)) f.same k.net in
    subst (λ core. Stands m t core F h) (sym same) (record {
      tracks = record {
        most = k.most;
        few = k.few;
        legal = k.legal;
        journal =
            record {
              first = k.journal.first;
              within = k.journal.within;
              entries = k.journal.entries;
            };
        state = k.state;
        repository = k.repository;
        net = net;
        keeps = keeps;
        watch = k.watch;
        volumes = k.volumes;
        marks =
            marks_kept (past_of h) old.marks old.marks (m.facts old.net).calls
            (m.facts new.net).calls
            refl f.same.calls k.marks;
      };
      settled = o.settled;
      room = record {
        journal = o.room.journal;
        numbers = o.room.numbers;
        state = o.room.state;
        repository = o.room.repository;
        net = let spare = f.same.spare in
            omega (arith, o.room.net, spare);
      };
    })

-- ---- room

-- an entry that opens and closes nothing was appended
pub room_less : {H M Q W V N E : Type 0} (m : Meaning H M Q W V N E) (old new : Core H M Q W V N E)
    (s : Summary) (e : Entry N) (left timers events timers' events' : ℕ)
    → owed (step s e) ≡ owed s → length (step s e).opens ≡ length s.opens
    → new.journal.spare + 1 ≡ old.journal.spare → new.repo ≡ old.repo
    → (m.facts old.net).spare ≤ (m.facts new.net).spare
    → m.places (places_for (length s.opens) (event_places timers' events')) new.state
    → HasRoom m (left + 1) (event_places timers events) old s
    → HasRoom m left (event_places timers' events') new (step s e)
room_less m old new s e left timers events timers' events' owes opens journal repo net places r =
    record {
      journal = let k = r.journal in omega (arith, k, owes, journal);
      numbers = let k = r.numbers in omega (arith, k, owes);
      state = subst (λ (n : ℕ). m.places (places_for n (event_places timers' events')) new.state)
          (sym opens) places;
      repository = let k = r.repository in let same = ap (λ x. x.spare) repo in
          omega (arith, k, opens, same);
      net = let k = r.net in omega (arith, k, opens, net);
    }

-- ---- the wait was answered

-- what the body does
pub record WaitsFor {H M Q W V N E : Type 0} (m : Meaning H M Q W V N E)
    (old new : Core H M Q W V N E) (asked : Option ℕ) (answer : Waited) (now : ℕ) : Type 0 where
  pub appends : Appends m old new (Polled now)
  pub spare : new.journal.spare + 1 ≡ old.journal.spare
  pub repo : new.repo ≡ old.repo
  pub net : IsAnswered (m.facts old.net) asked answer now (m.facts new.net)
  pub state : (s : Summary) → m.shows old.state s → HasNumber s × (s.moment ≤ now) × (now ≤ 2 ^ 62)
      → m.shows new.state (step {N = N} s (Polled now))
  pub places : (p : Places) → m.places p old.state → m.places p new.state
  pub keeps : (t : Terms) → m.keeps t old.net → m.keeps t new.net

-- the state may take the moment
pub may_poll : {H M Q W V N E : Type 0} (m : Meaning H M Q W V N E) (t : Terms)
    (old : Core H M Q W V N E) (F : ℕ) (h : List (Entry N)) (armed : ℕ) (asked : Option ℕ)
    (answer : Waited) (now : ℕ) (new : NetFacts E)
    → IsAnswered (m.facts old.net) asked answer now new → MayWait m armed asked t old F h
    → HasNumber (summary (past_of h)) × ((summary (past_of h)).moment ≤ now) × (now ≤ 2 ^ 62)
may_poll m t old F h armed asked answer now new a o =
    let moment = o.stands.tracks.net.moment in
    let later = a.answers.later in
    let r = o.room.numbers in
    (omega (arith, r), omega (arith, moment, later), a.answers.bounded)

pub waited : {H M Q W V N E : Type 0} (m : Meaning H M Q W V N E) (t : Terms)
    (old new : Core H M Q W V N E) (F : ℕ) (h : List (Entry N)) (armed : ℕ) (asked : Option ℕ)
    (answer : Waited) (now : ℕ)
    → WaitsFor m old new asked answer now → MayWait m armed asked t old F h
    → WaitGives m armed t F h (Some now) new
waited {N = N} m t old new F h armed asked answer now d o =
    let past : List (Entry N) = past_of h in
    let s : Summary = summary past in
    let e : Entry N = Polled now in
    let may = may_poll m t old F h armed asked answer now (m.facts new.net) d.net o in
    let fits : R.may_follow {N = N} t.most (follows_due past) (follows_ready past) s e ≡ true =
    and_from (false || not s.ended) _ (ap not o.going)
    (and_from (nat_le s.moment now) _ (le-leb s.moment now may.1)
    (ap not o.stands.settled.none_waits)) in
    let follows : may_follow t.most past e ≡ true =
    may_by t.most h e (follows_due past) (follows_ready past) o.stands.tracks.legal refl refl
    fits in
    let pending : List Report = filter (is_taken s) (m.facts new.net).reports in
    let tracks : Tracks m t new F (h ++ e ∷ []) None pending =
    tracks_by m t old new F h e None None [] pending o.stands.tracks d.appends follows
    (d.state s o.stands.tracks.state may)
    (subst (λ repo. RepositoryStands m.means t (e ∷ past) None repo.entries) (sym d.repo)
    (seats_quiet m.means t e past None old.repo.entries refl o.stands.tracks.repository))
    (net_polled m.means t past asked answer now (m.facts old.net) (m.facts new.net) d.net.answers
    d.net.moment o.asked_for o.stands.tracks.net)
    (d.keeps t o.stands.tracks.keeps) in
    let same : past_of (h ++ e ∷ []) ≡ e ∷ past = past_of-more h e in
    let room : HasRoom m (armed + 256) (event_places armed 256) new (summary (e ∷ past)) =
    room_less m old new s e (armed + 256) armed 256 armed 256 refl refl d.spare d.repo
    d.net.answers.spare (d.places _ o.room.state)
    (subst (λ (n : ℕ). HasRoom m n (event_places armed 256) old s) (omega arith) o.room) in
    record {
      taking = record {
        tracks = tracks;
        none_waits = subst (λ ps. some_wait (summary ps) ≡ false) (sym same)
            o.stands.settled.none_waits;
        going = subst (λ ps. (summary ps).ended ≡ false) (sym same) o.going;
        handles = subst (λ ps. (summary ps).handles ≡ s.handles) (sym same) refl;
        room = subst (λ ps. HasRoom m (armed + 256) (event_places armed 256) new (summary ps))
            (sym same) room;
      };
      follows = ap follows_due same;
      few = subst (λ ps. length (summary ps).armed ≤ armed) (sym same) o.few;
    }

-- there are few enough waits that one more may be counted
pub may_mark : {H M Q W V N E : Type 0} (m : Meaning H M Q W V N E) (t : Terms)
    (core : Core H M Q W V N E) (F : ℕ) (h : List (Entry N)) (armed : ℕ) (asked : Option ℕ)
    → MayWait m armed asked t core F h → core.marks.made < 2 ^ 62
may_mark {N = N} m t core F h armed asked o =
    let past : List (Entry N) = past_of h in
    let tracks = o.stands.tracks in
    let made : core.marks.made ≡ count is_polled past = tracks.marks.made in
    let few : count is_polled past ≤ length past = count_le is_polled past in
    let entries : (summary past).entries ≡ length past = (told t.most past tracks.legal).entries in
    let room = o.room.numbers in
    omega (arith, made, few, entries, room)

-- what the wait gives, by its moment
pub wait_gives : {H M Q W V N E : Type 0} (m : Meaning H M Q W V N E) (t : Terms)
    (old new : Core H M Q W V N E) (F : ℕ) (h : List (Entry N)) (armed : ℕ) (asked : Option ℕ)
    (answer : Waited) (now : ℕ) (at : Option ℕ)
    → at ≡ Some now → WaitsFor m old new asked answer now → MayWait m armed asked t old F h
    → WaitGives m armed t F h at new
wait_gives m t old new F h armed asked answer now at q d o =
    subst (λ at. WaitGives m armed t F h at new) (sym q)
    (waited m t old new F h armed asked answer now d o)

-- if it failed, all stands as before
pub failed_keeps : {H M Q W V N E : Type 0} (m : Meaning H M Q W V N E)
    (old new : Core H M Q W V N E) (asked : Option ℕ) (answer : Waited)
    → moment_of answer ≡ None → new ≡ record old { net = new.net }
    → NetWaits (m.facts old.net) asked answer (m.facts new.net)
    → ((t : Terms) → m.keeps t old.net → m.keeps t new.net) → StandsAsBefore m old new
failed_keeps m old new asked answer q same w keeps t F h o =
    wait_failed m t old new F h same (not_answered (m.facts old.net) (m.facts new.net) asked answer
    q w) (keeps t o.tracks.keeps) o

pub some_none : {A : Type 0} {a : A} → ◌≡◌ {A = Option A} (Some a) None → ⊥
some_none q = cc
