-- What a report that is taken leaves.
use Rattle.std.proofs.Common.{ℕ, zero, suc, ◌≡◌, ◌≤◌, ◌<◌, ◌+◌, ◌-◌, ◌==◌, true, false, not, ◌&&◌}
use Rattle.std.proofs.Common.{◌||◌, List, [], ◌∷◌, ◌++◌, map, length, drop, refl, sym, ap, ◌∙◌}
use Rattle.std.proofs.Common.{subst, arith, Option, Some, None, append_assoc, slice_get}
use Rattle.std.proofs.lemmas.Bool.{and_from, both_ways, cond-true, cond-false}
use Rattle.std.proofs.lemmas.List.{append-nil, map-append, drop_all, length-drop}
use Rattle.std.specs.List.{filter, list_any}
use Rattle.reactor_summary.specs.ev_types.specs.declared.upcall.Kind.{Kind}
use Rattle.ev_base.specs.Terms.{Terms}
use Rattle.ev_base.specs.declared.net.Report.{Report}
use Rattle.reactor_model.specs.reactor_journal.specs.declared.entry.Entry.{Entry}
use Rattle.reactor_model.specs.reactor_journal.specs.declared.entry.Entry.TheVariants.{Ready}
use Rattle.reactor_model.specs.reactor_journal.specs.Past.{past_of, has_kind}
use Rattle.reactor_model.specs.reactor_journal.specs.Follow.{may_follow, follows_due, follows_ready}
use Rattle.reactor_model.specs.reactor_journal.proofs.Turning.{past_of-more}
use Rattle.reactor_summary.specs.Rules as R
use Rattle.reactor_summary.specs.declared.parts.LiveHandle.{LiveHandle}
use Rattle.reactor_summary.specs.Summary.{Summary, summary, step, some_wait, is_overdue, is_wanted}
use Rattle.reactor_summary.proofs.Lists.{some_is}
use Rattle.reactor_state.specs.State.{HasNumber, IsFewer, no_places}
use Rattle.reactor_state.specs.declared.places.Places.{Places}
use Rattle.reactor_state.specs.declared.state.ReactorState.{ReactorState}
use Rattle.reactor_core.specs.Handlers.{RepositoryStands}
use Rattle.reactor_core.specs.Calls.{is_taken}
use Rattle.reactor_core.specs.Stands.{Meaning, Tracks, NetStands, HasRoom, Stands, places_for}
use Rattle.reactor_core.specs.Polling.{ready_of}
use Rattle.reactor_core.specs.Taking.{event_places, IsTakingReports, HasTakenReports}
use Rattle.reactor_core.specs.declared.reactor.Core.{Core}
use Rattle.reactor_core.proofs.Seats.{seats_quiet}
use Rattle.reactor_core.proofs.Ends.{net_ready}
use Rattle.reactor_core.proofs.Steps.{may_by, Appends, tracks_by}
use Rattle.reactor_core.proofs.Started.{places_same}
use Rattle.reactor_core.proofs.PollWait.{room_less}

-- what is wanted hangs on the handles alone
wanted_same : (a b : Summary) (x : ℕ) (kind : Kind) → a.handles ≡ b.handles
    → is_wanted a x kind ≡ is_wanted b x kind
wanted_same a b x kind same = ap (λ hs.
    list_any (λ (h : LiveHandle). h.handle.0 == x && (h.alive && has_kind h.mask kind)) hs) same

-- the report at a place begins what is left
pub drop_here : {A : Type 0} (xs : List A) (i : ℕ) (a : A) → slice_get xs i ≡ Some a
    → drop i xs ≡ a ∷ drop (i + 1) xs
drop_here [] i a h = absurd (none h)
  where
    none : {B : Type 0} {b : B} → ◌≡◌ {A = Option B} None (Some b) → ⊥
    none q = cc
drop_here (x ∷ xs) zero a h = ap (λ y. y ∷ xs) (some_is x a h)
drop_here (x ∷ xs) (suc i) a h = let same : suc (i + 1) ≡ suc i + 1 = omega arith in
    drop_here xs i a h ∙ ap (λ (k : ℕ). a ∷ drop k (x ∷ xs)) same

-- what the body does if the report is taken
pub record TakesReport {H M Q W V N E : Type 0} (m : Meaning H M Q W V N E)
    (old new : Core H M Q W V N E) (report : Report) : Type 0 where
  pub appends : Appends m old new (Ready report.handle report.kind)
  pub spare : new.journal.spare + 1 ≡ old.journal.spare
  pub repo : new.repo ≡ old.repo
  pub net : new.net ≡ old.net
  pub state : (s : Summary) → m.shows old.state s → HasNumber s
      → m.shows new.state (step {N = N} s (Ready report.handle report.kind))
  pub places : (p : Places) → m.places p old.state
      → m.places (record p { events = p.events - 1 }) new.state

module _ {H M Q W V N E : Type 0} (m : Meaning H M Q W V N E) (t : Terms)
    (old new : Core H M Q W V N E) (F : ℕ) (s0 : Summary) where
  -- one report was taken
  pub report_taken : (h : List (Entry N)) (left : ℕ) (pending : List Report) (report : Report)
      → TakesReport m old new report → is_wanted (summary (past_of h)) report.handle.0 report.kind
      ≡ true
      → IsTakingReports m s0 (left + 1) t old F h (report ∷ pending)
      → IsTakingReports m s0 left t new F (h ++ Ready report.handle report.kind ∷ []) pending
  report_taken h left pending report d wanted k =
      let past : List (Entry N) = past_of h in
      let s : Summary = summary past in
      let e : Entry N = Ready report.handle report.kind in
      let o : Tracks m t old F h None (report ∷ pending) = k.taking.tracks in
      let r = k.taking.room.numbers in
      let number : HasNumber s = omega (arith, r) in
      let fits : R.may_follow {N = N} t.most (follows_due past) true s e ≡ true =
      and_from (false || not s.ended) _ (ap not k.taking.going)
      (and_from (not (is_overdue s)) _ (ap not k.none_due) wanted) in
      let follows : may_follow t.most past e ≡ true =
      may_by t.most h e (follows_due past) true o.legal refl k.follows fits in
      let tracks : Tracks m t new F (h ++ e ∷ []) None pending =
      tracks_by m t old new F h e None None (report ∷ pending) pending o d.appends follows
      (d.state s o.state number)
      (subst (λ repo. RepositoryStands m.means t (e ∷ past) None repo.entries) (sym d.repo)
      (seats_quiet m.means t e past None old.repo.entries refl o.repository))
      (subst (λ net. NetStands m.means t (e ∷ past) pending (m.facts net)) (sym d.net)
      (net_ready m.means t past report.handle report.kind pending (m.facts old.net) o.net))
      (subst (λ net. m.keeps t net) (sym d.net) o.keeps) in
      let same : past_of (h ++ e ∷ []) ≡ e ∷ past = past_of-more h e in
      let places : m.places (places_for (length s.opens) (event_places 0 left)) new.state =
      subst (λ p. m.places p new.state) (places_same _ _ refl refl refl (omega arith) refl)
      (d.places (places_for (length s.opens) (event_places 0 (left + 1))) k.taking.room.state)
      in
      let spare : (m.facts old.net).spare ≤ (m.facts new.net).spare = let e =
      ap (λ net. (m.facts net).spare) d.net in omega (arith, e) in
      let room : HasRoom m (0 + left) (event_places 0 left) new (summary (e ∷ past)) =
      room_less m old new s e (0 + left) 0 (left + 1) 0 left refl refl d.spare d.repo spare places
      (subst (λ (n : ℕ). HasRoom m n (event_places 0 (left + 1)) old s) (omega arith) k.taking.room)
      in
      record {
        taking = record {
          tracks = tracks;
          none_waits = subst (λ ps. some_wait (summary ps) ≡ false) (sym same) k.taking.none_waits;
          going = subst (λ ps. (summary ps).ended ≡ false) (sym same) k.taking.going;
          handles = subst (λ ps. (summary ps).handles ≡ s0.handles) (sym same) k.taking.handles;
          room = subst (λ ps. HasRoom m (0 + left) (event_places 0 left) new (summary ps))
              (sym same) room;
        };
        follows = ap follows_ready same;
        none_due = subst (λ ps. is_overdue (summary ps) ≡ false) (sym same) k.none_due;
      }

  -- the loop goes on after a report that is taken
  pub report_goes_on : (h : List (Entry N)) (reports : List Report) (at : ℕ) (report : Report)
      → TakesReport m old new report → ((s : Summary) → m.shows old.state s
      → is_wanted s report.handle.0 report.kind ≡ true) → slice_get reports at ≡ Some report
      → HasTakenReports m s0 reports at t old F h → HasTakenReports m s0 reports (at + 1) t new F h
  report_goes_on h reports at report d wanted here k =
      let now : List (Entry N) = h ++ map ready_of k.taken in
      let rest : List Report = drop (at + 1) reports in
      let e : Entry N = Ready report.handle report.kind in
      let first : drop at reports ≡ report ∷ rest = drop_here reports at report here in
      let wants : is_wanted (summary (past_of now)) report.handle.0 report.kind ≡ true =
      wanted (summary (past_of now)) k.taking.taking.tracks.state in
      let takes : is_taken s0 report ≡ true =
      sym (wanted_same (summary (past_of now)) s0 report.handle.0 report.kind
      k.taking.taking.handles) ∙ wants in
      let pending : filter (is_taken s0) (drop at reports) ≡ report ∷ filter (is_taken s0) rest =
      ap (filter (is_taken s0)) first ∙ cond-true (is_taken s0 report) _ _ takes in
      let some : length rest + 1 ≤ k.left = let few = k.few in let long = ap length first in
      omega (arith, few, long) in
      let taking = subst (λ (n : ℕ). IsTakingReports m s0 n t old F now
      (report ∷ filter (is_taken s0) rest)) (one_less k.left (length rest) some)
      (subst (λ rs. IsTakingReports m s0 k.left t old F now rs) pending k.taking) in
      let all : h ++ map ready_of (k.taken ++ report ∷ []) ≡ now ++ e ∷ [] =
      ap (λ es. h ++ es) (map-append ready_of k.taken (report ∷ []))
      ∙ sym (append_assoc h (map ready_of k.taken) (e ∷ [])) in
      record {
        taken = k.taken ++ report ∷ [];
        left = k.left - 1;
        all = k.all ∙ (ap (λ rs. k.taken ++ rs) pending
            ∙ sym (append_assoc k.taken (report ∷ []) (filter (is_taken s0) rest)));
        few = omega (arith, some);
        taking = subst (λ es. IsTakingReports m s0 (k.left - 1) t new F es
            (filter (is_taken s0) rest)) (sym all)
            (report_taken now (k.left - 1) (filter (is_taken s0) rest) report d wants taking);
      }
    where
      one_less : (n k : ℕ) → k + 1 ≤ n → n ≡ (n - 1) + 1
      one_less n k h = omega (arith, h)

-- the loop goes on after a report that is not taken
pub report_passes : {H M Q W V N E : Type 0} (m : Meaning H M Q W V N E) (t : Terms)
    (core : Core H M Q W V N E) (F : ℕ) (s0 : Summary) (h : List (Entry N)) (reports : List Report)
    (at : ℕ) (report : Report)
    → ((s : Summary) → m.shows core.state s → is_wanted s report.handle.0 report.kind ≡ false)
    → slice_get reports at ≡ Some report
    → HasTakenReports m s0 reports at t core F h → HasTakenReports m s0 reports (at + 1) t core F h
report_passes {N = N} m t core F s0 h reports at report unwanted here k =
    let now : List (Entry N) = h ++ map ready_of k.taken in
    let rest : List Report = drop (at + 1) reports in
    let first : drop at reports ≡ report ∷ rest = drop_here reports at report here in
    let wants : is_wanted (summary (past_of now)) report.handle.0 report.kind ≡ false =
    unwanted (summary (past_of now)) k.taking.taking.tracks.state in
    let takes : is_taken s0 report ≡ false =
    sym (wanted_same (summary (past_of now)) s0 report.handle.0 report.kind
    k.taking.taking.handles) ∙ wants in
    let pending : filter (is_taken s0) (drop at reports) ≡ filter (is_taken s0) rest =
    ap (filter (is_taken s0)) first ∙ cond-false (is_taken s0 report) _ _ takes in
    record {
      taken = k.taken;
      left = k.left;
      all = k.all ∙ ap (λ rs. k.taken ++ rs) pending;
      few = let few = k.few in let long = ap length first in omega (arith, few, long);
      taking = subst (λ rs. IsTakingReports m s0 k.left t core F now rs) pending k.taking;
    }

-- none was taken yet
pub reports_begin : {H M Q W V N E : Type 0} (m : Meaning H M Q W V N E) (t : Terms)
    (core : Core H M Q W V N E) (F : ℕ) (s0 : Summary) (h : List (Entry N)) (reports : List Report)
    (left : ℕ)
    → length reports ≤ left → IsTakingReports m s0 left t core F h (filter (is_taken s0) reports)
    → HasTakenReports m s0 reports 0 t core F h
reports_begin m t core F s0 h reports left few k = record {
  taken = [];
  left = left;
  all = refl;
  few = few;
  taking = subst (λ es. IsTakingReports m s0 left t core F es (filter (is_taken s0) reports))
      (sym (append-nil h)) k;
}

-- all were taken
pub reports_end : {H M Q W V N E : Type 0} (m : Meaning H M Q W V N E) (t : Terms)
    (core : Core H M Q W V N E) (F : ℕ) (s0 : Summary) (h : List (Entry N)) (reports : List Report)
    (at : ℕ)
    → ((state : ReactorState Q) (few many : Places) → IsFewer few many → m.places many state
    → m.places few state) → length reports ≤ at → HasTakenReports m s0 reports at t core F h
    → Stands m t core F (h ++ map ready_of (filter (is_taken s0) reports))
reports_end {N = N} m t core F s0 h reports at fewer le k =
    let now : List (Entry N) = h ++ map ready_of k.taken in
    let none : filter (is_taken s0) (drop at reports) ≡ [] =
    ap (filter (is_taken s0)) (drop_all at reports le) in
    let all : filter (is_taken s0) reports ≡ k.taken =
    k.all ∙ (ap (λ rs. k.taken ++ rs) none ∙ append-nil k.taken) in
    let taking : IsTakingReports m s0 k.left t core F now [] =
    subst (λ rs. IsTakingReports m s0 k.left t core F now rs) none k.taking in
    let room = taking.taking.room in
    let s : Summary = summary (past_of now) in
    subst (λ rs. Stands m t core F (h ++ map ready_of rs)) (sym all) (record {
      tracks = taking.taking.tracks;
      settled = record {
        none_waits = taking.taking.none_waits;
        none_due = taking.none_due;
        none_alive = λ q. absurd (both_ways s.ended taking.taking.going q);
      };
      room = record {
        journal = let r = room.journal in omega (arith, r);
        numbers = let r = room.numbers in omega (arith, r);
        state = fewer core.state _ _ (record {
          handles = omega arith;
          timers = omega arith;
          timeouts = omega arith;
          events = omega arith;
          opens = omega arith;
        })
            room.state;
        repository = room.repository;
        net = room.net;
      };
    })

-- a report that is taken may be
pub record MayTakeReport {H M Q W V N E : Type 0} (m : Meaning H M Q W V N E)
    (core : Core H M Q W V N E) : Type 0 where
  pub can : (s : Summary) × m.shows core.state s × HasNumber s
  pub place : m.places (record no_places { events = 1 }) core.state
  pub spare : 1 ≤ core.journal.spare

pub report_may : {H M Q W V N E : Type 0} (m : Meaning H M Q W V N E) (t : Terms)
    (core : Core H M Q W V N E) (F : ℕ) (s0 : Summary) (h : List (Entry N)) (reports : List Report)
    (at : ℕ)
    → ((state : ReactorState Q) (few many : Places) → IsFewer few many → m.places many state
    → m.places few state) → at < length reports → HasTakenReports m s0 reports at t core F h
    → MayTakeReport m core
report_may m t core F s0 h reports at fewer lt k =
    let now = h ++ map ready_of k.taken in
    let some : 1 ≤ k.left = let few = k.few in let long = length-drop at reports in
    omega (arith, few, long, lt) in
    let r = k.taking.taking.room in
    let numbers = r.numbers in
    let journal = r.journal in
    record {
      can = (summary (past_of now), k.taking.taking.tracks.state, omega (arith, numbers, some));
      place = fewer core.state _ _ (record {
        handles = omega arith;
        timers = omega arith;
        timeouts = omega arith;
        events = omega (arith, some);
        opens = omega arith;
      }) r.state;
      spare = omega (arith, journal, some);
    }

-- a net that is the same has the same reports
pub same_reports : {H M Q W V N E : Type 0} (m : Meaning H M Q W V N E) (t : Terms)
    (core : Core H M Q W V N E) (F : ℕ) (s0 : Summary) (h : List (Entry N)) (a b : M) (at : ℕ)
    → a ≡ b → HasTakenReports m s0 (m.facts a).reports at t core F h
    → HasTakenReports m s0 (m.facts b).reports at t core F h
same_reports m t core F s0 h a b at same k =
    subst (λ net. HasTakenReports m s0 (m.facts net).reports at t core F h) same k
