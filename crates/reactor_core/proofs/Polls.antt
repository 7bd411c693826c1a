-- What `poll` leaves.
use Rattle.std.proofs.Common.{ℕ, ◌≡◌, ◌≤◌, ◌+◌, ◌-◌, false, List, [], ◌∷◌, ◌++◌, map, length, refl}
use Rattle.std.proofs.Common.{sym, ap, ◌∙◌, subst, arith, Option, Some, None, option_map}
use Rattle.std.proofs.Common.{append_assoc}
use Rattle.std.specs.List.{filter}
use Rattle.ev_base.specs.Terms.{Terms}
use Rattle.ev_base.specs.Counts.{Rose}
use Rattle.ev_base.specs.Net.{NetFacts, NetWaits, Reserves}
use Rattle.ev_base.specs.declared.net.Waited.{Waited}
use Rattle.ev_base.specs.declared.net.Waited.TheVariants.{Reports, Quiet, Over, Failed}
use Rattle.reactor_model.specs.reactor_journal.specs.declared.entry.Entry.{Entry}
use Rattle.reactor_model.specs.reactor_journal.specs.declared.entry.Entry.TheVariants as entry
use Rattle.reactor_model.specs.reactor_journal.specs.Past.{past_of}
use Rattle.reactor_model.specs.reactor_journal.proofs.Turning.{past_of-more}
use Rattle.reactor_summary.specs.declared.parts.ArmedTimer.{ArmedTimer}
use Rattle.reactor_summary.specs.Summary.{Summary, summary}
use Rattle.reactor_state.specs.Tables as Q
use Rattle.reactor_core.specs.Calls.{time_left, least_limit, is_taken, IsAskedFor}
use Rattle.reactor_core.specs.Stands.{Meaning, HasRoom, Stands, Keeps}
use Rattle.reactor_core.specs.Polling.{FitsLimit, name_of, AreDue, due_of, ready_of, WaitsOnce}
use Rattle.reactor_core.specs.Polling.{Polls}
use Rattle.reactor_core.specs.Taking.{moment_of, count_of, event_places, IsTakingDues, TakesDues}
use Rattle.reactor_core.specs.Taking.{IsTakingReports, MayWait, WaitGives}
use Rattle.reactor_core.specs.declared.reactor.Core.{Core}
use Rattle.reactor_core.specs.declared.polling.Polled.{Polled}
use Rattle.reactor_core.proofs.Kept.{stands_kept}
use Rattle.reactor_core.proofs.PollWait.{IsAnswered, answered}

-- ---- the limit of the wait

asked_by : (limit : Option (Option ℕ)) (most asked : Option ℕ) (s : Summary)
    → ((l : Option ℕ) → limit ≡ Some l → most ≡ l) → asked ≡ least_limit most (time_left s)
    → IsAskedFor limit s asked
asked_by None most asked s f q = tt
asked_by (Some l) most asked s f q = q ∙ ap (λ k. least_limit k (time_left s)) (f l refl)

-- the limit that the body computes
pub limit_is : (s : Summary) (most left : Option ℕ)
    → left ≡ option_map (λ (d : ℕ). d - s.moment) (Q.first_armed_deadline s.armed)
    → least_limit most left ≡ least_limit most (time_left s)
limit_is s most left l = ap (λ k. least_limit most k) l

-- the wait may be made
pub may_wait : {H M Q W V N E : Type 0} (m : Meaning H M Q W V N E) (t : Terms)
    (old new : Core H M Q W V N E) (F : ℕ) (h : List (Entry N)) (armed : ℕ) (most asked : Option ℕ)
    → Keeps m old new → (summary (past_of h)).ended ≡ false
    → armed ≡ length (summary (past_of h)).armed
    → asked ≡ least_limit most (time_left (summary (past_of h))) → FitsLimit t most
    → HasRoom m (armed + 257) (event_places armed 256) new (summary (past_of h))
    → Stands m t old F h → MayWait m armed asked t new F h
may_wait m t old new F h armed most asked k going count limit fits room o = record {
  stands = stands_kept m t old new F h k o;
  going = going;
  asked_for = asked_by t.limit most asked (summary (past_of h)) fits limit;
  few = omega (arith, count);
  room = room;
}

-- ---- the answer

named_moment : (answer : Waited) (polled : Polled) → name_of answer ≡ Some polled → (now : ℕ)
    × (moment_of answer ≡ Some now)
named_moment (Reports now count) polled q = (now, refl)
named_moment (Quiet now) polled q = (now, refl)
named_moment (Over now) polled q = (now, refl)
named_moment Failed polled q = cc

pub named_none : (answer : Waited) → name_of answer ≡ None → moment_of answer ≡ None
named_none (Reports now count) q = cc
named_none (Quiet now) q = cc
named_none (Over now) q = cc
named_none Failed q = refl

-- the wait was answered, and timers may come due
pub record IsWaited {H M Q W V N E : Type 0} (m : Meaning H M Q W V N E) (t : Terms) (F : ℕ)
    (h : List (Entry N)) (armed : ℕ) (asked : Option ℕ) (answer : Waited) (old : NetFacts E)
    (new : Core H M Q W V N E) : Type 0 where
  pub now : ℕ
  pub answers : IsAnswered old asked answer now (m.facts new.net)
  pub taking : IsTakingDues m (summary (past_of h)) armed 256 t new F (h ++ entry.Polled now ∷ [])
      (filter (is_taken (summary (past_of h))) (m.facts new.net).reports)

pub is_waited : {H M Q W V N E : Type 0} (m : Meaning H M Q W V N E) (t : Terms) (F : ℕ)
    (h : List (Entry N)) (armed : ℕ) (asked : Option ℕ) (answer : Waited) (polled : Polled)
    (old : NetFacts E) (new : Core H M Q W V N E)
    → name_of answer ≡ Some polled → NetWaits old asked answer (m.facts new.net)
    → WaitGives m armed t F h (moment_of answer) new
    → IsWaited m t F h armed asked answer old new
is_waited m t F h armed asked answer polled old new q w k =
    let at = named_moment answer polled q in
    record {
      now = at.0;
      answers = answered old (m.facts new.net) asked answer at.0 at.1 w;
      taking = subst (λ now. WaitGives m armed t F h now new) at.1 k;
    }

-- the wait failed
pub rose_reserved : {E : Type 0} (old reserved new : NetFacts E) → Reserves old reserved
    → Rose reserved.failed_waits new.failed_waits → Rose old.failed_waits new.failed_waits
rose_reserved old reserved new r rose =
    subst (λ (k : ℕ). Rose k new.failed_waits) r.failed_waits rose

-- ---- reports may be taken

pub may_take_reports : {H M Q W V N E : Type 0} (m : Meaning H M Q W V N E) (t : Terms) (F : ℕ)
    (s : Summary) (h : List (Entry N)) (waited new : Core H M Q W V N E)
    → new.net ≡ waited.net → (k : TakesDues m s 256 t new F h
    (filter (is_taken s) (m.facts waited.net).reports))
    → IsTakingReports m s 256 t new F (h ++ map due_of k.timers)
    (filter (is_taken s) (m.facts new.net).reports)
may_take_reports m t F s h waited new same k =
    subst (λ net. IsTakingReports m s 256 t new F (h ++ map due_of k.timers)
    (filter (is_taken s) (m.facts net).reports)) (sym same) k.taking

pub record CountsReports {E : Type 0} (count : ℕ) (net : NetFacts E) : Type 0 where
  pub all : count ≡ length net.reports
  pub few : count ≤ 256

pub counts_reports : {M E : Type 0} (facts : M → NetFacts E) (old : NetFacts E) (waited new : M)
    (asked : Option ℕ) (answer : Waited) (now count : ℕ) → new ≡ waited → count ≡ count_of answer
    → IsAnswered old asked answer now (facts waited) → CountsReports count (facts new)
counts_reports facts old waited new asked answer now count same q a =
    subst (λ net. CountsReports count (facts net)) (sym same) (record {
      all = q ∙ a.count;
      few = let few = a.answers.few in let all = q ∙ a.count in omega (arith, few, all);
    })

-- ---- all of it

pub waits_once : {H M Q W V N E : Type 0} (m : Meaning H M Q W V N E) (t : Terms) (F : ℕ)
    (h : List (Entry N)) (armed : ℕ) (asked : Option ℕ) (answer : Waited) (polled : Polled)
    (old waited dued new : Core H M Q W V N E)
    → name_of answer ≡ Some polled → NetWaits (m.facts old.net) asked answer (m.facts waited.net)
    → (w : IsWaited m t F h armed asked answer (m.facts old.net) waited)
    → (k : TakesDues m (summary (past_of h)) 256 t dued F (h ++ entry.Polled w.now ∷ [])
    (filter (is_taken (summary (past_of h))) (m.facts waited.net).reports))
    → dued.net ≡ waited.net → new.net ≡ dued.net
    → Stands m t new F (((h ++ entry.Polled w.now ∷ []) ++ map due_of k.timers)
    ++ map ready_of (filter (is_taken (summary (past_of h))) (m.facts dued.net).reports))
    → WaitsOnce m t F h asked polled (m.facts old.net) new
waits_once {N = N} m t F h armed asked answer polled old waited dued new named waits w k same_dued
    same_new o =
    let s : Summary = summary (past_of h) in
    let e : Entry N = entry.Polled w.now in
    let dues : List (Entry N) = map due_of k.timers in
    let readies : List (Entry N) = map ready_of (filter (is_taken s) (m.facts new.net).reports) in
    let all : ((h ++ e ∷ []) ++ dues) ++ map ready_of
    (filter (is_taken s) (m.facts dued.net).reports) ≡ h ++ e ∷ (dues ++ readies) =
    ap (λ net. ((h ++ e ∷ []) ++ dues) ++ map ready_of (filter (is_taken s) (m.facts net).reports))
    (sym same_new)
    ∙ (append_assoc (h ++ e ∷ []) dues readies ∙ append_assoc h (e ∷ []) (dues ++ readies)) in
    record {
      answer = answer;
      now = w.now;
      timers = k.timers;
      waits = subst (λ net. NetWaits (m.facts old.net) asked answer (m.facts net))
          (sym (same_new ∙ same_dued)) waits;
      named = named;
      moment = w.answers.moment;
      due = subst (λ ps. AreDue (summary ps) k.timers) (past_of-more h e) k.due;
      stands = subst (λ es. Stands m t new F es) all o;
    }

-- a wait after the making of room is a poll
pub polls : {H M Q W V N E : Type 0} (m : Meaning H M Q W V N E) (t : Terms) (F : ℕ)
    (h : List (Entry N)) (most asked : Option ℕ) (polled : Polled)
    (old mid new : Core H M Q W V N E)
    → Keeps m old mid → asked ≡ least_limit most (time_left (summary (past_of h)))
    → WaitsOnce m t F h asked polled (m.facts mid.net) new → Polls m t F h most polled old new
polls m t F h most asked polled old mid new kept limit w =
    record {
      net = m.facts mid.net;
      reserves = kept.net;
      waits = subst (λ asked. WaitsOnce m t F h asked polled (m.facts mid.net) new) limit w;
    }
