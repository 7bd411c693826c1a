-- How a history goes on after each call, and after several.
use Rattle.std.proofs.Common.{ℕ, ◌≡◌, ◌≤◌, ◌<◌, ◌+◌, ◌⊎◌, ⊎_elim, inl, inr, Bool, true, false, not}
use Rattle.std.proofs.Common.{List, [], ◌∷◌, ◌++◌, length, refl, sym, ap, ◌∙◌, subst, arith, map}
use Rattle.std.proofs.Common.{Option, Some, None, filter, rules}
use Rattle.std.specs.Prelude.{Result, Ok, Err, IsTrue, IfOk, OnErr, OnOk}
use Rattle.std.proofs.lemmas.List.{append-nil, append_assoc}
use Rattle.ev_base.specs.ev_types.specs.declared.upcall.Handle.{Handle}
use Rattle.ev_base.specs.ev_types.specs.declared.upcall.Kind.{Kind}
use Rattle.ev_base.specs.Terms.{Terms}
use Rattle.timer_queue.specs.declared.timer.Timer.{Timer}
use Rattle.reactor_model.specs.Handling.{Handling}
use Rattle.reactor_model.specs.reactor_journal.specs.declared.entry.Entry.{Entry}
use Rattle.reactor_model.specs.reactor_journal.specs.declared.entry.Entry.TheVariants.{Started}
use Rattle.reactor_model.specs.reactor_journal.specs.declared.entry.Entry.TheVariants.{Ended}
use Rattle.reactor_model.specs.reactor_journal.specs.declared.entry.Entry.TheVariants.{
  Polled as WasPolled,
}
use Rattle.reactor_model.specs.reactor_journal.specs.declared.entry.Entry.TheVariants.{Due}
use Rattle.ev_base.specs.declared.net.Report.{Report}
use Rattle.reactor_model.specs.reactor_journal.specs.Past.{past_of, count}
use Rattle.reactor_core.specs.reactor_summary.specs.Summary.{Summary, step}
use Rattle.reactor_core.specs.Acting.{Settles, StopAppends}
use Rattle.reactor_core.specs.Beginning.{IsShutDown, PartsStand}
use Rattle.reactor_core.specs.HandingOver.{HandsDue, HandsOver, is_due}
use Rattle.reactor_core.specs.Marks.{is_polled}
use Rattle.reactor_core.specs.Polling.{FitsLimit, Polls, due_of, ready_of}
use Rattle.reactor_core.specs.Postings.{IsPostAnswer, posting}
use Rattle.reactor_core.specs.Removing.{StopsOnce}
use Rattle.reactor_core.specs.Requests.{GoesOnBy, WhereStanding}
use Rattle.reactor_core.specs.Settling.{returned}
use Rattle.reactor_core.specs.Stands.{Meaning, Stands, StandsAsBefore}
use Rattle.reactor_core.specs.Upcalls.{DoneFits, JobFits, StartGives, HasNoPick}
use Rattle.reactor_core.specs.declared.acting.Settled.{Settled}
use Rattle.reactor_core.specs.declared.job.Done.{Done}
use Rattle.reactor_core.specs.declared.job.Job.{Job}
use Rattle.reactor_core.specs.declared.polling.Polled.{Polled}
use Rattle.reactor_core.specs.declared.polling.Polled.TheVariants as polled
use Rattle.reactor_core.specs.declared.polling.PollRefused.{PollRefused}
use Rattle.reactor_core.specs.declared.polling.PollRefused.TheVariants as refused
use Rattle.reactor_core.specs.declared.postings.PostRefused.{PostRefused}
use Rattle.reactor_core.specs.declared.postings.PostRefused.TheVariants as post
use Rattle.reactor_core.specs.declared.upcalls.StartRefused.{StartRefused}
use Rattle.reactor_core.specs.declared.reactor.Core.{Core}
use Rattle.reactor_core.specs.declared.reactor.Parts.{Parts}
use Rattle.reactor_core.proofs.Over.{none_live}
use Rattle.core_loop.specs.Idle.{IsIdleOn, HasClosed, IsIdle, HasNoUpcall, FailsVolume}
use Rattle.core_loop.specs.Leading.{NoneOpen, GoesOn, IsWait, IsTurn, IsWaited, Reaches, IsStep}
use Rattle.core_loop.specs.Leading.{NoneDue}
use Rattle.core_loop.specs.Leading.{Leads, closed_of, TurnedSo, StaysBelow, EndedSo, RunsSo}
use Rattle.core_loop.specs.Leading.{EndsEnough}
use Rattle.core_loop.specs.Leading.{EndsOver, LeavesFrom, PolledSo, PostedSo, is_enough}
use Rattle.core_loop.specs.declared.turns.RunEnd.{RunEnd}
use Rattle.core_loop.specs.declared.turns.RunEnd.TheVariants as end
use Rattle.core_loop.proofs.Keeping.{sum, sum_more, Keeps, keeps_polled, keeps_posting}
use Rattle.core_loop.proofs.Keeping.{keeps_removals}
use Rattle.core_loop.proofs.Upcalls.{fits_started, none_left, one_started, StartGave, gave_some}
use Rattle.core_loop.proofs.Upcalls.{gave_none, no_pick, both_ways}

-- ---- counts of closings and refusals

pub below_then : {N : Type 0} → (until : Option ℕ) (a b c : List (Entry N)) → StaysBelow until a b
    → StaysBelow until b c → StaysBelow until a c
below_then until a b c first then = λ few. then (first few)

pub same_below : {N : Type 0} → (until : Option ℕ) (h g : List (Entry N)) → g ≡ h
    → StaysBelow until h g
same_below until h g is few = subst (λ k. is_enough until (closed_of k) ≡ false) (sym is) few

counted_below : {N : Type 0} → (until : Option ℕ) (h g : List (Entry N)) → closed_of g ≡ closed_of h
    → StaysBelow until h g
counted_below until h g is few = ap (is_enough until) is ∙ few

-- ---- a wait closes and refuses no handler

closed_more : {N : Type 0} → (h : List (Entry N)) (e : Entry N) → (step (sum h) e).closed
    ≡ (sum h).closed
    → (step (sum h) e).refused ≡ (sum h).refused → closed_of (h ++ e ∷ []) ≡ closed_of h
closed_more h e closed refused = omega (
  arith,
  ap (λ (s : Summary). s.closed) (sum_more h e),
  ap (λ (s : Summary). s.refused) (sum_more h e),
  closed,
  refused,
)

closed_on : {N : Type 0} → (h : List (Entry N)) (e : Entry N) (es : List (Entry N))
    → closed_of (h ++ e ∷ []) ≡ closed_of h
    → closed_of ((h ++ e ∷ []) ++ es) ≡ closed_of (h ++ e ∷ [])
    → closed_of (h ++ e ∷ es) ≡ closed_of h
closed_on h e es one more =
    ap closed_of (sym (append_assoc h (e ∷ []) es)) ∙ (more ∙ one)

closed_readies : {N : Type 0} → (h : List (Entry N)) (reports : List Report)
    → closed_of (h ++ map ready_of reports) ≡ closed_of h
closed_readies h [] = ap closed_of (append-nil h)
closed_readies h (r ∷ reports) =
    closed_on h (ready_of r) (map ready_of reports) (closed_more h (ready_of r) refl refl)
    (closed_readies (h ++ ready_of r ∷ []) reports)

closed_dues : {N : Type 0} → (h : List (Entry N)) (timers : List ℕ) (reports : List Report)
    → closed_of (h ++ (map due_of timers ++ map ready_of reports)) ≡ closed_of h
closed_dues h [] reports = closed_readies h reports
closed_dues h (timer ∷ timers) reports =
    closed_on h (Due timer) (map due_of timers ++ map ready_of reports)
    (closed_more h (Due timer) refl refl) (closed_dues (h ++ Due timer ∷ []) timers reports)

closed_waited : {N : Type 0} → (h entries : List (Entry N)) → IsWait entries
    → closed_of (h ++ entries) ≡ closed_of h
closed_waited h entries w =
    ap (λ es. closed_of (h ++ es)) w.is
    ∙ closed_on h (WasPolled w.now) (map due_of w.timers ++ map ready_of w.reports)
    (closed_more h (WasPolled w.now) refl refl)
    (closed_dues (h ++ WasPolled w.now ∷ []) w.timers w.reports)

-- ---- runs

module _ {H E N : Type 0} (means : Handling H E N) (t : Terms) where
  pub reaches_then : (a b c : List (Entry N)) (first then : List (List (Entry N)))
      → Reaches means t a first b → Reaches means t b then c
      → Reaches means t a (then ++ first) c
  reaches_then a b c first [] r is = subst (Reaches means t a first) (sym is) r
  reaches_then a b c first (entries ∷ earlier) r s =
      (s.0, reaches_then a b s.0 first earlier r s.1, s.2, s.3, s.4)

  ended_then : (until : Option ℕ) (ended : Option RunEnd) (over first : ℕ)
      (a b c : List (Entry N)) (steps : List (List (Entry N))) → Reaches means t a steps b
      → StaysBelow until a b
      → EndedSo means t until ended over b first c → EndedSo means t until ended over a first c
  ended_then until (Some end.Enough) over first a b c steps r below e = record {
    earlier = e.earlier ++ steps;
    between = e.between;
    reaches = reaches_then a b e.between steps e.earlier r e.reaches;
    entries = e.entries;
    turn = e.turn;
    is = e.is;
    held = e.held;
    below = below_then until a b e.between below e.below;
    enough = e.enough;
  }
  ended_then until (Some end.Over) over first a b c steps r below e = record {
    earlier = e.earlier ++ steps;
    between = e.between;
    reaches = reaches_then a b e.between steps e.earlier r e.reaches;
    entries = e.entries;
    wait = e.wait;
    is = e.is;
    over_so = e.over_so;
    none = e.none;
    below = below_then until a b c below e.below;
  }
  ended_then until (Some end.Stopped) over first a b c steps r below e =
      (below_then until a b c below e.0, e.1)
  ended_then until (Some end.Broken) over first a b c steps r below e =
      below_then until a b c below e
  ended_then until (Some end.NetFault) over first a b c steps r below e =
      below_then until a b c below e
  ended_then until (Some end.VolumeFault) over first a b c steps r below e =
      below_then until a b c below e
  ended_then until (Some end.NoMemory) over first a b c steps r below e =
      below_then until a b c below e
  ended_then until None over first a b c steps r below e = below_then until a b c below e

  -- a run went on, and then came to this
  pub runs_then : (until : Option ℕ) (ended : Option RunEnd) (before_over over F first : ℕ)
      (a b c : List (Entry N)) → RunsSo means until None before_over t a F b
      → RunsSo means until ended over t b first c → RunsSo means until ended over t a first c
  runs_then until ended before_over over F first a b c r s =
      record {
        steps = s.steps ++ r.steps;
        reaches = reaches_then a b c r.steps s.steps r.reaches s.reaches;
        ends = ended_then until ended over first a b c r.steps r.reaches r.ends s.ends;
      }

  -- a run that is where it began
  pub runs_nothing : (until : Option ℕ) (ended : Option RunEnd) (over first : ℕ)
      (h g : List (Entry N)) → g ≡ h → EndedSo means t until ended over h first g
      → RunsSo means until ended over t h first g
  runs_nothing until ended over first h g is ends =
      record { steps = []; reaches = is; ends = ends }

  -- a run of one step
  pub runs_once : (until : Option ℕ) (ended : Option RunEnd) (over first : ℕ)
      (h entries g : List (Entry N)) → IsStep means t h entries → g ≡ h ++ entries → NoneDue g
      → EndedSo means t until ended over h first g → RunsSo means until ended over t h first g
  runs_once until ended over first h entries g step is none_due ends =
      record { steps = entries ∷ []; reaches = (h, refl, step, is, none_due); ends = ends }

  -- what stands after a volume that was not taken says nothing more of the history
  pub failed_so : (until : Option ℕ) (why : RunEnd) (before now over first : ℕ)
      (h g : List (Entry N)) → FailsVolume before why now → StaysBelow until h g
      → EndedSo means t until (Some why) over h first g
  failed_so until end.VolumeFault before now over first h g fails below = below
  failed_so until end.NoMemory before now over first h g fails below = below
  failed_so until end.Enough before now over first h g fails below = absurd fails
  failed_so until end.Over before now over first h g fails below = absurd fails
  failed_so until end.Stopped before now over first h g fails below = absurd fails
  failed_so until end.Broken before now over first h g fails below = absurd fails
  failed_so until end.NetFault before now over first h g fails below = absurd fails

-- ---- how a history goes on

module _ {H M Q' W V N E : Type 0} (m : Meaning H M Q' W V N E) (t : Terms) where
  -- it stands for the same history
  pub goes_same : (h : List (Entry N)) (P : ℕ → List (Entry N) → Type 0) (F : ℕ)
      (new : Core H M Q' W V N E) → Stands m t new F h → NoneOpen h → P F h → GoesOn m t h P new
  goes_same h P F new stands none so =
      record {
        first = F;
        history = h;
        stands = stands;
        none_open = none;
        begins = ([], sym (append-nil h));
        so = so;
      }

  -- it stands for one with entries that leave the open events
  pub goes_keeping : (h es : List (Entry N)) (P : ℕ → List (Entry N) → Type 0) (F : ℕ)
      (new : Core H M Q' W V N E) → Keeps h es → Stands m t new F (h ++ es) → NoneOpen h
      → P F (h ++ es) → GoesOn m t h P new
  goes_keeping h es P F new k stands none so =
      record {
        first = F;
        history = h ++ es;
        stands = stands;
        none_open = k.opens ∙ none;
        begins = (es, refl);
        so = so;
      }

  -- it went on, and went on from there
  pub goes_then : (h : List (Entry N)) (P R S : ℕ → List (Entry N) → Type 0)
      (between new : Core H M Q' W V N E) (a : GoesOn m t h P between)
      (b : GoesOn m t a.history R new) → S b.first b.history → GoesOn m t h S new
  goes_then h P R S between new a b so = record {
    first = b.first;
    history = b.history;
    stands = b.stands;
    none_open = b.none_open;
    begins = (
      a.begins.0 ++ b.begins.0,
      b.begins.1
          ∙ (ap (λ g. g ++ b.begins.0) a.begins.1 ∙ append_assoc h a.begins.0 b.begins.0),
    );
    so = so;
  }

  -- what it comes to says more
  pub goes_so : (h : List (Entry N)) (P R : ℕ → List (Entry N) → Type 0)
      (new : Core H M Q' W V N E) (a : GoesOn m t h P new) → R a.first a.history
      → GoesOn m t h R new
  goes_so h P R new a so = record {
    first = a.first;
    history = a.history;
    stands = a.stands;
    none_open = a.none_open;
    begins = a.begins;
    so = so;
  }

  -- ---- one call

  -- an upcall was made and settled
  pub turned : (F : ℕ) (h : List (Entry N)) (job : Job H N E)
      (mid new : Core H M Q' W V N E) (done : Done H N E) (settled : Settled) → NoneOpen h
      → F ≤ length h → StartGives m t F h (Some job) mid → done.event ≡ job.event
      → DoneFits m.means t (past_of (h ++ Started job.event ∷ [])) done
      → Settles m t F (h ++ Started job.event ∷ []) done mid new settled
      → GoesOn m t h (TurnedSo m.means (Ok (Some settled.closed)) t h) new
  turned F h job mid new done settled none within gives same fits st =
      let g : List (Entry N) = h ++ Started job.event ∷ [] in
      let all : ((g ++ returned done ∷ []) ++ st.closing) ++ st.acted
      ≡ h ++ Started job.event ∷ returned done ∷ (st.closing ++ st.acted) =
      grind (arith, append_assoc) in
      record {
        first = F;
        history = ((g ++ returned done ∷ []) ++ st.closing) ++ st.acted;
        stands = st.stands;
        none_open = none_left m mid new done settled t F g fits (one_started h job.event none) st;
        begins = (_, all);
        so = (
          Started job.event ∷ returned done ∷ (st.closing ++ st.acted),
          record {
            event = job.event;
            picked = gives.0;
            done = done;
            same = same;
            fits = fits;
            closing = st.closing;
            is_closing = st.is_closing;
            before = (m.facts mid.net).failed_attaches;
            after = (m.facts new.net).failed_attaches;
            acted = st.acted;
            is_acted = st.is_acted;
            is = refl;
          },
          all,
          within,
          st.closed,
        );
      }

  -- a wait was made
  pub waited : (F : ℕ) (h : List (Entry N)) (most : Option ℕ) (found : Polled)
      (old new : Core H M Q' W V N E) (over : ℕ) → NoneOpen h → Polls m t F h most found old new
      → ((g : List (Entry N)) → Stands m t new F g → found ≡ polled.Over
      → over ≡ count is_polled (past_of g)) → GoesOn m t h (λ first g. IsWaited found over h g) new
  waited F h most found old new over none p number =
      let w = p.waits in
      goes_keeping h _ _ F new (keeps_polled h w.now w.timers _) w.stands none
      (record {
        entries = _;
        wait = record { now = w.now; timers = w.timers; reports = _; is = refl };
        is = refl;
        over_so = number _ w.stands;
      })

  hands_due : (F : ℕ) (h : List (Entry N)) (n : ℕ) (old new : Core H M Q' W V N E) (b : Bool)
      → NoneOpen h → Stands m t old F h → HandsDue b m t F h n old new
      → GoesOn m t h (λ first g. g ≡ h) new
  hands_due F h n old new true none stands handed =
      goes_same h _ (length h) new handed.1 none refl
  hands_due F h n old new false none stands handed =
      goes_same h _ F new (subst (λ (c : Core H M Q' W V N E). Stands m t c F h) (sym handed.1)
      stands) none refl

  -- a volume was handed over if one was due
  pub handed_over : (F : ℕ) (h : List (Entry N)) (n : ℕ) (old new : Core H M Q' W V N E)
      → NoneOpen h → Stands m t old F h → HandsOver m t F h n old new
      → GoesOn m t h (λ first g. g ≡ h) new
  handed_over F h n old new none stands handed =
      hands_due F h n old new (is_due old F h) none stands handed.handed

  pub goes_running : (until : Option ℕ) (ended : Option RunEnd) (before_over over : ℕ)
      (h : List (Entry N)) (between new : Core H M Q' W V N E)
      (a : GoesOn m t h (RunsSo m.means until None before_over t h) between)
      → GoesOn m t a.history (RunsSo m.means until ended over t a.history) new
      → GoesOn m t h (RunsSo m.means until ended over t h) new
  goes_running until ended before_over over h between new a b =
      goes_then h _ _ (RunsSo m.means until ended over t h) between new a b
      (runs_then m.means t until ended before_over over a.first b.first h a.history b.history a.so
      b.so)

  -- ---- a step of a run

  step_counted : (until : Option ℕ) (closed : ℕ) (b : Bool) (first : ℕ)
      (h g : List (Entry N)) (so : TurnedSo m.means (Ok (Some closed)) t h first g)
      → is_enough until closed ≡ b → is_enough until (closed_of g) ≡ b
  step_counted until closed b first h g so is = ap (is_enough until) (sym so.4) ∙ is

  -- a turn by which as many were closed as are asked for, and any other
  pub step_enough : (until : Option ℕ) (closed over : ℕ) (h : List (Entry N))
      (new : Core H M Q' W V N E)
      → GoesOn m t h (TurnedSo m.means (Ok (Some closed)) t h) new
      → is_enough until closed ≡ true
      → GoesOn m t h (RunsSo m.means until (Some end.Enough) over t h) new
  step_enough until closed over h new a is =
      goes_so h _ (RunsSo m.means until (Some end.Enough) over t h) new a
      (runs_once m.means t until (Some end.Enough) over a.first h a.so.0 a.history (inr a.so.1)
      a.so.2 a.stands.settled.none_due
      (record {
        earlier = [];
        between = h;
        reaches = refl;
        entries = a.so.0;
        turn = a.so.1;
        is = a.so.2;
        held = a.so.3;
        below = λ few. few;
        enough = step_counted until closed true a.first h a.history a.so is;
      }))

  pub step_turned : (until : Option ℕ) (closed over : ℕ) (h : List (Entry N))
      (new : Core H M Q' W V N E)
      → GoesOn m t h (TurnedSo m.means (Ok (Some closed)) t h) new
      → is_enough until closed ≡ false
      → GoesOn m t h (RunsSo m.means until None over t h) new
  step_turned until closed over h new a is =
      goes_so h _ (RunsSo m.means until None over t h) new a
      (runs_once m.means t until None over a.first h a.so.0 a.history (inr a.so.1) a.so.2
      a.stands.settled.none_due
      (λ few. step_counted until closed false a.first h a.history a.so is))

  -- a wait after which there is no upcall to make, since nothing can be reported any more; any
  -- other wait; and one that was refused
  pub step_over : (until : Option ℕ) (over : ℕ) (h : List (Entry N)) (between : List (Entry N))
      → between ≡ h → (new : Core H M Q' W V N E)
      → (b : GoesOn m t between (λ first g. IsWaited polled.Over over between g) new)
      → HasNoPick (past_of b.history)
      → RunsSo m.means until (Some end.Over) over t h b.first b.history
  step_over until over h between same new b none =
      let is : b.history ≡ h ++ b.so.entries = b.so.is ∙ ap (λ k. k ++ b.so.entries) same in
      runs_once m.means t until (Some end.Over) over b.first h b.so.entries b.history (inl
      b.so.wait) is b.stands.settled.none_due
      (record {
        earlier = [];
        between = h;
        reaches = refl;
        entries = b.so.entries;
        wait = b.so.wait;
        is = is;
        over_so = b.so.over_so refl;
        none = none;
        below = counted_below until h b.history (ap closed_of is
            ∙ closed_waited h b.so.entries b.so.wait);
      })

  pub step_waited : (until : Option ℕ) (found : Polled) (over : ℕ) (h between : List (Entry N))
      → between ≡ h → (new : Core H M Q' W V N E)
      → (b : GoesOn m t between (λ first g. IsWaited found over between g) new)
      → RunsSo m.means until None over t h b.first b.history
  step_waited until found over h between same new b =
      let is : b.history ≡ h ++ b.so.entries = b.so.is ∙ ap (λ k. k ++ b.so.entries) same in
      runs_once m.means t until None over b.first h b.so.entries b.history (inl b.so.wait) is
      b.stands.settled.none_due
      (counted_below until h b.history (ap closed_of is ∙ closed_waited h b.so.entries b.so.wait))

  -- ---- the end

  is_over : (core : Core H M Q' W V N E) (F : ℕ) (h : List (Entry N)) → Stands m t core F h
      → NoneOpen h → (sum h).ended ≡ true → IsShutDown (sum h)
  is_over core F h stands none ended =
      record {
        ended = ended;
        none_live =
            none_live (sum h).handles (sum h).opens none (stands.settled.none_alive ended)
            stands.settled.none_waits;
      }

  -- it was stopped, if it was not before
  pub record Stopped (F : ℕ) (h : List (Entry N)) (core : Core H M Q' W V N E) : Type 0 where
    pub entries : List (Entry N)
    pub stops : StopAppends (sum h) (sum h).ended entries
    pub stands : Stands m t core F (h ++ entries)
    pub over : IsShutDown (sum (h ++ entries))

  stopped_so : (F : ℕ) (h : List (Entry N)) (new : Core H M Q' W V N E) (b : Bool) → NoneOpen h
      → (sum h).ended ≡ b → StopsOnce m t F h new b → Stopped F h new
  stopped_so F h new true none q st =
      let same : h ++ [] ≡ h = append-nil h in
      let nil : ◌≡◌ {A = List (Entry N)} [] [] = refl in
      record {
        entries = [];
        stops = subst (λ (b : Bool). StopAppends {N = N} (sum h) b []) (sym q) nil;
        stands = subst (λ g. Stands m t new F g) (sym same) st;
        over = subst (λ g. IsShutDown (sum g)) (sym same) (is_over new F h st none q);
      }
  stopped_so F h new false none q st =
      let g : List (Entry N) = h ++ Ended ∷ [] in
      let e : sum g ≡ step {N = N} (sum h) Ended = sum_more h Ended in
      let k : Keeps g st.entries = keeps_removals g _ _ st.entries st.removals in
      let open_ : NoneOpen (g ++ st.entries) = k.opens ∙ (ap (λ (s : Summary). s.opens) e ∙ none) in
      let all : g ++ st.entries ≡ h ++ Ended ∷ st.entries = append_assoc h (Ended ∷ []) st.entries
      in
      record {
        entries = Ended ∷ st.entries;
        stops = subst (λ (b : Bool). StopAppends {N = N} (sum h) b (Ended ∷ st.entries)) (sym q)
            (st.entries, st.removals, refl);
        stands = subst (λ k. Stands m t new F k) all st.stands;
        over = subst (λ k. IsShutDown (sum k)) all (is_over new F (g ++ st.entries) st.stands open_
            (k.ended (ap (λ (s : Summary). s.ended) e)));
      }

  pub stopped : (F : ℕ) (h : List (Entry N)) (new : Core H M Q' W V N E) → NoneOpen h
      → StopsOnce m t F h new (sum h).ended → Stopped F h new
  stopped F h new none st = stopped_so F h new (sum h).ended none refl st

-- ---- a call, from each history

module _ {H M Q' W V N E : Type 0} (m : Meaning H M Q' W V N E) where
  -- the upcall that was started was made and settled
  pub makes_turn : (old mid new : Core H M Q' W V N E)
      (result : Result (Option (Job H N E)) StartRefused) (job : Job H N E) (done : Done H N E)
      (settled : Settled) → result ≡ Ok (Some job) → StartGave m old result mid
      → ((t : Terms) (past : List (Entry N)) → JobFits m.means t past job
      → DoneFits m.means t past done) → done.event ≡ job.event
      → ((t : Terms) (F : ℕ) (h : List (Entry N)) → Stands m t mid F h
      → DoneFits m.means t (past_of h) done → Settles m t F h done mid new settled)
      → Leads m (TurnedSo m.means (Ok (Some settled.closed))) old new
  makes_turn old mid new result job done settled is gave run same settles =
      λ t F h stands none.
      let gives : StartGives m t F h (Some job) mid =
      gave_some m old mid result job t F h stands is gave in
      let fits = fits_started m t h job.event done (run t _ gives.2) in
      turned m t F h job mid new done settled none stands.tracks.journal.within gives same fits
      (settles t F (h ++ Started job.event ∷ []) gives.1 fits)

  -- there was none to make
  pub makes_none : (old new : Core H M Q' W V N E)
      (result : Result (Option (Job H N E)) StartRefused) → result ≡ Ok None
      → StartGave m old result new → Leads m (TurnedSo m.means (Ok None)) old new
  makes_none old new result is gave =
      λ t F h stands none.
      goes_same m t h _ F new (gave_none m old new result t F h stands is gave) none
      (refl, no_pick m old new result t F h stands is gave)

  pub stays_so : {P : Terms → List (Entry N) → ℕ → List (Entry N) → Type 0}
      (old new : Core H M Q' W V N E) {bound : Option (Option ℕ)} → Leads m P old new
      → IsIdleOn m bound old → IsIdleOn m bound new
  stays_so old new leads i =
      let g = leads i.terms i.first i.history i.stands i.none_open in
      record {
        terms = i.terms;
        limit = i.limit;
        first = g.first;
        history = g.history;
        stands = g.stands;
        none_open = g.none_open;
      }

  pub closed_then : (old new : Core H M Q' W V N E) (closed : ℕ)
      → Leads m (TurnedSo m.means (Ok (Some closed))) old new → IsIdle m old
      → HasClosed m closed new
  closed_then old new closed leads i =
      let g = leads i.terms i.first i.history i.stands i.none_open in (
        record {
          terms = i.terms;
          limit = i.limit;
          first = g.first;
          history = g.history;
          stands = g.stands;
          none_open = g.none_open;
        },
        g.so.4,
      )

  pub had_upcall : (old new : Core H M Q' W V N E) (closed : ℕ)
      → Leads m (TurnedSo m.means (Ok (Some closed))) old new → HasNoUpcall m old → ⊥
  had_upcall old new closed leads n =
      let i = n.0 in
      let g = leads i.terms i.first i.history i.stands i.none_open in
      both_ways _ g.so.1.picked (n.1 g.so.1.event)

  -- a wait, by its answer
  pub polls_so : (t : Terms) (old new : Core H M Q' W V N E) (most : Option ℕ)
      (result : Result Polled PollRefused) (over F : ℕ) (h : List (Entry N)) → Stands m t old F h
      → FitsLimit t most → NoneOpen h
      → IfOk result (λ found. (t : Terms) (F : ℕ) (h : List (Entry N)) → Stands m t old F h
      → FitsLimit t most → Polls m t F h most found old new)
      → OnErr result (StandsAsBefore m old new)
      → ((g : List (Entry N)) → Stands m t new F g → result ≡ Ok polled.Over
      → over ≡ count is_polled (past_of g))
      → (result ≡ Err refused.Stopped → (sum h).ended ≡ true)
      → GoesOn m t h (λ first g. PolledSo result over h g) new
  polls_so t old new most (Ok found) over F h stands fits none ok err number ended =
      waited m t F h most found old new over none (ok t F h stands fits)
      (λ g at is. number g at (ap Ok is))
  polls_so t old new most (Err refused.Stopped) over F h stands fits none ok err number ended =
      goes_same m t h _ F new (err t F h stands) none (refl, ended refl)
  polls_so t old new most (Err refused.NetFailed) over F h stands fits none ok err number ended =
      goes_same m t h _ F new (err t F h stands) none refl
  polls_so t old new most (Err refused.NoMemory) over F h stands fits none ok err number ended =
      goes_same m t h _ F new (err t F h stands) none refl

  -- a notification, by its answer
  pub posts : (old new : Core H M Q' W V N E) (handle : Handle) (kind : Kind) (from seq : ℕ)
      (result : Result (Unit {0}) PostRefused)
      → OnOk result (GoesOnBy m old (λ s. posting s handle kind from seq) new)
      → OnErr result (StandsAsBefore m old new) → WhereStanding m old (λ s. IsPostAnswer s result)
      → Leads m (λ t before first h. PostedSo handle kind from seq result before h) old new
  posts old new handle kind from seq (Ok done) ok err cause = λ t F h stands none.
      goes_keeping m t h _ _ F new (keeps_posting h handle kind from seq) (ok t F h stands) none
      refl
  posts old new handle kind from seq (Err post.Stopped) ok err cause = λ t F h stands none.
      goes_same m t h _ F new (err t F h stands) none (refl, (cause t F h stands).0 refl)
  posts old new handle kind from seq (Err post.NoMemory) ok err cause = λ t F h stands none.
      goes_same m t h _ F new (err t F h stands) none refl

  -- what a run came to whose end is known
  pub known_end : (t : Terms) (until : Option ℕ) (over : ℕ) (h : List (Entry N))
      (core : Core H M Q' W V N E) (ended known : Option RunEnd) → ended ≡ known
      → GoesOn m t h (RunsSo m.means until ended over t h) core
      → GoesOn m t h (RunsSo m.means until known over t h) core
  known_end t until over h core ended known is a =
      subst (λ (e : Option RunEnd). GoesOn m t h (RunsSo m.means until e over t h) core) is a

  -- what a call came to whose answer is known
  pub known_turn : (t : Terms) (h : List (Entry N)) (core : Core H M Q' W V N E)
      (result known : Result (Option ℕ) StartRefused) → result ≡ known
      → GoesOn m t h (TurnedSo m.means result t h) core
      → GoesOn m t h (TurnedSo m.means known t h) core
  known_turn t h core result known is a =
      subst (λ (r : Result (Option ℕ) StartRefused). GoesOn m t h (TurnedSo m.means r t h) core) is
      a

  pub known_wait : (t : Terms) (h : List (Entry N)) (over : ℕ) (core : Core H M Q' W V N E)
      (result known : Result Polled PollRefused) → result ≡ known
      → GoesOn m t h (λ first g. PolledSo result over h g) core
      → GoesOn m t h (λ first g. PolledSo known over h g) core
  known_wait t h over core result known is a =
      subst (λ (r : Result Polled PollRefused). GoesOn m t h (λ first g. PolledSo r over h g) core)
      is a

-- as many were closed as are asked for
pub enough_of : (until : Option ℕ) (closed : ℕ) → is_enough until closed ≡ true
    → (enough : ℕ) × (until ≡ Some enough) × (enough ≤ closed)
enough_of None closed is = cc
enough_of (Some enough) closed is = (enough, refl, search rules)
