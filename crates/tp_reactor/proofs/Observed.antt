-- Loops with observers: from lead to lead, and what they come to without their observers.
use Rattle.std.proofs.Common.{ℕ, zero, suc, ◌≡◌, ◌+◌, inl, inr, List, [], ◌∷◌, refl}
use Rattle.std.proofs.Common.{sym, ap, subst, Option, Some, None, Ok, Err}
use Rattle.ev_base.specs.ev_types.specs.declared.upcall.Handle.{Handle}
use Rattle.leader_token.specs.Passes.{split_right}
use Rattle.leader_token.specs.declared.kept.View.{View}
use Rattle.notify_ring.specs.Passes as ring
use Rattle.notify_ring.specs.declared.view.View.{View as RingView}
use Rattle.reactor_model.specs.reactor_journal.specs.declared.entry.Entry.{Entry}
use Rattle.reactor_core.specs.Stands.{Meaning}
use Rattle.reactor_core.specs.Upcalls.{IsRunOf}
use Rattle.reactor_core.specs.declared.acting.Settled.{Settled}
use Rattle.reactor_core.specs.declared.job.Done.{Done}
use Rattle.reactor_core.specs.declared.job.Job.{Job}
use Rattle.reactor_desk.specs.declared.terms.DeskTerms.{DeskTerms}
use Rattle.reactor_desk.specs.declared.leading.Led.{Led}
use Rattle.reactor_desk.specs.declared.leading.Led.TheVariants as led
use Rattle.tp_reactor.specs.Led.{IsLed}
use Rattle.tp_reactor.specs.Observed.{AllObserved, EndsObserved, Goes, Loop, Observers}
use Rattle.tp_reactor.specs.Observed.{PoolObserved}
use Rattle.tp_reactor.specs.Observed.{RoundObserved, RoundThenLed, RoundsObserved, RunsObserved}
use Rattle.tp_reactor.specs.Observed.{ServesAndLeadsObserved, loop_end}
use Rattle.tp_reactor.specs.Pool.{AllRun, EndsPool, RunsPool, WorkerEnd, hirer, hirer_posted}
use Rattle.tp_reactor.specs.Settled.{HasSettled, SettlesAndLeads, SettlesOn}
use Rattle.tp_reactor.specs.Working.{LedBefore, MayPost, Round, Rounds, Runs}
use Rattle.tp_reactor.specs.declared.working.Ran.{Ran}
use Rattle.tp_reactor.specs.declared.working.Ran.TheVariants as ran

module _ {H M Q W V N E O : Type 0} (m : Meaning H M Q W V N E)
    (observes : O → Done H N E → O → Type 0) (most : Option ℕ) (until : Option (ℕ × Handle)) where
  -- ---- without the observers

  round_of : (a b : Loop N O) → RoundObserved m observes most until a b
      → Round m most until a.known a.posted b.known b.posted
  round_of a b (inl idles) = inl idles.0
  round_of a b (inr serves) = inr serves.serves

  rounds_of : (n : ℕ) (a b : Loop N O) → RoundsObserved m observes most until n a b
      → Rounds m most until n a.known a.posted b.known b.posted
  rounds_of zero a b same = (
    ap (λ (x : Loop N O). x.known) same,
    ap (λ (x : Loop N O). x.posted) same,
  )
  rounds_of (suc n) a b d =
      (d.0.known, d.0.posted, rounds_of n a d.0 d.1, round_of d.0 b d.2)

  pub runs_of : (a b : Loop N O) (answer : Ran) → RunsObserved m observes most until a answer b
      → Runs m most until a.known a.posted answer b.known b.posted
  runs_of a b answer d = record {
    rounds = d.rounds;
    last = d.last.known;
    last_posted = d.last.posted;
    were = rounds_of d.rounds a d.last d.were;
    ends = d.ends;
  }

  -- ---- from lead to lead

  -- it led in the hold in which it settled
  pub serves_on : (job : Job H N E) (done : Done H N E) (settled : Settled)
      (answer : Option (Led H N E)) (next : Led H N E) (w : View (Entry N) DeskTerms) (r : RingView)
      (a b : Loop N O) → IsRunOf job done → observes a.observer done b.observer
      → answer ≡ Some next → SettlesOn m a.known done settled most answer w → b.known ≡ w
      → r ≡ a.posted → MayPost until settled r b.posted
      → ServesAndLeadsObserved m observes most until job a next b
  serves_on job done settled answer next w r a b run shown is on pass same posts =
      let both : SettlesAndLeads m a.known done settled most next w =
      subst (λ (k : Option (Led H N E)). SettlesOn m a.known done settled most k w) is on in
      record {
        serves = record {
          done = done;
          settled = settled;
          between = both.between;
          run = run;
          settles = both.settles;
          posts = subst (λ (x : RingView). MayPost until settled x b.posted) same posts;
          leads = subst (λ (x : View (Entry N) DeskTerms). IsLed m both.between most next x)
              (sym pass) both.leads;
        };
        shown = shown;
      }

  -- or it led anew, once a notice was posted
  pub serves_after : (job : Job H N E) (done : Done H N E) (settled : Settled)
      (answer : Option (Led H N E)) (next : Led H N E) (w x : View (Entry N) DeskTerms)
      (r s : RingView) (a b : Loop N O) → IsRunOf job done → observes a.observer done b.observer
      → answer ≡ None → SettlesOn m a.known done settled most answer w → x ≡ w → r ≡ a.posted
      → MayPost until settled r s → IsLed m x most next b.known → b.posted ≡ s
      → ServesAndLeadsObserved m observes most until job a next b
  serves_after job done settled answer next w x r s a b run shown is on pass same posts led poster =
      record {
        serves = record {
          done = done;
          settled = settled;
          between = x;
          run = run;
          settles = subst (λ (k : View (Entry N) DeskTerms). HasSettled m a.known done settled k)
              (sym pass)
              (subst (λ (k : Option (Led H N E)). SettlesOn m a.known done settled most k w) is on);
          posts = subst (λ (k : RingView). MayPost until settled a.posted k) (sym poster)
              (subst (λ (k : RingView). MayPost until settled k s) same posts);
          leads = led;
        };
        shown = shown;
      }

  pub serves_round : (l : Led H N E) (job : Job H N E) (v : View (Entry N) DeskTerms)
      (a b : Loop N O) (next : Led H N E) → l ≡ led.Job job → IsLed m v most l a.known
      → ServesAndLeadsObserved m observes most until job a next b
      → RoundThenLed m observes most until (record a { known = v }) next b
  serves_round l job v a b next is led d =
      let serves = d.serves in
      record {
        between = serves.between;
        round = inr (record {
          serves = record {
            job = job;
            between = a.known;
            done = serves.done;
            settled = serves.settled;
            led = subst (λ (k : Led H N E). IsLed m v most k a.known) is led;
            run = serves.run;
            settles = serves.settles;
            posts = serves.posts;
          };
          shown = d.shown;
        });
        leads = serves.leads;
      }

  pub idles_round : (l : Led H N E) (v : View (Entry N) DeskTerms) (a b : Loop N O)
      (next : Led H N E) → l ≡ led.Quiet → IsLed m v most l a.known
      → IsLed m a.known most next b.known → b.posted ≡ a.posted → b.observer ≡ a.observer
      → RoundThenLed m observes most until (record a { known = v }) next b
  idles_round l v a b next is led leads posted observer = record {
    between = a.known;
    round = inl ((subst (λ (k : Led H N E). IsLed m v most k a.known) is led, posted), observer);
    leads = leads;
  }

  -- rounds, and the lead of the next
  pub record RoundsLed (a : Loop N O) (l : Led H N E) (b : Loop N O) : Type 0 where
    pub before : View (Entry N) DeskTerms
    pub rounds : ℕ
    pub were : RoundsObserved m observes most until rounds a (record b { known = before })
    pub leads : IsLed m before most l b.known

  pub begin_rounds : (a b : Loop N O) (l : Led H N E) → b.posted ≡ a.posted
      → b.observer ≡ a.observer → IsLed m a.known most l b.known → RoundsLed a l b
  begin_rounds a b l posted observer led = record {
    before = a.known;
    rounds = 0;
    were = λ i. record { known = a.known; posted = posted i; observer = observer i };
    leads = led;
  }

  pub led_before : (a b : Loop N O) (l : Led H N E) → RoundsLed a l b → LedBefore m most l b.known
  led_before a b l r = record { before = r.before; leads = r.leads }

  pub go_round : (a x b : Loop N O) (l next : Led H N E) → RoundsLed a l x
      → Goes m observes most until l x (Ok next) b → RoundsLed a next b
  go_round a x b l next led goes =
      let round = goes led.before led.leads in
      record {
        before = round.between;
        rounds = suc led.rounds;
        were = (record x { known = led.before }, led.were, round.round);
        leads = round.leads;
      }

  pub end_rounds : (a x b : Loop N O) (l : Led H N E) (answer : Ran) → RoundsLed a l x
      → Goes m observes most until l x (Err answer) b
      → RunsObserved m observes most until a answer b
  end_rounds a x b l answer led goes = record {
    rounds = led.rounds;
    last = record x { known = led.before };
    were = led.were;
    ends = record {
      led = l;
      is_led = subst (λ (y : Loop N O). IsLed m led.before most l y.known) (sym goes.1) led.leads;
      answers = goes.0;
      poster = ap (λ (y : Loop N O). y.posted) goes.1;
    };
    observer = ap (λ (y : Loop N O). y.observer) goes.1;
  }

  -- ---- pools

  module _ (v : View (Entry N) DeskTerms) (p : RingView) where
    all_of : (many : ℕ) (befores : List O) (xs : List (WorkerEnd N)) (afters : List O)
        → AllObserved m observes most until v p many befores xs afters
        → AllRun m most until v p many xs
    all_of many [] [] [] d = tt
    all_of many [] [] (after ∷ afters) d = absurd d
    all_of many [] (x ∷ xs) afters d = absurd d
    all_of many (before ∷ befores) [] afters d = absurd d
    all_of many (before ∷ befores) (x ∷ xs) [] d = absurd d
    all_of many (before ∷ befores) (x ∷ xs) (after ∷ afters) d = (
      (
        runs_of (record {
          known = split_right v;
          posted = ring.split_right (hirer_posted p many);
          observer = before;
        }) (loop_end x after) x.ran d.0.0,
        d.0.1,
      ),
      all_of (many + 1) befores xs afters d.1,
    )

    ends_observed : (r : Ran) (left end : WorkerEnd N) (before after : O)
        → EndsObserved m observes most until r left before end after
        → EndsPool m most until r left end
    ends_observed ran.Over left end before after d =
        runs_of (loop_end left before) (loop_end end after) end.ran d
    ends_observed ran.Broken left end before after d = d.0
    ends_observed ran.NetFault left end before after d = d.0
    ends_observed ran.NoMemory left end before after d = d.0
    ends_observed ran.VolumeFault left end before after d = d.0
    ends_observed ran.Stopped left end before after d = d.0

    pub observed_first : (r : Ran) (left end : WorkerEnd N) (before after : O)
        → (r ≡ ran.Over → ⊥) → end ≡ left → after ≡ before
        → EndsObserved m observes most until r left before end after
    observed_first ran.Over left end before after other same kept = absurd (other refl)
    observed_first ran.Broken left end before after other same kept = (same, kept)
    observed_first ran.NetFault left end before after other same kept = (same, kept)
    observed_first ran.NoMemory left end before after other same kept = (same, kept)
    observed_first ran.VolumeFault left end before after other same kept = (same, kept)
    observed_first ran.Stopped left end before after other same kept = (same, kept)

    pub observed_over : (r : Ran) (left end : WorkerEnd N) (before after : O) → r ≡ ran.Over
        → RunsObserved m observes most until (loop_end left before) end.ran (loop_end end after)
        → EndsObserved m observes most until r left before end after
    observed_over r left end before after is d =
        subst (λ (x : Ran). EndsObserved m observes most until x left before end after) (sym is) d

    pub pool_runs : (many : ℕ) (old new : Observers O) (end : WorkerEnd N)
        → PoolObserved m observes most until many v p old end new
        → RunsPool m most until many v p end
    pool_runs many old new end d = record {
      root = d.root;
      root_runs = runs_of (record {
        known = hirer v many;
        posted = hirer_posted p many;
        observer = old.root;
      }) (loop_end d.root d.between) d.root.ran d.root_runs;
      hired = d.hired;
      all = d.all;
      each = all_of 0 old.hired d.hired new.hired d.each;
      left = d.left;
      dismisses = d.dismisses;
      ends = ends_observed d.left.ran d.left end d.between new.root d.ends;
    }
