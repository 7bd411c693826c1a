-- The loop of a worker that is alone, entry by entry.
use Rattle.std.proofs.Common.{ℕ, zero, suc, ◌≡◌, inl, inr, true, List, sym, ap, ◌∙◌, subst, Option}
use Rattle.std.proofs.Common.{⊎_elim}
use Rattle.ev_base.specs.ev_types.specs.declared.upcall.Handle.{Handle}
use Rattle.leader_token.specs.declared.kept.View.{View}
use Rattle.notify_ring.specs.declared.view.View.{View as RingView}
use Rattle.reactor_model.specs.reactor_journal.specs.declared.entry.Entry.{Entry}
use Rattle.reactor_core.specs.Stands.{Meaning}
use Rattle.reactor_core.specs.declared.acting.Settled.{Settled}
use Rattle.reactor_core.specs.declared.job.Done.{Done}
use Rattle.reactor_desk.specs.Leading.{LeadGives}
use Rattle.reactor_desk.specs.declared.terms.DeskTerms.{DeskTerms}
use Rattle.reactor_desk.specs.declared.leading.Led.{Led}
use Rattle.reactor_desk.specs.declared.leading.Led.TheVariants as led
use Rattle.tp_reactor.specs.Alone.{LeadsTo, SettlesTo, ServesTo, GoesTo, RoundsTo, RunsTo}
use Rattle.tp_reactor.specs.Led.{IsLed}
use Rattle.tp_reactor.specs.Settled.{HasSettled}
use Rattle.tp_reactor.specs.Words.{SameKin}
use Rattle.tp_reactor.specs.Working.{Round, Rounds, Runs, Serves}
use Rattle.tp_reactor.specs.declared.working.Ran.{Ran}
use Rattle.tp_reactor.proofs.Grows.{rounds_grow}

module _ {H M Q W V N E : Type 0} (m : Meaning H M Q W V N E) (q : DeskTerms) (most : Option ℕ)
  where
    -- a worker that is alone with a reactor of these terms
    pub record IsAlone (v : View (Entry N) DeskTerms) : Type 0 where
      pub terms : v.terms ≡ q
      pub root : v.root ≡ true
      pub children : v.children ≡ 0

    alone_then : (v w : View (Entry N) DeskTerms) → IsAlone v → SameKin v w → IsAlone w
    alone_then v w a kin = record {
      terms = kin.terms ∙ a.terms;
      root = kin.root ∙ a.root;
      children = kin.children ∙ a.children;
    }

    leads_to : (v w : View (Entry N) DeskTerms) (l : Led H N E) → IsAlone v → IsLed m v most l w
        → LeadsTo m q most v.seen l w.seen
    leads_to v w l a d =
        let here : LeadsTo m v.terms most d.history l w.seen =
        record {
          first = d.first;
          found = d.found;
          left = d.left;
          stood = d.finds.stood;
          gives = subst (LeadGives m v.terms d.first d.history most d.found l d.left)
              (sym (ap (λ (x : View (Entry N) DeskTerms). x.seen) d.leaves.view)) d.gives;
          volumes = d.volumes;
        } in
        subst (λ (t : DeskTerms). LeadsTo m t most v.seen l w.seen) a.terms
        (subst (λ (h : List (Entry N)). LeadsTo m v.terms most h l w.seen)
        (d.finds.alone a.root a.children).0 here)

    settles_to : (v w : View (Entry N) DeskTerms) (done : Done H N E) (settled : Settled)
        → IsAlone v
        → HasSettled m v done settled w → SettlesTo m q v.seen done settled w.seen
    settles_to v w done settled a d =
        let here : SettlesTo m v.terms d.history done settled w.seen =
        record {
          first = d.first;
          found = d.found;
          left = d.left;
          stood = d.finds.stood;
          settles = d.settles;
          leaves = ap (λ (x : View (Entry N) DeskTerms). x.seen) d.leaves.view;
        } in
        subst (λ (t : DeskTerms). SettlesTo m t v.seen done settled w.seen) a.terms
        (subst (λ (h : List (Entry N)). SettlesTo m v.terms h done settled w.seen)
        (d.finds.alone a.root a.children).0 here)

    serves_to : (until : Option (ℕ × Handle)) (v w : View (Entry N) DeskTerms) (p s : RingView)
        → IsAlone v → Serves m most until v p w s → ServesTo m q most v.seen w.seen
    serves_to until v w p s a d =
        let view = d.led.leaves.view in
        record {
          job = d.job;
          between = d.between.seen;
          done = d.done;
          settled = d.settled;
          leads = leads_to v d.between (led.Job d.job) a d.led;
          run = d.run;
          settles = settles_to d.between w d.done d.settled
              (alone_then v d.between a (record {
                terms = ap (λ x. x.terms) view;
                root = ap (λ x. x.root) view;
                children = ap (λ x. x.children) view;
              })) d.settles;
        }

    goes_to : (until : Option (ℕ × Handle)) (v w : View (Entry N) DeskTerms) (p s : RingView)
        → IsAlone v → Round m most until v p w s → GoesTo m q most v.seen w.seen
    goes_to until v w p s a = ⊎_elim (λ d. inl (leads_to v w led.Quiet a d.0))
        (λ d. inr (serves_to until v w p s a d))

    rounds_to : (until : Option (ℕ × Handle)) (n : ℕ) (v w : View (Entry N) DeskTerms)
        (p s : RingView) → IsAlone v → Rounds m most until n v p w s
        → RoundsTo m q most n v.seen w.seen
    rounds_to until zero v w p s a d = ap (λ (x : View (Entry N) DeskTerms). x.seen) d.0
    rounds_to until (suc n) v w p s a d = (
      d.0.seen,
      rounds_to until n v d.0 p d.1 a d.2,
      goes_to until d.0 w d.1 s (alone_then v d.0 a
          (rounds_grow m most until n v d.0 p d.1 d.2).kin) d.3,
    )

    pub runs_to : (until : Option (ℕ × Handle)) (v w : View (Entry N) DeskTerms) (p s : RingView)
        (answer : Ran) → IsAlone v → Runs m most until v p answer w s
        → RunsTo m q most v.seen answer w.seen
    runs_to until v w p s answer a d = record {
      rounds = d.rounds;
      last = d.last.seen;
      were = rounds_to until d.rounds v d.last p d.last_posted a d.were;
      led = d.ends.led;
      leads = leads_to d.last w d.ends.led
          (alone_then v d.last a (rounds_grow m most until d.rounds v d.last p d.last_posted
          d.were).kin) d.ends.is_led;
      answers = d.ends.answers;
    }
