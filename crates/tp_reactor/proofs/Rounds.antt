-- The rounds of a worker.
use Rattle.std.proofs.Common.{ℕ, ◌≡◌, ◌++◌, refl, sym, ap, ◌∙◌, subst, Option, Some, None}
use Rattle.leader_token.specs.declared.kept.View.{View}
use Rattle.notify_ring.specs.declared.view.View.{View as RingView}
use Rattle.ev_base.specs.ev_types.specs.declared.upcall.Handle.{Handle}
use Rattle.reactor_model.specs.reactor_journal.specs.declared.entry.Entry.{Entry}
use Rattle.reactor_model.specs.reactor_journal.specs.declared.entry.Entry.TheVariants.{Started}
use Rattle.reactor_model.specs.reactor_journal.specs.Past.{past_of}
use Rattle.reactor_model.specs.reactor_journal.proofs.Turning.{past_of-more}
use Rattle.reactor_core.specs.Stands.{Meaning}
use Rattle.reactor_core.specs.Upcalls.{JobFits}
use Rattle.reactor_core.specs.Views.{job_event}
use Rattle.reactor_core.specs.declared.acting.Settled.{Settled}
use Rattle.reactor_core.specs.declared.job.Done.{Done}
use Rattle.tp_reactor.specs.Settled.{HasSettled}
use Rattle.reactor_core.specs.declared.job.Job.{Job}
use Rattle.reactor_desk.specs.declared.terms.DeskTerms.{DeskTerms}
use Rattle.reactor_desk.specs.declared.leading.Led.{Led}
use Rattle.reactor_desk.specs.declared.leading.Led.TheVariants as led
use Rattle.reactor_desk.specs.Leading.{event_of}
use Rattle.tp_reactor.specs.Led.{IsLed}
use Rattle.tp_reactor.specs.Words.{SameKin}
use Rattle.tp_reactor.specs.Working.{ran_of, JobReady, LedBefore, ServesAndLeads}
use Rattle.tp_reactor.specs.declared.working.Ran.{Ran}

pub kin_then : {N : Type 0} (v w x : View (Entry N) DeskTerms) → SameKin v w → SameKin w x
    → SameKin v x
kin_then v w x a b = record {
  terms = b.terms ∙ a.terms;
  root = b.root ∙ a.root;
  children = b.children ∙ a.children;
}

pub kin_same : {N : Type 0} (v : View (Entry N) DeskTerms) → SameKin v v
kin_same v = record { terms = refl; root = refl; children = refl }

module _ {H M Q W V N E : Type 0} (m : Meaning H M Q W V N E) where
  job_ready : (v w : View (Entry N) DeskTerms) (most : Option ℕ) (job : Job H N E)
      → IsLed m v most (led.Job job) w → JobReady m w job
  job_ready v w most job l =
      let view = l.leaves.view in
      let seen = ap (λ (x : View (Entry N) DeskTerms). past_of x.seen) view
      ∙ ap past_of l.gives.1.gives.leaves
      ∙ past_of-more ((l.history ++ l.gives.1.notices) ++ l.gives.1.gives.waited)
      (Started (job_event job)) in
      record {
        mine = ap (λ (x : View (Entry N) DeskTerms). x.mine) view;
        base = ap (λ (x : View (Entry N) DeskTerms). x.base) view;
        fits = subst (λ (q : DeskTerms). JobFits m.means q.run (past_of w.seen) job)
            (sym (ap (λ (x : View (Entry N) DeskTerms). x.terms) view))
            (subst (λ p. JobFits m.means v.terms.run p job) (sym seen) l.gives.1.gives.fits);
      }

  pub job_found : (v w : View (Entry N) DeskTerms) (most : Option ℕ) (l : Led H N E)
      (job : Job H N E) → l ≡ led.Job job → IsLed m v most l w → JobReady m w job
  job_found v w most l job is led = job_ready v w most job
      (subst (λ (k : Led H N E). IsLed m v most k w) is led)

  -- a worker that led without a job is idle
  pub led_kin : (v w : View (Entry N) DeskTerms) (most : Option ℕ) (l : Led H N E)
      → IsLed m v most l w → SameKin v w
  led_kin v w most l led = let view = led.leaves.view in
      record {
        terms = ap (λ x. x.terms) view;
        root = ap (λ x. x.root) view;
        children = ap (λ x. x.children) view;
      }

  -- ---- from lead to lead

  pub ready_of : (w : View (Entry N) DeskTerms) (most : Option ℕ) (l : Led H N E) (job : Job H N E)
      → l ≡ led.Job job → LedBefore m most l w → JobReady m w job
  ready_of w most l job is led = job_found led.before w most l job is led.leads

  -- a lead that came to nothing leaves the worker idle
  pub quiet_free : (w : View (Entry N) DeskTerms) (most : Option ℕ) (l : Led H N E) → l ≡ led.Quiet
      → LedBefore m most l w → (w.base ≡ None) × (w.mine ≡ None)
  quiet_free w most l is led = let view = led.leads.leaves.view in
      (ap (λ x. x.base) view, ap (λ x. x.mine) view ∙ ap event_of is)

  pub settled_kin : (v w : View (Entry N) DeskTerms) (done : Done H N E) (settled : Settled)
      → HasSettled m v done settled w → SameKin v w
  settled_kin v w done settled s = let view = s.leaves.view in
      record {
        terms = ap (λ x. x.terms) view;
        root = ap (λ x. x.root) view;
        children = ap (λ x. x.children) view;
      }

  pub serves_kin : (most : Option ℕ) (until : Option (ℕ × Handle)) (job : Job H N E)
      (v w : View (Entry N) DeskTerms) (p s : RingView) (next : Led H N E)
      → ServesAndLeads m most until job v p next w s → SameKin v w
  serves_kin most until job v w p s next serves =
      kin_then v serves.between w (settled_kin v serves.between serves.done serves.settled
      serves.settles) (led_kin serves.between w most next serves.leads)

  -- an answer that ends the loop is no job
  pub no_job : (l : Led H N E) (answer : Ran) → ran_of l ≡ Some answer → event_of l ≡ None
  no_job (led.Job job) answer is = cc
  no_job led.Quiet answer is = refl
  no_job led.Over answer is = refl
  no_job led.Stopped answer is = refl
  no_job led.Broken answer is = refl
  no_job led.VolumeFault answer is = refl
  no_job led.NetFault answer is = refl
  no_job led.NoMemory answer is = refl

  pub ended_idle : (most : Option ℕ) (v w : View (Entry N) DeskTerms) (l : Led H N E) (answer : Ran)
      → ran_of l ≡ Some answer → IsLed m v most l w → (w.base ≡ None) × (w.mine ≡ None)
  ended_idle most v w l answer ran led = let view = led.leaves.view in
      (ap (λ x. x.base) view, ap (λ x. x.mine) view ∙ no_job l answer ran)
