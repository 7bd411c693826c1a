-- The loop of a worker: to lead, to run the job and to settle it, until a lead answers neither a
-- job nor Quiet.
use Rattle.std.specs.Prelude.{ℕ, zero, suc, ◌≡◌, ◌⊎◌, ◌≤◌, false, nat_le, if◌then◌else◌, Option}
use Rattle.std.specs.Prelude.{Some, None, Result}
use Rattle.ev_base.specs.ev_types.specs.declared.upcall.Handle.{Handle}
use Rattle.ev_base.specs.ev_types.specs.declared.upcall.Kind.TheVariants.{Except}
use Rattle.leader_token.specs.declared.kept.View.{View}
use Rattle.notify_ring.specs.Passes.{HasPosted}
use Rattle.notify_ring.specs.declared.posting.Full.{Full}
use Rattle.notify_ring.specs.declared.view.View.{View as RingView}
use Rattle.reactor_model.specs.reactor_journal.specs.declared.entry.Entry.{Entry}
use Rattle.reactor_model.specs.reactor_journal.specs.Past.{past_of}
use Rattle.reactor_core.specs.Stands.{Meaning}
use Rattle.reactor_core.specs.Upcalls.{JobFits, IsRunOf}
use Rattle.reactor_core.specs.Views.{job_event}
use Rattle.reactor_core.specs.declared.acting.Settled.{Settled}
use Rattle.reactor_core.specs.declared.job.Done.{Done}
use Rattle.reactor_core.specs.declared.job.Job.{Job}
use Rattle.reactor_desk.specs.declared.terms.DeskTerms.{DeskTerms}
use Rattle.reactor_desk.specs.declared.leading.Led.{Led}
use Rattle.reactor_desk.specs.declared.leading.Led.TheVariants as led
use Rattle.tp_reactor.specs.Led.{IsLed}
use Rattle.tp_reactor.specs.Settled.{HasSettled}
use Rattle.tp_reactor.specs.declared.working.Ran.{Ran}
use Rattle.tp_reactor.specs.declared.working.Ran.TheVariants as ran

-- with which answer a lead ends the loop, if it does
abbrev pub ran_of : {H N E : Type 0} → Led H N E → Option Ran
ran_of (led.Job job) = None
ran_of led.Quiet = None
ran_of led.Over = Some ran.Over
ran_of led.Stopped = Some ran.Stopped
ran_of led.Broken = Some ran.Broken
ran_of led.VolumeFault = Some ran.VolumeFault
ran_of led.NetFault = Some ran.NetFault
ran_of led.NoMemory = Some ran.NoMemory

-- the order of the answers: a smaller rank goes first
abbrev pub rank : Ran → ℕ
rank ran.Broken = 0
rank ran.NetFault = 1
rank ran.NoMemory = 2
rank ran.VolumeFault = 3
rank ran.Stopped = 4
rank ran.Over = 5

-- of two answers the one that goes first
abbrev pub first_ran : Ran → Ran → Ran
first_ran a b = if nat_le (rank a) (rank b) then a else b

-- A notice is posted only if a number of closings was asked for, as many handlers were closed or
-- refused, and the reactor was not stopped.
pub record PostsNotice (until : Option (ℕ × Handle)) (settled : Settled) (p s : RingView) : Type 0
  where
    pub count : ℕ
    pub handle : Handle
    pub asked : until ≡ Some (count, handle)
    pub enough : count ≤ settled.closed
    pub running : settled.ended ≡ false
    pub result : Result ℕ Full
    pub posted : HasPosted p handle Except result s

abbrev pub MayPost : Option (ℕ × Handle) → Settled → RingView → RingView → Type 0
MayPost until settled p s = (s ≡ p) ⊎ PostsNotice until settled p s

-- A lead that gave a job, which was run and settled.
pub record Serves {H M Q W V N E : Type 0} (m : Meaning H M Q W V N E) (most : Option ℕ)
    (until : Option (ℕ × Handle)) (v : View (Entry N) DeskTerms) (p : RingView)
    (w : View (Entry N) DeskTerms) (s : RingView) : Type 0 where
  pub job : Job H N E
  pub between : View (Entry N) DeskTerms
  pub done : Done H N E
  pub settled : Settled
  pub led : IsLed m v most (led.Job job) between
  pub run : IsRunOf job done
  pub settles : HasSettled m between done settled w
  pub posts : MayPost until settled p s

-- what is known of a job that a lead gave
pub record JobReady {H M Q W V N E : Type 0} (m : Meaning H M Q W V N E)
    (w : View (Entry N) DeskTerms) (job : Job H N E) : Type 0 where
  pub mine : w.mine ≡ Some (job_event job)
  pub base : w.base ≡ None
  pub fits : JobFits m.means w.terms.run (past_of w.seen) job

-- The worker had led before, and knew this then.
pub record LedBefore {H M Q W V N E : Type 0} (m : Meaning H M Q W V N E) (most : Option ℕ)
    (led : Led H N E) (w : View (Entry N) DeskTerms) : Type 0 where
  pub before : View (Entry N) DeskTerms
  pub leads : IsLed m before most led w

-- The job that a lead gave was run and settled, and the worker led again: between the two it knew
-- this.
pub record ServesAndLeads {H M Q W V N E : Type 0} (m : Meaning H M Q W V N E) (most : Option ℕ)
    (until : Option (ℕ × Handle)) (job : Job H N E) (v : View (Entry N) DeskTerms) (p : RingView)
    (led : Led H N E) (w : View (Entry N) DeskTerms) (s : RingView) : Type 0 where
  pub done : Done H N E
  pub settled : Settled
  pub between : View (Entry N) DeskTerms
  pub run : IsRunOf job done
  pub settles : HasSettled m v done settled between
  pub posts : MayPost until settled p s
  pub leads : IsLed m between most led w

-- a lead that came to nothing
abbrev pub LeadsToNone : {H M Q W V N E : Type 0} → Meaning H M Q W V N E → Option ℕ
    → View (Entry N) DeskTerms → RingView → View (Entry N) DeskTerms → RingView → Type 0
LeadsToNone m most v p w s = IsLed m v most led.Quiet w × (s ≡ p)

-- One round of the loop of a worker that knew v, with postings p, and knows w with s from then on.
abbrev pub Round : {H M Q W V N E : Type 0} → Meaning H M Q W V N E → Option ℕ → Option (ℕ × Handle)
    → View (Entry N) DeskTerms → RingView → View (Entry N) DeskTerms → RingView → Type 0
Round m most until v p w s = LeadsToNone m most v p w s ⊎ Serves m most until v p w s

-- so many rounds, one after another
abbrev pub Rounds : {H M Q W V N E : Type 0} → Meaning H M Q W V N E → Option ℕ
    → Option (ℕ × Handle) → ℕ → View (Entry N) DeskTerms → RingView → View (Entry N) DeskTerms
    → RingView → Type 0
Rounds m most until zero v p w s = (w ≡ v) × (s ≡ p)
Rounds {N = N} m most until (suc n) v p w s =
    (x : View (Entry N) DeskTerms) × (r : RingView) × Rounds m most until n v p x r
    × Round m most until x r w s

-- the lead that ended the loop, with this answer
pub record EndsRun {H M Q W V N E : Type 0} (m : Meaning H M Q W V N E) (most : Option ℕ)
    (v : View (Entry N) DeskTerms) (p : RingView) (answer : Ran) (w : View (Entry N) DeskTerms)
    (s : RingView) : Type 0 where
  pub led : Led H N E
  pub is_led : IsLed m v most led w
  pub answers : ran_of led ≡ Some answer
  pub poster : s ≡ p

-- A whole loop: rounds, and a last lead.
pub record Runs {H M Q W V N E : Type 0} (m : Meaning H M Q W V N E) (most : Option ℕ)
    (until : Option (ℕ × Handle)) (v : View (Entry N) DeskTerms) (p : RingView) (answer : Ran)
    (w : View (Entry N) DeskTerms) (s : RingView) : Type 0 where
  pub rounds : ℕ
  pub last : View (Entry N) DeskTerms
  pub last_posted : RingView
  pub were : Rounds m most until rounds v p last last_posted
  pub ends : EndsRun m most last last_posted answer w s
