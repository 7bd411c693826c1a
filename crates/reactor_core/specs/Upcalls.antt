-- What an upcall on its way has to do with the journal.
use Rattle.std.specs.Prelude.{ℕ, ◌≡◌, false, List, [], ◌∷◌, ◌++◌, Option, Some, None, IsTrue}
use Rattle.ev_base.specs.Terms.{Terms}
use Rattle.reactor_model.specs.reactor_journal.specs.declared.entry.Entry.{Entry}
use Rattle.reactor_model.specs.reactor_journal.specs.declared.entry.Entry.TheVariants.{Started}
use Rattle.reactor_model.specs.reactor_journal.specs.Past.{past_of, had, origin_of, is_pick}
use Rattle.reactor_summary.specs.Summary.{summary, open_event}
use Rattle.reactor_model.specs.Handling.{Handling, NoClose}
use Rattle.reactor_model.specs.Turns.{MayAct, KeepsPromises}
use Rattle.reactor_core.specs.Stands.{Meaning, Stands}
use Rattle.reactor_core.specs.declared.reactor.Core.{Core}
use Rattle.reactor_core.specs.declared.job.Job.{Job}
use Rattle.reactor_core.specs.declared.job.Done.{Done}

-- The event of a job is open, with its handle, upcall and moment, and its handler fits what it had,
-- in which no answer is Close.
pub record JobFits {H E N : Type 0} (means : Handling H E N) (t : Terms) (past : List (Entry N))
    (job : Job H N E) : Type 0 where
  pub event : open_event (summary past) job.event
      ≡ Some (record {
        event = job.event;
        handle = job.handle;
        upcall = job.upcall;
        moment = job.now;
      })
  pub fits : means.fits t (origin_of past job.handle.0) job.handler (had past job.handle.0)
  pub no_close : NoClose (had past job.handle.0)

-- The event of an upcall that was made is open, with its handle, upcall and moment; its handler
-- fits what it had and the turn that it gave; and its act is one that the turn may carry.
pub record DoneFits {H E N : Type 0} (means : Handling H E N) (t : Terms) (past : List (Entry N))
    (done : Done H N E) : Type 0 where
  pub event : open_event (summary past) done.event
      ≡ Some (record {
        event = done.event;
        handle = done.handle;
        upcall = done.upcall;
        moment = done.now;
      })
  pub fits : means.fits t (origin_of past done.handle.0) done.handler
      (had past done.handle.0 ++ record {
        upcall = done.upcall;
        moment = done.now;
        answer = done.turn.answer;
        note = done.turn.note;
      } ∷ [])
  pub act : MayAct means t done.upcall (record { note = done.turn.note; moment = done.now })
      done.turn.act
  pub promises : KeepsPromises means done.upcall done.turn

-- the upcall of the job was made, for its event and at its moment
pub record IsRunOf {H N E : Type 0} (job : Job H N E) (done : Done H N E) : Type 0 where
  pub event : done.event ≡ job.event
  pub handle : done.handle ≡ job.handle
  pub upcall : done.upcall ≡ job.upcall
  pub now : done.now ≡ job.now

-- no event is to be started next
abbrev pub HasNoPick : {N : Type 0} → List (Entry N) → Type 0
HasNoPick past = (i : ℕ) → is_pick past i ≡ false

-- what `start` gives: the job of the pick, or none if there is no pick
abbrev pub StartGives : {H M Q W V N E : Type 0} → Meaning H M Q W V N E → Terms → ℕ
    → List (Entry N) → Option (Job H N E) → Core H M Q W V N E → Type 0
StartGives m t F h None new = HasNoPick (past_of h) × Stands m t new F h
StartGives m t F h (Some job) new =
    IsTrue (is_pick (past_of h) job.event)
    × Stands m t new F (h ++ Started job.event ∷ [])
    × JobFits m.means t (Started job.event ∷ past_of h) job
