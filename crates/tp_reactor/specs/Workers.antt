-- A run of a shared reactor by its root and the workers that it hires (ACE's
-- `run_reactor_event_loop`, called by a pool of threads), and what a caller asks of it.
use Rattle.std.specs.Prelude.{ℕ, ◌≡◌, ◌⊎◌, ◌<◌, ◌≤◌, ◌+◌, ◌-◌, ◌^◌, true, length, Option, None}
use Rattle.std.specs.Prelude.{List, IfSome}
use Rattle.ev_base.specs.ev_types.specs.declared.upcall.Handle.{Handle}
use Rattle.leader_token.specs.Lists.{Begins, NoneAbove}
use Rattle.leader_token.specs.declared.kept.Kept.{Ghosts as Keeping}
use Rattle.notify_ring.specs.Words.{poster_view}
use Rattle.reactor_model.specs.reactor_journal.specs.declared.entry.Entry.{Entry}
use Rattle.reactor_core.specs.Polling.{FitsLimit}
use Rattle.reactor_core.specs.Stands.{Meaning}
use Rattle.reactor_desk.specs.Asking.{MayAsk}
use Rattle.reactor_desk.specs.declared.terms.DeskTerms.{DeskTerms}
use Rattle.reactor_desk.specs.declared.desk.Desk.{Desk}
use Rattle.tp_reactor.specs.Alone.{RunsTo}
use Rattle.tp_reactor.specs.Asked.{HasAsked}
use Rattle.tp_reactor.specs.Pool.{EndsWithOver, HasClosed, HiresNone, RanTells, RunsPool, WorkerEnd}
use Rattle.tp_reactor.specs.Pool.{known_postings}
use Rattle.tp_reactor.specs.Words.{known_by, poster_of, posted_of, IsIdleWorker, IsOf, SameKin}
use Rattle.tp_reactor.specs.Working.{Runs}
use Rattle.tp_reactor.specs.declared.reactor.Reactor.{Reactor}
use Rattle.tp_reactor.specs.declared.reactor.Worker.{Worker}
use Rattle.tp_reactor.specs.declared.working.Ran.{Ran}
use Rattle.tp_reactor.specs.declared.working.Ran.TheVariants as ran

module _ {H M Q W V N E : Type 0} {kept : Keeping (Desk H M Q W V N E) (Entry N) DeskTerms} where
  -- How the loop of a worker ended: with this answer, and what the worker knows and posted.
  abbrev pub worker_end : Ran → Worker H M Q W V N E kept → WorkerEnd N
  worker_end answer worker =
      record { ran = answer; known = known_by worker; posted = poster_view (poster_of worker) }

  -- What a run with n workers came to, with this answer. One worker makes one loop, entry by entry
  -- if it was alone; more are a pool, or were not hired for want of memory. With Over the last
  -- lead answered so. The answer tells by the marks of the root. A notice is posted only once as
  -- many handlers as were asked for were closed or refused.
  pub record RunsWorkers (m : Meaning H M Q W V N E) (n : ℕ) (most : Option ℕ)
      (until : Option (ℕ × Handle)) (old : Worker H M Q W V N E kept) (answer : Ran)
      (new : Worker H M Q W V N E kept) : Type 0 where
    pub one : n ≡ 1 → Runs m most until (known_by old) (poster_view (poster_of old)) answer
        (known_by new) (poster_view (poster_of new))
    pub alone : n ≡ 1 → (known_by old).children ≡ 0
        → RunsTo m (known_by old).terms most (known_by old).seen answer (known_by new).seen
    pub several : 1 < n
        → HiresNone (known_by old) (poster_view (poster_of old)) (worker_end answer new)
        ⊎ RunsPool m most until (n - 1) (known_by old) (poster_view (poster_of old))
        (worker_end answer new)
    pub over : answer ≡ ran.Over → EndsWithOver m most (known_by old) (known_by new)
    pub tells : RanTells (known_by old) answer (known_by new)
    pub posts : known_postings (poster_view (poster_of old))
        < known_postings (poster_view (poster_of new)) → HasClosed until (known_by new).seen

  -- A root may run its reactor with n workers: as many more may be made, it has nothing open, and
  -- it may post once if a notice is asked for.
  pub record MayRun (root : Worker H M Q W V N E kept) (n : ℕ) (most : Option ℕ)
      (until : Option (ℕ × Handle)) : Type 0 where
    pub many : 1 ≤ n
    pub few : (poster_view (poster_of root)).posters + n ≤ 65
    pub is_root : (known_by root).root ≡ true
    pub idle : IsIdleWorker root
    pub limit : FitsLimit (known_by root).terms.run most
    pub room : IfSome until (λ asked. length (posted_of root) < 2 ^ 56)

  module _ {K : Type 0} where
    -- A worker of the reactor that has nothing open went on: it is of the same kin, has seen all
    -- that it had seen, no mark of it fell, and it posted at most once.
    pub record SameWorker (reactor : Reactor H M Q W V K N E)
        (old new : Worker H M Q W V N E kept) : Type 0 where
      pub of : IsOf new reactor
      pub idle : IsIdleWorker new
      pub kin : SameKin (known_by old) (known_by new)
      pub seen : Begins (known_by old).seen (known_by new).seen
      pub marks : NoneAbove (known_by old).marks (known_by new).marks
      pub once : length (posted_of new) ≤ length (posted_of old) + 1

    -- a worker may ask something of the reactor that no turn asks
    pub record MayAskOf (reactor : Reactor H M Q W V K N E)
        (worker : Worker H M Q W V N E kept) : Type 0 where
      pub of : IsOf worker reactor
      pub free : (known_by worker).base ≡ None
      pub ask : MayAsk (known_by worker).terms

    -- It asked, and P holds of the entries that this appended. It posted nothing.
    pub record HasAskedOf (m : Meaning H M Q W V N E) (reactor : Reactor H M Q W V K N E)
        (old : Worker H M Q W V N E kept) (P : List (Entry N) → Desk H M Q W V N E
        → Desk H M Q W V N E → List (Entry N) → Type 0)
        (new : Worker H M Q W V N E kept) : Type 0 where
      pub of : IsOf new reactor
      pub asked : HasAsked m (known_by old) P (known_by new)
      pub poster : poster_of new ≡ poster_of old
