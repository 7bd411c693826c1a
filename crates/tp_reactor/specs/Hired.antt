-- Hired workers, before and after their loops.
use Rattle.std.specs.Prelude.{ℕ, ◌≡◌, ◌<◌, ◌≤◌, ◌+◌, ◌^◌, List, [], ◌∷◌, length, Option, false}
use Rattle.ev_base.specs.ev_types.specs.declared.upcall.Handle.{Handle}
use Rattle.leader_token.specs.Passes.{split_right}
use Rattle.leader_token.specs.declared.kept.Kept.{Ghosts as Keeping}
use Rattle.leader_token.specs.declared.kept.View.{View}
use Rattle.notify_ring.specs.Passes as ring
use Rattle.notify_ring.specs.Words.{poster_view}
use Rattle.notify_ring.specs.declared.view.View.{View as RingView}
use Rattle.reactor_model.specs.reactor_journal.specs.declared.entry.Entry.{Entry}
use Rattle.reactor_core.specs.Polling.{FitsLimit}
use Rattle.reactor_core.specs.Stands.{Meaning}
use Rattle.reactor_core.specs.declared.job.Done.{Done}
use Rattle.reactor_desk.specs.declared.terms.DeskTerms.{DeskTerms}
use Rattle.reactor_desk.specs.declared.desk.Desk.{Desk}
use Rattle.tp_reactor.specs.Pool.{WorkerEnd, hirer_posted}
use Rattle.tp_reactor.specs.Words.{known_by, poster_of, posted_of, IsOf, IsIdleWorker, SameKin}
use Rattle.tp_reactor.specs.Observed.{RunsObserved, loop_of}
use Rattle.tp_reactor.specs.declared.reactor.Reactor.{Reactor}
use Rattle.tp_reactor.specs.declared.pool.Hired.{Hired}

module _ {H M Q W V O N E : Type 0} {kept : Keeping (Desk H M Q W V N E) (Entry N) DeskTerms} where
  -- how it left its loop
  abbrev pub end_of : Hired H M Q W V O N E kept → WorkerEnd N
  end_of hired = record {
    ran = hired.ran;
    known = known_by hired.worker;
    posted = poster_view (poster_of hired.worker);
  }

  abbrev pub ends_of : List (Hired H M Q W V O N E kept) → List (WorkerEnd N)
  ends_of [] = []
  ends_of (x ∷ xs) = end_of x ∷ ends_of xs

  -- the observers of hired workers
  abbrev pub observers_of : List (Hired H M Q W V O N E kept) → List O
  observers_of [] = []
  observers_of (x ∷ xs) = x.observer ∷ observers_of xs

  module _ {K : Type 0} where
    -- a worker of the reactor that may begin its loop
    pub record IsReady (reactor : Reactor H M Q W V K N E) (most : Option ℕ)
        (hired : Hired H M Q W V O N E kept) : Type 0 where
      pub of : IsOf hired.worker reactor
      pub idle : IsIdleWorker hired.worker
      pub limit : FitsLimit (known_by hired.worker).terms.run most
      pub room : length (posted_of hired.worker) < 2 ^ 56

    -- it left its loop, with the answer that it keeps
    pub record IsBack (m : Meaning H M Q W V N E) (observes : O → Done H N E → O → Type 0)
        (reactor : Reactor H M Q W V K N E) (most : Option ℕ) (until : Option (ℕ × Handle))
        (old new : Hired H M Q W V O N E kept) : Type 0 where
      pub of : IsOf new.worker reactor
      pub idle : IsIdleWorker new.worker
      pub kin : SameKin (known_by old.worker) (known_by new.worker)
      pub runs : RunsObserved m observes most until (loop_of old.worker old.observer) new.ran
          (loop_of new.worker new.observer)
      pub once : length (posted_of new.worker) ≤ length (posted_of old.worker) + 1

    -- a worker that a root hired, with view v and postings p, as number `many` from the first
    pub record IsHired (reactor : Reactor H M Q W V K N E) (v : View (Entry N) DeskTerms)
        (p : RingView) (many : ℕ) (hired : Hired H M Q W V O N E kept) : Type 0 where
      pub of : IsOf hired.worker reactor
      pub known : known_by hired.worker ≡ split_right v
      pub posted : poster_view (poster_of hired.worker) ≡ ring.split_right (hirer_posted p many)

    abbrev pub AreHired : Reactor H M Q W V K N E → View (Entry N) DeskTerms → RingView → ℕ
        → List (Hired H M Q W V O N E kept) → Type 0
    AreHired reactor v p many [] = Unit {0}
    AreHired reactor v p many (x ∷ xs) =
        IsHired reactor v p many x × AreHired reactor v p (many + 1) xs

    -- a worker that may be dismissed
    pub record MayLeave (reactor : Reactor H M Q W V K N E)
        (hired : Hired H M Q W V O N E kept) : Type 0 where
      pub of : IsOf hired.worker reactor
      pub idle : IsIdleWorker hired.worker
      pub child : (known_by hired.worker).root ≡ false
