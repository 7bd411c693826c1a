-- Who calls a pool, between the calls: one who is free, or one who has made an upcall that is to be
-- settled.
use Rattle.std.specs.Prelude.{ℕ, ◌≡◌, ◌+◌, ◌-◌, true, List, Option, Some, None}
use Rattle.ev_base.specs.Terms.{Terms}
use Rattle.demux.specs.declared.play_end.PlayEnd.{PlayEnd}
use Rattle.tp_reactor.specs.list_lemmas.specs.Times.{times}
use Rattle.tp_reactor.specs.leader_token.specs.declared.kept.Kept.{Ghosts as Keeping}
use Rattle.notify_ring.specs.Words.{poster_view}
use Rattle.timer_queue.specs.Content.{Content}
use Rattle.reactor_model.specs.reactor_journal.specs.declared.entry.Entry.{Entry}
use Rattle.reactor_model.specs.reactor_journal.specs.Past.{past_of}
use Rattle.reactor_model.specs.declared.watch.NoWatch.{NoWatch}
use Rattle.reactor_core.specs.Stands.{Meaning, Stands}
use Rattle.reactor_core.specs.Upcalls.{DoneFits}
use Rattle.reactor_core.specs.Views.{done_event}
use Rattle.reactor_core.specs.declared.job.Done.{Done}
use Rattle.reactor_core.specs.declared.reactor.Core.{Core}
use Rattle.reactor_core.specs.laws_turns.specs.Opens.{opens_of}
use Rattle.tp_reactor.specs.reactor_desk.specs.declared.terms.DeskTerms.{DeskTerms}
use Rattle.tp_reactor.specs.reactor_desk.specs.declared.desk.Desk.{Desk}
use Rattle.tp_reactor.specs.Words.{known_by, poster_of, IsIdleWorker, IsOf, SameKin}
use Rattle.tp_reactor.specs.declared.reactor.Reactor.{Reactor}
use Rattle.tp_reactor.specs.declared.reactor.Worker.{Worker}
use Rattle.test_pool.specs.Members.{member}
use Rattle.test_pool.specs.declared.member.Member.{Member}

abbrev pub DeskOf : Type 0 → Type 0 → Type 0
DeskOf M V = Desk Member M Content NoWatch V ℕ PlayEnd

abbrev pub PoolOf : Type 0 → Type 0 → Type 0 → Type 0
PoolOf M V K = Reactor Member M Content NoWatch V K ℕ PlayEnd

-- a reactor in which no upcall is on its way
pub record HasNoUpcalls {M V : Type 0} (m : Meaning Member M Content NoWatch V ℕ PlayEnd)
    (core : Core Member M Content NoWatch V ℕ PlayEnd) : Type 0 where
  pub terms : Terms
  pub first : ℕ
  pub history : List (Entry ℕ)
  pub stands : Stands m terms core first history
  pub closed : (e : ℕ) → times e (opens_of history) ≡ 0

-- the terms leave the limit of waits open, and callers may ask for anything
pub record IsOpen (terms : DeskTerms) : Type 0 where
  pub limit : terms.run.limit ≡ None
  pub by_turn : terms.run.by_turn ≡ None

module _ {M V : Type 0} {kept : Keeping (DeskOf M V) (Entry ℕ) DeskTerms} where
  -- a worker of the pool that has no upcall on its way
  pub record IsFree {K : Type 0} (pool : PoolOf M V K)
      (worker : Worker Member M Content NoWatch V ℕ PlayEnd kept) : Type 0 where
    pub of : IsOf worker pool
    pub idle : IsIdleWorker worker
    pub terms : IsOpen (known_by worker).terms

  -- one that has made this upcall, which is to be settled
  pub record IsOut {K : Type 0} (pool : PoolOf M V K)
      (worker : Worker Member M Content NoWatch V ℕ PlayEnd kept)
      (done : Done Member ℕ PlayEnd) : Type 0 where
    pub of : IsOf worker pool
    pub base : (known_by worker).base ≡ None
    pub terms : IsOpen (known_by worker).terms
    pub own : (known_by worker).mine ≡ Some (done_event done)
    pub fits : DoneFits member (known_by worker).terms.run (past_of (known_by worker).seen) done

  -- one that has made this upcall, or none
  abbrev pub IsOutOrFree : {K : Type 0} → PoolOf M V K
      → Worker Member M Content NoWatch V ℕ PlayEnd kept → Option (Done Member ℕ PlayEnd) → Type 0
  IsOutOrFree pool worker (Some done) = IsOut pool worker done
  IsOutOrFree pool worker None = IsFree pool worker

  -- the root, which has so many hired workers that are not dismissed, and made so many workers with
  -- itself
  pub record IsRoot (worker : Worker Member M Content NoWatch V ℕ PlayEnd kept)
      (hired made : ℕ) : Type 0 where
    pub root : (known_by worker).root ≡ true
    pub hired_now : (known_by worker).children ≡ hired
    pub made_so_far : (poster_view (poster_of worker)).posters ≡ made

  -- the root has one more hired worker, and has made one more
  pub record HasHired (old new : Worker Member M Content NoWatch V ℕ PlayEnd kept) : Type 0 where
    pub root : (known_by new).root ≡ (known_by old).root
    pub hired_now : (known_by new).children ≡ (known_by old).children + 1
    pub made_so_far : (poster_view (poster_of new)).posters
        ≡ (poster_view (poster_of old)).posters + 1

  -- the root has one hired worker less
  pub record HasDismissed (old new : Worker Member M Content NoWatch V ℕ PlayEnd kept) : Type 0
    where
      pub root : (known_by new).root ≡ (known_by old).root
      pub hired_now : (known_by new).children ≡ (known_by old).children - 1

  -- the root or not, with as many hired workers, and workers made, as before
  pub record SameRank (old new : Worker Member M Content NoWatch V ℕ PlayEnd kept) : Type 0 where
    pub kin : SameKin (known_by old) (known_by new)
    pub made : (poster_view (poster_of new)).posters ≡ (poster_view (poster_of old)).posters
