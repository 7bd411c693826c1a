-- The loops of workers whose observers are shown each upcall after it was made and before it is
-- settled.
use Rattle.std.specs.Prelude.{ℕ, zero, suc, ◌≡◌, ◌⊎◌, ◌<◌, ◌≤◌, ◌+◌, List, [], ◌∷◌, length, Option}
use Rattle.std.specs.Prelude.{Some, Result, Ok, Err}
use Rattle.ev_base.specs.ev_types.specs.declared.upcall.Handle.{Handle}
use Rattle.leader_token.specs.Passes.{split_right}
use Rattle.leader_token.specs.declared.kept.Kept.{Ghosts as Keeping}
use Rattle.leader_token.specs.declared.kept.View.{View}
use Rattle.notify_ring.specs.Passes as ring
use Rattle.notify_ring.specs.Words.{poster_view}
use Rattle.notify_ring.specs.declared.view.View.{View as RingView}
use Rattle.reactor_model.specs.reactor_journal.specs.declared.entry.Entry.{Entry}
use Rattle.reactor_core.specs.Stands.{Meaning}
use Rattle.reactor_core.specs.declared.job.Done.{Done}
use Rattle.reactor_core.specs.declared.job.Job.{Job}
use Rattle.reactor_desk.specs.declared.terms.DeskTerms.{DeskTerms}
use Rattle.reactor_desk.specs.declared.desk.Desk.{Desk}
use Rattle.reactor_desk.specs.declared.leading.Led.{Led}
use Rattle.tp_reactor.specs.Led.{IsLed}
use Rattle.tp_reactor.specs.Pool.{Dismisses, HiresNone, WorkerEnd, hirer, hirer_posted}
use Rattle.tp_reactor.specs.Words.{known_by, poster_of}
use Rattle.tp_reactor.specs.Working.{EndsRun, LeadsToNone, Serves, ServesAndLeads, ran_of}
use Rattle.tp_reactor.specs.declared.reactor.Worker.{Worker}
use Rattle.tp_reactor.specs.declared.working.Ran.{Ran}
use Rattle.tp_reactor.specs.declared.working.Ran.TheVariants as ran

-- The state of a worker's loop: what the worker knows, its postings, and its observer.
pub record Loop (N O : Type 0) : Type 0 where
  pub known : View (Entry N) DeskTerms
  pub posted : RingView
  pub observer : O

module _ {H M Q W V N E O : Type 0} {kept : Keeping (Desk H M Q W V N E) (Entry N) DeskTerms} where
  abbrev pub loop_of : Worker H M Q W V N E kept → O → Loop N O
  loop_of worker observer = record {
    known = known_by worker;
    posted = poster_view (poster_of worker);
    observer = observer;
  }

-- the state of a loop that ended so, with its observer
abbrev pub loop_end : {N O : Type 0} → WorkerEnd N → O → Loop N O
loop_end end observer = record { known = end.known; posted = end.posted; observer = observer }

-- A lead gave a job, which was run, shown to the observer and settled.
pub record ServesObserved {H M Q W V N E O : Type 0} (m : Meaning H M Q W V N E)
    (observes : O → Done H N E → O → Type 0) (most : Option ℕ) (until : Option (ℕ × Handle))
    (a b : Loop N O) : Type 0 where
  pub serves : Serves m most until a.known a.posted b.known b.posted
  pub shown : observes a.observer serves.done b.observer

-- One round. If its lead came to nothing, the observer is shown nothing.
abbrev pub RoundObserved : {H M Q W V N E O : Type 0} → Meaning H M Q W V N E
    → (O → Done H N E → O → Type 0) → Option ℕ → Option (ℕ × Handle) → Loop N O → Loop N O → Type 0
RoundObserved m observes most until a b =
    (LeadsToNone m most a.known a.posted b.known b.posted × (b.observer ≡ a.observer))
    ⊎ ServesObserved m observes most until a b

-- so many rounds, one after another
abbrev pub RoundsObserved : {H M Q W V N E O : Type 0} → Meaning H M Q W V N E
    → (O → Done H N E → O → Type 0) → Option ℕ → Option (ℕ × Handle) → ℕ → Loop N O → Loop N O
    → Type 0
RoundsObserved m observes most until zero a b = b ≡ a
RoundsObserved {N = N} {O = O} m observes most until (suc n) a b =
    (x : Loop N O) × RoundsObserved m observes most until n a x
    × RoundObserved m observes most until x b

-- A whole loop: rounds, and a last lead. Its observer was shown each upcall that it settled, once,
-- in order, and nothing else.
pub record RunsObserved {H M Q W V N E O : Type 0} (m : Meaning H M Q W V N E)
    (observes : O → Done H N E → O → Type 0) (most : Option ℕ) (until : Option (ℕ × Handle))
    (a : Loop N O) (answer : Ran) (b : Loop N O) : Type 0 where
  pub rounds : ℕ
  pub last : Loop N O
  pub were : RoundsObserved m observes most until rounds a last
  pub ends : EndsRun m most last.known last.posted answer b.known b.posted
  pub observer : b.observer ≡ last.observer

-- ---- the parts of a round

-- The job of a lead was run, shown and settled, and the worker led again.
pub record ServesAndLeadsObserved {H M Q W V N E O : Type 0} (m : Meaning H M Q W V N E)
    (observes : O → Done H N E → O → Type 0) (most : Option ℕ) (until : Option (ℕ × Handle))
    (job : Job H N E) (a : Loop N O) (led : Led H N E) (b : Loop N O) : Type 0 where
  pub serves : ServesAndLeads m most until job a.known a.posted led b.known b.posted
  pub shown : observes a.observer serves.done b.observer

-- one round, and the lead of the next
pub record RoundThenLed {H M Q W V N E O : Type 0} (m : Meaning H M Q W V N E)
    (observes : O → Done H N E → O → Type 0) (most : Option ℕ) (until : Option (ℕ × Handle))
    (a : Loop N O) (led : Led H N E) (b : Loop N O) : Type 0 where
  pub between : View (Entry N) DeskTerms
  pub round : RoundObserved m observes most until a (record b { known = between })
  pub leads : IsLed m between most led b.known

-- What a round comes to after a lead with this answer: the lead of the next round, or an answer
-- that ends the loop.
abbrev pub Goes : {H M Q W V N E O : Type 0} → Meaning H M Q W V N E
    → (O → Done H N E → O → Type 0) → Option ℕ → Option (ℕ × Handle) → Led H N E → Loop N O
    → Result (Led H N E) Ran → Loop N O → Type 0
Goes {N = N} m observes most until led a (Ok next) b =
    (v : View (Entry N) DeskTerms) → IsLed m v most led a.known
    → RoundThenLed m observes most until (record a { known = v }) next b
Goes m observes most until led a (Err ran) b = (ran_of led ≡ Some ran) × (b ≡ a)

-- ---- pools

-- the observers of a pool: the root's, and those of the hired workers, in the order of their hiring
pub record Observers (O : Type 0) : Type 0 where
  pub root : O
  pub hired : List O

-- Each of these workers, which were hired from that number on, made its loop, from what the root
-- knew, and posted at most once; and its observer was shown what that loop settled.
abbrev pub AllObserved : {H M Q W V N E O : Type 0} → Meaning H M Q W V N E
    → (O → Done H N E → O → Type 0) → Option ℕ → Option (ℕ × Handle) → View (Entry N) DeskTerms
    → RingView → ℕ → List O → List (WorkerEnd N) → List O → Type 0
AllObserved m observes most until v p many [] [] [] = Unit {0}
AllObserved m observes most until v p many (before ∷ befores) (x ∷ xs) (after ∷ afters) =
    (RunsObserved m observes most until (record {
      known = split_right v;
      posted = ring.split_right (hirer_posted p many);
      observer = before;
    }) x.ran (loop_end x after) × (length x.posted.posted ≤ 1))
    × AllObserved m observes most until v p (many + 1) befores xs afters
AllObserved m observes most until v p many _ _ _ = ⊥

-- The root goes on alone if each left with Over, with the observer that it has then.
abbrev pub EndsObserved : {H M Q W V N E O : Type 0} → Meaning H M Q W V N E
    → (O → Done H N E → O → Type 0) → Option ℕ → Option (ℕ × Handle) → Ran → WorkerEnd N → O
    → WorkerEnd N → O → Type 0
EndsObserved m observes most until ran.Over left before end after =
    RunsObserved m observes most until (loop_end left before) end.ran (loop_end end after)
EndsObserved m observes most until _ left before end after = (end ≡ left) × (after ≡ before)

-- A root that knew v, with postings p, hired so many workers, each with an observer; each made its
-- loop, as did the root; then the root dismissed them all, and ended the pool.
pub record PoolObserved {H M Q W V N E O : Type 0} (m : Meaning H M Q W V N E)
    (observes : O → Done H N E → O → Type 0) (most : Option ℕ) (until : Option (ℕ × Handle))
    (many : ℕ) (v : View (Entry N) DeskTerms) (p : RingView) (old : Observers O)
    (end : WorkerEnd N) (new : Observers O) : Type 0 where
  pub root : WorkerEnd N
  pub between : O
  pub root_runs : RunsObserved m observes most until (record {
    known = hirer v many;
    posted = hirer_posted p many;
    observer = old.root;
  }) root.ran (loop_end root between)
  pub hired : List (WorkerEnd N)
  pub all : length hired ≡ many
  pub each : AllObserved m observes most until v p 0 old.hired hired new.hired
  pub left : WorkerEnd N
  pub dismisses : Dismisses root hired left
  pub ends : EndsObserved m observes most until left.ran left between end new.root

-- What a run with observers came to. One worker makes one loop. More are a pool; or there was no
-- memory for the list of the hired workers, and no observer was shown anything.
pub record RunObserves {H M Q W V N E O : Type 0} (m : Meaning H M Q W V N E)
    (observes : O → Done H N E → O → Type 0) (most : Option ℕ) (until : Option (ℕ × Handle))
    (v : View (Entry N) DeskTerms) (p : RingView) (old : Observers O) (end : WorkerEnd N)
    (new : Observers O) : Type 0 where
  pub one : length old.hired ≡ 0 → RunsObserved m observes most until
      (record { known = v; posted = p; observer = old.root }) end.ran (loop_end end new.root)
      × (new.hired ≡ [])
  pub several : 0 < length old.hired → (HiresNone v p end × (new ≡ old))
      ⊎ PoolObserved m observes most until (length old.hired) v p old end new
