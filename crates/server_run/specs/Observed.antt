-- What the observers of a run's workers were shown.
use Rattle.std.specs.Prelude.{ℕ, ◌≡◌, ◌⊎◌, [], ◌∷◌}
use Rattle.log_handler.specs.declared.note.ServerNote.{ServerNote}
use Rattle.tp_reactor.specs.leader_token.specs.declared.kept.View.{View}
use Rattle.tp_reactor.specs.notify_ring.specs.declared.view.View.{View as RingView}
use Rattle.tp_reactor.specs.reactor_core.specs.Stands.{Meaning}
use Rattle.tp_reactor.specs.reactor_core.specs.declared.job.Done.{Done}
use Rattle.tp_reactor.specs.reactor_desk.specs.declared.terms.DeskTerms.{DeskTerms}
use Rattle.log_handler.specs.reactor_journal.specs.declared.entry.Entry.{Entry}
use Rattle.tp_reactor.specs.Observed.{Observers, RunObserves}
use Rattle.tp_reactor.specs.Pool.{WorkerEnd}
use Rattle.server_run.specs.Journals.{first_entry, notice_for}
use Rattle.server_run.specs.declared.asked.Asked.{Asked}

-- A root that had seen the registration of the acceptor alone ran with the others, and each
-- worker's observer was shown the upcalls that this worker settled, once, in order, and no others.
pub record WereShown {H M Q W V N E O : Type 0} (m : Meaning H M Q W V N E)
    (observes : O → Done H N E → O → Type 0) (asked : Asked) (old new : Observers O) : Type 0 where
  pub root : View (Entry N) DeskTerms
  pub postings : RingView
  pub end : WorkerEnd N
  pub begins : root.seen ≡ first_entry ∷ []
  pub shown : RunObserves m observes asked.limit (notice_for asked.until) root postings old end new

-- The observers were shown what their workers settled; or no worker led, and they are as before.
abbrev pub ShowsUpcalls : {H M Q W V N E O : Type 0} → Meaning H M Q W V N E
    → (O → Done H N E → O → Type 0) → Asked → Observers O → Observers O → Type 0
ShowsUpcalls m observes asked old new = (new ≡ old) ⊎ WereShown m observes asked old new
