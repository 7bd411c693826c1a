-- What the settling of an upcall leaves of a desk.
use Rattle.std.specs.Prelude.{ℕ, List, [], ◌∷◌, ◌++◌}
use Rattle.reactor_model.specs.reactor_journal.specs.declared.entry.Entry.{Entry}
use Rattle.reactor_core.specs.Acting.{Settles}
use Rattle.reactor_core.specs.Settling.{returned}
use Rattle.reactor_core.specs.Stands.{Meaning}
use Rattle.reactor_core.specs.declared.acting.Settled.{Settled}
use Rattle.reactor_core.specs.declared.job.Done.{Done}
use Rattle.reactor_desk.specs.Desks.{DeskStands, core_of}
use Rattle.reactor_desk.specs.declared.terms.DeskTerms.{DeskTerms}
use Rattle.reactor_desk.specs.declared.desk.Desk.{Desk}

-- Its reactor settled the upcall, and the desk stands for the history with the entries of that.
pub record SettlesDesk {H M Q W V N E : Type 0} (m : Meaning H M Q W V N E) (q : DeskTerms) (F : ℕ)
    (h : List (Entry N)) (done : Done H N E) (old new : Desk H M Q W V N E)
    (settled : Settled) : Type 0 where
  pub settles : Settles m q.run F h done (core_of old) (core_of new) settled
  pub stands : DeskStands m q F new (((h ++ returned done ∷ []) ++ settles.closing)
      ++ settles.acted)
