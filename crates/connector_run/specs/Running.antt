-- What a run of one connector leads to.
use Rattle.std.specs.Prelude.{ℕ, ◌≡◌, List, Some, None}
use Rattle.ev_base.specs.Counts.{Rose}
use Rattle.ev_base.specs.Terms.{Terms}
use Rattle.reactor_core.specs.Stands.{Meaning, Stands}
use Rattle.reactor_core.specs.declared.reactor.Core.{Core}
use Rattle.reactor_model.specs.reactor_journal.specs.declared.entry.Entry.{Entry}
use Rattle.core_loop.specs.Leading.{EndsOver}
use Rattle.connector_run.specs.Phases.{IsAlive, ClosedItself, first_entries}
use Rattle.connector_run.specs.declared.running.Ended.{Ended}
use Rattle.connector_run.specs.declared.running.Ended.TheVariants as ended

-- how the history stands at the end of a run: the handler closed itself, or it is alive, and the
-- last wait was answered that nothing can be reported any more, a wait failed, or there was no
-- memory
abbrev pub EndsSo : {H M Q W V N E : Type 0} → Meaning H M Q W V N E → Terms → ℕ → Ended → ℕ → ℕ
    → List (Entry N) → Type 0
EndsSo m t wait ended.Closed over first h = ClosedItself wait first h
EndsSo m t wait ended.Over over first h =
    IsAlive wait h × EndsOver m.means t (Some 1) over (first_entries wait) h
EndsSo m t wait ended.NetFault over first h = IsAlive wait h
EndsSo m t wait ended.NoMemory over first h = IsAlive wait h

-- the net's count of failed waits rose if a wait failed
abbrev pub HasCause : Ended → ℕ → ℕ → Type 0
HasCause ended.NetFault before now = Rose before now
HasCause _ before now = Unit {0}

-- it stands for the registration of its one handler, on terms that leave the limit of waits open
pub record IsRegistered {H M Q W V N E : Type 0} (m : Meaning H M Q W V N E)
    (core : Core H M Q W V N E) : Type 0 where
  pub terms : Terms
  pub limit : terms.limit ≡ None
  pub first : ℕ
  pub wait : ℕ
  pub stands : Stands m terms core first (first_entries wait)
