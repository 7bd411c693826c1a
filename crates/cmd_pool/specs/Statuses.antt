-- The statuses of the command.
use Rattle.std.specs.Prelude.{◌≡◌, ℕ, List, [], ◌∷◌, ◌++◌, None}
use Rattle.ev_base.specs.Sink.{SinkFacts}
use Rattle.server_run.specs.log_handler.specs.declared.note.ServerNote.{ServerNote}
use Rattle.server_run.specs.reactor_core.specs.Stands.{Meaning}
use Rattle.exit_status.specs.Statuses.{code_of}
use Rattle.exit_status.specs.declared.status.Status.{Status}
use Rattle.exit_status.specs.declared.status.Status.TheVariants as status
use Rattle.cmd_pool.specs.Leaving.{LeavesPool, ListensSo}
use Rattle.cmd_pool.specs.Starting.{asked_by, pool_terms}
use Rattle.cmd_pool.specs.declared.ending.PoolEnd.{PoolEnd}
use Rattle.cmd_pool.specs.declared.ending.PoolEnd.TheVariants as end
use Rattle.cmd_pool.specs.declared.ending.PoolServed.{PoolServed}
use Rattle.cmd_pool.specs.declared.top.Pooled.{Pooled}
use Rattle.cmd_pool.specs.declared.words.PoolOptions.{PoolOptions}

-- the status of each ending
abbrev pub status_by : PoolEnd → Status
status_by end.Done = status.Done
status_by end.WriteFault = status.WriteFault
status_by end.NetFault = status.NetFault
status_by end.NoMemory = status.NoMemory
status_by end.ListenFault = status.ListenFault

-- what the top call answers for what a run left
abbrev pub pooled_by : {M K : Type 0} → PoolServed M K → Pooled M K
pooled_by served = record {
  status = code_of (status_by served.end);
  net = served.net;
  journal = served.journal;
  output = served.output;
}

-- No run was begun: there is no net and no journal, and nothing was written. The host is as before.
pub record HasNoRun {M K : Type 0} (output : K) (faults : ℕ × ℕ) (ports : List ℕ × List ℕ)
    (pooled : Pooled M K) : Type 0 where
  pub net : pooled.net ≡ None
  pub journal : pooled.journal.entries ≡ []
  pub output_is : pooled.output ≡ output
  pub host : faults.1 ≡ faults.0
  pub asked : ports.1 ≡ ports.0

-- What words that call the command come to: its run; or there was no memory to read them, and no
-- run was begun.
pub record RunsCommand {H M Q W V K E : Type 0} (m : Meaning H M Q W V ServerNote E)
    (sink : K → SinkFacts) (options : PoolOptions) (o : SinkFacts) (faults : ℕ × ℕ)
    (ports : List ℕ × List ℕ) (pooled : Pooled M K) : Type 0 where
  pub served : PoolServed M K
  pub is : pooled ≡ pooled_by served
  pub leaves : LeavesPool m sink pool_terms (asked_by options) o served
  pub listens : ListensSo served.end served.net faults.0 faults.1
  pub asked : ports.1 ≡ ports.0 ++ options.port ∷ []
