-- The statuses of the command.
use Rattle.std.specs.Prelude.{◌≡◌, ℕ, List, [], ◌∷◌, ◌++◌, None}
use Rattle.ev_base.specs.End.{EndFacts}
use Rattle.ev_base.specs.Sink.{SinkFacts}
use Rattle.reactor_core.specs.Stands.{Meaning}
use Rattle.aio_words.specs.declared.words.AioWords.{AioWords}
use Rattle.proactor.specs.declared.service.AioNote.{AioNote}
use Rattle.exit_status.specs.Statuses.{code_of}
use Rattle.exit_status.specs.declared.status.Status.{Status}
use Rattle.exit_status.specs.declared.status.Status.TheVariants as status
use Rattle.cmd_aio.specs.Leaving.{LeavesRun, ListensSo}
use Rattle.cmd_aio.specs.declared.ending.AioEnd.{AioEnd}
use Rattle.cmd_aio.specs.declared.ending.AioEnd.TheVariants as end
use Rattle.cmd_aio.specs.declared.ending.Ran.{Ran}
use Rattle.cmd_aio.specs.declared.top.AioServed.{AioServed}

-- the status of each ending
abbrev pub status_by : AioEnd → Status
status_by end.Done = status.Done
status_by end.WriteFault = status.WriteFault
status_by end.NetFault = status.NetFault
status_by end.NoMemory = status.NoMemory
status_by end.ListenFault = status.ListenFault

-- what the top call answers for what a run left
abbrev pub served_by : {M K : Type 0} → Ran M K → AioServed M K
served_by ran = record {
  status = code_of (status_by ran.end);
  net = ran.net;
  journal = ran.journal;
  output = ran.output;
}

-- No run was begun: there is no net and no journal, and nothing was written. The host is as before.
pub record IsUnbegun {M K : Type 0} (output : K) (faults : ℕ × ℕ) (ports : List ℕ × List ℕ)
    (served : AioServed M K) : Type 0 where
  pub net : served.net ≡ None
  pub journal : served.journal.entries ≡ []
  pub output_is : served.output ≡ output
  pub host : faults.1 ≡ faults.0
  pub asked : ports.1 ≡ ports.0

-- What words that call the command come to: its run.
pub record RunsCommand {H M Q W V K E : Type 0} (m : Meaning H M Q W V AioNote E)
    (tells : E → EndFacts) (sink : K → SinkFacts) (said : AioWords) (o : SinkFacts)
    (faults : ℕ × ℕ) (ports : List ℕ × List ℕ) (served : AioServed M K) : Type 0 where
  pub ran : Ran M K
  pub is : served ≡ served_by ran
  pub leaves : LeavesRun m tells sink o said.until ran
  pub listens : ListensSo ran.end ran.net faults.0 faults.1
  pub asked : ports.1 ≡ ports.0 ++ said.port ∷ []
