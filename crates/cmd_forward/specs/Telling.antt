-- What a run's status and totals become once they are told.
use Rattle.std.specs.Prelude.{◌≡◌, ◌⊎◌, Some}
use Rattle.ev_base.specs.Sink.{SinkFacts}
use Rattle.sink_buffer.specs.Written.{TookAll, TookFront}
use Rattle.exit_status.specs.Statuses.{code_of, number_of}
use Rattle.cmd_forward.specs.Answers.{most_input}
use Rattle.cmd_forward.specs.Statuses.{status_by, totals_text}
use Rattle.cmd_forward.specs.declared.command.Forwarded.{Forwarded}
use Rattle.cmd_forward.specs.declared.running.Ran.{Ran}
use Rattle.cmd_forward.specs.declared.outcome.Outcome.{Outcome}
use Rattle.cmd_forward.specs.declared.outcome.Outcome.TheVariants.{Done, Usage, ReadFault, WriteFault}
use Rattle.cmd_forward.specs.declared.outcome.Outcome.TheVariants.{NetFault, NoMemory, BadRecord}
use Rattle.cmd_forward.specs.declared.outcome.Outcome.TheVariants.{TooLong, PeerFault}
use Rattle.cmd_forward.specs.declared.outcome.Outcome.TheVariants.{ConnectTimeout, Unfinished}

-- if all was sent, both lines were written, or a front of them if a write failed; else the
-- status stays and the output is as it was
abbrev pub BecomesTold : {K : Type 0} → (K → SinkFacts) → Outcome → K → Outcome → K → Type 0
BecomesTold sink (Done records bytes) output outcome now =
    ((outcome ≡ Done records bytes)
    × TookAll (sink output) (totals_text records bytes) (sink now))
    ⊎ ((outcome ≡ WriteFault) × TookFront (sink output) (totals_text records bytes) (sink now))
BecomesTold sink Usage output outcome now = (outcome ≡ Usage) × (now ≡ output)
BecomesTold sink ReadFault output outcome now = (outcome ≡ ReadFault) × (now ≡ output)
BecomesTold sink WriteFault output outcome now = (outcome ≡ WriteFault) × (now ≡ output)
BecomesTold sink NetFault output outcome now = (outcome ≡ NetFault) × (now ≡ output)
BecomesTold sink NoMemory output outcome now = (outcome ≡ NoMemory) × (now ≡ output)
BecomesTold sink (BadRecord at) output outcome now = (outcome ≡ BadRecord at) × (now ≡ output)
BecomesTold sink TooLong output outcome now = (outcome ≡ TooLong) × (now ≡ output)
BecomesTold sink PeerFault output outcome now = (outcome ≡ PeerFault) × (now ≡ output)
BecomesTold sink (ConnectTimeout at) output outcome now =
    (outcome ≡ ConnectTimeout at) × (now ≡ output)
BecomesTold sink Unfinished output outcome now = (outcome ≡ Unfinished) × (now ≡ output)

-- what is left has the number of this status, and that which goes with it
pub record HasNumbers {M S K : Type 0} (outcome : Outcome) (left : Forwarded M S K) : Type 0 where
  pub code : left.status ≡ code_of (status_by most_input outcome)
  pub number : left.at ≡ number_of (status_by most_input outcome)

-- the status, the totals and what the run left were told
pub record IsTold {M S K : Type 0} (sink : K → SinkFacts) (ran : Ran M S) (output : K)
    (left : Forwarded M S K) : Type 0 where
  pub outcome : Outcome
  pub numbers : HasNumbers outcome left
  pub net : left.net ≡ Some ran.net
  pub input : left.input ≡ ran.input
  pub told : BecomesTold sink ran.outcome output outcome left.output
