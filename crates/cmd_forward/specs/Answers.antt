-- What a call of `forward_main` answers, and what it leaves.
use Rattle.std.specs.Prelude.{◌≡◌, ◌^◌, ◌⊎◌, ◌++◌, ℕ, List, [], ◌∷◌, Some, None}
use Rattle.ev_base.specs.Counts.{Rose}
use Rattle.ev_base.specs.End.{EndFacts}
use Rattle.ev_base.specs.Net.{NetFacts}
use Rattle.ev_base.specs.Sink.{SinkFacts}
use Rattle.ev_base.specs.Source.{SourceFacts}
use Rattle.exit_status.specs.Statuses.{code_of, number_of}
use Rattle.exit_status.specs.declared.status.Status.TheVariants as status
use Rattle.sink_buffer.specs.Written.{TookAll, TookFront}
use Rattle.cmd_line.specs.Given.{Text}
use Rattle.connector_run.specs.Waits.{AskedUntil}
use Rattle.reactor_core.specs.Ends.{WhereTold}
use Rattle.cmd_forward.specs.Runs.{HasRun}
use Rattle.cmd_forward.specs.Statuses.{IsDone, RunEnds, status_by, totals_text}
use Rattle.cmd_forward.specs.Words.{forward_of}
use Rattle.cmd_forward.specs.declared.command.Forwarded.{Forwarded}
use Rattle.cmd_forward.specs.declared.outcome.Outcome.{Outcome}
use Rattle.cmd_forward.specs.declared.outcome.Outcome.TheVariants.{Done, Usage, ReadFault, WriteFault}
use Rattle.cmd_forward.specs.declared.outcome.Outcome.TheVariants.{NetFault, NoMemory, BadRecord}
use Rattle.cmd_forward.specs.declared.outcome.Outcome.TheVariants.{TooLong, PeerFault}
use Rattle.cmd_forward.specs.declared.outcome.Outcome.TheVariants.{ConnectTimeout, Unfinished}
use Rattle.cmd_forward.specs.declared.words.ForwardOptions.{ForwardOptions}

-- how many bytes of the input are read at most
abbrev pub most_input : ℕ
most_input = 2 ^ 40

-- no connection was begun: there is no net, and input and output are as they were
pub record IsUnbegun {M S K : Type 0} (source : S) (sink : K) (left : Forwarded M S K) : Type 0
  where
    pub net : left.net ≡ None
    pub input : left.input ≡ source
    pub output : left.output ≡ sink

-- No port was dialled: there is no net, and the words call no command, or memory was wanting.
pub record IsUndialled {M S K : Type 0} (words : List Text) (left : Forwarded M S K) : Type 0 where
  pub net : left.net ≡ None
  pub why : (forward_of words ≡ None) ⊎ (left.status ≡ code_of status.NoMemory)

-- The ports that the dialler was asked for: that of the words, once, or none more.
abbrev pub DialsPort : {M S K : Type 0} → List Text → List ℕ → List ℕ → Forwarded M S K → Type 0
DialsPort words before now left = ((now ≡ before) × IsUndialled words left)
    ⊎ ((options : ForwardOptions) × (forward_of words ≡ Some options)
    × (now ≡ before ++ options.port ∷ []))

-- The limits of the waits, if a connection was begun and its net tells its calls. Each wait was
-- asked with exactly the time that was left until the milliseconds were over for which the words
-- let the connection be waited for, and with no limit after that.
abbrev pub LimitsWaits : {M S K E : Type 0} → (M → NetFacts E) → List Text → Forwarded M S K
    → Type 0
LimitsWaits {M = M} facts words left =
    (options : ForwardOptions) (net : M) → forward_of words ≡ Some options → left.net ≡ Some net
    → WhereTold (AskedUntil options.wait) (facts net).calls

-- The words call the command, and a connection was begun to their port, so no count of the dialler
-- rose. Of what they say and of the net, P holds.
pub record HasBegun {M S K : Type 0} (words : List Text) (before now : ℕ) (left : Forwarded M S K)
    (P : ForwardOptions → M → Type 0) : Type 0 where
  pub options : ForwardOptions
  pub called : forward_of words ≡ Some options
  pub dialled : now ≡ before
  pub net : M
  pub net_is : left.net ≡ Some net
  pub so : P options net

-- the words are none that call the command, and nothing was dialled
pub record IsUsage {M S K : Type 0} (words : List Text) (before now : ℕ) (input : S) (output : K)
    (left : Forwarded M S K) : Type 0 where
  pub refused : forward_of words ≡ None
  pub none_dialled : now ≡ before
  pub unbegun : IsUnbegun input output left

-- the dialler failed
pub record IsDialFault {M S K : Type 0} (words : List Text) (before now : ℕ) (input : S)
    (output : K) (left : Forwarded M S K) : Type 0 where
  pub options : ForwardOptions
  pub called : forward_of words ≡ Some options
  pub rose : Rose before now
  pub unbegun : IsUnbegun input output left

module _ {M S K E : Type 0} (tells : E → EndFacts) (facts : M → NetFacts E)
    (source : S → SourceFacts) (sink : K → SinkFacts) (words : List Text) (before now : ℕ)
    (input : S) (output : K) (left : Forwarded M S K) where
  -- the run ended so, and nothing was written
  abbrev pub RunsInto : Outcome → Type 0
  RunsInto outcome = HasBegun words before now left (λ options net. (left.output ≡ output)
      × RunEnds tells most_input options.wait (source input) (source left.input) (facts net) outcome)

  -- all was sent, and with these totals P holds
  abbrev pub SendsAll : (ℕ → ℕ → Type 0) → Type 0
  SendsAll P = HasBegun words before now left (λ options net. (records : ℕ) × (bytes : ℕ)
      × (run : HasRun tells most_input (source input) (source left.input) (facts net))
      × IsDone run records bytes × P records bytes)

  -- what each status says
  abbrev pub HasOutcome : Outcome → Type 0
  HasOutcome (Done records bytes) = SendsAll (λ r b. (r ≡ records) × (b ≡ bytes)
      × TookAll (sink output) (totals_text records bytes) (sink left.output))
  HasOutcome Usage = IsUsage words before now input output left
  HasOutcome ReadFault = RunsInto ReadFault
  HasOutcome WriteFault = SendsAll (λ records bytes.
      TookFront (sink output) (totals_text records bytes) (sink left.output))
  HasOutcome NetFault = RunsInto NetFault
  HasOutcome NoMemory = ((now ≡ before) × IsUnbegun input output left) ⊎ RunsInto NoMemory
  HasOutcome (BadRecord at) = RunsInto (BadRecord at)
  HasOutcome TooLong = RunsInto TooLong
  HasOutcome PeerFault = IsDialFault words before now input output left ⊎ RunsInto PeerFault
  HasOutcome (ConnectTimeout at) = RunsInto (ConnectTimeout at)
  HasOutcome Unfinished = RunsInto Unfinished

  -- it answers the number of a status, with the number that goes with it, and what that says holds
  pub record HasAnswered : Type 0 where
    pub outcome : Outcome
    pub code : left.status ≡ code_of (status_by most_input outcome)
    pub number : left.at ≡ number_of (status_by most_input outcome)
    pub means : HasOutcome outcome
