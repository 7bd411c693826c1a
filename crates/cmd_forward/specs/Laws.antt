-- That all is sent if nothing goes wrong.
use Rattle.std.specs.Prelude.{◌≡◌, ◌≤◌, ◌<◌, ◌⊎◌, ℕ, List, [], ◌∷◌, length, Option, Some, None}
use Rattle.ev_base.specs.Bytes.{ReaderBytes}
use Rattle.ev_base.specs.Counts.{Rose, counted}
use Rattle.ev_base.specs.End.{EndFacts}
use Rattle.ev_base.specs.Net.{Call, NetFacts}
use Rattle.ev_base.specs.Sink.{SinkFacts}
use Rattle.ev_base.specs.Source.{SourceFacts}
use Rattle.cmd_line.specs.Given.{Text}
use Rattle.connector_run.specs.Leaving.{LastWaitWasOver}
use Rattle.forwarder.specs.cdr_record.specs.Decoding.{Clean, decode}
use Rattle.cmd_forward.specs.Answers.{HasAnswered, most_input}
use Rattle.cmd_forward.specs.Runs.{WasAnsweredAt}
use Rattle.cmd_forward.specs.Words.{forward_of}
use Rattle.cmd_forward.specs.declared.command.Forwarded.{Forwarded}
use Rattle.cmd_forward.specs.declared.words.ForwardOptions.{ForwardOptions}

-- no call of these ends failed
abbrev pub HaveNoFaults : {E : Type 0} → (E → EndFacts) → List (ℕ × E) → Type 0
HaveNoFaults tells [] = Unit {0}
HaveNoFaults tells (end ∷ ends) = ((tells end.1).faults ≡ 0) × HaveNoFaults tells ends

-- A net tells all. No wait or attach of it failed, and no call of an end that it took back. No wait
-- was answered so many milliseconds after the start or later, and none at last that nothing can be
-- reported any more.
pub record IsSoundNet {E : Type 0} (tells : E → EndFacts) (wait : ℕ) (n : NetFacts E) : Type 0 where
  pub waits : n.failed_waits ≡ 0
  pub attaches : n.failed_attaches ≡ 0
  pub ends : List (ℕ × E)
  pub told_ends : n.retired ≡ Some ends
  pub no_faults : HaveNoFaults tells ends
  pub calls : List Call
  pub told_calls : n.calls ≡ Some calls
  pub early : (at : ℕ) → WasAnsweredAt at calls → at < wait
  pub goes_on : LastWaitWasOver calls → ⊥

-- the bytes are told, few enough, and end after a record
abbrev pub IsClean : Option ReaderBytes → Type 0
IsClean None = ⊥
IsClean (Some bytes) = ((decode bytes.left).stop ≡ Clean) × (length bytes.left ≤ most_input)

-- The words call the command, no count of faults rose, and the input is clean.
pub record IsSound {M S K E : Type 0} (tells : E → EndFacts) (facts : M → NetFacts E)
    (source : S → SourceFacts) (sink : K → SinkFacts) (words : List Text) (before now : ℕ)
    (given : S) (output : K) (left : Forwarded M S K) : Type 0 where
  pub options : ForwardOptions
  pub called : forward_of words ≡ Some options
  pub dialled : Rose before now → ⊥
  pub read : Rose (source given).faults (source left.input).faults → ⊥
  pub wrote : (sink left.output).faults ≡ counted (sink output).faults → ⊥
  pub net : (net : M) → left.net ≡ Some net → IsSoundNet tells options.wait (facts net)
  pub clean : IsClean (source given).bytes

-- then all was sent and told, with status 0, or there was no memory
abbrev pub SoundRunsAreDone : Type 0 → Type 0 → Type 0 → Type 0 → Type 0
SoundRunsAreDone M S K E =
    (tells : E → EndFacts) (facts : M → NetFacts E) (source : S → SourceFacts)
    (sink : K → SinkFacts) (words : List Text) (before now : ℕ) (input : S) (output : K)
    (left : Forwarded M S K)
    → HasAnswered tells facts source sink words before now input output left
    → IsSound tells facts source sink words before now input output left
    → (left.status ≡ 0) ⊎ (left.status ≡ 6)
