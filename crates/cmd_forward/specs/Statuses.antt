-- What the statuses of a run of `forward` say.
use Rattle.std.specs.Prelude.{◌≡◌, ◌≢◌, ◌≤◌, ◌⊎◌, ℕ, true, false, List, [], ◌++◌, length}
use Rattle.std.specs.Prelude.{codes, decimal, Some, None}
use Rattle.ev_base.specs.End.{EndFacts}
use Rattle.ev_base.specs.Net.{NetFacts}
use Rattle.ev_base.specs.Source.{SourceFacts}
use Rattle.ev_base.specs.declared.dial.Finish.TheVariants as finish
use Rattle.exit_status.specs.declared.status.Status.{Status}
use Rattle.exit_status.specs.declared.status.Status.TheVariants as status
use Rattle.connector_run.specs.Leaving.{LastWaitWasOver}
use Rattle.forwarder.specs.cdr_record.specs.Decoding.{Clean, Malformed, Partial, bad_of, decode}
use Rattle.forwarder.specs.cdr_record.specs.Decoding.{taken_of}
use Rattle.forwarder.specs.Feeding.{feed}
use Rattle.forwarder.specs.one_net.specs.bounded_input.specs.Input.{IsReadToEnd}
use Rattle.reactor_core.specs.Ends.{WhereTold}
use Rattle.cmd_forward.specs.Runs.{HasNotRun, HasRested, HasRun, HasWaited, MadeAtLeast}
use Rattle.cmd_forward.specs.Runs.{WasAnsweredAt, WroteNone, reports_in}
use Rattle.cmd_forward.specs.declared.outcome.Outcome.{Outcome}
use Rattle.cmd_forward.specs.declared.outcome.Outcome.TheVariants.{Done, Usage, ReadFault, WriteFault}
use Rattle.cmd_forward.specs.declared.outcome.Outcome.TheVariants.{NetFault, NoMemory, BadRecord}
use Rattle.cmd_forward.specs.declared.outcome.Outcome.TheVariants.{TooLong, PeerFault}
use Rattle.cmd_forward.specs.declared.outcome.Outcome.TheVariants.{ConnectTimeout, Unfinished}

-- ---- statuses

-- the status of each outcome, of a run in which so many bytes may be read
abbrev pub status_by : ℕ → Outcome → Status
status_by limit (Done records bytes) = status.Done
status_by limit Usage = status.Usage
status_by limit ReadFault = status.ReadFault
status_by limit WriteFault = status.WriteFault
status_by limit NetFault = status.NetFault
status_by limit NoMemory = status.NoMemory
status_by limit (BadRecord at) = status.BadRecord at
status_by limit TooLong = status.TooLong limit
status_by limit PeerFault = status.PeerFault
status_by limit (ConnectTimeout at) = status.TimedOut at
status_by limit Unfinished = status.Unfinished

-- ---- the two lines of totals

abbrev pub line_of : List ℕ → ℕ → List ℕ
line_of word number = word ++ decimal number ++ codes "\n"

abbrev pub totals_text : ℕ → ℕ → List ℕ
totals_text records bytes = line_of (codes "records ") records ++ line_of (codes "bytes ") bytes

-- ---- one run

-- reading stops at this place: a bad record stands there, or an unfinished one, after which the
-- input is over
abbrev pub StopsAtRecord : SourceFacts → List ℕ → ℕ → Type 0
StopsAtRecord j taken at = ((decode taken).stop ≡ Malformed at)
    ⊎ (IsReadToEnd j × ((left : ℕ) × ((decode taken).stop ≡ Partial left) × (at ≡ taken_of taken)))

module _ {E : Type 0} {tells : E → EndFacts} {limit : ℕ} {i j : SourceFacts} {n : NetFacts E} where
  -- its peer failed: a call of its end did
  abbrev pub PeerFailed : HasRun tells limit i j n → Type 0
  PeerFailed run = 1 ≤ (tells run.end).faults

  -- all that is forwarded was sent, unless the peer failed
  abbrev pub HasSentAll : HasRun tells limit i j n → Type 0
  HasSentAll run = (run.rest ≡ []) ⊎ PeerFailed run

  -- Done: the input was read to its end, and no record is bad or unfinished. All that is forwarded
  -- was sent. These are the totals.
  pub record IsDone (run : HasRun tells limit i j n) (told_records told_bytes : ℕ) : Type 0 where
    pub sound : run.failed ≡ false
    pub none_behind : run.extra ≡ []
    pub over : IsReadToEnd j
    pub clean : (decode run.taken).stop ≡ Clean
    pub all : run.rest ≡ []
    pub made : (tells run.end).last_finish ≡ Some finish.Done
    pub records : told_records ≡ length (decode run.taken).records
    pub bytes : told_bytes ≡ length (feed run.taken)

  -- a read of the input failed, before which all was sent
  pub record IsReadFault (run : HasRun tells limit i j n) : Type 0 where
    pub rose : run.failed ≡ true
    pub all : HasSentAll run

  -- a byte follows the last that may be read, before which no record is bad and all was sent
  pub record IsTooLong (run : HasRun tells limit i j n) : Type 0 where
    pub sound : run.failed ≡ false
    pub more : run.extra ≢ []
    pub none_bad : bad_of run.taken ≡ None
    pub all : HasSentAll run

  -- a bad or an unfinished record stands at this place, before which all was sent
  pub record IsBadRecord (run : HasRun tells limit i j n) (at : ℕ) : Type 0 where
    pub sound : run.failed ≡ false
    pub stops : StopsAtRecord j run.taken at
    pub all : HasSentAll run

  -- its peer failed, and no record before that is bad
  pub record IsPeerFault (run : HasRun tells limit i j n) : Type 0 where
    pub failed : PeerFailed run
    pub none_bad : bad_of run.taken ≡ None

  -- The connection was not made in time, at the moment of a wait, in milliseconds since the start;
  -- the net's clock has come that far. Nothing was read, and nothing written.
  pub record IsConnectTimeout (run : HasRun tells limit i j n) (wait at : ℕ) : Type 0 where
    pub late : wait ≤ at
    pub waited : WhereTold (WasAnsweredAt at) n.calls
    pub reached : at ≤ n.now
    pub unmade : HasWaited (tells run.end)
    pub unused : WroteNone (tells run.end)
    pub none_taken : run.taken ≡ []

  -- The last wait was answered that nothing can be reported any more, while the end had nothing to
  -- do: it rests. Each report that it may be written was followed by a question or a write.
  pub record IsUnfinished (run : HasRun tells limit i j n) : Type 0 where
    pub over : WhereTold LastWaitWasOver n.calls
    pub rests : HasRested (tells run.end)
    pub answered : WhereTold (λ calls. MadeAtLeast (reports_in calls) (tells run.end)) n.calls

-- a wait failed; or the end was not attached, before anything was read
abbrev pub IsNetFault : {E : Type 0} → (E → EndFacts) → ℕ → SourceFacts → SourceFacts → NetFacts E
    → Type 0
IsNetFault tells limit i j n = (HasRun tells limit i j n × (1 ≤ n.failed_waits))
    ⊎ (HasNotRun limit i j n × (1 ≤ n.failed_attaches))

-- how a run ends that had its connection from a dialler, which waits so many milliseconds for it
abbrev pub RunEnds : {E : Type 0} → (E → EndFacts) → ℕ → ℕ → SourceFacts → SourceFacts
    → NetFacts E → Outcome → Type 0
RunEnds tells limit wait i j n (Done records bytes) =
    (run : HasRun tells limit i j n) × IsDone run records bytes
RunEnds tells limit wait i j n Usage = ⊥
RunEnds tells limit wait i j n ReadFault = (run : HasRun tells limit i j n) × IsReadFault run
RunEnds tells limit wait i j n WriteFault = ⊥
RunEnds tells limit wait i j n NetFault = IsNetFault tells limit i j n
RunEnds tells limit wait i j n NoMemory = HasRun tells limit i j n ⊎ HasNotRun limit i j n
RunEnds tells limit wait i j n (BadRecord at) =
    (run : HasRun tells limit i j n) × IsBadRecord run at
RunEnds tells limit wait i j n TooLong = (run : HasRun tells limit i j n) × IsTooLong run
RunEnds tells limit wait i j n PeerFault = (run : HasRun tells limit i j n) × IsPeerFault run
RunEnds tells limit wait i j n (ConnectTimeout at) =
    (run : HasRun tells limit i j n) × IsConnectTimeout run wait at
RunEnds tells limit wait i j n Unfinished = (run : HasRun tells limit i j n) × IsUnfinished run
