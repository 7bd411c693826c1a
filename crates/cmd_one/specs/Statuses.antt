-- What the endings of `one` say. The input told the facts i before and tells j now, the output o
-- and p, the volumes v and w; `limit` is how many bytes may be read.
use Rattle.std.specs.Prelude.{◌≡◌, ◌⊎◌, ℕ, true, false, List, [], ◌∷◌, Option, Some, None}
use Rattle.ev_base.specs.Counts.{Rose}
use Rattle.ev_base.specs.Bytes.{ReaderBytes}
use Rattle.ev_base.specs.Source.{SourceFacts}
use Rattle.ev_base.specs.Sink.{SinkFacts}
use Rattle.exit_status.specs.Statuses.{code_of}
use Rattle.exit_status.specs.declared.status.Status.{Status}
use Rattle.exit_status.specs.declared.status.Status.TheVariants as status
use Rattle.log_handler.specs.cdr_record.specs.Decoding.{decode}
use Rattle.one_run.specs.bounded_input.specs.Input.{TakesInput, IsReadToEnd}
use Rattle.log_handler.specs.log_lines.specs.declared.end_kind.EndKind.{EndKind}
use Rattle.log_handler.specs.log_lines.specs.declared.end_kind.EndKind.TheVariants as end
use Rattle.log_handler.specs.Connection.{end_of}
use Rattle.log_handler.specs.sink_buffer.specs.Written.{TookAll, TookFront}
use Rattle.cmd_one.specs.Outcome.{IsClosedWith, IsMalformed, lines_of}
use Rattle.cmd_one.specs.declared.ending.OneEnding.{OneEnding}
use Rattle.cmd_one.specs.declared.ending.OneEnding.TheVariants.{Done, ReadFault, WriteFault, NoMemory}
use Rattle.cmd_one.specs.declared.ending.OneEnding.TheVariants.{TooLong, VolumeFault}

-- if the bytes are told, all that were left are read as these are
abbrev pub DecodesLeft : Option ReaderBytes → List ℕ → Type 0
DecodesLeft None taken = Unit {0}
DecodesLeft (Some bytes) taken = decode taken ≡ decode bytes.left

-- the lines of the connection: those of the records that it noted, and the one with the word of its
-- closing
pub record HasLines (limit : ℕ) (i j : SourceFacts) (text : List ℕ) : Type 0 where
  pub taken : List ℕ
  pub extra : List ℕ
  pub decoded : List ℕ
  pub word : EndKind
  pub takes : TakesInput limit false i j taken extra
  pub closed : IsClosedWith j false taken extra decoded word
  pub is : text ≡ lines_of decoded word

-- no connection was opened: the input was not read, and there are no lines
pub record HasNoLines (i j : SourceFacts) (text : List ℕ) : Type 0 where
  pub bytes : j.bytes ≡ i.bytes
  pub gave : j.gave ≡ i.gave
  pub faults : j.faults ≡ i.faults
  pub is : text ≡ []

-- Done: the lines of all input, and how it ended. The input was read to its end, unless it has a
-- malformed record, after which no byte counts. Nothing failed, neither of the volumes.
pub record IsDone (limit : ℕ) (i : SourceFacts) (o : SinkFacts) (j : SourceFacts) (p : SinkFacts)
    (before now : ℕ) : Type 0 where
  pub taken : List ℕ
  pub takes : TakesInput limit false i j taken []
  pub all : IsMalformed (decode taken).stop ⊎ IsReadToEnd j
  pub decodes : DecodesLeft i.bytes taken
  pub written : TookAll o (lines_of taken (end_of (decode taken).stop)) p
  pub volumes : now ≡ before

-- the input failed: the lines of what it gave before, closed as failed
pub record IsReadFault (limit : ℕ) (i : SourceFacts) (o : SinkFacts) (j : SourceFacts)
    (p : SinkFacts) : Type 0 where
  pub taken : List ℕ
  pub extra : List ℕ
  pub takes : TakesInput limit true i j taken extra
  pub written : TookAll o (lines_of taken end.Failed) p ⊎ TookFront o (lines_of taken end.Failed) p

-- the output failed: a front of the lines that were due was written
pub record IsWriteFault (limit : ℕ) (i : SourceFacts) (o : SinkFacts) (j : SourceFacts)
    (p : SinkFacts) : Type 0 where
  pub text : List ℕ
  pub due : HasLines limit i j text ⊎ HasNoLines i j text
  pub written : TookFront o text p

-- there was no memory: the lines of what came before, and how that was closed, or none
pub record IsNoMemory (limit : ℕ) (i : SourceFacts) (o : SinkFacts) (j : SourceFacts)
    (p : SinkFacts) : Type 0 where
  pub text : List ℕ
  pub due : HasLines limit i j text ⊎ HasNoLines i j text
  pub written : TookAll o text p

-- a byte follows the last that may be read: the lines of those before it, closed as failed
pub record IsTooLong (limit : ℕ) (i : SourceFacts) (o : SinkFacts) (j : SourceFacts)
    (p : SinkFacts) : Type 0 where
  pub taken : List ℕ
  pub more : ℕ
  pub takes : TakesInput limit false i j taken (more ∷ [])
  pub written : TookAll o (lines_of taken end.Failed) p

-- the volumes failed, which halted the run: the lines of what came before, and how that was closed
pub record IsVolumeFault (limit : ℕ) (i : SourceFacts) (o : SinkFacts) (j : SourceFacts)
    (p : SinkFacts) (before now : ℕ) : Type 0 where
  pub text : List ℕ
  pub due : HasLines limit i j text
  pub none_behind : due.extra ≡ []
  pub written : TookAll o text p
  pub rose : Rose before now

-- what each ending says; the volumes' count of faults was this before and is this now
abbrev pub EndsSo : ℕ → SourceFacts → SinkFacts → SourceFacts → SinkFacts → ℕ → ℕ → OneEnding
    → Type 0
EndsSo limit i o j p before now Done = IsDone limit i o j p before now
EndsSo limit i o j p before now ReadFault = IsReadFault limit i o j p
EndsSo limit i o j p before now WriteFault = IsWriteFault limit i o j p
EndsSo limit i o j p before now NoMemory = IsNoMemory limit i o j p
EndsSo limit i o j p before now TooLong = IsTooLong limit i o j p
EndsSo limit i o j p before now VolumeFault = IsVolumeFault limit i o j p before now

-- the status of each ending, of a run in which so many bytes may be read
abbrev pub status_by : ℕ → OneEnding → Status
status_by limit Done = status.Done
status_by limit ReadFault = status.ReadFault
status_by limit WriteFault = status.WriteFault
status_by limit NoMemory = status.NoMemory
status_by limit TooLong = status.TooLong limit
status_by limit VolumeFault = status.VolumeFault

-- its code
abbrev pub code_by : ℕ → OneEnding → ℕ
code_by limit how = code_of (status_by limit how)
