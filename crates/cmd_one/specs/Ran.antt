-- What a run of the command `one` leaves, and with which status.
use Rattle.std.specs.Prelude.{◌≡◌, ℕ, Bool, true, false, List, Option, Some, None}
use Rattle.ev_base.specs.Source.{SourceFacts}
use Rattle.ev_base.specs.Sink.{SinkFacts}
use Rattle.reactor_model.specs.reactor_journal.specs.declared.entry.Entry.{Entry}
use Rattle.reactor_model.specs.Volumes.{VolumesFacts}
use Rattle.log_handler.specs.declared.note.ServerNote.{ServerNote}
use Rattle.one_run.specs.declared.serving.Halt.{Halt}
use Rattle.one_run.specs.declared.serving.Halt.TheVariants as halt
use Rattle.cmd_one.specs.Journals.{IsTold, AreHandedOver, StandsFor, SomeJournal}
use Rattle.cmd_one.specs.Statuses.{EndsSo, code_by}
use Rattle.cmd_one.specs.declared.connection.Ran.{Ran}
use Rattle.cmd_one.specs.declared.ending.OneEnding.{OneEnding}
use Rattle.cmd_one.specs.declared.ending.OneEnding.TheVariants.{Done, ReadFault, WriteFault, NoMemory}
use Rattle.cmd_one.specs.declared.ending.OneEnding.TheVariants.{TooLong, VolumeFault}

-- The status of a run whose connection was opened, the least of those of its faults: whether a read
-- failed, whether a write failed, whether a byte was met past the limit, why it was halted, and
-- whether the connection was closed for want of memory.
abbrev pub end_without_fault : Bool → Bool → Option Halt → OneEnding
end_without_fault too_long true why = NoMemory
end_without_fault too_long false (Some halt.NoMemory) = NoMemory
end_without_fault true false why = TooLong
end_without_fault false false None = Done
end_without_fault false false (Some why) = VolumeFault

abbrev pub end_by : Bool → Bool → Bool → Bool → Option Halt → OneEnding
end_by true broken too_long lost why = ReadFault
end_by false true too_long lost why = WriteFault
end_by false false too_long lost why = end_without_fault too_long lost why

-- what is left of the run: the input told i before it, the output o, and the volumes v
pub record RunsOne {S K V : Type 0} (source : S → SourceFacts) (sink : K → SinkFacts)
    (volumes : V → VolumesFacts ServerNote) (limit : ℕ)
    (i : SourceFacts) (o : SinkFacts) (v : VolumesFacts ServerNote) (ran : Ran S K V) : Type 0 where
  pub status : EndsSo limit i o (source ran.input) (sink ran.output) v.faults
      (volumes ran.volumes).faults ran.end
  pub journal : (journal : List (Entry ServerNote))
      → IsTold v (volumes ran.volumes) ran.first ran.journal.entries journal
      → StandsFor limit i o (source ran.input) (sink ran.output) (code_by limit ran.end) journal
  pub some_journal : SomeJournal limit i o (source ran.input) (sink ran.output) (code_by limit ran.end)
      ran.first ran.journal.entries
  pub first : AreHandedOver v.taken (volumes ran.volumes).taken ran.first
