-- What a run of the command leaves.
use Rattle.std.specs.Prelude.{◌≡◌, ◌<◌, ◌⊎◌, ℕ, List, [], ◌∷◌, Option, Some, None}
use Rattle.ev_base.specs.Counts.{Rose}
use Rattle.ev_base.specs.Net.{NetFacts}
use Rattle.ev_base.specs.Sink.{SinkFacts}
use Rattle.ev_base.specs.Terms.{Terms}
use Rattle.server_run.specs.sink_buffer.specs.Written.{TookAll, TookFront}
use Rattle.server_run.specs.log_handler.specs.declared.note.ServerNote.{ServerNote}
use Rattle.server_run.specs.reactor_journal.specs.Past.{past_of}
use Rattle.server_run.specs.reactor_journal.specs.declared.entry.Entry.{Entry}
use Rattle.server_run.specs.reactor_journal.specs.declared.entry.Entry.TheVariants.{Ended}
use Rattle.server_run.specs.reactor_core.specs.Stands.{Meaning, NetStands}
use Rattle.grouped_lines.specs.laws_script_runs.specs.Connections.{lines_by_connection}
use Rattle.server_run.specs.Journals.{IsRun}
use Rattle.server_run.specs.Served.{CameSo, HasLed}
use Rattle.server_run.specs.declared.asked.Asked.{Asked}
use Rattle.server_run.specs.declared.ending.Ending.{Ending}
use Rattle.server_run.specs.declared.ending.Ending.TheVariants as ending
use Rattle.cmd_pool.specs.declared.ending.PoolEnd.{PoolEnd}
use Rattle.cmd_pool.specs.declared.ending.PoolEnd.TheVariants as end
use Rattle.cmd_pool.specs.declared.ending.PoolServed.{PoolServed}

-- how a run of the command ends whose server ended so, if its lines are written. Volumes are kept
-- nowhere, so none can fail, and no watch can
abbrev pub end_by : Ending → PoolEnd
end_by ending.Over = end.Done
end_by ending.Notified = end.Done
end_by ending.NotAttached = end.NetFault
end_by ending.NetFault = end.NetFault
end_by ending.NoMemory = end.NoMemory
end_by ending.Broken = end.NoMemory
end_by ending.VolumeFault = end.NoMemory

-- how it ends if there is no memory to write its lines: of several faults the least status is told
abbrev pub unwritten_end : PoolEnd → PoolEnd
unwritten_end end.Done = end.NoMemory
unwritten_end how = how

-- What became of the lines: all were written; or a write failed, and a front was; or there was no
-- memory to write them, and nothing was.
abbrev pub WritesLines : PoolEnd → SinkFacts → List ℕ → PoolEnd → SinkFacts → Type 0
WritesLines run o lines how p = ((how ≡ run) × TookAll o lines p)
    ⊎ (((how ≡ end.WriteFault) × TookFront o lines p) ⊎ ((how ≡ unwritten_end run) × (p ≡ o)))

-- Lines are written only if the journal was kept whole.
pub record WritesKept (run : PoolEnd) (first : ℕ) (o : SinkFacts) (lines : List ℕ) (how : PoolEnd)
    (p : SinkFacts) : Type 0 where
  pub kept : first ≡ 0 → WritesLines run o lines how p
  pub lost : 0 < first → (how ≡ end.NoMemory) × (p ≡ o)

-- ---- the run

-- a run may be told of so whose server ended so: a failed write and want of memory may come after
-- any ending
abbrev pub MayEnd : PoolEnd → Ending → Type 0
MayEnd end.Done ending.Over = Unit {0}
MayEnd end.Done ending.Notified = Unit {0}
MayEnd end.Done ending.NotAttached = ⊥
MayEnd end.Done ending.NetFault = ⊥
MayEnd end.Done ending.NoMemory = ⊥
MayEnd end.Done ending.Broken = ⊥
MayEnd end.Done ending.VolumeFault = ⊥
MayEnd end.NetFault ending.NetFault = Unit {0}
MayEnd end.NetFault ending.NotAttached = Unit {0}
MayEnd end.NetFault ending.Over = ⊥
MayEnd end.NetFault ending.Notified = ⊥
MayEnd end.NetFault ending.NoMemory = ⊥
MayEnd end.NetFault ending.Broken = ⊥
MayEnd end.NetFault ending.VolumeFault = ⊥
MayEnd end.WriteFault how = Unit {0}
MayEnd end.NoMemory how = Unit {0}
MayEnd end.ListenFault how = ⊥

-- With a net fault a wait of the net failed; or its attach of the listener did, and the journal is
-- the end alone.
abbrev pub NetFailedSo : {N E : Type 0} → PoolEnd → NetFacts E → List (Entry N) → Type 0
NetFailedSo end.NetFault net journal =
    Rose 0 net.failed_waits ⊎ (Rose 0 net.failed_attaches × (journal ≡ Ended ∷ []))
NetFailedSo end.Done net journal = Unit {0}
NetFailedSo end.WriteFault net journal = Unit {0}
NetFailedSo end.NoMemory net journal = Unit {0}
NetFailedSo end.ListenFault net journal = Unit {0}

-- The run of the server came to this journal, and ended in a way that may be told so. If workers
-- led, they were as many as were asked for. The net stands for the journal: the ends that were
-- retired or turned away are left as it says.
pub record RunsPool {H M Q W V E : Type 0} (m : Meaning H M Q W V ServerNote E) (t : Terms)
    (asked : Asked) (net : M) (how : PoolEnd) (journal : List (Entry ServerNote)) : Type 0 where
  pub ending : Ending
  pub named : MayEnd how ending
  pub came : CameSo ending journal (IsRun m.means t asked.until (m.facts net) ending journal)
      (HasLed m t asked ending journal)
  pub stands : NetStands m.means t (past_of journal) [] (m.facts net)
  pub keeps : m.keeps t net
  pub failed : NetFailedSo how (m.facts net) journal

-- without a net the host did not listen, or had no memory to
abbrev pub MayLackNet : PoolEnd → Type 0
MayLackNet end.ListenFault = Unit {0}
MayLackNet end.NoMemory = Unit {0}
MayLackNet end.Done = ⊥
MayLackNet end.WriteFault = ⊥
MayLackNet end.NetFault = ⊥

abbrev pub RunsWhereGiven : {H M Q W V E : Type 0} → Meaning H M Q W V ServerNote E → Terms → Asked
    → Option M → PoolEnd → List (Entry ServerNote) → Type 0
RunsWhereGiven m t asked (Some net) how journal = RunsPool m t asked net how journal
RunsWhereGiven m t asked None how journal = MayLackNet how × (journal ≡ [])

-- ---- all of it

-- The whole journal is kept; or so many entries came that some were let go, and it is told as want
-- of memory.
abbrev pub IsKept : PoolEnd → List (Entry ServerNote) → List (Entry ServerNote) → Type 0
IsKept how entries journal = (entries ≡ journal) ⊎ ((how ≡ end.NoMemory) × (entries ≡ []))

-- What was written: with Done all lines, with a failed write a front of them, and else all or
-- nothing. Without a run nothing was.
abbrev pub TookLines : PoolEnd → SinkFacts → List ℕ → SinkFacts → Type 0
TookLines end.Done o lines p = TookAll o lines p
TookLines end.WriteFault o lines p = TookFront o lines p
TookLines end.NetFault o lines p = TookAll o lines p ⊎ (p ≡ o)
TookLines end.NoMemory o lines p = TookAll o lines p ⊎ (p ≡ o)
TookLines end.ListenFault o lines p = p ≡ o

-- What is left of a run of the command, whose output told the facts `o` at the start: the journal,
-- which is that of the run, and the lines of its notes, connection after connection.
pub record LeavesPool {H M Q W V K E : Type 0} (m : Meaning H M Q W V ServerNote E)
    (sink : K → SinkFacts) (t : Terms) (asked : Asked) (o : SinkFacts)
    (served : PoolServed M K) : Type 0 where
  pub journal : List (Entry ServerNote)
  pub kept : IsKept served.end served.journal.entries journal
  pub run : RunsWhereGiven m t asked served.net served.end journal
  pub lines : TookLines served.end o (lines_by_connection served.journal.entries)
      (sink served.output)

-- The host's count of faults rose if it could not listen, and then there is no net; and else it
-- is what it was.
abbrev pub ListensSo : {M : Type 0} → PoolEnd → Option M → ℕ → ℕ → Type 0
ListensSo end.ListenFault net before now = (net ≡ None) × Rose before now
ListensSo end.Done net before now = now ≡ before
ListensSo end.WriteFault net before now = now ≡ before
ListensSo end.NetFault net before now = now ≡ before
ListensSo end.NoMemory net before now = now ≡ before
