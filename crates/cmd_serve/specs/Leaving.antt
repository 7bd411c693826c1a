-- What a run of the server over a host leaves.
use Rattle.std.specs.Prelude.{◌≡◌, ◌≤◌, ◌⊎◌, ℕ, Bool, true, false, List, [], ◌∷◌, length, drop}
use Rattle.std.specs.Prelude.{Option, Some, None}
use Rattle.ev_base.specs.Counts.{Rose}
use Rattle.ev_base.specs.Net.{NetFacts}
use Rattle.ev_base.specs.Sink.{SinkFacts}
use Rattle.ev_base.specs.Terms.{Terms}
use Rattle.server_run.specs.sink_buffer.specs.Written.{TookAll, TookFront}
use Rattle.server_run.specs.reactor_journal.specs.Past.{past_of}
use Rattle.server_run.specs.reactor_journal.specs.declared.entry.Entry.{Entry}
use Rattle.server_run.specs.reactor_journal.specs.declared.entry.Entry.TheVariants.{Ended}
use Rattle.server_run.specs.reactor_core.specs.Ends.{WhereTold}
use Rattle.server_run.specs.reactor_core.specs.Stands.{HasTaken, Meaning, NetStands}
use Rattle.server_run.specs.log_handler.specs.LineSink.{LineSink, is_broken, sink_of}
use Rattle.server_run.specs.log_handler.specs.Notes.{journal_lines}
use Rattle.server_run.specs.log_handler.specs.declared.note.ServerNote.{ServerNote}
use Rattle.server_run.specs.reactor_desk.specs.Desks.{FillsVolume}
use Rattle.server_run.specs.Journals.{IsRun}
use Rattle.server_run.specs.Served.{CameSo}
use Rattle.server_run.specs.declared.asked.Asked.{Asked}
use Rattle.server_run.specs.declared.ending.Ending.{Ending}
use Rattle.server_run.specs.declared.ending.Ending.TheVariants as ending
use Rattle.server_run.specs.declared.ending.Served.{Served}
use Rattle.cmd_serve.specs.Leading.{LedSo}
use Rattle.cmd_serve.specs.declared.ending.HostEnd.{HostEnd}
use Rattle.cmd_serve.specs.declared.ending.HostEnd.TheVariants as end
use Rattle.cmd_serve.specs.declared.ending.HostServed.{HostServed}

-- How it ends, by whether a write of the output failed, and how the run of the server ended: a
-- failed write is told whatever else ended it. If no write failed, a run is told of as broken only
-- if the count of faults stands at its end, so that nobody can know.
abbrev pub end_of : Bool → Ending → HostEnd
end_of true how = end.WriteFault
end_of false ending.Over = end.Done
end_of false ending.Notified = end.Done
end_of false ending.Broken = end.NoMemory
end_of false ending.NotAttached = end.NetFault
end_of false ending.NetFault = end.NetFault
end_of false ending.NoMemory = end.NoMemory
end_of false ending.VolumeFault = end.VolumeFault

-- a write that failed is told whatever else ended it
abbrev pub told_end : Bool → HostEnd → HostEnd
told_end true how = how
told_end false how = end.WriteFault

-- what is left of a run of the server: its parts but the timers, and the sink below the lines
abbrev pub left_by : {M Q K V : Type 0} → Served M Q (LineSink K) V → HostServed M K V
left_by served = record {
  end = end_of (is_broken served.parts.watch) served.ending;
  journal = served.parts.journal;
  first = served.parts.first;
  net = Some served.parts.net;
  output = sink_of served.parts.watch;
  volumes = served.parts.volumes;
}

-- there is no journal, and the output and the volumes are those that were handed in
pub record IsUnserved {M K V : Type 0} (output : K) (volumes : V)
    (served : HostServed M K V) : Type 0 where
  pub no_journal : served.journal.entries ≡ []
  pub none_taken : served.first ≡ 0
  pub same_output : served.output ≡ output
  pub same_volumes : served.volumes ≡ volumes

-- The journal's first entries were handed over, so many, and the others are held.
pub record IsJournal {N : Type 0} (t : Terms) (told : Option (List (Entry N))) (first : ℕ)
    (entries journal : List (Entry N)) : Type 0 where
  pub within : first ≤ length journal
  pub held : entries ≡ drop first journal
  pub taken : WhereTold (HasTaken t first journal) told

-- what became of the bytes that were to be written
abbrev pub OutputTook : HostEnd → SinkFacts → List ℕ → SinkFacts → Type 0
OutputTook end.WriteFault o bytes p = TookFront o bytes p
OutputTook end.Done o bytes p = TookAll o bytes p
OutputTook end.NetFault o bytes p = TookAll o bytes p
OutputTook end.NoMemory o bytes p = TookAll o bytes p
OutputTook end.ListenFault o bytes p = TookAll o bytes p
OutputTook end.VolumeFault o bytes p = TookAll o bytes p

-- With a net fault a wait of the net failed; or its attach of the listener did, and the journal is
-- the end alone.
abbrev pub NetFailedSo : {N E : Type 0} → HostEnd → NetFacts E → List (Entry N) → Type 0
NetFailedSo end.NetFault net journal =
    Rose 0 net.failed_waits ⊎ (Rose 0 net.failed_attaches × (journal ≡ Ended ∷ []))
NetFailedSo end.Done net journal = Unit {0}
NetFailedSo end.WriteFault net journal = Unit {0}
NetFailedSo end.NoMemory net journal = Unit {0}
NetFailedSo end.ListenFault net journal = Unit {0}
NetFailedSo end.VolumeFault net journal = Unit {0}

-- a run may be told of so whose server ended so: a failed write is told whatever else ended it
abbrev pub MayEnd : HostEnd → Ending → Type 0
MayEnd how ending = (how ≡ end.WriteFault) ⊎ (how ≡ end_of false ending)

-- The run of the server came to this journal, and ended in a way that may be told so. If workers
-- led, they were as many as were asked for; of the answers of several the first in order ended it.
-- The net stands for the journal: the ends that were retired or turned away are left as it says.
pub record RunsOverNet {H M Q W V E : Type 0} (m : Meaning H M Q W V ServerNote E) (t : Terms)
    (asked : Asked) (o : SinkFacts) (net : M) (how : HostEnd)
    (journal : List (Entry ServerNote)) : Type 0 where
  pub ending : Ending
  pub named : MayEnd how ending
  pub came : CameSo ending journal (IsRun m.means t asked.until (m.facts net) ending journal)
      (LedSo m t asked o ending journal)
  pub stands : NetStands m.means t (past_of journal) [] (m.facts net)
  pub keeps : m.keeps t net
  pub failed : NetFailedSo how (m.facts net) journal

-- without a net the host did not listen, or had no memory to
abbrev pub MayLackNet : HostEnd → Type 0
MayLackNet end.ListenFault = Unit {0}
MayLackNet end.NoMemory = Unit {0}
MayLackNet end.Done = ⊥
MayLackNet end.WriteFault = ⊥
MayLackNet end.NetFault = ⊥
MayLackNet end.VolumeFault = ⊥

-- the journal by the net that the host gave, if it gave one
abbrev pub RunsWhereGiven : {H M Q W V E : Type 0} → Meaning H M Q W V ServerNote E → Terms → Asked
    → SinkFacts → Option M → HostEnd → List (Entry ServerNote) → Type 0
RunsWhereGiven m t asked o (Some net) how journal = RunsOverNet m t asked o net how journal
RunsWhereGiven m t asked o None how journal = MayLackNet how × (journal ≡ [])

-- What is left of a run over a host, whose output told the facts `o` at the start: one journal,
-- that of the run, whose lines were written.
pub record LeavesHost {H M Q W K V E : Type 0} (m : Meaning H M Q W V ServerNote E)
    (sink : K → SinkFacts) (t : Terms) (asked : Asked) (o : SinkFacts)
    (served : HostServed M K V) : Type 0 where
  pub journal : List (Entry ServerNote)
  pub is : IsJournal t (m.volumes served.volumes).taken served.first served.journal.entries journal
  pub filled : FillsVolume asked.volume served.first
  pub run : RunsWhereGiven m t asked o served.net served.end journal
  pub lines : OutputTook served.end o (journal_lines journal) (sink served.output)

-- The host's count of faults rose if it could not listen, and then there is no net; and else it
-- is what it was.
abbrev pub ListensSo : {M : Type 0} → HostEnd → Option M → ℕ → ℕ → Type 0
ListensSo end.ListenFault net before now = (net ≡ None) × Rose before now
ListensSo end.Done net before now = now ≡ before
ListensSo end.WriteFault net before now = now ≡ before
ListensSo end.NetFault net before now = now ≡ before
ListensSo end.NoMemory net before now = now ≡ before
ListensSo end.VolumeFault net before now = now ≡ before
