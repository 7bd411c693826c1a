-- What a run of the command leaves.
use Rattle.std.specs.Prelude.{◌≡◌, ◌≤◌, ◌⊎◌, ℕ, List, [], ◌∷◌, length, drop, Option, Some, None}
use Rattle.ev_base.specs.Counts.{Rose}
use Rattle.ev_base.specs.End.{EndFacts}
use Rattle.ev_base.specs.Net.{Call, Waits}
use Rattle.ev_base.specs.Sink.{SinkFacts}
use Rattle.sink_buffer.specs.Written.{TookAll, TookFront}
use Rattle.reactor_model.specs.reactor_journal.specs.Past.{past_of}
use Rattle.reactor_model.specs.reactor_journal.specs.declared.entry.Entry.{Entry}
use Rattle.reactor_core.specs.Ends.{WhereTold}
use Rattle.reactor_core.specs.Stands.{Meaning, NetStands}
use Rattle.aio_lines.specs.Lines.{journal_lines}
use Rattle.proactor.specs.declared.service.AioNote.{AioNote}
use Rattle.cmd_aio.specs.Connections.{SaysOfEnds}
use Rattle.cmd_aio.specs.Runs.{IsRun}
use Rattle.cmd_aio.specs.Starting.{aio_terms}
use Rattle.cmd_aio.specs.declared.ending.AioEnd.{AioEnd}
use Rattle.cmd_aio.specs.declared.ending.AioEnd.TheVariants as end
use Rattle.cmd_aio.specs.declared.ending.Ran.{Ran}

-- there was no memory for a reactor
pub record IsUnmade (how : AioEnd) (journal : List (Entry AioNote)) : Type 0 where
  pub ending : how ≡ end.NoMemory
  pub none : journal ≡ []

-- each wait of these calls was asked without a limit
abbrev pub AskedWithoutLimit : List Call → Type 0
AskedWithoutLimit [] = Unit {0}
AskedWithoutLimit (Waits most answer reports ∷ calls) = (most ≡ None) × AskedWithoutLimit calls
AskedWithoutLimit (call ∷ calls) = AskedWithoutLimit calls

-- What a run over a net comes to. The net stands for the journal: what each handler left that was
-- closed or refused stands there as the journal says, so of each connection which operations were
-- asked and how they completed. And the last notes say what the ends tell. If the net tells its
-- calls, no wait has a limit: the run waits until something is reported.
pub record RunsAio {H M Q W V E : Type 0} (m : Meaning H M Q W V AioNote E) (tells : E → EndFacts)
    (o : SinkFacts) (until : Option ℕ) (net : M) (first : ℕ) (how : AioEnd)
    (journal : List (Entry AioNote)) : Type 0 where
  pub run : IsUnmade how journal
      ⊎ IsRun m.means (aio_terms o) until (m.facts net) first how journal
  pub stands : NetStands m.means (aio_terms o) (past_of journal) [] (m.facts net)
  pub keeps : m.keeps (aio_terms o) net
  pub says : SaysOfEnds tells journal (m.facts net)
  pub unlimited : WhereTold AskedWithoutLimit (m.facts net).calls

-- without a net the host did not listen, or had no memory to
abbrev pub MayLackNet : AioEnd → Type 0
MayLackNet end.ListenFault = Unit {0}
MayLackNet end.NoMemory = Unit {0}
MayLackNet end.Done = ⊥
MayLackNet end.WriteFault = ⊥
MayLackNet end.NetFault = ⊥

abbrev pub RunsWhereGiven : {H M Q W V E : Type 0} → Meaning H M Q W V AioNote E → (E → EndFacts)
    → SinkFacts → Option ℕ → Option M → ℕ → AioEnd → List (Entry AioNote) → Type 0
RunsWhereGiven m tells o until (Some net) first how journal =
    RunsAio m tells o until net first how journal
RunsWhereGiven m tells o until None first how journal = MayLackNet how × (journal ≡ [])

-- What was written: a front of the lines if a write failed, and else all of them. Without a net
-- there are none.
abbrev pub OutputTook : AioEnd → SinkFacts → List ℕ → SinkFacts → Type 0
OutputTook end.WriteFault o lines p = TookFront o lines p
OutputTook end.Done o lines p = TookAll o lines p
OutputTook end.NetFault o lines p = TookAll o lines p
OutputTook end.NoMemory o lines p = TookAll o lines p
OutputTook end.ListenFault o lines p = TookAll o lines p

-- What is left of a run, whose output told the facts `o` at the start: one journal, of which the
-- end is held, and the lines of the connections that it closed or refused, in order.
pub record LeavesRun {H M Q W V K E : Type 0} (m : Meaning H M Q W V AioNote E)
    (tells : E → EndFacts) (sink : K → SinkFacts) (o : SinkFacts) (until : Option ℕ)
    (ran : Ran M K) : Type 0 where
  pub journal : List (Entry AioNote)
  pub first : ℕ
  pub within : first ≤ length journal
  pub held : ran.journal.entries ≡ drop first journal
  pub run : RunsWhereGiven m tells o until ran.net first ran.end journal
  pub lines : OutputTook ran.end o (journal_lines journal) (sink ran.output)

-- the same over a net that a host gave
pub record LeavesServed {H M Q W V K E : Type 0} (m : Meaning H M Q W V AioNote E)
    (tells : E → EndFacts) (sink : K → SinkFacts) (o : SinkFacts) (until : Option ℕ)
    (ran : Ran M K) : Type 0 where
  pub leaves : LeavesRun m tells sink o until ran
  pub given : ran.net ≡ None → ⊥
  pub listened : ran.end ≡ end.ListenFault → ⊥

-- The host's count of faults rose if it could not listen, and then there is no net; and else it
-- is what it was.
abbrev pub ListensSo : {M : Type 0} → AioEnd → Option M → ℕ → ℕ → Type 0
ListensSo end.ListenFault net before now = (net ≡ None) × Rose before now
ListensSo end.Done net before now = now ≡ before
ListensSo end.WriteFault net before now = now ≡ before
ListensSo end.NetFault net before now = now ≡ before
ListensSo end.NoMemory net before now = now ≡ before
