-- What is left of a reactor that is stopped and taken apart.
use Rattle.std.specs.Prelude.{ℕ, ◌≡◌, ◌≤◌, Bool, true, false, List, [], ◌++◌, length, drop, Some}
use Rattle.ev_base.specs.End.{EndFacts}
use Rattle.ev_base.specs.Sink.{SinkFacts}
use Rattle.ev_base.specs.Terms.{Terms}
use Rattle.sink_buffer.specs.Written.{TookAll, TookFront}
use Rattle.reactor_model.specs.reactor_journal.specs.Past.{past_of}
use Rattle.reactor_model.specs.reactor_journal.specs.declared.entry.Entry.{Entry}
use Rattle.reactor_core.specs.Acting.{StopAppends}
use Rattle.reactor_core.specs.Ends.{WhereTold}
use Rattle.reactor_core.specs.Marks.{IsOverAt, answers}
use Rattle.reactor_core.specs.Stands.{Meaning, NetStands}
use Rattle.reactor_core.specs.Views.{net_of, over_of, watch_of}
use Rattle.reactor_core.specs.declared.reactor.Core.{Core}
use Rattle.reactor_core.specs.reactor_summary.specs.Summary.{summary}
use Rattle.core_loop.specs.declared.turns.RunEnd.{RunEnd}
use Rattle.core_loop.specs.declared.turns.RunEnd.TheVariants as loop
use Rattle.aio_lines.specs.Lines.{journal_lines}
use Rattle.proactor.specs.declared.service.AioNote.{AioNote}
use Rattle.cmd_aio.specs.Connections.{SaysOfEnds}
use Rattle.cmd_aio.specs.Runs.{IsWhole}
use Rattle.cmd_aio.specs.declared.ending.AioEnd.{AioEnd}
use Rattle.cmd_aio.specs.declared.ending.AioEnd.TheVariants as end
use Rattle.cmd_aio.specs.declared.ending.Ran.{Ran}

-- a loop may end so: nothing stops the reactor, and its volumes take all
abbrev pub MayEnd : RunEnd → Type 0
MayEnd loop.Enough = Unit {0}
MayEnd loop.Over = Unit {0}
MayEnd loop.Broken = Unit {0}
MayEnd loop.NetFault = Unit {0}
MayEnd loop.NoMemory = Unit {0}
MayEnd loop.Stopped = ⊥
MayEnd loop.VolumeFault = ⊥

abbrev pub end_by : RunEnd → AioEnd
end_by loop.Enough = end.Done
end_by loop.Over = end.Done
end_by loop.Broken = end.WriteFault
end_by loop.NetFault = end.NetFault
end_by loop.NoMemory = end.NoMemory
end_by loop.Stopped = end.Done
end_by loop.VolumeFault = end.NoMemory

-- a failed write is told whatever else ended the run
abbrev pub named : Bool → AioEnd → AioEnd
named true how = end.WriteFault
named false how = how

-- what became of the lines, by whether a write failed
abbrev pub TookLines : Bool → SinkFacts → List ℕ → SinkFacts → Type 0
TookLines true o lines p = TookFront o lines p
TookLines false o lines p = TookAll o lines p

-- A reactor that stood for a history, of which F entries were let go, was stopped and taken apart:
-- its journal begins with the history, and its lines were written.
pub record Finishes {H M Q W V K E : Type 0} (m : Meaning H M Q W V AioNote E)
    (tells : E → EndFacts) (sink : K → SinkFacts) (t : Terms) (F : ℕ) (h : List (Entry AioNote))
    (core : Core H M Q W V AioNote E) (how : AioEnd) (ran : Ran M K) : Type 0 where
  pub more : List (Entry AioNote)
  pub stops : StopAppends (summary (past_of h)) (summary (past_of h)).ended more
  pub whole : IsWhole t.most (h ++ more)
  pub within : F ≤ length (h ++ more)
  pub held : ran.journal.entries ≡ drop F (h ++ more)
  pub net : M
  pub is_net : ran.net ≡ Some net
  pub stands : NetStands m.means t (past_of (h ++ more)) [] (m.facts net)
  pub keeps : m.keeps t net
  pub says : SaysOfEnds tells (h ++ more) (m.facts net)
  pub waits : (m.facts net).failed_waits ≡ (m.facts (net_of core)).failed_waits
  pub attaches : (m.facts net).failed_attaches ≡ (m.facts (net_of core)).failed_attaches
  pub over : 1 ≤ over_of core
      → WhereTold (λ calls. IsOverAt (over_of core) (answers calls)) (m.facts net).calls
  pub broken : Bool
  pub stays : m.is_broken (watch_of core) ≡ true → broken ≡ true
  pub told : ran.end ≡ named broken how
  pub lines : (o : SinkFacts) → t.opening ≡ o.text → t.output_faults ≡ Some o.faults
      → TookLines broken o (journal_lines (h ++ more)) (sink ran.output)
