-- What `logd gen` did, of n connections and a seed, by how it ended.
use Rattle.std.specs.Prelude.{◌≡◌, ◌⊎◌, ℕ, List, []}
use Rattle.ev_base.specs.Counts.{Rose}
use Rattle.ev_base.specs.declared.end.PeerEnd.{Ghosts}
use Rattle.cmd_replay.specs.reactor_journal.specs.declared.entry.Entry.{Entry}
use Rattle.cmd_replay.specs.reactor_model.specs.Volumes.{VolumesFacts}
use Rattle.cmd_replay.specs.log_handler.specs.declared.note.ServerNote.{ServerNote}
use Rattle.script_generator.specs.Scripts.{generated}
use Rattle.script_net.specs.declared.end.ScriptEnd.{ScriptEnd}
use Rattle.cmd_replay.specs.Leading.{unwatched}
use Rattle.cmd_replay.specs.Runs.{IsHeld, RanSo}
use Rattle.cmd_replay.specs.server_run.specs.declared.ending.Ending.{Ending}
use Rattle.cmd_gen.specs.Asking.{asked_for, terms_for}
use Rattle.cmd_gen.specs.Summing.{EndsSummary}
use Rattle.cmd_gen.specs.declared.ends.Generated.{Generated}
use Rattle.cmd_gen.specs.declared.ends.GenerateEnd.{GenerateEnd}
use Rattle.cmd_gen.specs.declared.ends.GenerateEnd.TheVariants as end

-- nothing was served: there is no journal, and the output and the volumes are as they were
pub record IsUngenerated {K V : Type 0} (output : K) (volumes : V) (left : Generated K V) : Type 0
  where
    pub journal : left.journal.entries ≡ []
    pub first : left.first ≡ 0
    pub output_is : left.output ≡ output
    pub volumes_are : left.volumes ≡ volumes

-- What a run over the generated script leaves, if the volumes told v before it: one journal, of
-- which the last entries are held. The run came to it, and it ended as its run did; and with a
-- fault of the volumes their count of faults rose.
pub record RunsGenerated {K V : Type 0} (G : Ghosts ScriptEnd) (facts : V → VolumesFacts ServerNote)
    (n seed : ℕ) (v : VolumesFacts ServerNote)
    (left : Generated K V) (ended : GenerateEnd) : Type 0 where
  pub how : Ending
  pub journal : List (Entry ServerNote)
  pub is : IsHeld (terms_for n seed v) (asked_for n) (facts left.volumes).taken left.first
      left.journal.entries journal
  pub ran : RanSo G (unwatched G facts) (terms_for n seed v) (asked_for n) (generated n seed) how
      journal
  pub ends : EndsSummary ended how left.first
  pub rose : ended ≡ end.VolumeFault → Rose v.faults (facts left.volumes).faults

module _ {K V : Type 0} (G : Ghosts ScriptEnd) (facts : V → VolumesFacts ServerNote) (n seed : ℕ)
  where
    -- what each ending says: only for want of memory was nothing served
    abbrev pub Generates : K → V → Generated K V → GenerateEnd → Type 0
    Generates output volumes left end.NoMemory =
        IsUngenerated output volumes left ⊎ RunsGenerated G facts n seed (facts volumes) left
        end.NoMemory
    Generates output volumes left ended = RunsGenerated G facts n seed (facts volumes) left ended
