-- What `logd replay` did, by how it ended. The input told the facts i before and tells j now;
-- `limit` is how many bytes may be read.
use Rattle.std.specs.Prelude.{◌≡◌, ◌⊎◌, ℕ, List, []}
use Rattle.ev_base.specs.Sink.{SinkFacts}
use Rattle.ev_base.specs.Source.{SourceFacts}
use Rattle.ev_base.specs.declared.end.PeerEnd.{Ghosts}
use Rattle.bounded_input.specs.Reading.{IsReadWhole, ReadsSome, ReadsUpToFault, ReadsTooLong}
use Rattle.server_run.specs.reactor_model.specs.Volumes.{VolumesFacts}
use Rattle.server_run.specs.log_handler.specs.declared.note.ServerNote.{ServerNote}
use Rattle.cmd_line.specs.declared.options.Options.{Options}
use Rattle.script_net.specs.event_script.specs.Script.{ScriptGroup}
use Rattle.script_net.specs.event_script.specs.Grammar.{IsScriptText, IsBadAt}
use Rattle.script_net.specs.declared.end.ScriptEnd.{ScriptEnd}
use Rattle.cmd_replay.specs.Replays.{RunsScript, asked_by}
use Rattle.cmd_replay.specs.declared.ends.Played.{Played}
use Rattle.cmd_replay.specs.declared.ends.ReplayEnd.{ReplayEnd}
use Rattle.cmd_replay.specs.declared.ends.ReplayEnd.TheVariants as end

-- nothing was served: there is no journal, and the output and the volumes are as they were
pub record IsUnplayed {K V : Type 0} (output : K) (volumes : V) (played : Played K V) : Type 0 where
  pub journal : played.journal.entries ≡ []
  pub first : played.first ≡ 0
  pub output_is : played.output ≡ output
  pub volumes_are : played.volumes ≡ volumes

module _ {K V : Type 0} (G : Ghosts ScriptEnd) (sink : K → SinkFacts)
    (facts : V → VolumesFacts ServerNote) (options : Options) where
  -- the text is that of a script, and the server was run over it
  pub record ServesText (text : List ℕ) (output : K) (volumes : V) (played : Played K V) : Type 0
    where
      pub groups : List ScriptGroup
      pub is_text : IsScriptText text groups
      pub runs : RunsScript G sink facts options.form (asked_by options (facts volumes).size) groups
          (sink output) (facts volumes) played

  -- What became of a text that was read whole: it is bad, first at this line, and nothing was
  -- served; there was no memory before anything was served; or it was served.
  abbrev pub ReplaysText : List ℕ → K → V → Played K V → ReplayEnd → Type 0
  ReplaysText text output volumes played (end.BadText line) =
      IsBadAt text line × IsUnplayed output volumes played
  ReplaysText text output volumes played end.NoMemory =
      IsUnplayed output volumes played ⊎ ServesText text output volumes played
  ReplaysText text output volumes played end.Done = ServesText text output volumes played
  ReplaysText text output volumes played end.WriteFault = ServesText text output volumes played
  ReplaysText text output volumes played end.VolumeFault = ServesText text output volumes played
  ReplaysText text output volumes played end.ReadFault = ⊥
  ReplaysText text output volumes played end.TooLong = ⊥

  -- the input was read whole, and this became of its text
  pub record ReplaysWhole (limit : ℕ) (i : SourceFacts) (output : K) (volumes : V) (j : SourceFacts)
      (played : Played K V) (ended : ReplayEnd) : Type 0 where
    pub text : List ℕ
    pub whole : IsReadWhole limit i j text
    pub replays : ReplaysText text output volumes played ended

  -- what each ending says
  abbrev pub Replays : ℕ → SourceFacts → K → V → SourceFacts → Played K V → ReplayEnd → Type 0
  Replays limit i output volumes j played end.ReadFault =
      ReadsUpToFault limit i j × IsUnplayed output volumes played
  Replays limit i output volumes j played end.TooLong =
      ReadsTooLong limit i j × IsUnplayed output volumes played
  Replays limit i output volumes j played end.NoMemory =
      (ReadsSome limit i j × IsUnplayed output volumes played)
      ⊎ ReplaysWhole limit i output volumes j played end.NoMemory
  Replays limit i output volumes j played ended = ReplaysWhole limit i output volumes j played ended
