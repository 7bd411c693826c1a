-- What a run over a script leaves, written in one of three forms.
use Rattle.std.specs.Prelude.{◌≡◌, ◌⊎◌, ◌+◌, ◌^◌, ℕ, Bool, true, false, List}
use Rattle.std.specs.Prelude.{None}
use Rattle.ev_base.specs.Counts.{Rose}
use Rattle.ev_base.specs.Sink.{SinkFacts}
use Rattle.ev_base.specs.Terms.{Terms}
use Rattle.ev_base.specs.declared.end.PeerEnd.{Ghosts}
use Rattle.server_run.specs.reactor_journal.specs.declared.entry.Entry.{Entry}
use Rattle.server_run.specs.reactor_model.specs.Volumes.{VolumesFacts}
use Rattle.server_run.specs.log_handler.specs.declared.note.ServerNote.{ServerNote}
use Rattle.cmd_line.specs.declared.options.Form.{Form}
use Rattle.cmd_line.specs.declared.options.Form.TheVariants.{Plain, Grouped, Journal}
use Rattle.cmd_line.specs.declared.options.Options.{Options}
use Rattle.script_net.specs.event_script.specs.Script.{ScriptGroup}
use Rattle.script_net.specs.event_script.specs.Grammar.{IsScriptText}
use Rattle.script_net.specs.Hosts.{ScriptContent}
use Rattle.script_net.specs.declared.end.ScriptEnd.{ScriptEnd}
use Rattle.script_text.specs.Parsing.{HasGroups}
use Rattle.laws_script_served.specs.Terms.{terms_of_script}
use Rattle.server_run.specs.declared.asked.Asked.{Asked}
use Rattle.server_run.specs.declared.ending.Ending.{Ending}
use Rattle.server_run.specs.declared.ending.Ending.TheVariants as ending
use Rattle.server_run.specs.sink_buffer.specs.Written.{TookAll, TookFront}
use Rattle.cmd_replay.specs.Leading.{unwatched, with_lines, with_text}
use Rattle.cmd_replay.specs.Outputs.{WritesText, text_in}
use Rattle.cmd_replay.specs.Runs.{IsHeld, RanSo}
use Rattle.cmd_replay.specs.declared.ends.Played.{Played}
use Rattle.cmd_replay.specs.declared.ends.ReplayEnd.{ReplayEnd}
use Rattle.cmd_replay.specs.declared.ends.ReplayEnd.TheVariants as end

-- how many entries a volume has at least: as many as its keeper says, but all if the text is
-- grouped, which is made of the whole journal
abbrev pub volume_in : Form → ℕ → ℕ
volume_in Grouped size = 2 ^ 62
volume_in Plain size = size
volume_in Journal size = size

-- what a run is asked for by the options of a replay: waits have no limit of their own
abbrev pub asked_by : Options → ℕ → Asked
asked_by options size = record {
  workers = options.workers;
  connections = options.most;
  idle = options.idle;
  until = options.until;
  limit = None;
  volume = volume_in options.form size;
}

-- an output of which nothing is told
abbrev pub unseen : SinkFacts
unseen = record { faults = 0; text = None }

-- how a replay ends whose watch failed or did not, and whose run ended so; the text that is grouped
-- was not written yet
abbrev pub end_by : Bool → Ending → ReplayEnd
end_by true how = end.WriteFault
end_by false ending.Over = end.Done
end_by false ending.Notified = end.Done
end_by false ending.VolumeFault = end.VolumeFault
end_by false ending.NoMemory = end.NoMemory
end_by false ending.Broken = end.NoMemory
end_by false ending.NotAttached = end.NoMemory
end_by false ending.NetFault = end.NoMemory

-- The script is that of a text, with these groups.
pub record IsOfText (script : ScriptContent) (groups : List ScriptGroup) : Type 0 where
  pub text : List ℕ
  pub is_text : IsScriptText text groups
  pub has : HasGroups script 0 groups

-- With which ending of the run a replay may end so. That a volume was not taken is told only if
-- nothing else ended the run, and want of memory not in its place.
abbrev pub EndsReplay : ReplayEnd → Ending → ℕ → ℕ → Type 0
EndsReplay end.Done how before now = (how ≡ ending.Over) ⊎ (how ≡ ending.Notified)
EndsReplay end.VolumeFault how before now = (how ≡ ending.VolumeFault) × Rose before now
EndsReplay end.WriteFault how before now = Unit {0}
EndsReplay end.NoMemory how before now = how ≡ ending.VolumeFault → ⊥
EndsReplay (end.BadText line) how before now = ⊥
EndsReplay end.ReadFault how before now = ⊥
EndsReplay end.TooLong how before now = ⊥

-- The terms of a run: those of its script, of the volumes, and of the output if it is written to
-- as the run goes.
abbrev pub terms_in : Form → Asked → List ScriptGroup → SinkFacts → VolumesFacts ServerNote → Terms
terms_in Plain asked groups o v = terms_of_script asked.connections asked.idle groups o v
terms_in Grouped asked groups o v = terms_of_script asked.connections asked.idle groups unseen v
terms_in Journal asked groups o v = terms_of_script asked.connections asked.idle groups o v

-- What became of the text of a run that ended so and writes after it, if it holds the entries
-- from this number on: of a run that was done and handed none over, all of the text or a front of
-- it was written; and else nothing.
abbrev pub WritesHeld : ReplayEnd → ℕ → SinkFacts → List ℕ → ReplayEnd → SinkFacts → Type 0
WritesHeld end.Done first o text end.Done p = (first ≡ 0) × TookAll o text p
WritesHeld end.Done first o text end.WriteFault p = (first ≡ 0) × TookFront o text p
WritesHeld end.Done first o text end.NoMemory p = p ≡ o
WritesHeld end.Done first o text _ p = ⊥
WritesHeld run first o text now p = (now ≡ run) × (p ≡ o)

-- what it came to, with the watch of each form
abbrev pub RanIn : {K V : Type 0} → Ghosts ScriptEnd → (K → SinkFacts)
    → (V → VolumesFacts ServerNote) → Form → Terms → Asked → List ScriptGroup → Ending
    → List (Entry ServerNote) → Type 0
RanIn G sink facts Plain t asked groups how journal =
    RanSo G (with_lines G sink facts) t asked groups how journal
RanIn G sink facts Grouped t asked groups how journal =
    RanSo G (unwatched G facts) t asked groups how journal
RanIn G sink facts Journal t asked groups how journal =
    RanSo G (with_text G sink facts) t asked groups how journal

-- What a run over a script leaves whose journal is written in this form, if the output told o
-- and the volumes v before it: one journal, of which the last entries are held. The run came to it
-- and ended in a way with which a replay ends so; and its text was written.
pub record RunsScript {K V : Type 0} (G : Ghosts ScriptEnd) (sink : K → SinkFacts)
    (facts : V → VolumesFacts ServerNote) (form : Form) (asked : Asked) (groups : List ScriptGroup)
    (o : SinkFacts) (v : VolumesFacts ServerNote) (played : Played K V) : Type 0 where
  pub how : Ending
  pub journal : List (Entry ServerNote)
  pub is : IsHeld (terms_in form asked groups o v) asked (facts played.volumes).taken played.first
      played.journal.entries journal
  pub ran : RanIn G sink facts form (terms_in form asked groups o v) asked groups how journal
  pub ends : EndsReplay played.end how v.faults (facts played.volumes).faults
  pub written : WritesText form played.end o (text_in form (asked.connections + 1) journal)
      (sink played.output)
