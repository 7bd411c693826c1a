-- What the parts of a reactor mean whose workers lead a run over a script.
use Rattle.std.specs.Prelude.{ℕ, Bool, false, List}
use Rattle.ev_base.specs.Sink.{SinkFacts}
use Rattle.ev_base.specs.Terms.{Terms}
use Rattle.ev_base.specs.declared.end.PeerEnd.{Ghosts}
use Rattle.server_run.specs.acceptor.specs.Servers.{servers}
use Rattle.server_run.specs.acceptor.specs.declared.server.ServerHandler.{ServerHandler}
use Rattle.chosen_timers.specs.Chosen.{spare_of, timers_of}
use Rattle.chosen_timers.specs.declared.ChosenTimers.{ChosenTimers}
use Rattle.journal_text.specs.JournalSink as text
use Rattle.journal_text.specs.declared.journal_sink.JournalSink.{JournalSink}
use Rattle.server_run.specs.log_handler.specs.LineSink as lines
use Rattle.server_run.specs.log_handler.specs.LineSink.{LineSink}
use Rattle.server_run.specs.log_handler.specs.declared.note.ServerNote.{ServerNote}
use Rattle.server_run.specs.reactor_core.specs.Stands.{Meaning, meaning}
use Rattle.server_run.specs.reactor_state.specs.State.{HasPlaces, IsPlaced, Shows}
use Rattle.server_run.specs.reactor_model.specs.Volumes.{VolumesFacts}
use Rattle.server_run.specs.reactor_model.specs.declared.watch.NoWatch.{NoWatch}
use Rattle.server_run.specs.reactor_journal.specs.declared.entry.Entry.{Entry}
use Rattle.script_net.specs.NetContent.{NetContent, script_net_facts, script_net_keeps}
use Rattle.script_net.specs.ScriptEnd.{script_end_facts, ScriptEndKeeps}
use Rattle.script_net.specs.declared.end.ScriptEnd.{ScriptEnd}

-- What the parts of a reactor mean and tell that runs the server over a script, with a watch and
-- volumes that mean and tell this.
abbrev pub script_meaning : {W V : Type 0} → (G : Ghosts ScriptEnd)
    → (Terms → W → List (Entry ServerNote) → Type 0) → (W → ℕ) → (W → Bool) → (W → ℕ)
    → (V → VolumesFacts ServerNote)
    → Meaning (ServerHandler ScriptEnd G) NetContent ChosenTimers W V ServerNote ScriptEnd
script_meaning G watched faults is_broken whole volumes =
    meaning (servers {G = G} script_end_facts ScriptEndKeeps) script_net_facts script_net_keeps
    (Shows timers_of) (HasPlaces spare_of) IsPlaced watched faults is_broken whole volumes

-- the same if its watch writes the lines of the notes, or the text of the journal, and if
-- nobody watches
abbrev pub with_lines : {K V : Type 0} → (G : Ghosts ScriptEnd) → (K → SinkFacts)
    → (V → VolumesFacts ServerNote)
    → Meaning (ServerHandler ScriptEnd G) NetContent ChosenTimers (LineSink K) V ServerNote
    ScriptEnd
with_lines G sink volumes = script_meaning G (lines.PutsLines sink) (lines.line_sink_faults sink)
    lines.is_broken lines.whole_of volumes

abbrev pub with_text : {K V : Type 0} → (G : Ghosts ScriptEnd) → (K → SinkFacts)
    → (V → VolumesFacts ServerNote)
    → Meaning (ServerHandler ScriptEnd G) NetContent ChosenTimers (JournalSink K) V ServerNote
    ScriptEnd
with_text G sink volumes = script_meaning G (text.PutsJournal sink) (text.journal_sink_faults sink)
    text.is_broken text.whole_of volumes

abbrev pub unwatched : {V : Type 0} → (G : Ghosts ScriptEnd) → (V → VolumesFacts ServerNote)
    → Meaning (ServerHandler ScriptEnd G) NetContent ChosenTimers NoWatch V ServerNote ScriptEnd
unwatched G volumes = script_meaning G (λ t watch h. Unit {0}) (λ watch. 0) (λ watch. false)
    (λ watch. 0) volumes
