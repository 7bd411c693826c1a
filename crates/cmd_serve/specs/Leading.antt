-- How the workers of a run over a host led.
use Rattle.std.specs.Prelude.{◌<◌, ◌⊎◌, List}
use Rattle.ev_base.specs.Sink.{SinkFacts}
use Rattle.ev_base.specs.Terms.{Terms}
use Rattle.server_run.specs.reactor_journal.specs.declared.entry.Entry.{Entry}
use Rattle.server_run.specs.reactor_core.specs.Stands.{Meaning, meaning}
use Rattle.server_run.specs.log_handler.specs.LineSink.{PutsLines, is_broken, line_sink_faults}
use Rattle.server_run.specs.log_handler.specs.LineSink.{LineSink, whole_of}
use Rattle.server_run.specs.log_handler.specs.declared.note.ServerNote.{ServerNote}
use Rattle.server_run.specs.Served.{HasLed}
use Rattle.server_run.specs.declared.asked.Asked.{Asked}
use Rattle.server_run.specs.declared.ending.Ending.{Ending}
use Rattle.write_behind.specs.Facts.{Taken, behind_facts}

-- what a reactor's parts mean with an output that writes behind one which told these facts
abbrev pub behind : {H M Q W V E : Type 0} → Meaning H M Q W V ServerNote E → SinkFacts
    → Meaning H M Q (LineSink Taken) V ServerNote E
behind m o = meaning m.means m.facts m.keeps m.shows m.places m.placed
    (PutsLines (behind_facts o)) (line_sink_faults (behind_facts o)) is_broken whole_of m.volumes

-- As many workers led as were asked for. If they are several, their output may write behind the one
-- that was handed in.
abbrev pub LedSo : {H M Q W V E : Type 0} → Meaning H M Q W V ServerNote E → Terms → Asked
    → SinkFacts → Ending → List (Entry ServerNote) → Type 0
LedSo m t asked o how journal = HasLed m t asked how journal
    ⊎ ((1 < asked.workers) × HasLed (behind m o) t asked how journal)
