-- The law of one worker: a script has one serial journal.
use Rattle.std.specs.Prelude.{◌≡◌, ℕ, List, Option}
use Rattle.laws_script_runs.specs.reactor_journal.specs.declared.entry.Entry.{Entry}
use Rattle.laws_script_runs.specs.log_handler.specs.declared.note.ServerNote.{ServerNote}
use Rattle.laws_script_runs.specs.event_script.specs.Script.{ScriptGroup}
use Rattle.laws_script_runs.specs.Connections.{HadMemory}
use Rattle.laws_script_serial.specs.Serial.{Serial}

abbrev pub SerialIsOne : Type 0
SerialIsOne =
    (most : ℕ) (idle : Option ℕ) (groups : List ScriptGroup)
    (journal other : List (Entry ServerNote))
    → Serial most idle groups journal → Serial most idle groups other → HadMemory journal
    → HadMemory other → journal ≡ other
