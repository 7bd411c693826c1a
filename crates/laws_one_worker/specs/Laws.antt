-- What the journal of one worker over a script is.
use Rattle.std.specs.Prelude.{ℕ, List, Option}
use Rattle.laws_script_calls.specs.reactor_journal.specs.declared.entry.Entry.{Entry}
use Rattle.laws_script_calls.specs.reactor_core.specs.Stands.{Meaning}
use Rattle.tp_reactor.specs.reactor_desk.specs.declared.terms.DeskTerms.{DeskTerms}
use Rattle.tp_reactor.specs.declared.working.Ran.TheVariants.{Over}
use Rattle.laws_script_calls.specs.event_script.specs.Script.{ScriptGroup}
use Rattle.laws_script_calls.specs.log_handler.specs.declared.note.ServerNote.{ServerNote}
use Rattle.laws_script_serial.specs.Serial.{Serial}
use Rattle.laws_one_worker.specs.Alone.{RunsAlone}

-- If its loop ended since nothing could be reported any more, the journal is the serial one of
-- its script.
abbrev pub RunIsSerial : {H M Q W V E : Type 0} → Meaning H M Q W V ServerNote E → Type 0
RunIsSerial m =
    (q : DeskTerms) (idle : Option ℕ) (groups : List ScriptGroup)
    (journal : List (Entry ServerNote)) → RunsAlone m q Over idle groups journal
    → Serial q.run.most idle groups journal
