-- How long the journal of one worker over a script is at most.
use Rattle.std.specs.Prelude.{◌≤◌, ◌+◌, ◌*◌, ◌/◌, List, length, None}
use Rattle.laws_one_worker.specs.reactor_journal.specs.declared.entry.Entry.{Entry}
use Rattle.laws_one_worker.specs.reactor_core.specs.Stands.{Meaning}
use Rattle.laws_one_worker.specs.reactor_desk.specs.declared.terms.DeskTerms.{DeskTerms}
use Rattle.laws_one_worker.specs.tp_reactor.specs.declared.working.Ran.{Ran}
use Rattle.laws_one_worker.specs.event_script.specs.Script.{ScriptGroup, steps_of}
use Rattle.laws_one_worker.specs.log_handler.specs.declared.note.ServerNote.{ServerNote}
use Rattle.laws_one_worker.specs.Alone.{RunsAlone}
use Rattle.laws_journal_length.specs.Few.{all_bytes, quiet_groups}

-- Without an idle time it has few entries for each step, each 1,024 bytes and each quiet group,
-- whatever the last lead gave.
abbrev pub IsShort : {H M Q W V E : Type 0} → Meaning H M Q W V ServerNote E → Type 0
IsShort m =
    (q : DeskTerms) (answer : Ran) (groups : List ScriptGroup) (journal : List (Entry ServerNote))
    → RunsAlone m q answer None groups journal
    → length journal ≤ 16 * length (steps_of groups) + all_bytes (steps_of groups) / 1024
    + quiet_groups groups + 200
