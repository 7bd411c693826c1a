-- What a run over a script has done when it is over.
use Rattle.std.specs.Prelude.{◌≡◌, if◌then◌else◌, ℕ, false, not, List, [], ◌∷◌, ◌++◌, length}
use Rattle.std.specs.Prelude.{Option}
use Rattle.std.specs.List.{sum_by, list_any}
use Rattle.laws_script_runs.specs.ev_types.specs.declared.upcall.Handle.{Handle}
use Rattle.laws_script_runs.specs.ev_base.specs.Terms.{Terms}
use Rattle.laws_script_runs.specs.reactor_journal.specs.declared.entry.Entry.{Entry}
use Rattle.laws_script_runs.specs.reactor_journal.specs.declared.entry.Entry.TheVariants as entry
use Rattle.laws_script_runs.specs.reactor_model.specs.Handling.{Handling}
use Rattle.laws_script_runs.specs.log_lines.specs.declared.end_kind.EndKind.{EndKind}
use Rattle.laws_script_runs.specs.log_lines.specs.declared.end_kind.EndKind.TheVariants as end
use Rattle.laws_script_runs.specs.log_handler.specs.declared.note.ServerNote.{ServerNote}
use Rattle.laws_script_runs.specs.log_handler.specs.declared.note.ServerNote.TheVariants as note
use Rattle.laws_script_runs.specs.log_handler.specs.Laws.{took_of}
use Rattle.laws_script_runs.specs.ev_base.specs.Playing.{is_at}
use Rattle.laws_script_runs.specs.reactor_journal.specs.Past.{past_of}
use Rattle.laws_script_runs.specs.event_script.specs.Script.{ScriptStep, ScriptGroup, steps_of}
use Rattle.laws_script_runs.specs.event_script.specs.Script.{opened, groups_told}
use Rattle.laws_script_runs.specs.laws_script_told.specs.Told.{told}
use Rattle.laws_script_runs.specs.event_script.specs.Stories.{bytes_of}
use Rattle.laws_script_runs.specs.Connections.{accepted, is_note_of}
use Rattle.laws_script_runs.specs.Laws.{RunsOver}

-- each connection of the script was accepted
abbrev pub AllAreAccepted : {H E : Type 0} → Handling H E ServerNote → Type 0
AllAreAccepted means =
    (t : Terms) (idle : Option ℕ) (groups : List ScriptGroup) (journal : List (Entry ServerNote))
    → RunsOver means t idle groups journal
    → accepted journal ≡ opened (steps_of groups)

-- how many bytes a connection took, by the notes of its turns
abbrev pub took_for : ℕ → Entry ServerNote → ℕ
took_for c (entry.Returned event answer said) = if is_note_of c said then took_of said else 0
took_for c _ = 0

-- a connection that was closed with one of these words has taken all its bytes
abbrev pub TookAllAs : EndKind → ℕ → List (Entry ServerNote) → List ScriptStep → Type 0
TookAllAs end.End c journal steps = sum_by (took_for c) journal ≡ length (bytes_of c steps)
TookAllAs (end.Partial n) c journal steps = sum_by (took_for c) journal ≡ length (bytes_of c steps)
TookAllAs end.Stopped c journal steps = sum_by (took_for c) journal ≡ length (bytes_of c steps)
TookAllAs _ c journal steps = Unit {0}

-- each connection that was closed as read to its end has taken all its bytes
abbrev pub AllBytesAreTaken : {H E : Type 0} → Handling H E ServerNote → Type 0
AllBytesAreTaken means =
    (t : Terms) (idle : Option ℕ) (groups : List ScriptGroup) (journal : List (Entry ServerNote))
    → RunsOver means t idle groups journal
    → (before after : List (Entry ServerNote)) (handle : Handle) (c : ℕ) (word : EndKind)
    → journal ≡ before ++ entry.Closed handle (note.Finished c word) ∷ after
    → TookAllAs word c journal (steps_of groups)

-- no group is left, and no step but those of ends that were closed or refused
pub record LeavesNoStep (groups : List ScriptGroup) (past : List (Entry ServerNote)) : Type 0 where
  pub no_group : (told (groups_told groups) past).groups ≡ []
  pub no_step : list_any (λ step. not (is_at (told (groups_told groups) past).gone step))
      (told (groups_told groups) past).held ≡ false

-- so it is when the run is over, before all handlers that are left are closed
abbrev pub NoStepIsLeft : {H E : Type 0} → Handling H E ServerNote → Type 0
NoStepIsLeft means =
    (t : Terms) (idle : Option ℕ) (groups : List ScriptGroup) (journal : List (Entry ServerNote))
    → (r : RunsOver means t idle groups journal)
    → LeavesNoStep groups (past_of r.ends.run)
