-- What the connections of a whole run over a script took, however it ended.
use Rattle.std.proofs.Common.{inl, inr, ℕ, ◌≡◌, true, List, Option}
use Rattle.std.specs.List.{list_any}
use Rattle.laws_script_complete.specs.ev_base.specs.Terms.{Terms}
use Rattle.laws_script_complete.specs.reactor_journal.specs.declared.entry.Entry.{Entry}
use Rattle.laws_script_complete.specs.reactor_model.specs.Handling.{Handling}
use Rattle.laws_script_complete.specs.log_handler.specs.declared.note.ServerNote.{ServerNote}
use Rattle.laws_script_complete.specs.event_script.specs.Script.{ScriptGroup}
use Rattle.laws_script_complete.specs.event_script.specs.Script.{steps_of}
use Rattle.laws_script_taken.specs.Laws.{RunsSomehow}
use Rattle.laws_script_taken.specs.Taken.{accepts_connection, IsTaken}
use Rattle.laws_script_taken.proofs.Closing.{accepted_ends}
use Rattle.laws_script_taken.proofs.Taking.{is_taken}
use Rattle.laws_script_taken.proofs.Whole.{as_begun, none_accepted}

pub connections_taken : {H E : Type 0} (means : Handling H E ServerNote) (t : Terms)
    (idle : Option ℕ) (groups : List ScriptGroup) (journal : List (Entry ServerNote))
    → RunsSomehow means t idle groups journal → (c : ℕ)
    → list_any (accepts_connection c) journal ≡ true → IsTaken (steps_of groups) idle journal c
connections_taken means t idle groups journal runs conn accepted = elim runs.begins [
  | inl none ↦ absurd (none_accepted means t idle groups journal runs conn none accepted)
  | inr begins ↦
      let run = as_begun means t idle groups journal runs begins.0 begins.1 in
      is_taken means t idle groups journal run conn
      (accepted_ends means t idle groups journal run conn accepted) accepted
]
