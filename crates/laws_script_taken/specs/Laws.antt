-- What holds of the connections of every run over a script, however it ended.
use Rattle.std.specs.Prelude.{◌≡◌, ◌⊎◌, ℕ, true, List, [], ◌∷◌, ◌++◌, reverse, Option}
use Rattle.std.specs.List.{list_any, list_all}
use Rattle.laws_script_complete.specs.ev_types.specs.declared.upcall.Answer.{Answer}
use Rattle.laws_script_complete.specs.ev_base.specs.Terms.{Terms}
use Rattle.laws_script_complete.specs.reactor_journal.specs.declared.entry.Entry.{Entry}
use Rattle.laws_script_complete.specs.reactor_journal.specs.declared.entry.Entry.TheVariants.{
  Opened,
}
use Rattle.laws_script_complete.specs.reactor_journal.specs.declared.entry.Entry.TheVariants.{
  Returned,
}
use Rattle.laws_script_complete.specs.reactor_journal.specs.declared.entry.Entry.TheVariants.{Ended}
use Rattle.laws_script_complete.specs.reactor_journal.specs.Past.{past_of}
use Rattle.laws_script_complete.specs.reactor_model.specs.Handling.{Handling}
use Rattle.laws_script_complete.specs.laws_by_turns.specs.ByTurns.{DispatchedByTurns}
use Rattle.laws_script_complete.specs.laws_by_turns.specs.ByTurns.{OffersBehind}
use Rattle.laws_script_complete.specs.acceptor.specs.Servers.{read_alone}
use Rattle.laws_script_complete.specs.log_handler.specs.declared.note.ServerNote.{ServerNote}
use Rattle.laws_script_complete.specs.event_script.specs.Script.{ScriptGroup}
use Rattle.laws_script_complete.specs.event_script.specs.Script.{steps_of}
use Rattle.laws_script_complete.specs.event_script.specs.Script.{are_steps}
use Rattle.laws_script_complete.specs.laws_script_runs.specs.Connections.{AreLeft, is_entry_of}
use Rattle.laws_script_complete.specs.laws_script_runs.specs.Laws.{ActsAsServer}
use Rattle.laws_script_complete.specs.laws_script_runs.specs.Runs.{IsWhole, first_handle}
use Rattle.laws_script_complete.specs.laws_script_runs.specs.Runs.{is_closing}
use Rattle.laws_script_taken.specs.Taken.{accepts_connection, IsTaken}

-- after each turn that installs a handler, or after the `Closed` directly after it, that handler
-- is registered or refused
abbrev pub OffersEach : {H E N : Type 0} → Handling H E N → List (Entry N) → Type 0
OffersEach {N = N} means entries =
    (before : List (Entry N)) (event : ℕ) (answer : Answer) (said : N) (behind : List (Entry N))
    → entries ≡ before ++ Returned event answer said ∷ behind
    → means.installs said ≡ true → OffersBehind behind

-- So it is after the end of a run, if nothing stands there but removals and closings, or if
-- the journal goes by turns after its end too.
abbrev pub OffersBehindTheEnd : {H E N : Type 0} → Handling H E N → Type 0
OffersBehindTheEnd {N = N} means =
    (t : Terms) (run closing : List (Entry N)) → (list_all is_closing closing ≡ true)
    ⊎ DispatchedByTurns means t 1 (run ++ Ended ∷ closing) → OffersEach means closing

-- What the next laws take: a whole journal over a script, however its run ended. Its run registered
-- no handler, or begins with the registration of the acceptor; it goes by turns alone before it
-- ends. The upcalls that were open at its end return after that, and what they install is refused
-- there. Each handler leaves what it does that had its turns over its story.
pub record RunsSomehow {H E : Type 0} (means : Handling H E ServerNote) (t : Terms)
    (idle : Option ℕ) (groups : List ScriptGroup) (journal : List (Entry ServerNote)) : Type 0 where
  pub script : are_steps (reverse (steps_of groups)) ≡ true
  pub whole : IsWhole t.most journal
  pub run : List (Entry ServerNote)
  pub closing : List (Entry ServerNote)
  pub is : journal ≡ run ++ Ended ∷ closing
  pub begins : (run ≡ []) ⊎ ((rest : List (Entry ServerNote))
      × (run ≡ Opened first_handle read_alone ∷ rest))
  pub acts : ActsAsServer means t
  pub turned : DispatchedByTurns means t 1 run
  pub offers : OffersEach means closing
  pub turns : AreLeft (steps_of groups) idle (past_of journal)

-- Each connection that the journal notes as accepted took a front of its bytes in the script, noted
-- the records of these, and was closed once, with a word that has its cause.
abbrev pub ConnectionsAreTaken : {H E : Type 0} → Handling H E ServerNote → Type 0
ConnectionsAreTaken means =
    (t : Terms) (idle : Option ℕ) (groups : List ScriptGroup) (journal : List (Entry ServerNote))
    → RunsSomehow means t idle groups journal
    → (c : ℕ) → list_any (accepts_connection c) journal ≡ true
    → IsTaken (steps_of groups) idle journal c

-- Each note of a connection, of its turns and of its end, stands after its acceptance.
abbrev pub NotesAreOfAccepted : {H E : Type 0} → Handling H E ServerNote → Type 0
NotesAreOfAccepted means =
    (t : Terms) (idle : Option ℕ) (groups : List ScriptGroup) (journal : List (Entry ServerNote))
    → RunsSomehow means t idle groups journal
    → (c : ℕ) (before : List (Entry ServerNote)) (e : Entry ServerNote)
    (after : List (Entry ServerNote)) → journal ≡ before ++ e ∷ after → is_entry_of c e ≡ true
    → list_any (accepts_connection c) before ≡ true
