-- What the ends that a net keeps say of the turns in the journal.
use Rattle.std.specs.Prelude.{◌≡◌, ◌<◌, ℕ, List, Option, Some}
use Rattle.laws_script_runs.specs.ev_types.specs.declared.upcall.Why.{Why}
use Rattle.laws_script_runs.specs.ev_base.specs.Story.{OfParts}
use Rattle.laws_script_runs.specs.ev_base.specs.End.{EndFacts}
use Rattle.laws_script_runs.specs.ev_base.specs.Terms.{Terms, story_of}
use Rattle.laws_script_runs.specs.reactor_journal.specs.Event.{Item, Origin}
use Rattle.laws_script_runs.specs.reactor_journal.specs.declared.entry.Entry.{Entry}
use Rattle.laws_script_runs.specs.reactor_journal.specs.Past.{past_of}
use Rattle.reactor_core.specs.Ends.{AreRetired, AreTurnedAway}
use Rattle.laws_script_runs.specs.acceptor.specs.Servers.{ServerGone}
use Rattle.laws_script_runs.specs.reactor_model.specs.Handling.{Handling}
use Rattle.laws_script_runs.specs.log_handler.specs.declared.note.ServerNote.{ServerNote}
use Rattle.laws_script_runs.specs.event_script.specs.Script.{ScriptStep, opened}
use Rattle.laws_script_runs.specs.event_script.specs.Stories.{story, offers}
use Rattle.laws_script_runs.specs.Connections.{AreLeft}
use Rattle.laws_script_runs.specs.Runs.{IsWhole}

-- the terms have the stories of a script, and this idle time
pub record HaveStories (t : Terms) (steps : List ScriptStep) (idle : Option ℕ) : Type 0 where
  pub of_listener : t.offers ≡ Some (offers steps)
  pub of_each : (c : ℕ) → c < opened steps → story_of t c ≡ Some (OfParts (story c steps))
  pub idle_is : t.idle ≡ Some idle

-- such handlers leave what those of the server do
abbrev pub LeavesAsServer : {H E : Type 0} → Handling H E ServerNote → (E → EndFacts)
    → (Terms → E → Type 0) → Terms → Type 0
LeavesAsServer {E = E} means tells keeps t =
    (origin : Option (Origin ServerNote)) (end : E) (had : List (Item ServerNote)) (reason : Why)
    (said : ServerNote)
    → means.gone t origin end had reason said → ServerGone tells keeps t origin end had reason said

-- The terms have the stories of a script, and every handler of the journal was closed. The ends
-- that were retired and turned away are those that the journal tells. Then each handler had its
-- turns over its story.
abbrev pub EndsTell : {H E : Type 0} → Handling H E ServerNote → (E → EndFacts)
    → (Terms → E → Type 0) → Type 0
EndsTell {E = E} means tells keeps =
    (t : Terms) (steps : List ScriptStep) (idle : Option ℕ) (most : ℕ)
    (journal : List (Entry ServerNote)) (retired : List (ℕ × E)) (turned : List E)
    → HaveStories t steps idle → LeavesAsServer means tells keeps t → IsWhole most journal
    → AreRetired means t (past_of journal) retired → AreTurnedAway means t (past_of journal) turned
    → AreLeft steps idle (past_of journal)
