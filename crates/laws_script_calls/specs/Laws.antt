-- What the calls of a net that plays a script say of the journal.
use Rattle.std.specs.Prelude.{◌≡◌, ℕ, List, [], Option, Some, None}
use Rattle.laws_script_runs.specs.ev_base.specs.Playing.{Plays}
use Rattle.laws_script_runs.specs.ev_base.specs.Story.{Offer}
use Rattle.laws_script_runs.specs.ev_base.specs.Terms.{Terms, Group}
use Rattle.laws_script_runs.specs.ev_base.specs.Net.{Call}
use Rattle.laws_script_runs.specs.reactor_journal.specs.Event.{Origin}
use Rattle.laws_script_runs.specs.reactor_journal.specs.declared.entry.Entry.{Entry}
use Rattle.laws_script_runs.specs.reactor_journal.specs.Past.{past_of}
use Rattle.laws_script_runs.specs.reactor_journal.specs.Follow.{Legal}
use Rattle.laws_script_runs.specs.reactor_model.specs.Handling.{Handling}
use Rattle.reactor_core.specs.Calls.{AreCalls}
use Rattle.laws_script_runs.specs.log_handler.specs.declared.note.ServerNote.{ServerNote}
use Rattle.laws_script_runs.specs.log_handler.specs.Connections.{serial_named}
use Rattle.laws_script_runs.specs.laws_script_told.specs.Told.{Follows}

-- such handlers name the serial numbers of their ends as those of the server do
abbrev pub NamesAsServer : {H E : Type 0} → Handling H E ServerNote → Terms → Type 0
NamesAsServer means t = (origin : Option (Origin ServerNote))
    → means.serial t origin ≡ serial_named t origin

-- The net's calls are those of a legal journal whose waits had no limit of their own, the
-- listener's story is told, and the net plays these groups. Then the journal follows the script.
abbrev pub CallsFollow : {H E : Type 0} → Handling H E ServerNote → Type 0
CallsFollow means =
    (t : Terms) (offers : List Offer) (groups : List Group) (journal : List (Entry ServerNote))
    (calls : List Call) (most : ℕ)
    → Legal journal most → t.limit ≡ Some None → t.offers ≡ Some offers → NamesAsServer means t
    → AreCalls means t (past_of journal) [] calls → Plays groups calls → Follows groups journal
