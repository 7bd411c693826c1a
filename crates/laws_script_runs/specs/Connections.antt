-- Which entries of a journal are of which connection, and the lines of a journal connection after
-- connection (this project's own).
use Rattle.std.specs.Prelude.{◌≡◌, ℕ, ◌==◌, Bool, true, false, if◌then◌else◌, List, [], flat_map}
use Rattle.std.specs.Prelude.{Option, Some, None}
use Rattle.reactor_model.specs.ev_types.specs.declared.upcall.Why.{Why}
use Rattle.reactor_model.specs.ev_types.specs.declared.upcall.Why.TheVariants.{Refused as ByRefusal}
use Rattle.laws_script_told.specs.log_handler.specs.log_lines.specs.declared.end_kind.EndKind.{EndKind}
use Rattle.laws_script_told.specs.log_handler.specs.log_lines.specs.declared.end_kind.EndKind.TheVariants as end
use Rattle.std.specs.List.{list_any}
use Rattle.reactor_model.specs.reactor_journal.specs.Event.{Item, Origin}
use Rattle.reactor_model.specs.reactor_journal.specs.declared.entry.Entry.{Entry}
use Rattle.reactor_model.specs.reactor_journal.specs.declared.entry.Entry.TheVariants.{Returned}
use Rattle.reactor_model.specs.reactor_journal.specs.declared.entry.Entry.TheVariants.{Refused}
use Rattle.reactor_model.specs.reactor_journal.specs.declared.entry.Entry.TheVariants.{Closed}
use Rattle.reactor_model.specs.reactor_journal.specs.Past.{count, had, origin_of, reason_of}
use Rattle.reactor_model.specs.reactor_journal.specs.Past.{offered_here}
use Rattle.laws_script_told.specs.log_handler.specs.declared.note.ServerNote.{ServerNote}
use Rattle.laws_script_told.specs.log_handler.specs.declared.note.ServerNote.TheVariants as note
use Rattle.laws_script_told.specs.log_handler.specs.Notes.{entry_lines}
use Rattle.laws_script_told.specs.log_handler.specs.Connection as connection
use Rattle.laws_script_told.specs.log_handler.specs.Connections.{IsClosing}
use Rattle.laws_script_turns.specs.acceptor.specs.Accepting as accepting
use Rattle.laws_script_turns.specs.event_script.specs.Script.{ScriptStep}
use Rattle.laws_script_turns.specs.event_script.specs.Stories.{story, offers}
use Rattle.laws_script_turns.specs.Grouped.{each_below}
use Rattle.laws_script_runs.specs.Steps.{EachStep}
use Rattle.laws_script_turns.specs.Laws.{untold, unoffered}

-- ---- lines

-- whether a note is of this connection
abbrev pub is_note_of : ℕ → ServerNote → Bool
is_note_of c (note.Piece conn took records) = conn == c
is_note_of c (note.Finished conn end) = conn == c
is_note_of c _ = false

abbrev pub is_entry_of : ℕ → Entry ServerNote → Bool
is_entry_of c (Returned event answer said) = is_note_of c said
is_entry_of c (Refused live fault said) = is_note_of c said
is_entry_of c (Closed handle said) = is_note_of c said
is_entry_of c _ = false

-- the lines of one connection, in the journal's order
abbrev pub lines_in : ℕ → Entry ServerNote → List ℕ
lines_in c e = if is_entry_of c e then entry_lines e else []

abbrev pub lines_of : ℕ → List (Entry ServerNote) → List ℕ
lines_of c journal = flat_map (lines_in c) journal

-- how many connections were accepted
abbrev pub accepts : Entry ServerNote → Bool
accepts (Returned event answer (note.Accepted conn)) = true
accepts _ = false

abbrev pub accepted : List (Entry ServerNote) → ℕ
accepted entries = count accepts entries

-- connection after connection, by rising number
abbrev pub lines_by_connection : List (Entry ServerNote) → List ℕ
lines_by_connection journal = each_below (accepted journal) (λ c. lines_of c journal)

-- ---- turns over the stories of a script

-- what an acceptor leaves that had these turns
pub record ListensThrough (steps : List ScriptStep) (had : List (Item ServerNote))
    (said : ServerNote) : Type 0 where
  pub now : accepting.Progress
  pub course : accepting.Course (accepting.at_start (Some (unoffered (offers steps)))) had now
  pub notes : said ≡ note.ListenerShut

-- what a connection leaves that had these turns and is closed for this reason
pub record TalksThrough (steps : List ScriptStep) (idle : Option ℕ) (c : ℕ) (moment : ℕ)
    (had : List (Item ServerNote)) (reason : Why) (said : ServerNote) : Type 0 where
  pub now : connection.Progress
  pub word : EndKind
  pub course : connection.Course c idle (connection.at_start moment (Some (untold (story c steps))))
      had now
  pub closing : IsClosing reason now.kept word
  pub notes : said ≡ note.Finished c word

-- By the turn that offered the handler: one that accepted a connection offered that connection. The
-- handler that no turn offered is the acceptor, and there is no other.
abbrev pub LeavesOffered : List ScriptStep → Option ℕ → ServerNote → ℕ → List (Item ServerNote)
    → Why → ServerNote → Type 0
LeavesOffered steps idle (note.Accepted c) moment had reason said =
    TalksThrough steps idle c moment had reason said
LeavesOffered steps idle _ moment had reason said = ⊥

abbrev pub SaysLast : List ScriptStep → Option ℕ → Option (Origin ServerNote)
    → List (Item ServerNote) → Why → ServerNote → Type 0
SaysLast steps idle None had reason said = ListensThrough steps had said
SaysLast steps idle (Some origin) had reason said =
    LeavesOffered steps idle origin.note origin.moment had reason said

-- each handler that was closed, or not registered, leaves what it does that had these turns over
-- its story
abbrev pub IsLeft : List ScriptStep → Option ℕ → List (Entry ServerNote) → Entry ServerNote → Type 0
IsLeft steps idle past (Closed handle said) =
    SaysLast steps idle (origin_of past handle.0) (had past handle.0) (reason_of past handle.0) said
IsLeft steps idle past (Refused live fault said) =
    SaysLast steps idle (offered_here past) [] ByRefusal said
IsLeft steps idle past _ = Unit {0}

abbrev pub AreLeft : List ScriptStep → Option ℕ → List (Entry ServerNote) → Type 0
AreLeft steps idle past = EachStep (IsLeft steps idle) past

-- no connection was closed for want of memory
abbrev pub lacks_memory : ServerNote → Bool
lacks_memory (note.Finished conn end.NoMemory) = true
lacks_memory _ = false

abbrev pub entry_lacks : Entry ServerNote → Bool
entry_lacks (Returned event answer said) = lacks_memory said
entry_lacks (Refused live fault said) = lacks_memory said
entry_lacks (Closed handle said) = lacks_memory said
entry_lacks _ = false

abbrev pub HadMemory : List (Entry ServerNote) → Type 0
HadMemory journal = list_any entry_lacks journal ≡ false
