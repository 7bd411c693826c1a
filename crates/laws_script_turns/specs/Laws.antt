-- What the turns of a connection come to over the story of a script.
use Rattle.std.specs.Prelude.{Option, ◌≡◌, ◌≢◌, ◌<◌, ◌++◌, ◌+◌, ◌&&◌, ℕ, Bool, true, false, not}
use Rattle.std.specs.Prelude.{if◌then◌else◌, List, [], ◌∷◌, flat_map, Some, None}
use Rattle.std.specs.List.{list_any}
use Rattle.event_script.specs.ev_types.specs.declared.upcall.Answer.{Answer}
use Rattle.event_script.specs.ev_types.specs.declared.upcall.Answer.TheVariants.{Keep}
use Rattle.event_script.specs.ev_types.specs.declared.upcall.Why.{Why}
use Rattle.event_script.specs.ev_types.specs.declared.upcall.Why.TheVariants.{Own}
use Rattle.event_script.specs.ev_base.specs.Story.{Part, Telling, Offer, Offering}
use Rattle.acceptor.specs.log_lines.specs.declared.end_kind.EndKind.{EndKind}
use Rattle.acceptor.specs.log_lines.specs.declared.end_kind.EndKind.TheVariants as end
use Rattle.acceptor.specs.log_lines.specs.Texts.{record_lines, closing_line}
use Rattle.acceptor.specs.reactor_journal.specs.Event.{Item}
use Rattle.acceptor.specs.log_handler.specs.declared.note.ServerNote.{ServerNote}
use Rattle.acceptor.specs.log_handler.specs.Connection.{Progress, at_start, Course}
use Rattle.acceptor.specs.log_handler.specs.Connections.{IsClosing}
use Rattle.acceptor.specs.log_handler.specs.Laws.{on_input, records_in}
use Rattle.event_script.specs.Script.{ScriptStep, Opens, ListenerFails, is_of, shuts, fails, opened}
use Rattle.acceptor.specs.Accepting as accepting
use Rattle.event_script.specs.Stories.{story, offers, bytes_of}
use Rattle.laws_script_turns.specs.Grouped.{grouped_lines}

-- nothing of the story was told
abbrev pub untold : List Part → Telling
untold parts = record { given = []; at = 0; left = parts }

-- whether a turn of input was answered Keep, and how many were: each found nothing to read
abbrev pub is_keep : Answer → Bool
is_keep Keep = true
is_keep _ = false

abbrev pub finds_nothing : Item ServerNote → Bool
finds_nothing item = on_input item && is_keep item.answer

abbrev pub pauses_had : List (Item ServerNote) → ℕ
pauses_had [] = 0
pauses_had (item ∷ items) = (if finds_nothing item then 1 else 0) + pauses_had items

-- how many steps are of a connection
abbrev pub steps_on : ℕ → List ScriptStep → ℕ
steps_on c [] = 0
steps_on c (step ∷ steps) = (if is_of c step then 1 else 0) + steps_on c steps

-- nothing of a connection follows once it was shut or failed
abbrev pub is_orderly : ℕ → List ScriptStep → Bool
is_orderly c [] = true
is_orderly c (step ∷ steps) = if shuts c step then not (list_any (is_of c) steps) else if fails c
    step then not (list_any (is_of c) steps) else is_orderly c steps

-- A connection had these turns over the story that a script has of it, and was closed with this
-- word, not for want of memory. If it had not ended itself, it was closed for another reason, and
-- as many of its turns found nothing as there are steps of it. Then the lines of its notes and of
-- its closing are those of all its bytes.
abbrev pub ConnectionsSayAll : Type 0
ConnectionsSayAll =
    (c : ℕ) (steps : List ScriptStep) (moment : ℕ) (had : List (Item ServerNote)) (p : Progress)
    (reason : Why) (word : EndKind)
    → is_orderly c steps ≡ true
    → Course c None (at_start moment (Some (untold (story c steps)))) had p
    → (p.kept ≡ None → pauses_had had ≡ steps_on c steps) → (reason ≢ Own → p.kept ≡ None)
    → IsClosing reason p.kept word → word ≢ end.NoMemory → word ≢ end.Refused
    → record_lines c (flat_map records_in had) ++ closing_line c word ≡ grouped_lines c steps

-- How a connection that read on to its end stands: it found the end of its input; or it did not end
-- itself, and as many of its turns found nothing as there are steps of it.
abbrev pub ReadToEnd : Option EndKind → ℕ → ℕ → Type 0
ReadToEnd None pauses steps = pauses ≡ steps
ReadToEnd (Some end.End) pauses steps = Unit {0}
ReadToEnd (Some (end.Partial n)) pauses steps = Unit {0}
ReadToEnd (Some _) pauses steps = ⊥

-- A connection that had these turns over the story that a script has of it, and so read on to its
-- end, took all its bytes.
abbrev pub ConnectionsTakeAll : Type 0
ConnectionsTakeAll =
    (c : ℕ) (idle : Option ℕ) (steps : List ScriptStep) (moment : ℕ) (had : List (Item ServerNote))
    (p : Progress)
    → is_orderly c steps ≡ true → Course c idle (at_start moment (Some (untold (story c steps))))
    had p
    → ReadToEnd p.kept (pauses_had had) (steps_on c steps) → p.taken ≡ bytes_of c steps

-- nothing of the listener's story was told
abbrev pub unoffered : List Offer → Offering
unoffered offers = record { given = []; left = offers }

-- how many steps are of the listener
abbrev pub is_listening : ScriptStep → Bool
is_listening (Opens conn) = true
is_listening ListenerFails = true
is_listening _ = false

abbrev pub steps_on_listener : List ScriptStep → ℕ
steps_on_listener [] = 0
steps_on_listener (step ∷ steps) = (if is_listening step then 1 else 0) + steps_on_listener steps

-- An acceptor had these turns over the story that a script has of its listener, and as many of them
-- found no connection as there are steps of the listener. Then it took all connections.
abbrev pub ListenersTakeAll : Type 0
ListenersTakeAll =
    (steps : List ScriptStep) (had : List (Item ServerNote)) (p : accepting.Progress)
    → opened steps < accepting.most_connections
    → accepting.Course (accepting.at_start (Some (unoffered (offers steps)))) had p
    → pauses_had had ≡ steps_on_listener steps
    → p.taken ≡ opened steps
