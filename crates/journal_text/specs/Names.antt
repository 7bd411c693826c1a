-- The names of the kinds of entries and of the priorities of records.
use Rattle.std.specs.Prelude.{ℕ, ◌==◌, if◌then◌else◌, List, [], ◌∷◌, codes}
use Rattle.journal_text.specs.Rows.{Named}
use Rattle.reactor_model.specs.reactor_journal.specs.declared.entry.Entry.{Entry}
use Rattle.reactor_model.specs.reactor_journal.specs.declared.entry.Entry.TheVariants as entry
use Rattle.log_handler.specs.declared.note.ServerNote.{ServerNote}

-- the first word of a line
abbrev pub first_word : List ℕ → List ℕ
first_word [] = []
first_word (byte ∷ bytes) = if byte == 32 then [] else byte ∷ first_word bytes

-- the number of an entry's kind
abbrev pub kind_number : Entry ServerNote → ℕ
kind_number (entry.Opened handle mask) = 0
kind_number (entry.Scheduled timer handle first every) = 1
kind_number (entry.Cancelled timer) = 2
kind_number (entry.Polled now) = 3
kind_number (entry.Due timer) = 4
kind_number (entry.Ready handle kind) = 5
kind_number (entry.Posted handle kind from seq) = 6
kind_number (entry.Stale handle from seq) = 7
kind_number (entry.Started event) = 8
kind_number (entry.Returned event answer said) = 9
kind_number (entry.Masked handle mask) = 10
kind_number (entry.Suspended handle) = 11
kind_number (entry.Resumed handle) = 12
kind_number (entry.Refused live fault said) = 13
kind_number (entry.Removed handle) = 14
kind_number (entry.Closed handle said) = 15
kind_number entry.Ended = 16

-- the kinds by their numbers
abbrev pub kind_names : List Named
kind_names =
    (0, codes "opened") ∷
    (1, codes "scheduled") ∷
    (2, codes "cancelled") ∷
    (3, codes "polled") ∷
    (4, codes "due") ∷
    (5, codes "ready") ∷
    (6, codes "posted") ∷
    (7, codes "stale") ∷
    (8, codes "started") ∷
    (9, codes "returned") ∷
    (10, codes "masked") ∷
    (11, codes "suspended") ∷
    (12, codes "resumed") ∷
    (13, codes "refused") ∷
    (14, codes "removed") ∷
    (15, codes "closed") ∷
    (16, codes "ended") ∷ []

-- the priorities by the types that stand for them (ACE's `ACE_Log_Priority`)
abbrev pub priority_names : List Named
priority_names =
    (1, codes "LM_SHUTDOWN") ∷
    (2, codes "LM_TRACE") ∷
    (4, codes "LM_DEBUG") ∷
    (8, codes "LM_INFO") ∷
    (16, codes "LM_NOTICE") ∷
    (32, codes "LM_WARNING") ∷
    (64, codes "LM_STARTUP") ∷
    (128, codes "LM_ERROR") ∷
    (256, codes "LM_CRITICAL") ∷
    (512, codes "LM_ALERT") ∷
    (1024, codes "LM_EMERGENCY") ∷ []
