-- What a run over a script writes into its journal is within the limits of a journal's text.
use Rattle.std.specs.Prelude.{◌≡◌, ◌≤◌, ◌^◌, ℕ, false, List, length, Option, Some}
use Rattle.std.specs.List.{AllByRecursion, list_any}
use Rattle.hex.specs.Hex.{IsBytes}
use Rattle.laws_script_taken.specs.ev_base.specs.Terms.{Terms}
use Rattle.laws_script_taken.specs.reactor_journal.specs.declared.entry.Entry.{Entry}
use Rattle.laws_script_taken.specs.reactor_model.specs.Handling.{Handling}
use Rattle.laws_script_taken.specs.cdr_record.specs.Decoding.{decode}
use Rattle.laws_script_taken.specs.log_handler.specs.declared.note.ServerNote.{ServerNote}
use Rattle.laws_script_taken.specs.event_script.specs.Script.{ScriptGroup}
use Rattle.laws_script_taken.specs.event_script.specs.Script.{steps_of}
use Rattle.laws_script_taken.specs.event_script.specs.Script.{opened}
use Rattle.laws_script_taken.specs.event_script.specs.Script.{groups_told}
use Rattle.laws_script_taken.specs.event_script.specs.Stories.{bytes_of}
use Rattle.laws_script_taken.specs.event_script.specs.Grammar.{last_moment}
use Rattle.laws_script_taken.specs.event_script.specs.Grammar.{IsScriptText}
use Rattle.laws_script_taken.specs.laws_script_told.specs.Told.{Follows}
use Rattle.laws_script_taken.specs.reactor_model.specs.Entries.{is_notice}
use Rattle.laws_script_taken.specs.Laws.{RunsSomehow}
use Rattle.journal_reader.specs.journal_text.specs.Texts.{journal_text}
use Rattle.journal_reader.specs.Journals.{IsJournalText}
use Rattle.journal_reader.specs.Limits.{RecordIsWithin, IsMost, IsNumber}

abbrev pub RecordsAreWithin : Type 0
RecordsAreWithin = (t : List ℕ) → IsBytes t → AllByRecursion RecordIsWithin (decode t).records

-- a script names no later moment than the last, and what it brings its connections are bytes, of
-- which and of the connections there are no more than 64 bits count
pub record ScriptIsWithin (groups : List ScriptGroup) : Type 0 where
  pub moments : AllByRecursion (λ g. g.moment ≤ last_moment) groups
  pub connections : IsNumber (opened (steps_of groups))
  pub bytes : (c : ℕ) → IsBytes (bytes_of c (steps_of groups))
  pub lengths : (c : ℕ) → IsNumber (length (bytes_of c (steps_of groups)))

-- So is each script whose text has at most 2^40 bytes.
abbrev pub ScriptsAreWithin : Type 0
ScriptsAreWithin =
    (text : List ℕ) (groups : List ScriptGroup) → IsScriptText text groups → length text ≤ 2 ^ 40
    → ScriptIsWithin groups

-- However a run over such a script ended, without notices, with fewer than 2^64 entries and as many
-- handlers as the text may name: the text of its journal is one that a reader takes.
abbrev pub JournalsAreWithin : {H E : Type 0} → Handling H E ServerNote → Type 0
JournalsAreWithin means =
    (t : Terms) (idle : Option ℕ) (groups : List ScriptGroup) (journal : List (Entry ServerNote))
    → RunsSomehow means t idle groups journal → Follows (groups_told groups) journal
    → list_any is_notice journal ≡ false → t.idle ≡ Some idle
    → ((time : ℕ) → idle ≡ Some time → time ≤ last_moment) → ScriptIsWithin groups
    → IsMost t.most → IsNumber (length journal)
    → IsJournalText (journal_text t.most journal) t.most journal
