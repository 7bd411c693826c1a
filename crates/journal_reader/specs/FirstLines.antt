-- What the first line of a text is, and what it says.
use Rattle.std.specs.Prelude.{◌≡◌, ℕ, List, ◌++◌, codes, Option, Some, None}
use Rattle.std.specs.Borrow.{Bor}
use Rattle.reactor_model.specs.reactor_journal.specs.declared.entry.Entry.{Entry}
use Rattle.log_handler.specs.declared.note.ServerNote.{ServerNote}
use Rattle.journal_text.specs.Texts.{most_line, entry_line}
use Rattle.journal_reader.specs.Limits.{IsMost, EntryIsWithin}
use Rattle.journal_reader.specs.Journals.{first_line, BeginsWithNoMost, BeginsWithNoEntry}

-- a first line without its line feed, with the text after it; or there is no line feed
abbrev pub IsFirstLine : List ℕ → Option (Bor (List ℕ) × Bor (List ℕ)) → Type 0
IsFirstLine text None = (line : List ℕ) → first_line text ≡ line ++ codes "\n" → ⊥
IsFirstLine text (Some r) = (first_line text ≡ r.0.now ++ codes "\n")
    × (text ≡ (r.0.now ++ codes "\n") ++ r.1.now)

-- the first line says how many handlers may be live at once
abbrev pub ReadsMost : List ℕ → Option (ℕ × Bor (List ℕ)) → Type 0
ReadsMost text None = BeginsWithNoMost text
ReadsMost text (Some r) = (text ≡ most_line r.0 ++ r.1.now) × IsMost r.0

-- the first line is that of an entry
abbrev pub ReadsEntry : List ℕ → Option (Entry ServerNote × Bor (List ℕ)) → Type 0
ReadsEntry text None = BeginsWithNoEntry text
ReadsEntry text (Some r) = (text ≡ entry_line r.0 ++ r.1.now) × EntryIsWithin r.0
