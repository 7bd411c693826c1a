-- Which texts are those of journals, and which line of any other text is the first bad one.
use Rattle.std.specs.Prelude.{◌≡◌, ◌<◌, ◌+◌, ◌==◌, ◌⊎◌, ℕ, if◌then◌else◌, List, [], ◌∷◌, ◌++◌}
use Rattle.std.specs.Prelude.{length}
use Rattle.std.specs.List.{AllByRecursion}
use Rattle.reactor_model.specs.reactor_journal.specs.declared.entry.Entry.{Entry}
use Rattle.log_handler.specs.declared.note.ServerNote.{ServerNote}
use Rattle.journal_reader.specs.declared.refusal.JournalRefused.{JournalRefused}
use Rattle.journal_reader.specs.declared.refusal.JournalRefused.TheVariants.{BadLine, NoMemory}
use Rattle.journal_text.specs.Texts.{most_line, entry_line, journal_text}
use Rattle.journal_reader.specs.Limits.{IsMost, EntryIsWithin}

-- a journal's text, with all that it spells within the limits
pub record IsJournalText (text : List ℕ) (most : ℕ) (entries : List (Entry ServerNote)) : Type 0
  where
    pub spelt : text ≡ journal_text most entries
    pub most_within : IsMost most
    pub within : AllByRecursion EntryIsWithin entries

-- the first line of a text with its line feed, or all of a text that has none
abbrev pub first_line : List ℕ → List ℕ
first_line [] = []
first_line (byte ∷ bytes) = byte ∷ (if byte == 10 then [] else first_line bytes)

-- the first line is no line `most N`
abbrev pub BeginsWithNoMost : List ℕ → Type 0
BeginsWithNoMost text = (most : ℕ) → IsMost most → first_line text ≡ most_line most → ⊥

-- the first line is none of an entry
abbrev pub BeginsWithNoEntry : List ℕ → Type 0
BeginsWithNoEntry text = (e : Entry ServerNote) → EntryIsWithin e → first_line text ≡ entry_line e
    → ⊥

-- A journal's text stands first, so each of its lines is good; more stands after it, and the first
-- line there, which has this number, is none of an entry.
pub record BreaksOffAt (text : List ℕ) (number : ℕ) : Type 0 where
  pub front : List ℕ
  pub rest : List ℕ
  pub is : text ≡ front ++ rest
  pub most : ℕ
  pub entries : List (Entry ServerNote)
  pub good : IsJournalText front most entries
  pub more : 0 < length rest
  pub bad : BeginsWithNoEntry rest
  pub counts : number ≡ length entries + 2

-- the first bad line has this number, from 1; an empty text is bad at its first line
abbrev pub IsBadAt : List ℕ → ℕ → Type 0
IsBadAt text number = (BeginsWithNoMost text × (number ≡ 1)) ⊎ BreaksOffAt text number

-- a line is named only if it is the first bad one
abbrev pub RefusesRightly : List ℕ → JournalRefused → Type 0
RefusesRightly text (BadLine line) = IsBadAt text line
RefusesRightly text NoMemory = Unit {0}
