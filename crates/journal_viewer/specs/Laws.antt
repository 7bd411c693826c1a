-- What holds of the texts in every picture.
use Rattle.std.specs.Prelude.{◌≡◌, ℕ, ◌==◌, nat_le, ◌&&◌, ◌||◌, Bool, true}
use Rattle.std.specs.List.{list_all}
use Rattle.reactor_journal.specs.declared.entry.Entry.{Entry}
use Rattle.log_handler.specs.declared.note.ServerNote.{ServerNote}
use Rattle.journal_reader.specs.journal_text.specs.Texts.{entry_line}
use Rattle.journal_reader.specs.Limits.{EntryIsWithin}

-- a lower-case letter, a digit or a colon, a space, a hyphen, or a line feed
abbrev pub is_word_byte : ℕ → Bool
is_word_byte b = (nat_le 97 b && nat_le b 122)
    || ((nat_le 48 b && nat_le b 58) || (b == 32 || (b == 45 || b == 10)))

-- The line of an entry that was read has such bytes alone, so none of it is taken for a part of the
-- picture's markup.
abbrev pub LinesAreWords : Type 0
LinesAreWords = (e : Entry ServerNote) → EntryIsWithin e
    → list_all is_word_byte (entry_line e) ≡ true
