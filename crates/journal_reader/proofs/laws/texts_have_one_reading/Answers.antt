use Rattle.journal_reader.proofs.OneReading.{same_journal, no_bad_line, same_bad_line}
use Rattle.journal_reader.proofs.laws.texts_have_one_reading.Goals as goal

pub returns : goal.returns
returns c = record { journals = same_journal; good = no_bad_line; bad = same_bad_line }
