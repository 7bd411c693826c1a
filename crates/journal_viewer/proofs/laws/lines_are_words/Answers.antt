use Rattle.journal_viewer.proofs.WordBytes.{lines_are_words}
use Rattle.journal_viewer.proofs.laws.lines_are_words.Goals as goal

pub returns : goal.returns
returns c = lines_are_words
