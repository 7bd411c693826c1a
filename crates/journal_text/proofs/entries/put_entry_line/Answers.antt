use Rattle.std.proofs.Common.{append_assoc}
use Rattle.journal_text.specs.Texts.{entry_line}
use Rattle.journal_text.proofs.entries.put_entry_line.Goals as goal

pub returns : goal.returns
unfolding entry_line
returns g c = λ since text h.
    let all = c.put.ensures since _ (c.put_entry.ensures since text h) in
    simp append_assoc at all
