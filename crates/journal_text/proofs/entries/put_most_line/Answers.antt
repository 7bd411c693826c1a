use Rattle.std.proofs.Common.{append_assoc}
use Rattle.journal_text.specs.Texts.{most_line}
use Rattle.journal_text.proofs.entries.put_most_line.Goals as goal

pub returns : goal.returns
unfolding most_line
returns g c = λ since text h.
    let all = c.put.ensures since _ (c.put_counted.ensures since text h) in
    simp append_assoc (simp append_assoc at all)
