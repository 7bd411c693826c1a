use Rattle.std.proofs.Common.{append_assoc}
use Rattle.journal_text.specs.Texts.{mask_text}
use Rattle.journal_text.proofs.words.put_mask.Goals as goal

pub returns : goal.returns
unfolding mask_text
returns g c = λ since text h.
    let all = c.put_letter-3.ensures since _
    (c.put_letter-2.ensures since _ (c.put_letter.ensures since text h)) in
    simp append_assoc (simp append_assoc at all)
