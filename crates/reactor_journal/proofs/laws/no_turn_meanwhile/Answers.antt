use Rattle.std.proofs.Common.{◌≡◌, ◌++◌, true, subst, ap, ◌∙◌}
use Rattle.reactor_journal.specs.Past.{past_of, is_open, had}
use Rattle.reactor_journal.specs.Follow.{is_legal}
use Rattle.reactor_journal.proofs.Turning.{past_of-append}
use Rattle.reactor_journal.proofs.HadLaw.{same_had}
use Rattle.reactor_journal.proofs.laws.no_turn_meanwhile.Goals as goal

pub returns : goal.returns
returns g c journal more most i x legal o b still =
    let turned : past_of (journal ++ more) ≡ past_of more ++ past_of journal =
    past_of-append journal more in
    ap (λ p. had p x) turned ∙ same_had most (past_of more) (past_of journal) i x
    (subst (λ p. is_legal most p ≡ true) turned legal) o b
    (subst (λ p. is_open p i ≡ true) turned still)
