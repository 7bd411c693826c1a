use Rattle.std.proofs.Common.{◌≡◌, ◌++◌, sym, subst, true}
use Rattle.reactor_model.specs.reactor_journal.specs.Past.{past_of, is_open}
use Rattle.reactor_model.specs.reactor_journal.specs.Follow.{is_legal}
use Rattle.reactor_model.specs.reactor_journal.proofs.Turning.{past_of-append}
use Rattle.reactor_core.specs.Upcalls.{DoneFits}
use Rattle.reactor_core.proofs.Still.{fits_still}
use Rattle.reactor_core.proofs.laws.settled_later.Goals as goal

pub returns : goal.returns
returns g c t journal more done legal d still =
    let turned : past_of (journal ++ more) ≡ past_of more ++ past_of journal =
    past_of-append journal more in
    subst (λ p. DoneFits g.H.EventHandler.means t p done) (sym turned)
    (fits_still g.H.EventHandler.means t (past_of more) (past_of journal) done
    (subst (λ p. is_legal t.most p ≡ true) turned legal) d
    (subst (λ p. is_open p done.event ≡ true) turned still))
