use Rattle.std.proofs.Common.{◌≡◌, ℕ, length, Some, refl, sym, subst, ◌∙◌}
use Rattle.reactor_core.specs.Ends.{WhereTold}
use Rattle.reactor_core.proofs.Begun.{begun}
use Rattle.reactor_core.proofs.reactor.Core.new.Goals as goal

pub returns-clause-ok : goal.returns-clause-ok
returns-clause-ok g c t b =
    begun _ t _ (record {
      few = c.requires.greatest;
      first = refl;
      journal = c.in-Ok.ensures.entries ∙ c.new-journal.ensures;
      spare = c.in-Ok.ensures.room;
      state = c.new.ensures.shows;
      places = c.new.ensures.places;
      repo = c.new-2.ensures.entries;
      marks = refl;
    })
    b.terms b.fresh b.steady b.keeps b.seen
    (subst (WhereTold (λ entries. (n : ℕ) → t.volumes_taken ≡ Some n → length entries ≡ n))
    (sym c.begin.ensures.taken) b.taken) c.begin.ensures.next
