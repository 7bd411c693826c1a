use Rattle.std.proofs.Common.{sym, subst}
use Rattle.ace7_input.specs.declared.place.Place.{Place}
use Rattle.ace7_input.specs.Places.{EndsAt}
use Rattle.ace7_input.proofs.Telling.{starts}
use Rattle.ace7_input.proofs.end.Ace7End.new.Goals as goal

pub invariant_of-result : goal.invariant_of-result
invariant_of-result g c = record {
  placed = subst (λ (p : Place). EndsAt (g.E.PeerEnd.tells c.args.inner).bytes p)
      (sym c.start.ensures) (starts (g.E.PeerEnd.tells c.args.inner).bytes c.requires.bytes);
}
