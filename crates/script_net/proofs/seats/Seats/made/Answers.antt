use Rattle.std.proofs.Common.{◌≤◌, length, subst}
use Rattle.script_net.specs.Seating.{SeatsContent}
use Rattle.script_net.proofs.SeatingLemmas.{seats_few}
use Rattle.script_net.proofs.seats.Seats.made.Goals as goal

pub returns-clause-few : goal.returns-clause-few
returns-clause-few c = subst (λ (s : SeatsContent). length s.seats ≤ s.made) c.self.view_is
    (seats_few c.self.inside.places.items (length c.self.inside.places.items))
