use Rattle.reactor_desk.proofs.Left.{left_by_lead}
use Rattle.reactor_desk.proofs.laws.lead_leaves.Goals as goal

pub returns : goal.returns
returns g c q F h most old led new list o gives =
    left_by_lead _ q F h most old led new list o gives
