use Rattle.std.proofs.Common.{◌∙◌, ◌∷◌, ap, arith}
use Rattle.ace7_input.specs.declared.place.Place.{Place}
use Rattle.ace7_input.specs.Places.{behind}
use Rattle.ace7_input.proofs.Passing.{one_passes}
use Rattle.ace7_input.proofs.place.Place.take.Goals as goal

pub returns-in-Payload : goal.returns-in-Payload
returns-in-Payload c t =
    ap (λ (p : Place). behind p (c.args.byte ∷ t)) c.in-Payload.is
    ∙ one_passes c.in-Payload.left c.args.byte t (omega arith)
