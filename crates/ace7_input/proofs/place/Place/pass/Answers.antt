use Rattle.std.proofs.Common.{◌≤◌, ◌∙◌, ◌++◌, ◌-◌, length, ap, arith}
use Rattle.ace7_input.specs.declared.place.Place.{Place}
use Rattle.ace7_input.specs.Wide.{wide_behind}
use Rattle.ace7_input.specs.Places.{behind}
use Rattle.ace7_input.proofs.Passing.{wide_pass}
use Rattle.ace7_input.proofs.place.Place.pass.Goals as goal

pub returns-in-Payload-clause-passes : goal.returns-in-Payload-clause-passes
returns-in-Payload-clause-passes c piece long t =
    let within : length piece ≤ c.in-Payload.left = omega arith in
    ap (λ (p : Place). behind p (piece ++ t)) c.in-Payload.is
    ∙ wide_pass c.in-Payload.left piece t within
    ∙ ap (λ n. piece ++ wide_behind (c.in-Payload.left - n) t) long
