use Rattle.std.proofs.Common.{◌≡◌, ◌∙◌, ◌<◌, ◌^◌, rules, arith, sym, ap, decimal}
use Rattle.std.proofs.lemmas.Fmt.{parse-decimal}
use Rattle.cmd_line.proofs.Spelled.{spelled, unspelled}
use Rattle.cmd_line.proofs.number.number_in.Goals as goal
use Rattle.cmd_line.proofs.number.number_in.Goals.{
  else-eq-via-then-eq+then-least-number+else-number-most,
}
use Rattle.cmd_line.proofs.number.number_in.Goals.{else-eq-via-then-eq+else-least-number}
use Rattle.cmd_line.proofs.number.number_in.Goals.{else-eq-via-else-eq}

pub returns-in_default-clause-value : goal.returns-in_default-clause-value
returns-in_default-clause-value c =
    unspelled c.args.least c.args.most c.args.word.now
    (λ n is above below.
    let small : n < 2 ^ 64 = omega arith in
    absurd (cc (parse-decimal 64 n c.args.word.now c.parse.result small small is
    c.parse.ensures.value.0)))

pub returns-then-number-most-clause-value : goal.returns-then-number-most-clause-value
returns-then-number-most-clause-value c =
    let small : c.in-Ok.number < 2 ^ 64 = omega arith in
    let text : c.args.word.now ≡ decimal c.in-Ok.number = search rules in
    spelled c.args.least c.args.most c.in-Ok.number c.args.word.now text small (omega arith)
    (omega arith)

pub returns-else-eq-clause-value : goal.returns-else-eq-clause-value
returns-else-eq-clause-value c =
    unspelled c.args.least c.args.most c.args.word.now
    (λ n is above below.
    let small : n < 2 ^ 64 = omega arith in
    let parsed = parse-decimal 64 n c.args.word.now c.parse.result small small is
    c.parse.ensures.value.0 in
    let same : n ≡ c.in-Ok.number = cc parsed in
    let text : c.format.result.now ≡ c.args.word.now =
    c.format.ensures.text ∙ ap decimal (sym same) ∙ sym is in
    elim c.else-eq.branch [
      | else-eq-via-then-eq+then-least-number+else-number-most w ↦ omega arith
      | else-eq-via-then-eq+else-least-number w ↦ omega arith
      | else-eq-via-else-eq w ↦ search rules
    ])
