use Rattle.std.proofs.Common.{◌∙◌, sym, arith}
use Rattle.script_text.proofs.Numbers.{next_digit}
use Rattle.script_text.proofs.words.digits.Goals as goal

pub returns-in_err-checked_mul-clause-beyond : goal.returns-in_err-checked_mul-clause-beyond
returns-in_err-checked_mul-clause-beyond c =
    λ none n spelt. let more = next_digit c.args.word.now c.loop-byte.byte-index c.loop-byte.number
    n (omega arith) (sym c.loop-byte.invariant ∙ spelt) in
    omega (arith, c.in_err-checked_mul.ensures)

pub returns-in_err-number-clause-beyond : goal.returns-in_err-number-clause-beyond
returns-in_err-number-clause-beyond c =
    λ none n spelt. let more = next_digit c.args.word.now c.loop-byte.byte-index c.loop-byte.number
    n (omega arith) (sym c.loop-byte.invariant ∙ spelt) in
    omega (arith, c.in_err-number.ensures, c.in_ok-checked_mul.ensures, c.from.ensures)
