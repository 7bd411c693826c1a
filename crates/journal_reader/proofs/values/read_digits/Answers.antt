use Rattle.std.proofs.Common.{◌≡◌, ◌≤◌, ◌+◌, ◌*◌, ◌-◌, get_or, add-one, rules, arith}
use Rattle.journal_reader.proofs.Numbers.{begins, goes_on, no_digit, beyond, all_read}
use Rattle.journal_reader.proofs.values.read_digits.Goals as goal

pub loop-byte-init : goal.loop-byte-init
loop-byte-init c = (begins c.args.word.now, omega arith)

pub loop-byte-preserved : goal.loop-byte-preserved
loop-byte-preserved c =
    let at = c.loop-byte.byte-index in
    let digit : (48 ≤ get_or c.args.word.now at 0) × (get_or c.args.word.now at 0 ≤ 57) =
    search rules in
    let next = goes_on c.args.word.now at c.loop-byte.number (omega arith) c.loop-byte.invariant.0
    digit.0 digit.1 in
    let is : c.in_ok-number.number ≡ c.loop-byte.number * 10 + (get_or c.args.word.now at 0 - 48) =
    search rules in
    (rw (is, add-one) next, omega (arith, c.in_ok-number.ensures))

pub returns-then-not-is_ascii_digit-clause-beyond
    : goal.returns-then-not-is_ascii_digit-clause-beyond
returns-then-not-is_ascii_digit-clause-beyond c = λ none all.
    let digit = no_digit c.args.word.now c.loop-byte.byte-index c.loop-byte.number (omega arith)
    c.loop-byte.invariant.0 all in
    let not : (48 ≤ get_or c.args.word.now c.loop-byte.byte-index 0)
    → get_or c.args.word.now c.loop-byte.byte-index 0 ≤ 57 → ⊥ = search rules in
    absurd (not digit.0 digit.1)

pub returns-in_err-checked_mul-clause-beyond : goal.returns-in_err-checked_mul-clause-beyond
returns-in_err-checked_mul-clause-beyond c = λ none all.
    let digit = no_digit c.args.word.now c.loop-byte.byte-index c.loop-byte.number (omega arith)
    c.loop-byte.invariant.0 all in
    let more = beyond c.args.word.now c.loop-byte.byte-index c.loop-byte.number (omega arith)
    c.loop-byte.invariant.0 digit.0 digit.1 in
    omega (arith, c.in_err-checked_mul.ensures)

pub returns-in_err-number-clause-beyond : goal.returns-in_err-number-clause-beyond
returns-in_err-number-clause-beyond c = λ none all.
    let digit = no_digit c.args.word.now c.loop-byte.byte-index c.loop-byte.number (omega arith)
    c.loop-byte.invariant.0 all in
    let more = beyond c.args.word.now c.loop-byte.byte-index c.loop-byte.number (omega arith)
    c.loop-byte.invariant.0 digit.0 digit.1 in
    omega (arith, c.in_err-number.ensures, c.in_ok-checked_mul.ensures, c.from.ensures)

pub returns-clause-digits : goal.returns-clause-digits
returns-clause-digits c = all_read c.args.word.now c.loop-byte.byte-index c.loop-byte.number
    (omega arith) c.loop-byte.invariant.0

pub returns-clause-small : goal.returns-clause-small
returns-clause-small c = c.loop-byte.invariant.1
