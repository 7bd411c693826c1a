use Rattle.std.proofs.Common.{◌≡◌, ◌<◌, length, get_or, arith}
use Rattle.std.proofs.lemmas.Bool.Decides.{nat_tests}
use Rattle.journal_reader.proofs.Numbers.{no_digits, leading_zero, read_is}
use Rattle.journal_reader.proofs.values.read_number.Goals as goal
use Rattle.journal_reader.proofs.values.read_number.Goals.{
  else-word-eq48-via-then-word-eq48+else-word-gt1,
}
use Rattle.journal_reader.proofs.values.read_number.Goals.{else-word-eq48-via-else-word-eq48}

pub returns-then-is_empty : goal.returns-then-is_empty
returns-then-is_empty c = no_digits c.args.word.now (grind (arith, nat_tests))

pub returns-then-word-gt1 : goal.returns-then-word-gt1
returns-then-word-gt1 c = leading_zero c.args.word.now c.if-word-eq48.true (omega arith)

pub returns : goal.returns
returns c =
    let some : 0 < length c.args.word.now = grind (arith, nat_tests) in
    let one : get_or c.args.word.now 0 0 ≡ 48 → length c.args.word.now ≡ 1 = λ first.
    elim c.else-word-eq48.branch [
      | else-word-eq48-via-then-word-eq48+else-word-gt1 w ↦ omega arith
      | else-word-eq48-via-else-word-eq48 w ↦ absurd (w.if-word-eq48.false first)
    ] in
    read_is c.args.word.now c.read_digits.result some one c.read_digits.ensures.small
    c.read_digits.ensures.digits c.read_digits.ensures.beyond
