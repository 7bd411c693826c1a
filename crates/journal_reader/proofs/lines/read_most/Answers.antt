use Rattle.std.proofs.Common.{◌≡◌, ◌∙◌, None, Some, rules, sym, subst}
use Rattle.journal_reader.specs.Reading.{most_of}
use Rattle.journal_reader.specs.FirstLines.{IsFirstLine, ReadsMost}
use Rattle.journal_reader.proofs.FirstLines.{no_most, no_most_line, a_most_line}
use Rattle.journal_reader.proofs.lines.read_most.Goals as goal

pub returns-in_err-line : goal.returns-in_err-line
returns-in_err-line c =
    let none : c.from_residual.result ≡ None = search rules in
    let first : IsFirstLine c.args.text.now None =
    subst (IsFirstLine c.args.text.now) c.in_err-line.was c.next_line.ensures in
    subst (ReadsMost c.args.text.now) (sym none) (no_most c.args.text.now first)

pub returns-in_err-most : goal.returns-in_err-most
returns-in_err-most c =
    let none : c.from_residual-in_err-most.result ≡ None = search rules in
    let first = c.in_ok-line.ensures in
    let read : most_of c.in_ok-line.line.now ≡ None =
    sym c.most_of_line.ensures ∙ c.in_err-most.was in
    subst (ReadsMost c.args.text.now) (sym none)
    (no_most_line c.args.text.now c.in_ok-line.line.now first.0 read)

pub returns : goal.returns
returns c =
    let first = c.in_ok-line.ensures in
    let read : most_of c.in_ok-line.line.now ≡ Some c.in_ok-most.most =
    sym c.most_of_line.ensures ∙ c.in_ok-most.was in
    a_most_line c.args.text.now c.in_ok-line.line.now c.in_ok-line.rest.now c.in_ok-most.most
    first.1 read
