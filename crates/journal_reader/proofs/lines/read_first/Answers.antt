use Rattle.std.proofs.Common.{◌≡◌, ◌∙◌, None, Some, sym, subst}
use Rattle.journal_reader.specs.Reading.{entry_of}
use Rattle.journal_reader.specs.FirstLines.{IsFirstLine}
use Rattle.journal_reader.proofs.FirstLines.{no_entry, no_entry_line, an_entry_line}
use Rattle.journal_reader.proofs.lines.read_first.Goals as goal

pub returns-in_default : goal.returns-in_default
returns-in_default c =
    let first : IsFirstLine c.args.text.now None =
    subst (IsFirstLine c.args.text.now) c.in_default.is c.next_line.ensures in
    no_entry c.args.text.now first

pub returns-in-Some-2 : goal.returns-in-Some-2
returns-in-Some-2 c =
    let first = c.in-Some.ensures in
    let read : entry_of c.in-Some.line.now ≡ Some c.in-Some-2.entry =
    sym c.in_ok-entry.ensures ∙ c.in-Some-2.is in
    an_entry_line c.args.text.now c.in-Some.line.now c.in-Some.rest.now c.in-Some-2.entry first.1
    read

pub returns-in-None : goal.returns-in-None
returns-in-None c =
    let first = c.in-Some.ensures in
    let read : entry_of c.in-Some.line.now ≡ None = sym c.in_ok-entry.ensures ∙ c.in-None.is in
    no_entry_line c.args.text.now c.in-Some.line.now first.0 read
