use Rattle.std.proofs.Common.{ap, inr, subst, sym, ℕ, List, ◌∙◌}
use Rattle.cdr_record.specs.Borrowed.{owned}
use Rattle.cdr_record.specs.declared.record.RecordRef.{RecordRef}
use Rattle.cdr_record.specs.declared.record.LogRecord.{LogRecord}
use Rattle.log_lines.specs.Texts.{record_line}
use Rattle.cmd_pool.specs.Lines.{Stands, StandsIn, item_of, line_of}
use Rattle.cmd_pool.specs.declared.line.Line.{Line}
use Rattle.cmd_pool.proofs.Lines.{line_stands, lines_and_maybe, lines_grown_twice, stands_grown}
use Rattle.cmd_pool.proofs.ItemLines.{adds_or_keeps, item_is, items_grown, items_grown_twice}
use Rattle.cmd_pool.proofs.line.Lines.add.Goals as goal

pub returns-in_err-line : goal.returns-in_err-line
returns-in_err-line c = inr (items_grown c.args.self.now.lines.items c.args.self.now.text.items
    c.append.new.text.items c.append.ensures.grows c.args.self.now.made)

pub invariant_of-self-in-Break-branch-2 : goal.invariant_of-self-in-Break-branch-2
invariant_of-self-in-Break-branch-2 c = record {
  made = lines_grown_twice c.args.self.now.lines.items c.args.self.now.text.items
      c.append.new.text.items c.keep_message.new.text.items c.args.self.now.made
      c.append.ensures.grows c.keep_message.ensures.grows;
}

pub returns-in_err-message : goal.returns-in_err-message
returns-in_err-message c = inr (items_grown_twice c.args.self.now.lines.items
    c.args.self.now.text.items c.append.new.text.items c.keep_message.new.text.items
    c.args.self.now.made c.append.ensures.grows c.keep_message.ensures.grows)

pub returns : goal.returns
returns c =
    let more : List ℕ = c.keep_message.new.text.items in
    let entry : RecordRef = c.borrowed-entry.result in
    let same = items_grown_twice c.args.self.now.lines.items c.args.self.now.text.items
    c.append.new.text.items more c.args.self.now.made c.append.ensures.grows
    c.keep_message.ensures.grows in
    let is = ap (item_of more) c.of.ensures ∙ item_is c.args.item.now entry c.in_ok-line.line
    c.in_ok-message.message more c.in_ok-message.ensures.stands.is c.borrowed-entry.ensures in
    adds_or_keeps c.args.self.now.lines.items c.add_line.new.lines.items c.of.result
    c.args.self.now.text.items more c.args.item.now same is c.add_line.ensures

pub invariant_of-self-2 : goal.invariant_of-self-2
invariant_of-self-2 c =
    let lines : List Line = c.args.self.now.lines.items in
    let old : List ℕ = c.args.self.now.text.items in
    let text : List ℕ = c.append.new.text.items in
    let more : List ℕ = c.keep_message.new.text.items in
    let grown = lines_grown_twice lines old text more c.args.self.now.made c.append.ensures.grows
    c.keep_message.ensures.grows in
    let entry : RecordRef = c.borrowed-entry.result in
    let whole = subst (λ (t : List ℕ). Stands c.in_ok-line.line t more) c.requires
    (stands_grown c.in_ok-line.line _ text more c.keep_message.ensures.grows
    c.in_ok-line.ensures.stands) in
    let line = subst (λ (r : LogRecord). Stands c.in_ok-line.line
    (record_line c.args.item.now.conn r) more) (sym c.borrowed-entry.ensures) whole in
    let one = subst (λ (l : Line). StandsIn more l) (sym c.of.ensures)
    (line_stands (line_of c.args.item.now entry c.in_ok-line.line c.in_ok-message.message)
    (owned entry).text more c.in_ok-message.ensures.stands line) in record {
      made = lines_and_maybe lines _ c.of.result more grown one c.add_line.ensures;
    }
