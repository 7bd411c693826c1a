use Rattle.std.proofs.Common.{append_assoc}
use Rattle.log_lines.specs.Texts.{record_line}
use Rattle.log_lines.proofs.lines.put_borrowed_line.Goals as goal

pub returns : goal.returns
unfolding record_line
returns g c = λ faults text h.
    let all = c.put-2.ensures faults _
    (c.put_borrowed_text.ensures faults _
    (c.put.ensures faults _ (c.put_unsigned.ensures faults text h))) in
    simp append_assoc (simp append_assoc at all)
