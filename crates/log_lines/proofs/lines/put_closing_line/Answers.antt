use Rattle.std.proofs.Common.{append_assoc}
use Rattle.log_lines.specs.Texts.{closing_line}
use Rattle.log_lines.proofs.lines.put_closing_line.Goals as goal

pub returns : goal.returns
unfolding closing_line
returns g c = λ faults text h.
    let all = c.put-2.ensures faults _
    (c.put_end_word.ensures faults _ (c.put.ensures faults _
    (c.put_unsigned.ensures faults text h))) in
    simp append_assoc (simp append_assoc at all)
