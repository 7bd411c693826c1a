use Rattle.std.proofs.Common.{◌≡◌, ◌∙◌, rules, append_assoc, w32, w64, SFits}
use Rattle.std.proofs.lemmas.Int.{to_z-of_z}
use Rattle.log_lines.specs.Texts.{record_text}
use Rattle.log_lines.proofs.lines.put_borrowed_text.Goals as goal

pub returns : goal.returns
unfolding record_text
returns g c = λ faults text h.
    let sec : SFits w64 c.args.entry.sec = search rules in
    let usec : SFits w32 c.args.entry.usec = search rules in
    let pid : SFits w32 c.args.entry.pid = search rules in
    let kind : SFits w32 c.args.entry.kind = search rules in
    let usec_wide : SFits w64 c.from.result = search rules in
    let pid_wide : SFits w64 c.from-2.result = search rules in
    let front = c.put-2.ensures faults _
    (c.put_signed-2.ensures faults _ (c.put.ensures faults _
    (c.put_signed.ensures faults text h))) in
    let middle = c.put-4.ensures faults _
    (c.put_type.ensures faults _ (c.put-3.ensures faults _
    (c.put_signed-3.ensures faults _ front))) in
    let all = simp (to_z-of_z, append_assoc) at (c.put_message.ensures faults _ middle) in
    let is_usec : c.from.result ≡ c.args.entry.usec =
    c.from.ensures ∙ to_z-of_z w32 c.args.entry.usec usec in
    let is_pid : c.from-2.result ≡ c.args.entry.pid =
    c.from-2.ensures ∙ to_z-of_z w32 c.args.entry.pid pid in
    simp append_assoc (rw (is_usec, is_pid) at all)
