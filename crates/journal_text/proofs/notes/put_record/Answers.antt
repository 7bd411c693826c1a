use Rattle.std.proofs.Common.{◌≡◌, ◌∙◌, rules, append_assoc, w32, w64, SFits}
use Rattle.std.proofs.lemmas.Int.{to_z-of_z}
use Rattle.journal_text.specs.Texts.{record_word}
use Rattle.journal_text.proofs.notes.put_record.Goals as goal

pub returns : goal.returns
unfolding record_word
returns g c = λ since text h.
    let kind : SFits w32 c.args.entry.kind = search rules in
    let pid : SFits w32 c.args.entry.pid = search rules in
    let sec : SFits w64 c.args.entry.sec = search rules in
    let usec : SFits w32 c.args.entry.usec = search rules in
    let kind_wide : SFits w64 c.from.result = search rules in
    let pid_wide : SFits w64 c.from-2.result = search rules in
    let usec_wide : SFits w64 c.from-3.result = search rules in
    let front = c.put-2.ensures since _
    (c.put_signed-2.ensures since _ (c.put.ensures since _ (c.put_signed.ensures since text h)))
    in
    let middle = c.put-4.ensures since _
    (c.put_signed-4.ensures since _ (c.put-3.ensures since _
    (c.put_signed-3.ensures since _ front))) in
    let all = simp (to_z-of_z, append_assoc) at (c.put_digits.ensures since _ middle) in
    let is_kind : c.from.result ≡ c.args.entry.kind =
    c.from.ensures ∙ to_z-of_z w32 c.args.entry.kind kind in
    let is_pid : c.from-2.result ≡ c.args.entry.pid =
    c.from-2.ensures ∙ to_z-of_z w32 c.args.entry.pid pid in
    let is_usec : c.from-3.result ≡ c.args.entry.usec =
    c.from-3.ensures ∙ to_z-of_z w32 c.args.entry.usec usec in
    simp append_assoc (rw (is_kind, is_pid, is_usec) at all)
