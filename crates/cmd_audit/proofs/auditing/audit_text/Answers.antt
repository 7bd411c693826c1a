use Rattle.std.proofs.Common.{subst, sym, ap, ◌∙◌, Err}
use Rattle.journal_reader.specs.Journals.{IsJournalText}
use Rattle.cmd_audit.specs.Audits.{AuditsText}
use Rattle.cmd_audit.proofs.Refused.{audits-refused}
use Rattle.cmd_audit.proofs.auditing.audit_text.Goals as goal

pub returns : goal.returns
returns g c =
    let o = g.K.Sink.facts c.args.output in
    let spells = subst (λ journal. IsJournalText c.args.text.items c.in-Ok.read.0 journal)
    (sym c.as_slice-entries.ensures)
    (subst (λ text. IsJournalText text c.in-Ok.read.0 c.in-Ok.read.1.entries) c.deref.ensures.value
    c.in-Ok.ensures.journal) in
    subst (λ end. AuditsText c.args.text.items o o end) (sym c.end_of.ensures)
    (audits-refused c.args.text.items c.in-Ok.read.0 c.as_slice-entries.result.now o
    c.in-Err.refused spells (λ at is. c.check.ensures.illegal at (c.in-Err.is ∙ ap Err is)))
