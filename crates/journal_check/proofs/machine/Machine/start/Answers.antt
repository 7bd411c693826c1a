use Rattle.std.proofs.Common.{◌≡◌, Some, sym, ap, ◌∙◌}
use Rattle.reactor_summary.specs.Summary as S
use Rattle.journal_check.proofs.Keyed.{on_ok}
use Rattle.journal_check.proofs.Picked.{found_idle, found_closed, found_free, found_started}
use Rattle.journal_check.proofs.Picked.{unfound_started}
use Rattle.journal_check.proofs.machine.Machine.start.Goals as goal

pub returns-in-Some : goal.returns-in-Some
returns-in-Some c sound picks =
    let is : S.waiting_event c.args.self.now c.args.event ≡ Some c.in-Some.w =
    sym (ap (λ (s : S.Summary). S.waiting_event s c.args.event) c.self.view_is)
    ∙ sym c.in-Some.ensures in
    on_ok c.begin.result (c.begin.ensures
    (found_idle c.args.self.now sound c.args.event c.in-Some.w is)
    (found_closed c.args.self.now sound c.args.event c.in-Some.w is)
    (found_free c.args.self.now sound c.args.event c.in-Some.w is picks))
    (λ new. new ∙ found_started c.args.self.now c.args.event c.in-Some.w is)

pub returns-in-None : goal.returns-in-None
returns-in-None c sound picks = unfound_started c.args.self.now c.args.event
    (sym (ap (λ (s : S.Summary). S.waiting_event s c.args.event) c.self.view_is)
    ∙ sym c.in-None.ensures)
