use Rattle.std.proofs.Common.{ℕ, ◌≡◌, ◌+◌, suc, ap, ◌∙◌, arith}
use Rattle.reactor_summary.specs.Summary as S
use Rattle.journal_check.proofs.machine.Machine.step.Goals as goal

pub returns : goal.returns
returns g c sound next =
    let before : c.self.inside.entries ≡ c.args.self.now.entries =
    ap (λ (s : S.Summary). s.entries) c.self.view_is in
    let number : c.self.inside.entries + 1 ≡ suc c.args.self.now.entries = omega arith in
    c.count.ensures
    ∙ (ap (λ (s : S.Summary). record s { entries = c.self.inside.entries + 1 })
    (c.in_ok-change.ensures sound next)
    ∙ ap (λ (n : ℕ). record (S.step c.args.self.now c.args.entry.now) { entries = n }) number)
