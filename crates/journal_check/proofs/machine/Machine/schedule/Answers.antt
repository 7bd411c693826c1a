use Rattle.std.proofs.Common.{ℕ, ◌≡◌, ◌==◌, ap, ◌∙◌, add-one}
use Rattle.reactor_journal.specs.declared.entry.Entry.TheVariants.{Scheduled}
use Rattle.reactor_summary.specs.Summary as S
use Rattle.reactor_summary.specs.declared.parts.ArmedTimer.{ArmedTimer}
use Rattle.reactor_summary.specs.Summary.{Summary}
use Rattle.journal_check.specs.Sound.{after}
use Rattle.journal_check.proofs.Keyed.{filter_all}
use Rattle.journal_check.proofs.machine.Machine.schedule.Goals as goal

pub returns : goal.returns
returns c fresh =
    let a : ArmedTimer = record {
      deadline = c.args.first;
      timer = c.args.timer;
      handle = c.args.handle;
      every = c.args.every;
    } in
    let armed : c.arm.new.self ≡ S.with_timer a c.self.inside.armed =
    c.in_ok-arm.ensures ∙ ap (S.with_timer a)
    (filter_all (λ (b : ArmedTimer). b.timer == c.args.timer) c.self.inside.armed
    (ap (λ (s : Summary). S.is_armed s c.args.timer) c.self.view_is ∙ fresh))
    in
    rw (armed, add-one) (ap (λ (s : Summary).
    after {N = ℕ} s (Scheduled c.args.timer c.args.handle c.args.first c.args.every))
    c.self.view_is)
