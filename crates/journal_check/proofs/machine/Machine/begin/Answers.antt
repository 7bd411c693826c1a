use Rattle.std.proofs.Common.{◌≡◌, ◌==◌, ◌++◌, ◌∷◌, [], ap, ◌∙◌}
use Rattle.std.specs.List.{list_any}
use Rattle.reactor_summary.specs.declared.parts.OpenEvent.{OpenEvent}
use Rattle.reactor_summary.specs.Summary as S
use Rattle.journal_check.specs.Index.{is_idle}
use Rattle.journal_check.specs.Sound.{started}
use Rattle.journal_check.proofs.machine.Machine.begin.Goals as goal

pub returns : goal.returns
returns c idle closed free =
    let o : OpenEvent = record {
      event = c.args.w.event;
      handle = c.args.w.handle;
      upcall = c.args.w.upcall;
      moment = c.self.inside.moment;
    } in
    let opens : c.push.new.self ≡ c.self.inside.opens ++ o ∷ [] =
    c.in_ok-push.ensures (ap (λ (s : S.Summary).
    list_any (λ (b : OpenEvent). c.args.w.event == b.event) s.opens) c.self.view_is ∙ closed)
    (ap (λ (s : S.Summary). S.is_busy s c.args.w.handle.0) c.self.view_is ∙ free)
    in
    let armed : c.arm_again.new.self ≡ S.with_next c.self.inside.moment c.args.w.handle c.args.w.due
    c.self.inside.armed =
    c.in_ok-arm_again.ensures (ap (λ (s : S.Summary). is_idle c.args.w.due s.armed) c.self.view_is
    ∙ idle)
    in
    rw (opens, armed, c.take.ensures) (ap (λ (s : S.Summary). started s c.args.w) c.self.view_is)
