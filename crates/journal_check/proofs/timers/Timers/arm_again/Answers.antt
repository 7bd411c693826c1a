use Rattle.std.proofs.Common.{ℕ, ◌≡◌, ◌==◌, true, false, Option, sym, ap, ◌∙◌, subst}
use Rattle.std.proofs.lemmas.Bool.{not-true, cond-false, ne_eqb}
use Rattle.std.specs.List.{list_any}
use Rattle.reactor_summary.specs.Summary as S
use Rattle.reactor_summary.specs.declared.parts.ArmedTimer.{ArmedTimer}
use Rattle.reactor_summary.specs.declared.parts.DueTimer.{DueTimer}
use Rattle.journal_check.specs.Index.{is_idle}
use Rattle.journal_check.proofs.Keyed.{on_ok, filter_all}
use Rattle.journal_check.proofs.timers.Timers.arm_again.Goals as goal

pub returns-else-due-eq0 : goal.returns-else-due-eq0
returns-else-due-eq0 c idle =
    let a : ArmedTimer = record {
      deadline = c.next_deadline-deadline.result;
      timer = c.in-Some.due.timer;
      handle = c.args.handle;
      every = c.in-Some.due.every;
    } in
    let none : list_any (λ (b : ArmedTimer). b.timer == c.in-Some.due.timer) c.args.self.now
    ≡ false = not-true _ (subst (λ (o : Option DueTimer). is_idle o c.args.self.now ≡ true)
    c.in-Some.is idle) in
    on_ok c.arm.result c.arm.ensures
    (λ new. new
    ∙ (ap (S.with_timer a) (filter_all (λ (b : ArmedTimer). b.timer == c.in-Some.due.timer)
    c.args.self.now none)
    ∙ (ap (λ (d : ℕ). S.with_timer (record {
      deadline = d;
      timer = c.in-Some.due.timer;
      handle = c.args.handle;
      every = c.in-Some.due.every;
    }) c.args.self.now)
    c.next_deadline-deadline.ensures
    ∙ (sym (cond-false (c.in-Some.due.every == 0) c.args.self.now _
    (ne_eqb c.in-Some.due.every 0 c.if-due-eq0.false))
    ∙ ap (λ (o : Option DueTimer). S.with_next c.args.moment c.args.handle o c.args.self.now)
    (sym c.in-Some.is)))))
