use Rattle.std.proofs.Common.{◌∙◌, ◌<◌, length, refl, sym, ap, subst, arith}
use Rattle.std.proofs.lemmas.Bool.Decides.{nat_tests}
use Rattle.std.proofs.lemmas.Grind.{common_steps}
use Rattle.std.proofs.lemmas.List.{nil_from_length}
use Rattle.ev_base.specs.Playing.{answer_at}
use Rattle.ev_base.specs.declared.net.Waited.{Waited}
use Rattle.script_net.specs.Player.{PlayerWaits}
use Rattle.script_net.proofs.PlayerLemmas.{waits_held, still_stands, stands_cleared}
use Rattle.script_net.proofs.player.Player.wait.Goals as goal

pub wait_for_group-requires-clause-no_report : goal.wait_for_group-requires-clause-no_report
wait_for_group-requires-clause-no_report c =
    nil_from_length c.give_held.new.self.reports.items
    (grind (arith, nat_tests, common_steps, c.is_empty.ensures))

pub wait_for_group-requires-clause-stands : goal.wait_for_group-requires-clause-stands
wait_for_group-requires-clause-stands c =
    let gives = c.give_held.ensures.gives c.requires.0
    (stands_cleared c.requires.0 c.args.self.now c.clear.new.self c.requires.1
    (omega (arith, c.clear.ensures.capacity))) in (
      c.requires.0,
      still_stands c.requires.0 c.give_held.new.self gives
          (sym gives.reports ∙ wait_for_group-requires-clause-no_report c),
    )

pub returns-then-is_empty-clause-waits : goal.returns-then-is_empty-clause-waits
returns-then-is_empty-clause-waits c p s =
    let gives = c.give_held.ensures.gives p
    (stands_cleared p c.args.self.now c.clear.new.self s
    (omega (arith, c.clear.ensures.capacity))) in
    let empty = nil_from_length c.give_held.new.self.reports.items
    (grind (arith, nat_tests, common_steps, c.is_empty.ensures)) in
    let none = sym gives.reports ∙ empty in
    c.wait_for_group.ensures.waits p (still_stands p c.give_held.new.self gives none) none

pub returns-else-is_empty-clause-waits : goal.returns-else-is_empty-clause-waits
returns-else-is_empty-clause-waits c p s =
    let gives = c.give_held.ensures.gives p
    (stands_cleared p c.args.self.now c.clear.new.self s
    (omega (arith, c.clear.ensures.capacity))) in
    let some : 0 < length c.give_held.new.self.reports.items =
    grind (arith, nat_tests, common_steps, c.is_empty.ensures) in
    let answer = c.answer_at.ensures ∙ ap (answer_at c.give_held.new.self.now) c.deref.ensures.value
    in
    subst (λ (a : Waited). PlayerWaits p c.args.most_ms a c.give_held.new.self) (sym answer)
    (waits_held p c.args.most_ms c.give_held.new.self c.give_held.new.self.reports.items gives refl
    (λ none. omega (arith, some, ap length none)))
