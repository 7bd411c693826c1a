use Rattle.std.proofs.Common.{◌∙◌, ◌+◌, drop, sym, ap, subst, arith}
use Rattle.ev_base.specs.Playing.{answer_at}
use Rattle.ev_base.specs.declared.net.Waited.{Waited}
use Rattle.script_net.specs.Scripts.{group_view, group_views}
use Rattle.script_net.specs.Player.{PlayerWaits}
use Rattle.script_net.proofs.PlayerLemmas.{next_group, waits_over, waits_quiet, waits_group}
use Rattle.script_net.proofs.player.Player.wait_for_group.Goals as goal

pub time_is_up-requires : goal.time_is_up-requires
time_is_up-requires c =
    let s = c.requires.stands.1 in
    let n = next_group c.args.self.now c.requires.stands.0 c.index.result.now s (omega arith)
    c.index.ensures in
    omega (arith, n.later, s.moment)

pub returns-then-self-len-clause-waits : goal.returns-then-self-len-clause-waits
returns-then-self-len-clause-waits c p s none =
    waits_over p c.args.most_ms c.args.self.now s none (omega arith) c.requires.no_report

pub returns-in-Some-clause-waits : goal.returns-in-Some-clause-waits
returns-in-Some-clause-waits c p s none =
    let n = next_group c.args.self.now p c.index.result.now s (omega arith) c.index.ensures in
    waits_quiet p c.args.most_ms c.args.self.now c.index.result.now c.in-Some.now s n none
    c.requires.no_report (sym c.in-Some.ensures)

pub returns-clause-waits : goal.returns-clause-waits
returns-clause-waits c p s none =
    let n = next_group c.args.self.now p c.index.result.now s (omega arith) c.index.ensures in
    let gives = c.give_group.ensures.gives p (group_view c.index.result.now)
    (drop (c.args.self.now.next + 1) (group_views c.args.self.now.groups.items)) s n.is in
    let answer = c.answer_at.ensures ∙ ap (answer_at c.give_group.new.self.now)
    c.deref.ensures.value in
    subst (λ (a : Waited). PlayerWaits p c.args.most_ms a c.give_group.new.self) (sym answer)
    (waits_group p c.args.most_ms c.args.self.now c.give_group.new.self c.index.result.now s n none
    (sym c.in_default.ensures) gives)
