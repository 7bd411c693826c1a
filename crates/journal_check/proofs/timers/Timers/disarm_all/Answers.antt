use Rattle.std.proofs.Common.{◌≡◌, ◌==◌, ◌+◌, Bool, true, not, refl, ap, ◌∙◌, subst, arith, cond}
use Rattle.std.specs.BTreeSet.{contains, btree_set_len}
use Rattle.std.specs.List.{filter}
use Rattle.reactor_summary.specs.declared.parts.ArmedTimer.{ArmedTimer}
use Rattle.number_map.specs.Content.{found}
use Rattle.journal_check.specs.Index.{pair_cmp}
use Rattle.journal_check.proofs.Timed.{disarming_more, disarmed}
use Rattle.journal_check.proofs.timers.Timers.disarm_all.Goals as goal

pub loop-timer-init : goal.loop-timer-init
loop-timer-init c = record { indexed = c.self.invariant; left = refl }

pub disarm_of-requires : goal.disarm_of-requires
disarm_of-requires c = (
  contains pair_cmp c.loop-timer.self-inside.owned,
  c.loop-timer.invariant.indexed,
)

pub loop-timer-smaller : goal.loop-timer-smaller
loop-timer-smaller c =
    let found : c.remove.result ≡ true = c.remove.ensures.test ∙ c.in-Some.ensures.found in
    let fewer : btree_set_len c.remove.new.self + cond c.remove.result 1 0
    ≡ btree_set_len c.loop-timer.self-inside.owned = c.remove.ensures.len in
    let less : btree_set_len c.remove.new.self + 1 ≡ btree_set_len c.loop-timer.self-inside.owned =
    subst (λ (b : Bool). btree_set_len c.remove.new.self + cond b 1 0
    ≡ btree_set_len c.loop-timer.self-inside.owned) found fewer in
    omega arith

pub loop-timer-preserved : goal.loop-timer-preserved
loop-timer-preserved c =
    disarming_more c.args.handle.0 c.in-Some.timer c.self.inside.order.entries
    c.loop-timer.self-inside.order.entries c.disarm_of.new.order.entries
    (found c.loop-timer.self-inside.numbered)
    (contains pair_cmp c.loop-timer.self-inside.owned) (contains pair_cmp c.remove.new.self)
    c.disarm_of.ensures.gone (c.disarm_of.ensures.left
    (contains pair_cmp c.loop-timer.self-inside.owned) c.loop-timer.invariant.indexed)
    c.remove.ensures.updates.2 c.loop-timer.invariant

pub invariant_of-self : goal.invariant_of-self
invariant_of-self c = c.loop-timer.invariant.indexed

pub returns : goal.returns
returns c =
    disarmed c.args.handle.0 c.self.inside.order.entries c.loop-timer.self-inside.order.entries
    (found c.loop-timer.self-inside.numbered) (contains pair_cmp c.loop-timer.self-inside.owned)
    (c.first_owned.ensures.none c.in_default.is) c.loop-timer.invariant
    ∙ ap (filter (λ (a : ArmedTimer). not (a.handle.0 == c.args.handle.0))) c.self.view_is
