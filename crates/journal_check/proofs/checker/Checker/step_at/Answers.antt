use Rattle.std.proofs.Common.{◌≡◌, sym, ap, ◌∙◌, subst}
use Rattle.std.specs.BTreeSet.{contains}
use Rattle.std.specs.Ordering.{nat_cmp}
use Rattle.reactor_summary.specs.Summary as S
use Rattle.journal_check.specs.Fronts as K
use Rattle.journal_check.specs.Fronts.{IsUpToDate}
use Rattle.journal_check.specs.Index.{pair_cmp}
use Rattle.journal_check.specs.Sound.{IsSound}
use Rattle.journal_check.proofs.Keyed.{on_ok}
use Rattle.journal_check.proofs.Upkeep.{kept_one}
use Rattle.journal_check.proofs.checker.Checker.step_at.Goals as goal

pub returns-clause-index : goal.returns-clause-index
returns-clause-index g c u sound next later about =
    let stepped : c.step.new.self ≡ S.step c.args.self.now.machine c.args.entry.now =
    c.in_ok-step.ensures sound next in
    let sound_then : IsSound c.step.new.self = subst IsSound (sym stepped) later in
    let was : c.front_key-before.result ≡ K.front_key c.args.self.now.machine c.args.handle.0 =
    c.front_key-before.ensures sound in
    let moved : K.Replaces c.front_key-before.result c.front_key-after.result
    (contains pair_cmp c.args.self.now.fronts) (contains pair_cmp c.replace_key.new.keys) =
    c.in_ok-replace_key.ensures (λ k is. u.has k c.args.handle.0 (sym was ∙ is))
    in
    on_ok c.mark_changed.result (c.mark_changed.ensures
    (u.waits c.args.handle.0 ∙ sym c.waits-waited.ensures))
    (λ marks. subst (λ (s : S.Summary).
    IsUpToDate s (contains pair_cmp c.replace_key.new.keys)
    (contains nat_cmp c.mark_changed.new.handles)) (sym stepped)
    (kept_one c.args.entry.now c.args.self.now.machine c.args.handle c.front_key-before.result
    c.front_key-after.result
    (contains pair_cmp c.args.self.now.fronts) moved.less (contains pair_cmp c.replace_key.new.keys)
    (contains nat_cmp c.args.self.now.closing) (contains nat_cmp c.mark_changed.new.handles)
    c.waits-waits.result
    sound about u was moved.drops (c.front_key-after.ensures sound_then
    ∙ ap (λ (s : S.Summary). K.front_key s c.args.handle.0) stepped) moved.adds
    (c.waits-waits.ensures ∙ ap (λ (s : S.Summary). S.waits_for_closed s c.args.handle.0) stepped)
    marks))
