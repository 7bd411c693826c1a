use Rattle.std.proofs.Common.{◌≡◌, ◌<◌, subst, true, false, ltb, rules}
use Rattle.std.proofs.lemmas.Bool.{ltb-true, ltb-false}
use Rattle.std.proofs.lemmas.List.Sorted.{IsPartitionPoint-from_clause}
use Rattle.std.specs.List.Sorted.{IsPartitionPoint}
use Rattle.timer_index.specs.declared.index.Numbered.{Numbered}
use Rattle.timer_index.proofs.Entries.{all_below, rising_parted}
use Rattle.timer_index.proofs.index.first_from.Goals as goal

pub returns-in-Some-clause-below : goal.returns-in-Some-clause-below
returns-in-Some-clause-below c =
    let l = c.in-Some.ensures.item.3 in
    all_below c.args.index.now c.args.timer c.requires
    (l.0, λ d. subst (λ (e : Numbered). e.timer < c.args.timer) (l.1 d) c.if-last-timer.true)

pub returns-in_default-clause-below : goal.returns-in_default-clause-below
returns-in_default-clause-below c = λ k d l m.
    let parted : IsPartitionPoint (λ e. ltb e.timer c.args.timer ≡ true)
    (λ e. ltb e.timer c.args.timer ≡ false) c.args.index.now c.partition_point.result =
    IsPartitionPoint-from_clause (λ e. ltb e.timer c.args.timer) c.args.index.now _
    c.partition_point.ensures.partitioned
    (rising_parted c.args.index.now c.args.timer c.requires) (λ a r f' k. search rules) in
    ltb-true _ _ (parted.0 k d l m)

pub returns-in_default-clause-above : goal.returns-in_default-clause-above
returns-in_default-clause-above c = λ k d l m.
    let parted : IsPartitionPoint (λ e. ltb e.timer c.args.timer ≡ true)
    (λ e. ltb e.timer c.args.timer ≡ false) c.args.index.now c.partition_point.result =
    IsPartitionPoint-from_clause (λ e. ltb e.timer c.args.timer) c.args.index.now _
    c.partition_point.ensures.partitioned
    (rising_parted c.args.index.now c.args.timer c.requires) (λ a r f' k. search rules) in
    ltb-false _ _ (parted.1 k d l m)
