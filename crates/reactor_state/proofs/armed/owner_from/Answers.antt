use Rattle.std.proofs.Common.{◌≡◌, true, false, ltb, rules, ℕ}
use Rattle.std.proofs.lemmas.Bool.{ltb-true, ltb-false}
use Rattle.std.proofs.lemmas.List.Sorted.{IsPartitionPoint-from_clause}
use Rattle.std.specs.List.Sorted.{IsPartitionPoint}
use Rattle.reactor_state.specs.Rises.{RisesIn}
use Rattle.reactor_state.specs.Tables.{timer_of}
use Rattle.reactor_state.proofs.Rising.{rises_parted}
use Rattle.reactor_state.proofs.armed.owner_from.Goals as goal

parted : (c : goal.After-partition_point) (hi : ℕ) → RisesIn timer_of 0 hi c.args.owners.now
    → IsPartitionPoint (λ o. ltb o.timer c.args.timer ≡ true)
    (λ o. ltb o.timer c.args.timer ≡ false) c.args.owners.now c.partition_point.result
parted c hi rising =
    IsPartitionPoint-from_clause (λ o. ltb o.timer c.args.timer) c.args.owners.now _
    c.partition_point.ensures.partitioned
    (rises_parted timer_of 0 hi c.args.timer c.args.owners.now rising)
    (λ a r f' k. search rules)

pub returns-clause-below : goal.returns-clause-below
returns-clause-below c hi rising = λ k d l m. ltb-true _ _ ((parted c hi rising).0 k d l m)

pub returns-clause-above : goal.returns-clause-above
returns-clause-above c hi rising = λ k d l m. ltb-false _ _ ((parted c hi rising).1 k d l m)
