use Rattle.std.proofs.Common.{◌≡◌, not, true, false, rules, Bool}
use Rattle.std.proofs.lemmas.Bool.{not-true}
use Rattle.std.proofs.lemmas.List.Sorted.{IsPartitionPoint-from_clause}
use Rattle.std.specs.List.Sorted.{IsPartitionPoint}
use Rattle.timer_queue.specs.Timers.{comes_before}
use Rattle.timer_queue.proofs.Rows.{rising_parted}
use Rattle.timer_queue.proofs.row.count_before.Goals as goal

parted : (c : goal.After-partition_point)
    → IsPartitionPoint (λ u. not (comes_before c.args.t.now u) ≡ true)
    (λ u. not (comes_before c.args.t.now u) ≡ false) c.args.timers.now c.partition_point.result
parted c =
    IsPartitionPoint-from_clause (λ u. not (comes_before c.args.t.now u)) c.args.timers.now _
    c.partition_point.ensures.partitioned
    (rising_parted c.args.t.now c.args.timers.now c.requires) (λ a r f' k. search rules)

from_not : (b : Bool) → not b ≡ false → b ≡ true
from_not true h = λ i. true
from_not false h = absurd (cc)

pub returns-clause-front : goal.returns-clause-front
returns-clause-front c = λ k d l m. not-true _ ((parted c).0 k d l m)

pub returns-clause-back : goal.returns-clause-back
returns-clause-back c = λ k d l m. from_not _ ((parted c).1 k d l m)
