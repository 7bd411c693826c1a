use Rattle.std.proofs.Common.{ltb, rules}
use Rattle.std.proofs.lemmas.Bool.{ltb-true, ltb-false}
use Rattle.std.proofs.lemmas.List.Sorted.{IsPartitionPoint-from_clause}
use Rattle.handle_search.proofs.Rising as R
use Rattle.handle_search.proofs.search.first_from.Goals as goal

pub returns-clause-below : goal.returns-clause-below
returns-clause-below g c =
    λ rising k d l m. ltb-true _ _ ((IsPartitionPoint-from_clause
    (λ item. ltb (g.T.HasHandle.number item) c.args.handle.0) c.args.items.now _
    c.partition_point.ensures.partitioned
    (R.parted g.T.HasHandle.number c.args.handle.0 c.args.items.now rising)
    (λ a r f' k. search rules)).0 k d l m)

pub returns-clause-above : goal.returns-clause-above
returns-clause-above g c =
    λ rising k d l m. ltb-false _ _ ((IsPartitionPoint-from_clause
    (λ item. ltb (g.T.HasHandle.number item) c.args.handle.0) c.args.items.now _
    c.partition_point.ensures.partitioned
    (R.parted g.T.HasHandle.number c.args.handle.0 c.args.items.now rising)
    (λ a r f' k. search rules)).1 k d l m)
