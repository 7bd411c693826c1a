use Rattle.std.proofs.Common.{rules}
use Rattle.std.proofs.lemmas.List.Sorted.{IsNonDecreasingBy-from_sort, answers_always}
use Rattle.timer_index.proofs.Entries.{rises_sorted}
use Rattle.timer_index.proofs.index.sort.Goals as goal

pub returns-clause-rising : goal.returns-clause-rising
returns-clause-rising c =
    rises_sorted c.args.index.now.items c.sort_unstable_by_key.new.self.items c.requires.apart
    c.sort_unstable_by_key.ensures.permutation
    (IsNonDecreasingBy-from_sort (λ e. e.timer) _
    (c.sort_unstable_by_key.ensures.sorted (λ e. e.timer)
    (answers_always _ _ _ (λ f a r g h. search rules))))
