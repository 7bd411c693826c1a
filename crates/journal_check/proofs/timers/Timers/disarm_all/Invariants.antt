use Rattle.std.specs.BTreeSet.{contains, btree_set_len}
use Rattle.number_map.specs.Content.{found}
use Rattle.journal_check.specs.Index.{pair_cmp}
use Rattle.journal_check.proofs.Timed.{Disarming}
use Rattle.journal_check.proofs.timers.Timers.disarm_all.Given as goal

abbrev pub invariant-loop-timer : goal.invariant-loop-timer
invariant-loop-timer l = Disarming l.handle.0 l.initial.self-inside.order.entries
    l.self-inside.order.entries (found l.self-inside.numbered)
    (contains pair_cmp l.self-inside.owned)

abbrev pub decreases-loop-timer : goal.decreases-loop-timer
decreases-loop-timer l = btree_set_len l.self-inside.owned
