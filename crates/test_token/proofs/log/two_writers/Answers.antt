use Rattle.std.proofs.Common.{◌≡◌, sym, subst, List}
use Rattle.test_token.specs.declared.log.Entry.{Entry}
use Rattle.leader_token.specs.Words.{view_of}
use Rattle.test_token.specs.Logs.{HasInOrder}
use Rattle.test_token.proofs.Counts.{still_counted}
use Rattle.test_token.proofs.log.two_writers.Goals as goal

pub returns-then-second_added : goal.returns-then-second_added
returns-then-second_added g c =
    let last = (view_of c.join-2.new.root).seen in
    let is : c.close-log.result.entries.items ≡ last = c.close-log.ensures.last.stood.1 in
    let first = still_counted 0 1000 _ last c.join-2.ensures.seen.0
    (still_counted 0 1000 _ _ c.join.ensures.seen.1
    (c.join-first.ensures.first.3 c.if-first_added.true)) in
    let second = still_counted 1 1000 _ last c.join-2.ensures.seen.1
    (c.join-first.ensures.second.3 c.if-second_added.true) in (
      subst (λ (l : List Entry). HasInOrder 0 1000 l) (sym is) first,
      subst (λ (l : List Entry). HasInOrder 1 1000 l) (sym is) second,
    )
