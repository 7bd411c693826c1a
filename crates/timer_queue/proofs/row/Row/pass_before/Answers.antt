use Rattle.std.proofs.Common.{◌≡◌, ◌+◌, ◌-◌, ◌≤◌, ◌++◌, true, length, drop, take, ap, ◌∙◌, sym}
use Rattle.std.proofs.Common.{subst, arith}
use Rattle.std.specs.List.{AllWithin}
use Rattle.timer_queue.specs.Timers.{comes_before, IsSchedule}
use Rattle.timer_queue.proofs.Rows.{from_place, passed_within, passed_order, passed_sorted}
use Rattle.timer_queue.proofs.Rows.{passed_timers, passed_behind}
use Rattle.timer_queue.proofs.row.Row.pass_before.Goals as goal

pub append-requires-clause-order : goal.append-requires-clause-order
append-requires-clause-order c =
    let s = c.self.inside in
    let n = c.count_before.result in
    let to = c.args.to.now.timers in
    let whole : IsSchedule (to ++ drop s.head s.timers.items) =
    subst (λ q. IsSchedule (to ++ q.timers)) (sym c.self.view_is) c.requires.order in
    subst (λ xs. IsSchedule (to ++ take (s.head + n - s.head) (drop s.head xs)))
    (sym c.deref-2.ensures.value) (passed_order s.timers.items s.head n to (s.head + n - s.head)
    (omega arith) whole)

pub invariant_of-self : goal.invariant_of-self
invariant_of-self c =
    let s = c.self.inside in
    let n = c.count_before.result in
    let few : n ≤ length (take (length s.timers.items - s.head) (drop s.head s.timers.items)) =
    rw c.deref.ensures.value at c.count_before.ensures.within in
    passed_sorted s.timers.items s.head n _ _
    (passed_within s.timers.items s.head n few c.self.invariant.within) c.self.invariant

pub returns-clause-timers : goal.returns-clause-timers
returns-clause-timers c =
    let s = c.self.inside in
    let n = c.count_before.result in
    let to = c.args.to.now.timers in
    let items = s.timers.items in
    let put : c.append.new.self.timers ≡ to ++ take (s.head + n - s.head) (drop s.head items) =
    rw c.deref-2.ensures.value at c.append.ensures.timers in
    ap (λ xs. xs ++ drop (s.head + n) items) put
    ∙ passed_timers items s.head n to (s.head + n - s.head) (omega arith)
    ∙ ap (λ q. to ++ q.timers) c.self.view_is

pub returns-clause-behind : goal.returns-clause-behind
returns-clause-behind c =
    let s = c.self.inside in
    let n = c.count_before.result in
    let items = s.timers.items in
    let back : AllWithin (λ u. comes_before c.args.t.now u ≡ true) (drop s.head items) n
    (length (drop s.head items)) = rw (from_place items s.head) at
    (rw c.deref.ensures.value at c.count_before.ensures.back) in
    passed_behind items s.head n (λ u. comes_before c.args.t.now u) back
