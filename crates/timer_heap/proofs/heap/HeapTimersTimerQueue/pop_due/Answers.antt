use Rattle.std.proofs.Common.{◌≡◌, ◌<◌, ◌-◌, List, length, get_or, ap, sym, ◌∙◌, subst, arith}
use Rattle.std.specs.List.{All}
use Rattle.timer_queue.specs.declared.timer.Timer.{Timer}
use Rattle.timer_queue.specs.Timers.{in_order}
use Rattle.timer_queue.proofs.Contents.{in_order-first, length_removed}
use Rattle.timer_heap.proofs.Firsts.{none_reached, first_of_heap}
use Rattle.timer_heap.proofs.Removals.{sound_taken}
use Rattle.timer_heap.proofs.heap.HeapTimersTimerQueue.pop_due.Goals as goal

pub returns-then-now-t-clause-none : goal.returns-then-now-t-clause-none
returns-then-now-t-clause-none c =
    let slots : List Timer = c.self.inside.tree.slots.items in
    let item : (0 < length slots) × ((d : Timer) → c.in_ok-t.field-0.now ≡ get_or slots 0 d) =
    rw c.deref.ensures.value at c.in_ok-t.ensures.item.3 in
    subst (λ q. All (λ u. c.args.now < u.deadline) (in_order q.slots)) c.self.view_is
    (none_reached c.args.now slots c.self.invariant.heap
    (λ d. subst (λ (u : Timer). c.args.now < u.deadline) (item.1 d) c.if-now-t.true))

pub invariant_of-self : goal.invariant_of-self
invariant_of-self c =
    sound_taken c.take_out.result c.self.inside.tree.slots.items _ c.self.inside.tree.keys.items _
    c.self.inside.tree.places.items _ _ _ _ _ c.self.invariant c.take_out.ensures.slots
    c.take_out.ensures.heap c.take_out.ensures.pairs
    c.take_out.ensures.keyed c.take_out.ensures.room.places c.take_out.ensures.keys
    c.take_out.ensures.room.capacity

pub returns-clause-taken : goal.returns-clause-taken
returns-clause-taken c =
    let slots : List Timer = c.self.inside.tree.slots.items in
    let t = c.take_out.result in
    let new = c.take_out.new.self.slots.items in
    sym (ap (λ q. in_order q.slots) c.self.view_is)
    ∙ in_order-first t slots new c.self.invariant.apart c.take_out.ensures.slots
    (first_of_heap t slots new c.self.invariant.heap c.self.invariant.apart
    c.take_out.ensures.slots c.take_out.ensures.taken)

pub returns-clause-spare : goal.returns-clause-spare
returns-clause-spare c =
    let spare : length c.self.inside.tree.keys.items - length c.self.inside.tree.slots.items
    ≡ c.args.self.now.spare = ap (λ q. q.spare) c.self.view_is in
    omega (
      arith,
      length_removed c.take_out.result c.self.inside.tree.slots.items
          c.take_out.new.self.slots.items c.self.invariant.apart c.take_out.ensures.slots,
      c.take_out.ensures.keys,
      c.self.invariant.keyed.fits,
    )
