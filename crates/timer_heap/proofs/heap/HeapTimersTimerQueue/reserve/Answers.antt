use Rattle.std.proofs.Common.{◌≡◌, ◌≤◌, ◌+◌, ◌∙◌, ap, sym, arith}
use Rattle.std.specs.Vec.{vec_capacity, vec_len}
use Rattle.timer_heap.proofs.Removals.{sound_grown}
use Rattle.timer_heap.proofs.heap.HeapTimersTimerQueue.reserve.Goals as goal

pub invariant_of-self-2 : goal.invariant_of-self-2
invariant_of-self-2 c =
    let s = c.self.inside in
    let cap : vec_capacity c.make_keys.new.self.slots ≡ vec_capacity c.reserve.new.self =
    ap (λ v. vec_capacity v) c.make_keys.ensures.slots in
    let end : c.in-Some.end ≡ c.len-held.result + c.args.n = c.in-Some.ensures.1 in
    let held : vec_len c.reserve.new.self + c.args.n ≤ vec_capacity c.reserve.new.self =
    c.in_ok-reserve.ensures.ok in
    let entries : vec_len c.reserve-4.new.self + c.saturating_sub.result
    ≤ vec_capacity c.reserve-4.new.self = c.in_ok-reserve-4.ensures.ok in
    sound_grown s.tree.slots.items c.make_keys.new.self.slots.items s.tree.keys.items
    c.make_keys.new.self.keys.items s.tree.places.items c.make_keys.new.self.places.items
    s.index.items c.reserve-4.new.self.items _ _ _ _ c.self.invariant
    (ap (λ v. v.items) c.make_keys.ensures.slots ∙ c.reserve.ensures.items)
    c.reserve-4.ensures.items c.make_keys.ensures.keyed
    (c.make_keys.ensures.places ∙ sym c.make_keys.ensures.keys)
    (omega (arith, c.make_keys.ensures.keys))
    (rw c.reserve-2.ensures.items at c.make_keys.ensures.kept)
    (omega (arith, c.make_keys.ensures.keys, c.reserve.ensures.len))
    (omega (
      arith,
      c.make_keys.ensures.keys,
      c.saturating_sub.ensures,
      c.saturating_mul.ensures,
      c.reserve-4.ensures.len,
    ))
