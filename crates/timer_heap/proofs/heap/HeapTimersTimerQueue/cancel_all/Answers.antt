use Rattle.std.proofs.Common.{◌≡◌, ◌==◌, ◌+◌, ◌-◌, List, length, Bool, false, not, ap, sym, ◌∙◌}
use Rattle.std.proofs.Common.{arith}
use Rattle.std.proofs.lemmas.Bool.{eq-eqb, ne_eqb}
use Rattle.std.proofs.lemmas.List.{get_or_read}
use Rattle.timer_queue.specs.declared.timer.Timer.{Timer}
use Rattle.timer_queue.specs.Timers.{in_order, without_handle}
use Rattle.timer_queue.proofs.Contents.{filter-removed, filter_none, length_removed}
use Rattle.timer_queue.proofs.Contents.{length-in_order}
use Rattle.timer_heap.proofs.Removals.{sound_taken}
use Rattle.timer_heap.proofs.heap.HeapTimersTimerQueue.cancel_all.Goals as goal

fewer : (c : goal.After-min-end) → length c.take_out.new.self.slots.items + 1
    ≡ length c.loop-end.self-inside.tree.slots.items
fewer c = length_removed c.take_out.result c.loop-end.self-inside.tree.slots.items
    c.take_out.new.self.slots.items c.loop-end.invariant.sound.apart c.take_out.ensures.slots

pub loop-end-smaller-then-index-handle : goal.loop-end-smaller-then-index-handle
loop-end-smaller-then-index-handle c =
    omega (arith, fewer c, c.min-end.ensures, c.loop-end.invariant.within)

pub loop-end-preserved-then-index-handle : goal.loop-end-preserved-then-index-handle
loop-end-preserved-then-index-handle c =
    let tree = c.loop-end.self-inside.tree in
    let q : Timer → Bool = λ t. not (t.handle.0 == c.args.handle.0) in
    let out : q c.take_out.result ≡ false =
    ap q (c.take_out.ensures.taken c.index.result.now
    ∙ sym (get_or_read tree.slots.items (c.loop-end.end - 1) _ (omega arith) c.index.ensures
    c.index.result.now)) ∙ ap not (eq-eqb _ _ c.if-index-handle.true) in
    record {
      sound = sound_taken c.take_out.result tree.slots.items _ tree.keys.items _ tree.places.items _
          _ _ _ _ c.loop-end.invariant.sound c.take_out.ensures.slots c.take_out.ensures.heap
          c.take_out.ensures.pairs
          c.take_out.ensures.keyed c.take_out.ensures.room.places c.take_out.ensures.keys
          c.take_out.ensures.room.capacity;
      others = filter-removed c.take_out.result tree.slots.items c.take_out.new.self.slots.items
          c.loop-end.invariant.sound.apart c.take_out.ensures.slots q out
          ∙ c.loop-end.invariant.others;
      keys = c.take_out.ensures.keys ∙ c.loop-end.invariant.keys;
      fewer = omega (arith, fewer c, c.loop-end.invariant.fewer);
      within = omega (arith, c.min-end.ensures);
      clear = λ k d least within. c.take_out.ensures.clear c.args.handle.0
          (λ i e l w. c.loop-end.invariant.clear i e (omega arith) w) k d
          (omega (arith, c.min-end.ensures)) within;
    }

pub returns-clause-timers : goal.returns-clause-timers
returns-clause-timers c =
    let slots : List Timer = c.loop-end.self-inside.tree.slots.items in
    let q : Timer → Bool = λ t. not (t.handle.0 == c.args.handle.0) in
    sym (filter_none q slots (λ k d l.
    ap not (ne_eqb _ _ (c.loop-end.invariant.clear k d (omega arith) l))))
    ∙ c.loop-end.invariant.others ∙ ap (λ s. without_handle c.args.handle.0 (in_order s.slots))
    c.self.view_is

pub returns-clause-spare : goal.returns-clause-spare
returns-clause-spare c =
    let spare : length c.self.inside.tree.keys.items - length c.self.inside.tree.slots.items
    ≡ c.args.self.now.spare = ap (λ q. q.spare) c.self.view_is in
    let slots : length c.self.inside.tree.slots.items ≡ length c.args.self.now.slots =
    ap (λ q. length q.slots) c.self.view_is in
    omega (
      arith,
      length-in_order c.loop-end.self-inside.tree.slots.items,
      length-in_order c.args.self.now.slots,
      c.loop-end.invariant.keys,
      c.loop-end.invariant.fewer,
      c.loop-end.invariant.sound.keyed.fits,
      c.self.invariant.keyed.fits,
    )
