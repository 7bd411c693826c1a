use Rattle.std.proofs.Common.{refl, arith, sym, ◌∙◌, subst, ◌≡◌, ◌<◌, length, get_or, true, false}
use Rattle.std.proofs.Common.{List, ap}
use Rattle.std.proofs.lemmas.List.{get_or_read}
use Rattle.std.proofs.lemmas.List.Edits.{length-swap}
use Rattle.timer_queue.specs.declared.timer.Timer.{Timer}
use Rattle.timer_queue.specs.Timers.{comes_before, AreApart}
use Rattle.timer_heap.specs.Heap.{parent}
use Rattle.timer_heap.specs.Tree.{IsHeapAbove}
use Rattle.timer_heap.proofs.Moves.{moved_nowhere, room_kept, moved_on, apart_moved}
use Rattle.timer_heap.proofs.Clear.{clear_swap}
use Rattle.timer_heap.proofs.Sifts.{sifted_down, other_first, compared}
use Rattle.timer_heap.proofs.tree.Tree.sift_down.Goals as goal

pub loop-child-init : goal.loop-child-init
loop-child-init c = record {
  from = omega arith;
  clear = λ handle clear. clear;
  within = c.requires.within;
  heap = c.requires.heap;
  moved = moved_nowhere _ _;
  keyed = c.requires.keyed;
  room = record { places = refl; capacity = refl };
}

pub first_child-requires-clause-apart : goal.first_child-requires-clause-apart
first_child-requires-clause-apart c =
    rw c.deref.ensures.value (apart_moved _ _ _ _ c.loop-child.invariant.moved c.requires.apart)

pub loop-child-preserved : goal.loop-child-preserved
loop-child-preserved c =
    let slots : List Timer = c.loop-child.self.slots.items in
    let at = c.loop-child.at in
    let child = c.in-Some.child in
    let l : at < length slots = c.loop-child.invariant.within in
    let apart : AreApart slots = apart_moved _ _ _ _ c.loop-child.invariant.moved c.requires.apart
    in
    let is : (0 < child) × (child < length slots) × (parent child ≡ at) =
    rw c.deref.ensures.value at c.in-Some.ensures.child in
    let below : at < child = omega arith in
    let n : length c.exchange.new.self.slots.items ≡ length slots =
    ap length c.exchange.ensures.slots ∙ length-swap slots at child in
    let first : (d : Timer) → comes_before (get_or slots child d) (get_or slots at d) ≡ true = λ d.
    other_first slots at child d apart (omega arith) l is.1
    (compared (get_or slots at d) (get_or slots child d) _ _ false
    (get_or_read slots at _ l c.index.ensures d)
    (get_or_read slots child _ is.1 c.index-in-Some.ensures d) c.if-comes_before.ensures) in
    record {
      from = omega (arith, c.loop-child.invariant.from);
      clear = λ handle clear. clear_swap handle slots c.exchange.new.self.slots.items at child
          c.args.from c.loop-child.invariant.from (omega (arith, c.loop-child.invariant.from)) l
          is.1 c.exchange.ensures.slots (c.loop-child.invariant.clear handle clear);
      within = omega arith;
      heap = subst (λ s. IsHeapAbove s child) (sym c.exchange.ensures.slots)
          (sifted_down slots at child l is.0 is.1 is.2 first
          (rw c.deref.ensures.value at c.in-Some.ensures.first) c.loop-child.invariant.heap);
      moved = moved_on _ slots _ _ c.loop-child.self.keys.items _ at child
          c.loop-child.invariant.moved l is.1 c.loop-child.invariant.keyed.fits
          c.exchange.ensures.slots c.exchange.ensures.keys;
      keyed = c.exchange.ensures.keyed;
      room = room_kept _ _ _ c.loop-child.invariant.room c.exchange.ensures.room;
    }
