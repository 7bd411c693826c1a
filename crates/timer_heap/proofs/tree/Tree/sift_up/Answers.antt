use Rattle.std.proofs.Common.{refl, arith, sym, ◌∙◌, subst, ◌≡◌, ◌<◌, length, get_or, true, false}
use Rattle.std.proofs.Common.{List, ap}
use Rattle.std.proofs.lemmas.List.{get_or_read}
use Rattle.std.proofs.lemmas.List.Edits.{length-swap}
use Rattle.timer_queue.specs.declared.timer.Timer.{Timer}
use Rattle.timer_queue.specs.Timers.{comes_before, AreApart}
use Rattle.timer_heap.specs.Heap.{parent}
use Rattle.timer_heap.specs.Heap.OnPath.{here}
use Rattle.timer_heap.specs.Tree.{IsHeapBelow}
use Rattle.timer_heap.proofs.Moves.{moved_nowhere, room_kept, moved_on, apart_moved}
use Rattle.timer_heap.proofs.Sifts.{settled_up, sifted_up, other_first, compared, path_up}
use Rattle.timer_heap.proofs.Sifts.{kept_off_path}
use Rattle.timer_heap.proofs.tree.Tree.sift_up.Goals as goal

pub loop-at-init : goal.loop-at-init
loop-at-init c = record {
  within = c.requires.within;
  heap = c.requires.heap;
  on_path = here;
  path = λ k d h. refl;
  moved = moved_nowhere _ _;
  keyed = c.requires.keyed;
  room = record { places = refl; capacity = refl };
}

pub returns-then-not-comes_before-clause-heap : goal.returns-then-not-comes_before-clause-heap
returns-then-not-comes_before-clause-heap c =
    let slots : List Timer = c.loop-at.self.slots.items in
    let l : c.loop-at.at < length slots = c.loop-at.invariant.within in
    let m : parent c.loop-at.at < length slots = omega arith in
    let apart : AreApart slots = apart_moved _ _ _ _ c.loop-at.invariant.moved c.requires.apart in
    settled_up slots c.loop-at.at c.loop-at.invariant.heap
    (λ d pos. other_first slots c.loop-at.at (parent c.loop-at.at) d apart (omega arith) l m
    (compared (get_or slots c.loop-at.at d) (get_or slots (parent c.loop-at.at) d) _ _ false
    (get_or_read slots c.loop-at.at _ l c.index.ensures d)
    (get_or_read slots (parent c.loop-at.at) _ m c.index-in-loop-at.ensures d)
    c.if-not-comes_before.ensures))

pub loop-at-preserved : goal.loop-at-preserved
loop-at-preserved c =
    let slots : List Timer = c.loop-at.self.slots.items in
    let at = c.loop-at.at in
    let l : at < length slots = c.loop-at.invariant.within in
    let pos : 0 < at = omega arith in
    let m : parent at < length slots = omega arith in
    let n : length c.exchange.new.self.slots.items ≡ length slots =
    ap length c.exchange.ensures.slots ∙ length-swap slots at (parent at) in
    let first : (d : Timer) → comes_before (get_or slots at d) (get_or slots (parent at) d) ≡ true =
    λ d.
    compared (get_or slots at d) (get_or slots (parent at) d) _ _ true
    (get_or_read slots at _ l c.index.ensures d)
    (get_or_read slots (parent at) _ m c.index-in-loop-at.ensures d)
    c.if-not-comes_before.ensures in
    record {
      within = omega arith;
      heap = subst (λ s. IsHeapBelow s (parent at)) (sym c.exchange.ensures.slots)
          (sifted_up slots at pos l first c.loop-at.invariant.heap);
      on_path = path_up at c.args.from pos c.loop-at.invariant.on_path;
      path = λ k d off. ap (λ s. get_or s k d) c.exchange.ensures.slots
          ∙ kept_off_path slots at c.args.from k d pos l c.loop-at.invariant.on_path off
          ∙ c.loop-at.invariant.path k d off;
      moved = moved_on _ slots _ _ c.loop-at.self.keys.items _ at (parent at)
          c.loop-at.invariant.moved l m c.loop-at.invariant.keyed.fits c.exchange.ensures.slots
          c.exchange.ensures.keys;
      keyed = c.exchange.ensures.keyed;
      room = room_kept _ _ _ c.loop-at.invariant.room c.exchange.ensures.room;
    }
