use Rattle.std.proofs.Common.{◌<◌, arith, List, length, get_or, true}
use Rattle.std.proofs.lemmas.List.{get_or_read}
use Rattle.timer_queue.specs.declared.timer.Timer.{Timer}
use Rattle.timer_heap.specs.Heap.{parent}
use Rattle.timer_heap.proofs.Sifts.{goes_up, compared}
use Rattle.timer_heap.proofs.Moves.{length_moved}
use Rattle.timer_heap.proofs.Clear.{clear_path, clear_later}
use Rattle.timer_heap.proofs.tree.Tree.settle.Goals as goal

pub sift_up-requires-clause-heap : goal.sift_up-requires-clause-heap
sift_up-requires-clause-heap c =
    let slots : List Timer = c.args.self.now.slots.items in
    let place = c.args.place in
    let l : place < length slots = c.requires.within in
    let m : parent place < length slots = omega arith in
    goes_up slots place (omega arith)
    (λ d. compared (get_or slots place d) (get_or slots (parent place) d) _ _ true
    (get_or_read slots place _ l c.index.ensures d)
    (get_or_read slots (parent place) _ m c.index-then-place-gt0.ensures d)
    c.if-comes_before.ensures)
    c.requires.heap

pub returns-then-comes_before-clause-clear : goal.returns-then-comes_before-clause-clear
returns-then-comes_before-clause-clear c handle clear =
    clear_path handle c.args.self.now.slots.items c.sift_up.new.self.slots.items c.args.place
    (length_moved _ _ _ _ c.sift_up.ensures.moved) c.sift_up.ensures.path clear

pub returns-clause-clear : goal.returns-clause-clear
returns-clause-clear c handle clear =
    clear_later handle c.sift_down.new.self.slots.items c.args.place
    (c.sift_down.ensures.clear handle clear)
