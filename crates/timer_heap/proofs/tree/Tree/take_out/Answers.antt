use Rattle.std.proofs.lemmas.List.Sorted.{IsPermutation-trans, IsPermutation-cons}
use Rattle.std.proofs.Common.{◌∷◌}
use Rattle.timer_queue.proofs.Contents.{apart_removed}
use Rattle.timer_heap.proofs.Removals.{pairs_then}
use Rattle.timer_heap.proofs.tree.Tree.take_out.Goals as goal

pub settle-requires-clause-apart : goal.settle-requires-clause-apart
settle-requires-clause-apart c = apart_removed c.replace_by_last-t.result
    c.args.self.now.slots.items c.replace_by_last-t.new.self.slots.items c.requires.apart
    c.replace_by_last-t.ensures.slots

pub returns-clause-slots : goal.returns-clause-slots
returns-clause-slots c =
    let t = c.replace_by_last-t.result in
    let mid = c.replace_by_last-t.new.self.slots.items in
    let new = c.settle.new.self.slots.items in
    IsPermutation-trans c.args.self.now.slots.items (t ∷ mid) (t ∷ new)
    c.replace_by_last-t.ensures.slots (IsPermutation-cons t mid new
    c.settle.ensures.moved.slots)

pub returns-clause-pairs : goal.returns-clause-pairs
returns-clause-pairs c = pairs_then _ _ _ _ _ _ c.replace_by_last-t.ensures.pairs
    c.settle.ensures.moved.pairs

pub returns-clause-clear : goal.returns-clause-clear
returns-clause-clear c handle clear =
    c.settle.ensures.clear handle (c.replace_by_last-t.ensures.clear handle clear)
