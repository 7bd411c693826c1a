use Rattle.std.proofs.Common.{◌≡◌, ◌-◌, ◌∙◌, ap, sym, subst, arith, List, [], ◌∷◌, ◌+◌, length}
use Rattle.std.proofs.Common.{take}
use Rattle.std.proofs.lemmas.List.{length_push, take_at}
use Rattle.std.proofs.lemmas.List.Edits.{length-swap}
use Rattle.std.proofs.lemmas.List.Sorted.{IsPermutation-swap}
use Rattle.std.specs.List.{swap}
use Rattle.timer_queue.specs.declared.timer.Timer.{Timer}
use Rattle.timer_heap.specs.Tree.{IsHeapAround}
use Rattle.timer_heap.proofs.Removals.{cut, around_cut, permutation_popped, pairs_cut}
use Rattle.timer_heap.proofs.Clear.{clear_cut}
use Rattle.timer_heap.proofs.tree.Tree.replace_by_last.Goals as goal

last : (c : goal.In-Some) → c.len-last.result - 1 ≡ length c.args.self.now.slots.items - 1
last c = omega arith

rest : (c : goal.In-Some) → c.pop.new.self.items
    ≡ cut c.args.self.now.slots.items c.args.place c.requires.within
rest c =
    let slots : List Timer = c.args.self.now.slots.items in
    let swapped : c.exchange.new.self.slots.items ≡ swap slots c.args.place (length slots - 1) =
    c.exchange.ensures.slots ∙ ap (swap slots c.args.place) (last c) in
    let n : length c.exchange.new.self.slots.items ≡ length slots =
    ap length c.exchange.ensures.slots
    ∙ length-swap slots c.args.place (c.len-last.result - 1) in
    let m : length c.exchange.new.self.slots.items ≡ length c.pop.new.self.items + 1 =
    ap length c.in-Some.ensures.items ∙ length_push c.pop.new.self.items c.in-Some.t in
    sym (ap (take (length slots - 1)) (sym swapped ∙ c.in-Some.ensures.items)
    ∙ take_at c.pop.new.self.items (c.in-Some.t ∷ []) (length slots - 1) (omega arith))

pub returns-clause-slots : goal.returns-clause-slots
returns-clause-slots c =
    let slots : List Timer = c.args.self.now.slots.items in
    permutation_popped slots c.exchange.new.self.slots.items c.pop.new.self.items c.in-Some.t
    (IsPermutation-swap slots c.exchange.new.self.slots.items c.args.place (c.len-last.result - 1)
    c.requires.within (omega arith) c.exchange.ensures.slots) c.in-Some.ensures.items

pub returns-clause-heap : goal.returns-clause-heap
returns-clause-heap c = subst (λ s. IsHeapAround s c.args.place) (sym (rest c))
    (around_cut c.args.self.now.slots.items c.args.place c.requires.within c.requires.heap)

pub returns-clause-pairs : goal.returns-clause-pairs
returns-clause-pairs c =
    pairs_cut c.args.self.now.slots.items c.pop.new.self.items c.args.self.now.keys.items
    c.exchange.new.self.keys.items c.args.place c.requires.within (rest c)
    (c.exchange.ensures.keys ∙ ap (swap c.args.self.now.keys.items c.args.place) (last c))
    c.requires.keyed.fits

pub returns-clause-clear : goal.returns-clause-clear
returns-clause-clear c handle clear =
    clear_cut handle c.args.self.now.slots.items c.pop.new.self.items c.args.place c.requires.within
    (rest c) clear
