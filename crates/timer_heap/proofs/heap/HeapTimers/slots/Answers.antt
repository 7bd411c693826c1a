use Rattle.std.proofs.Common.{◌≡◌, ap, sym, ◌∙◌, subst, List}
use Rattle.std.proofs.lemmas.List.Sorted.{IsPermutation-sym}
use Rattle.std.specs.List.Sorted.{IsPermutation}
use Rattle.timer_queue.specs.declared.timer.Timer.{Timer}
use Rattle.timer_queue.specs.Timers.{in_order}
use Rattle.timer_queue.proofs.Members.{permutation_in_order}
use Rattle.timer_heap.proofs.heap.HeapTimers.slots.Goals as goal

pub returns-clause-content : goal.returns-clause-content
returns-clause-content c =
    let slots : List Timer = c.args.self.now.slots in
    let same : c.deref.result.now ≡ slots =
    c.deref.ensures.value ∙ ap (λ q. q.slots) c.self.view_is in
    subst (λ s. IsPermutation (in_order slots) s) (sym same)
    (IsPermutation-sym slots (in_order slots) (permutation_in_order slots))
