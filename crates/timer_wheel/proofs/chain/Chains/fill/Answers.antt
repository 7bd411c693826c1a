use Rattle.std.proofs.Common.{◌≡◌, ◌<◌, ◌-◌, length, get_or, take, Some, None, refl, ap, sym, ◌∙◌}
use Rattle.std.proofs.Common.{arith, subst}
use Rattle.std.proofs.lemmas.List.{get_or_read}
use Rattle.std.proofs.lemmas.Option.{slice_get-get_or}
use Rattle.std.specs.List.{slice_get, swap_remove}
use Rattle.timer_queue.proofs.Schedules.{schedule_filtered}
use Rattle.timer_queue.proofs.Members.{among_from}
use Rattle.timer_wheel.specs.declared.place.Place.{Place}
use Rattle.timer_wheel.specs.Spokes.{spoke_of, of_spoke}
use Rattle.timer_wheel.specs.Chains.{AreChains, IsGap, IsStart, linked_heads}
use Rattle.timer_wheel.proofs.Steps.{short_part, chains_same, chains_popped, chains_filled}
use Rattle.timer_wheel.proofs.Steps.{length-linked_heads}
use Rattle.timer_wheel.proofs.Steps.{permutation_popped, permutation_filled}
use Rattle.timer_wheel.proofs.Hints.{start_in_spoke}
use Rattle.timer_wheel.proofs.Forward.{forward_popped, forward_filled}
use Rattle.timer_wheel.proofs.chain.Chains.fill.Goals as goal

popped : (c : goal.After-pop) → c.pop.new.self.items
    ≡ take (length c.args.self.now.places.items - 1) c.args.self.now.places.items
popped c =
    let n : c.len-last.result ≡ length c.args.self.now.places.items = omega arith in
    c.pop.ensures.rest ∙ ap (λ m. take (m - 1) c.args.self.now.places.items) (sym
    c.len-last.ensures ∙ n)

pub returns-then-hole-last-clause-chains : goal.returns-then-hole-last-clause-chains
returns-then-hole-last-clause-chains c = λ timers sched all few chains.
    chains_popped (length c.args.self.now.heads.items) c.args.self.now.resolution
    c.args.self.now.heads.items
    c.args.self.now.places.items c.args.hole timers sched all chains c.pop.new.self.items (popped c)
    (omega arith)

pub returns-then-hole-last-clause-timers : goal.returns-then-hole-last-clause-timers
returns-then-hole-last-clause-timers c = λ p e.
    let last : c.args.hole ≡ length c.args.self.now.places.items - 1 = omega arith in
    permutation_popped c.args.self.now.places.items c.pop.new.self.items p (popped c)
    (ap (slice_get c.args.self.now.places.items) (sym last) ∙ e)

pub returns-clause-chains : goal.returns-clause-chains
returns-clause-chains c = λ timers sched all few chains.
    let heads = c.args.self.now.heads.items in
    let places = c.args.self.now.places.items in
    let s = c.spoke-spoke.result in
    let p : Place = c.index.result.now in
    let last : c.len-last.result - 1 ≡ length places - 1 = omega arith in
    let here : slice_get places (length places - 1) ≡ Some p =
    slice_get-get_or places (length places - 1) p (omega (arith, c.requires.within))
    ∙ ap Some (sym (rw last at c.index.ensures)) in
    let n : c.len.result ≡ length heads = omega arith in
    let is : s ≡ spoke_of (length heads) c.args.self.now.resolution p.timer.deadline =
    rw n at c.spoke-spoke.ensures.is in
    let l : s < length heads = rw n at c.spoke-spoke.ensures.within in
    let head : c.index-head.result.now ≡ get_or heads s None =
    get_or_read heads s _ l c.index-head.ensures None in
    let start : IsStart places (of_spoke (length heads) c.args.self.now.resolution s timers) p.timer
    c.start_for-start.result =
    start_in_spoke (length heads) c.args.self.now.resolution s c.args.hole places timers p.timer
    c.start_for-start.result is c.start_for-start.ensures
    (λ k q ne e. among_from q.timer timers (all.others k q ne e)) in
    let gap : IsGap places (get_or heads s None) p.timer
    (of_spoke (length heads) c.args.self.now.resolution s timers) c.gap_of-gap.result.last
    c.gap_of-gap.result.at =
    rw head at (rw c.deref.ensures.value at c.gap_of-gap.ensures)
    (of_spoke (length heads) c.args.self.now.resolution s timers) (chains s l)
    (short_part (length heads) c.args.self.now.resolution s timers (length places) few)
    (schedule_filtered _ timers sched).rising start in
    let many : length c.link.new.self.heads.items ≡ length heads = ap length c.link.ensures.heads
    ∙ length-linked_heads heads s c.gap_of-gap.result.last (Some c.args.hole) in
    subst (λ r. AreChains (length c.link.new.self.heads.items) r c.link.new.self.heads.items
    c.swap_remove.new.self.items timers) (sym c.link.ensures.ticks)
    (chains_same (length heads) (length c.link.new.self.heads.items) c.args.self.now.resolution
    (linked_heads heads s c.gap_of-gap.result.last (Some c.args.hole)) c.link.new.self.heads.items
    c.swap_remove.new.self.items c.swap_remove.new.self.items timers many c.link.ensures.heads
    refl
    (chains_filled (length heads) c.args.self.now.resolution heads places c.args.hole timers sched
    all chains c.swap_remove.new.self.items s c.gap_of-gap.result.last c.gap_of-gap.result.at p
    c.swap_remove.result c.requires.apart here (omega arith) is l gap
    (c.swap_remove.ensures.items ∙ ap (λ ps. swap_remove ps c.args.hole c.swap_remove.result)
    c.link.ensures.places)))

pub returns-clause-timers : goal.returns-clause-timers
returns-clause-timers c = λ p e.
    permutation_filled c.args.self.now.places.items c.swap_remove.new.self.items
    c.gap_of-gap.result.last
    (Some c.args.hole) c.args.hole p c.swap_remove.result
    (c.swap_remove.ensures.value ∙ ap (λ ps. get_or ps c.args.hole c.swap_remove.result)
    c.link.ensures.places)
    (c.swap_remove.ensures.items ∙ ap (λ ps. swap_remove ps c.args.hole c.swap_remove.result)
    c.link.ensures.places) e

pub returns-then-hole-last-clause-forward : goal.returns-then-hole-last-clause-forward
returns-then-hole-last-clause-forward c =
    forward_popped c.args.self.now.places.items c.pop.new.self.items (popped c)

pub returns-clause-forward : goal.returns-clause-forward
returns-clause-forward c =
    forward_filled c.args.self.now.places.items c.swap_remove.new.self.items
    c.gap_of-gap.result.last
    (Some c.args.hole) c.args.hole c.swap_remove.result (omega (arith, c.requires.within))
    (c.swap_remove.ensures.items ∙ ap (λ ps. swap_remove ps c.args.hole c.swap_remove.result)
    c.link.ensures.places)
