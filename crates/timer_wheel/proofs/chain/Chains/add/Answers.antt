use Rattle.std.proofs.Common.{◌≡◌, ◌<◌, ◌++◌, ◌∷◌, [], List, length, get_or, Some, None, ap, ◌∙◌}
use Rattle.std.proofs.Common.{arith, sym, subst}
use Rattle.std.proofs.lemmas.List.{map-append, get_or_read}
use Rattle.timer_queue.specs.declared.timer.Timer.{Timer}
use Rattle.timer_queue.specs.Timers.{in_order, with_timer, IsSchedule}
use Rattle.timer_queue.proofs.Schedules.{schedule_filtered}
use Rattle.timer_queue.proofs.Members.{members_in_order, schedule_in_order}
use Rattle.timer_wheel.specs.declared.place.Place.{Place}
use Rattle.timer_wheel.specs.Spokes.{spoke_of, of_spoke, timers_of, Follows}
use Rattle.timer_wheel.specs.Chains.{AreChains, IsGap, IsStart, linked_heads, linked_places}
use Rattle.timer_wheel.proofs.Changes.{timers-linked, chains_added}
use Rattle.timer_wheel.proofs.Steps.{among_places, short_chain, length-linked_heads, chains_same}
use Rattle.timer_wheel.proofs.Steps.{unscheduled}
use Rattle.timer_wheel.proofs.Hints.{start_in_spoke}
use Rattle.timer_wheel.proofs.chain.Chains.add.Goals as goal

pub returns-clause-timers : goal.returns-clause-timers
returns-clause-timers c =
    let added : Place = record { timer = c.args.t; next = c.gap_of-gap.result.at } in
    ap timers_of c.link.ensures.places
    ∙ timers-linked c.push_reserved.new.self.items c.gap_of-gap.result.last _
    ∙ ap timers_of c.push_reserved.ensures.items
    ∙ map-append (λ (p : Place). p.timer) c.args.self.now.places.items (added ∷ [])

pub returns-clause-chains : goal.returns-clause-chains
returns-clause-chains c =
    let heads = c.args.self.now.heads.items in
    let places = c.args.self.now.places.items in
    let s = c.spoke-spoke.result in
    let timers : List Timer = in_order (timers_of places) in
    let sched : IsSchedule timers = schedule_in_order (timers_of places) c.requires.chains.apart in
    let n : c.len.result ≡ length heads = omega arith in
    let is : s ≡ spoke_of (length heads) c.args.self.now.resolution c.args.t.deadline =
    rw n at c.spoke-spoke.ensures.is in
    let l : s < length heads = rw n at c.spoke-spoke.ensures.within in
    let head : c.index-head.result.now ≡ get_or heads s None =
    get_or_read heads s _ l c.index-head.ensures None in
    let chain : Follows places (get_or heads s None)
    (of_spoke (length heads) c.args.self.now.resolution s timers) = c.requires.chains.chains s l in
    let start : IsStart places (of_spoke (length heads) c.args.self.now.resolution s timers)
    c.args.t
    c.start_for-start.result =
    start_in_spoke (length heads) c.args.self.now.resolution s c.len-place.result places timers
    c.args.t
    c.start_for-start.result is c.start_for-start.ensures
    (λ k p ne e. (members_in_order (timers_of places)).there p.timer (among_places places k p e)) in
    let gap : IsGap places (get_or heads s None) c.args.t
    (of_spoke (length heads) c.args.self.now.resolution s timers) c.gap_of-gap.result.last
    c.gap_of-gap.result.at =
    rw head at (rw c.deref.ensures.value at c.gap_of-gap.ensures)
    (of_spoke (length heads) c.args.self.now.resolution s timers) chain
    (short_chain (length heads) c.args.self.now.resolution s places)
    (schedule_filtered _ timers sched).rising start in
    let m : c.len-place.result ≡ length places = omega arith in
    let new_heads : c.link.new.self.heads.items
    ≡ linked_heads heads s c.gap_of-gap.result.last (Some (length places)) =
    c.link.ensures.heads ∙ ap (λ i. linked_heads heads s c.gap_of-gap.result.last (Some i)) m in
    let new_places : c.link.new.self.places.items
    ≡ linked_places (places ++ record { timer = c.args.t; next = c.gap_of-gap.result.at } ∷ [])
    c.gap_of-gap.result.last (Some (length places)) =
    c.link.ensures.places ∙ ap (λ ps. linked_places ps c.gap_of-gap.result.last
    (Some c.len-place.result)) c.push_reserved.ensures.items
    ∙ ap (λ i. linked_places (places ++ record {
      timer = c.args.t;
      next = c.gap_of-gap.result.at;
    } ∷ []) c.gap_of-gap.result.last (Some i)) m in
    subst (λ r. AreChains (length c.link.new.self.heads.items) r c.link.new.self.heads.items
    c.link.new.self.places.items (with_timer c.args.t timers)) (sym c.link.ensures.ticks)
    (chains_same (length heads) (length c.link.new.self.heads.items) c.args.self.now.resolution _ _
    _ _ _
    (ap length new_heads ∙ length-linked_heads heads s c.gap_of-gap.result.last
    (Some (length places))) new_heads new_places
    (chains_added (length heads) c.args.self.now.resolution heads places timers c.args.t s
    c.gap_of-gap.result.last c.gap_of-gap.result.at sched
    (unscheduled c.args.t.timer (timers_of places) c.requires.fresh) is l gap
    c.requires.chains.chains))
