use Rattle.std.proofs.Common.{◌≡◌, ◌<◌, ◌∷◌, ◌==◌, not, ℕ, List, length, get_or, Option, Some, None}
use Rattle.std.proofs.Common.{ap, sym, ◌∙◌, subst, arith, refl}
use Rattle.std.proofs.lemmas.List.{get_or_read}
use Rattle.std.proofs.lemmas.Option.{slice_get-get_or, slice_get_within, get_or_from_slice_get}
use Rattle.std.specs.List.{slice_get}
use Rattle.std.specs.List.Sorted.{IsPermutation}
use Rattle.timer_queue.specs.declared.timer.Timer.{Timer}
use Rattle.timer_queue.specs.Timers.{in_order, AreApart, without_timer}
use Rattle.timer_queue.proofs.Schedules.{schedule_filtered}
use Rattle.timer_wheel.specs.declared.place.Place.{Place}
use Rattle.timer_wheel.specs.Spokes.{timers_of, of_spoke}
use Rattle.timer_wheel.specs.Chains.{ComesForward, IsGap, linked_heads, linked_places, AreChains}
use Rattle.timer_wheel.specs.Chains.{HasAllBut}
use Rattle.timer_wheel.proofs.Changes.{timers-linked, chains_removed}
use Rattle.timer_wheel.proofs.Steps.{same_place, never_ends, length-linked_heads, chains_same}
use Rattle.timer_wheel.proofs.Steps.{all_but, length-linked, linked_before, short_rest}
use Rattle.timer_wheel.proofs.Hints.{Found, found_by}
use Rattle.timer_wheel.proofs.Forward.{forward_linked, forward_trans}
use Rattle.timer_wheel.proofs.chain.Chains.take_out.Goals as goal

pub unreachable-requires : goal.unreachable-requires
unreachable-requires c =
    let heads = c.args.self.now.heads.items in
    let n : c.len.result ≡ length heads = omega arith in
    let l : c.spoke-spoke.result < length heads = rw n at c.spoke-spoke.ensures.within in
    let f : Found (length heads) c.args.self.now.resolution heads c.args.self.now.places.items
    c.args.t
    c.spoke-spoke.result c.gap_of-gap.result.last c.gap_of-gap.result.at =
    found_by (length heads) c.args.self.now.resolution heads c.args.self.now.places.items c.args.t
    c.spoke-spoke.result c.len-2.result c.index-head.result.now c.start_for-start.result _ _
    c.requires.chains.apart c.requires.there c.requires.chains.chains refl (rw n at
    c.spoke-spoke.ensures.is)
    l
    (get_or_read heads c.spoke-spoke.result _ l c.index-head.ensures None)
    (rw c.deref.ensures.value at c.gap_of-gap.ensures)
    c.start_for-start.ensures in
    never_ends f.place c.gap_of-gap.result.at f.at_place c.in_default.is

found_filled : (c : goal.After-fill)
    → Found (length c.args.self.now.heads.items) c.args.self.now.resolution
    c.args.self.now.heads.items
    c.args.self.now.places.items c.args.t c.spoke-spoke.result c.gap_of-gap.result.last
    c.gap_of-gap.result.at
found_filled c =
    let heads = c.args.self.now.heads.items in
    let n : c.len.result ≡ length heads = omega arith in
    let l : c.spoke-spoke.result < length heads = rw n at c.spoke-spoke.ensures.within in
    found_by (length heads) c.args.self.now.resolution heads c.args.self.now.places.items c.args.t
    c.spoke-spoke.result c.len-2.result c.index-head.result.now c.start_for-start.result _ _
    c.requires.chains.apart c.requires.there c.requires.chains.chains refl (rw n at
    c.spoke-spoke.ensures.is)
    l
    (get_or_read heads c.spoke-spoke.result _ l c.index-head.ensures None)
    (rw c.deref.ensures.value at c.gap_of-gap.ensures)
    c.start_for-start.ensures

-- the place that the way ends at
place_there : (places : List Place) (place k : ℕ) (at : Option ℕ) (p : Place) → at ≡ Some place
    → at ≡ Some k → slice_get places k ≡ Some p → slice_get places place ≡ Some p
place_there places place k at p a b e = ap (slice_get places) (same_place place k at a b) ∙ e

pub index-requires : goal.index-requires
index-requires c =
    let heads = c.args.self.now.heads.items in
    let n : c.len.result ≡ length heads = omega arith in
    let l : c.spoke-spoke.result < length heads = rw n at c.spoke-spoke.ensures.within in
    let f =
    found_by (length heads) c.args.self.now.resolution heads c.args.self.now.places.items c.args.t
    c.spoke-spoke.result c.len-2.result c.index-head.result.now c.start_for-start.result _ _
    c.requires.chains.apart c.requires.there c.requires.chains.chains refl (rw n at
    c.spoke-spoke.ensures.is)
    l
    (get_or_read heads c.spoke-spoke.result _ l c.index-head.ensures None)
    (rw c.deref.ensures.value at c.gap_of-gap.ensures)
    c.start_for-start.ensures in
    omega (
      arith,
      slice_get_within c.args.self.now.places.items c.in-Some.place f.found
          (place_there c.args.self.now.places.items c.in-Some.place f.place c.gap_of-gap.result.at
          f.found
          c.in-Some.is f.at_place f.stands),
    )

pub fill-requires-clause-within : goal.fill-requires-clause-within
fill-requires-clause-within c =
    let heads = c.args.self.now.heads.items in
    let n : c.len.result ≡ length heads = omega arith in
    let l : c.spoke-spoke.result < length heads = rw n at c.spoke-spoke.ensures.within in
    let f =
    found_by (length heads) c.args.self.now.resolution heads c.args.self.now.places.items c.args.t
    c.spoke-spoke.result c.len-2.result c.index-head.result.now c.start_for-start.result _ _
    c.requires.chains.apart c.requires.there c.requires.chains.chains refl (rw n at
    c.spoke-spoke.ensures.is)
    l
    (get_or_read heads c.spoke-spoke.result _ l c.index-head.ensures None)
    (rw c.deref.ensures.value at c.gap_of-gap.ensures)
    c.start_for-start.ensures in
    let places = c.args.self.now.places.items in
    let n : length c.link.new.self.places.items ≡ length places =
    ap length c.link.ensures.places ∙ length-linked places c.gap_of-gap.result.last
    c.index.result.now.next in
    omega (
      arith,
      slice_get_within places c.in-Some.place f.found
          (place_there places c.in-Some.place f.place c.gap_of-gap.result.at f.found c.in-Some.is
          f.at_place f.stands),
    )

pub fill-requires-clause-apart : goal.fill-requires-clause-apart
fill-requires-clause-apart c = subst AreApart
    (sym (ap timers_of c.link.ensures.places
    ∙ timers-linked c.args.self.now.places.items c.gap_of-gap.result.last _))
    c.requires.chains.apart

-- what was read at the place
read : (c : goal.After-fill) → (slice_get c.args.self.now.places.items c.in-Some.place
    ≡ Some c.index.result.now) × (c.index.result.now.timer ≡ c.args.t)
read c =
    let f = found_filled c in
    let places = c.args.self.now.places.items in
    let e : slice_get places c.in-Some.place ≡ Some f.found =
    place_there places c.in-Some.place f.place c.gap_of-gap.result.at f.found c.in-Some.is
    f.at_place f.stands in
    let same : c.index.result.now ≡ f.found =
    c.index.ensures ∙ get_or_from_slice_get places c.in-Some.place f.found c.index.result.now e
    in
    (e ∙ ap Some (sym same), ap (λ p. p.timer) same ∙ f.timer)

pub returns-clause-timers : goal.returns-clause-timers
returns-clause-timers c =
    let places = c.args.self.now.places.items in
    let last = c.gap_of-gap.result.last in
    let next = c.index.result.now.next in
    let l : c.in-Some.place < length c.link.new.self.places.items =
    omega (
      arith,
      slice_get_within places c.in-Some.place c.index.result.now (read c).0,
      ap length c.link.ensures.places,
      length-linked places last next,
    ) in
    let x : Place = get_or c.link.new.self.places.items c.in-Some.place c.index.result.now in
    let at : slice_get c.link.new.self.places.items c.in-Some.place ≡ Some x =
    slice_get-get_or c.link.new.self.places.items c.in-Some.place c.index.result.now l in
    let b = linked_before places last next c.in-Some.place x
    (ap (λ ps. slice_get ps c.in-Some.place) (sym c.link.ensures.places) ∙ at) in
    let timer : x.timer ≡ c.args.t = sym b.2
    ∙ ap (λ p. p.timer) (same_some b.0 c.index.result.now (sym b.1 ∙ (read c).0))
    ∙ (read c).1 in
    subst (λ ts. IsPermutation ts (c.args.t ∷ timers_of c.fill.new.self.places.items))
    (ap timers_of c.link.ensures.places ∙ timers-linked places last next)
    (subst (λ t. IsPermutation (timers_of c.link.new.self.places.items)
    (t ∷ timers_of c.fill.new.self.places.items)) timer (c.fill.ensures.timers x at))
  where
    same_some : (y z : Place) → Some y ≡ Some z → y ≡ z
    same_some y z e = cc

pub returns-clause-chains : goal.returns-clause-chains
returns-clause-chains c =
    let f = found_filled c in
    let heads = c.args.self.now.heads.items in
    let places = c.args.self.now.places.items in
    let s = c.spoke-spoke.result in
    let last = c.gap_of-gap.result.last in
    let p = c.index.result.now in
    let timers : List Timer = in_order (timers_of places) in
    let rest : List Timer = without_timer c.args.t.timer timers in
    let removed = chains_removed (length heads) c.args.self.now.resolution heads places timers
    c.args.t s
    last c.in-Some.place p f.sched f.there f.spoke_is f.within
    (subst (λ a. IsGap places (get_or heads s None) c.args.t
    (of_spoke (length heads) c.args.self.now.resolution s timers) last a) c.in-Some.is f.gap) (read
    c).0
    c.requires.chains.chains in
    let n : length c.link.new.self.heads.items ≡ length heads =
    ap length c.link.ensures.heads ∙ length-linked_heads heads s last p.next in
    let m : length c.link.new.self.places.items ≡ length places =
    ap length c.link.ensures.places ∙ length-linked places last p.next in
    let chains : AreChains (length c.link.new.self.heads.items) c.args.self.now.resolution
    c.link.new.self.heads.items
    c.link.new.self.places.items rest =
    chains_same (length heads) (length c.link.new.self.heads.items) c.args.self.now.resolution
    (linked_heads heads s last p.next) c.link.new.self.heads.items (linked_places places last
    p.next)
    c.link.new.self.places.items rest n c.link.ensures.heads c.link.ensures.places removed.1 in
    let all : HasAllBut c.in-Some.place c.link.new.self.places.items rest =
    subst (λ ps. HasAllBut c.in-Some.place ps rest) (sym c.link.ensures.places)
    (all_but places last p.next c.in-Some.place p c.args.t c.requires.chains.apart (read c).0
    (read c).1) in
    c.fill.ensures.chains rest
    (schedule_filtered (λ u. not (u.timer == c.args.t.timer)) timers f.sched) all
    (short_rest c.args.t.timer places c.link.new.self.places.items m)
    (subst (λ r. AreChains (length c.link.new.self.heads.items) r c.link.new.self.heads.items
    c.link.new.self.places.items rest) (sym c.link.ensures.ticks) chains)

pub returns-clause-forward : goal.returns-clause-forward
returns-clause-forward c =
    let places = c.args.self.now.places.items in
    forward_trans places c.link.new.self.places.items c.fill.new.self.places.items
    (subst (λ ps. ComesForward places ps) (sym c.link.ensures.places)
    (forward_linked places c.gap_of-gap.result.last c.index.result.now.next))
    c.fill.ensures.forward
