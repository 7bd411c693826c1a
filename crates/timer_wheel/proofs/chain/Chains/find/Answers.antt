use Rattle.std.proofs.Common.{◌≡◌, ◌<◌, Some, None, length, refl, ap, sym, ◌∙◌, arith}
use Rattle.std.proofs.lemmas.List.{get_or_read}
use Rattle.std.proofs.lemmas.Option.{slice_get-get_or, slice_get_past}
use Rattle.std.specs.List.{slice_get}
use Rattle.timer_index.specs.declared.index.Numbered.{Numbered}
use Rattle.timer_queue.specs.declared.timer.Timer.{Timer}
use Rattle.timer_wheel.proofs.Hints.{Found}
use Rattle.timer_wheel.proofs.Steps.{never_ends}
use Rattle.timer_wheel.proofs.Kept.{sought_found, not_nowhere, timer_is}
use Rattle.timer_wheel.proofs.chain.Chains.find.Goals as goal

pub returns-in_default-clause-none : goal.returns-in_default-clause-none
returns-in_default-clause-none c t has same =
    let heads = c.args.self.now.heads.items in
    let places = c.args.self.now.places.items in
    let n : c.len.result ≡ length heads = omega arith in
    let l : c.spoke-spoke.result < length heads = rw n at c.spoke-spoke.ensures.within in
    let f : Found (length heads) c.args.self.now.resolution heads places t c.spoke-spoke.result
    c.gap_of-gap.result.last c.gap_of-gap.result.at =
    sought_found (length heads) c.args.self.now.resolution heads places c.args.entry t
    c.spoke-spoke.result c.len-2.result c.index-head.result.now c.start_for-start.result _ _
    c.requires.apart c.requires.chains refl (rw n at c.spoke-spoke.ensures.is) l
    (get_or_read heads c.spoke-spoke.result _ l c.index-head.ensures None)
    (rw c.deref.ensures.value at c.gap_of-gap.ensures) c.start_for-start.ensures has same in
    never_ends f.place c.gap_of-gap.result.at f.at_place c.in_default.is

pub returns-in_default-get-clause-none : goal.returns-in_default-get-clause-none
returns-in_default-get-clause-none c t has same =
    let heads = c.args.self.now.heads.items in
    let places = c.args.self.now.places.items in
    let n : c.len.result ≡ length heads = omega arith in
    let l : c.spoke-spoke.result < length heads = rw n at c.spoke-spoke.ensures.within in
    let f : Found (length heads) c.args.self.now.resolution heads places t c.spoke-spoke.result
    c.gap_of-gap.result.last c.gap_of-gap.result.at =
    sought_found (length heads) c.args.self.now.resolution heads places c.args.entry t
    c.spoke-spoke.result c.len-2.result c.index-head.result.now c.start_for-start.result _ _
    c.requires.apart c.requires.chains refl (rw n at c.spoke-spoke.ensures.is) l
    (get_or_read heads c.spoke-spoke.result _ l c.index-head.ensures None)
    (rw c.deref.ensures.value at c.gap_of-gap.ensures) c.start_for-start.ensures has same in
    not_nowhere (length heads) c.args.self.now.resolution heads places t c.spoke-spoke.result
    c.gap_of-gap.result.last c.gap_of-gap.result.at f c.in-Some.k c.in-Some.is
    (slice_get_past places c.in-Some.k
    (rw c.deref-2.ensures.value at c.in_default-get.ensures.lookup.3))

pub returns-else-place-entry-clause-none : goal.returns-else-place-entry-clause-none
returns-else-place-entry-clause-none c t has same =
    let heads = c.args.self.now.heads.items in
    let places = c.args.self.now.places.items in
    let n : c.len.result ≡ length heads = omega arith in
    let l : c.spoke-spoke.result < length heads = rw n at c.spoke-spoke.ensures.within in
    let f : Found (length heads) c.args.self.now.resolution heads places t c.spoke-spoke.result
    c.gap_of-gap.result.last c.gap_of-gap.result.at =
    sought_found (length heads) c.args.self.now.resolution heads places c.args.entry t
    c.spoke-spoke.result c.len-2.result c.index-head.result.now c.start_for-start.result _ _
    c.requires.apart c.requires.chains refl (rw n at c.spoke-spoke.ensures.is) l
    (get_or_read heads c.spoke-spoke.result _ l c.index-head.ensures None)
    (rw c.deref.ensures.value at c.gap_of-gap.ensures) c.start_for-start.ensures has same in
    let read = rw c.deref-2.ensures.value at c.in-Some-get.ensures.lookup.3 in
    let stands : slice_get places c.in-Some.k ≡ Some c.in-Some-get.place.now =
    slice_get-get_or places c.in-Some.k c.in-Some-get.place.now read.0
    ∙ ap Some (sym (read.1 c.in-Some-get.place.now)) in
    let is : c.in-Some-get.place.now.timer ≡ t =
    timer_is (length heads) c.args.self.now.resolution heads places t c.spoke-spoke.result
    c.gap_of-gap.result.last c.gap_of-gap.result.at f c.in-Some.k c.in-Some-get.place.now
    c.in-Some.is stands in
    c.if-place-entry.false (ap (λ (x : Timer). x.timer) is ∙ ap (λ (x : Numbered). x.timer) same)
