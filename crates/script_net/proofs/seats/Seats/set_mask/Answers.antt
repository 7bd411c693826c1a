use Rattle.std.proofs.Common.{◌∙◌, map, refl, ap}
use Rattle.std.proofs.lemmas.List.{length-set}
use Rattle.ev_base.specs.Playing.{masked}
use Rattle.script_net.specs.Seating.{SeatsContent}
use Rattle.script_net.specs.LatestPlaces.{latest_view}
use Rattle.script_net.proofs.SeatingLemmas.{seats_masked}
use Rattle.script_net.proofs.SeatsKept.{same_content, seating_set, read_place}
use Rattle.script_net.proofs.seats.Seats.set_mask.Goals as goal

pub invariant_of-self : goal.invariant_of-self
invariant_of-self c =
    let i = c.self.inside in
    let at = read_place i.places.items c.deref.result.now c.args.handle.0 c.place_of-at.result
    c.index_mut-place.result.now c.deref.ensures.value c.place_of-at.ensures
    c.index_mut-place.ensures.value in
    seating_set i.places.items (latest_view i.latest) _ c.place_of-at.result
    c.index_mut-place.result.now _ at.there
    (record { end = refl; earlier = refl; handle = refl }) (λ on. on) c.self.invariant

pub returns : goal.returns
returns c =
    let i = c.self.inside in
    let at = read_place i.places.items c.deref.result.now c.args.handle.0 c.place_of-at.result
    c.index_mut-place.result.now c.deref.ensures.value c.place_of-at.ensures
    c.index_mut-place.ensures.value in
    same_content _ _
    (seats_masked c.args.handle.0 c.args.mask i.places.items c.place_of-at.result
    c.self.invariant.once at ∙ ap (λ (s : SeatsContent).
    map (masked c.args.handle.0 c.args.mask) s.seats) c.self.view_is)
    (ap (λ (s : SeatsContent). s.marks) c.self.view_is)
    (length-set i.places.items c.place_of-at.result _
    ∙ ap (λ (s : SeatsContent). s.made) c.self.view_is)
    (ap (λ (s : SeatsContent). s.room) c.self.view_is)
