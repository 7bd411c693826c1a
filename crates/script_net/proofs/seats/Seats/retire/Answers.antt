use Rattle.std.proofs.Common.{◌∙◌, not, map, refl, sym, ap}
use Rattle.std.specs.List.{filter}
use Rattle.ev_base.specs.Playing.{Seat, has_handle}
use Rattle.script_net.specs.Seating.{SeatsContent}
use Rattle.script_net.specs.LatestPlaces.{latest_view}
use Rattle.script_net.proofs.SeatingLemmas.{seats_kept, ends_taken}
use Rattle.script_net.proofs.SeatsKept.{seating_set, read_place}
use Rattle.script_net.proofs.seats.Seats.retire.Goals as goal

pub invariant_of-self : goal.invariant_of-self
invariant_of-self c =
    let i = c.self.inside in
    let at = read_place i.places.items c.deref.result.now c.args.handle.0 c.place_of-at.result
    c.index_mut-place.result.now c.deref.ensures.value c.place_of-at.ensures
    c.index_mut-place.ensures.value in
    seating_set i.places.items (latest_view i.latest) _ c.place_of-at.result
    c.index_mut-place.result.now _ at.there
    (record { end = refl; earlier = refl; handle = refl }) (λ on. at.attached) c.self.invariant

pub returns-clause-end : goal.returns-clause-end
returns-clause-end c =
    let i = c.self.inside in
    let at = read_place i.places.items c.deref.result.now c.args.handle.0 c.place_of-at.result
    c.index_mut-place.result.now c.deref.ensures.value c.place_of-at.ensures
    c.index_mut-place.ensures.value in
    ap (λ (s : SeatsContent). map (λ (x : Seat). x.end)
    (filter (has_handle c.args.handle.0) s.seats)) (sym c.self.view_is)
    ∙ ends_taken c.args.handle.0 i.places.items c.place_of-at.result c.self.invariant.once at

pub returns-clause-seats : goal.returns-clause-seats
returns-clause-seats c =
    let i = c.self.inside in
    let at = read_place i.places.items c.deref.result.now c.args.handle.0 c.place_of-at.result
    c.index_mut-place.result.now c.deref.ensures.value c.place_of-at.ensures
    c.index_mut-place.ensures.value in
    seats_kept c.args.handle.0 i.places.items c.place_of-at.result c.self.invariant.once at
    ∙ ap (λ (s : SeatsContent). filter (λ (x : Seat). not (has_handle c.args.handle.0 x))
    s.seats) c.self.view_is
