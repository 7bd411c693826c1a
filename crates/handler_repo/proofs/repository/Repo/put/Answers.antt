use Rattle.std.proofs.Common.{arith, ◌≡◌, ◌+◌, ◌-◌, ap, ◌∙◌, subst, None}
use Rattle.std.specs.Vec.{vec_capacity}
use Rattle.handler_repo.specs.declared.seat.Seat.TheVariants.{Home}
use Rattle.handler_repo.specs.Seats.{seat_of, with_entry}
use Rattle.handler_repo.specs.Index.{IsSound, entries_of}
use Rattle.handler_repo.proofs.Steps.{put_in, sound_put, registered_above}
use Rattle.handler_repo.proofs.repository.Repo.put.Goals as goal

pub invariant_of-self : goal.invariant_of-self
invariant_of-self g c =
    let s = c.self.inside in
    let absent : seat_of c.args.handle.0 (entries_of s.seats s.index.items) ≡ None =
    ap (λ q. seat_of c.args.handle.0 q.entries) c.self.view_is ∙ c.requires.absent in
    let spare : s.spare ≡ c.args.self.now.spare = ap (λ q. q.spare) c.self.view_is in
    let sound : IsSound s.seats s.index.items (vec_capacity s.index) (s.spare - 1 + 1) =
    subst (IsSound s.seats s.index.items (vec_capacity s.index)) (omega arith) c.self.invariant
    in
    rw c.in-Ok.ensures.items
    (sound_put s.seats c.insert_reserved-key.new.self s.index.items c.first_from-place.result
    (vec_capacity s.index) (vec_capacity c.insert.new.self) (s.spare - 1)
    (record { handle = c.args.handle; key = c.insert_reserved-key.result }) c.kept.result
    sound (omega (arith, c.in-Ok.ensures.capacity))
    (rw c.deref.ensures.value at c.first_from-place.ensures.bound)
    ((rw c.deref.ensures.value at c.first_from-place.ensures.below) c.self.invariant.rising)
    (registered_above s.seats s.index.items c.args.handle.0 c.first_from-place.result
    c.self.invariant.rising absent ((rw c.deref.ensures.value at
    c.first_from-place.ensures.above) c.self.invariant.rising))
    c.insert_reserved-key.ensures.was_vacant c.insert_reserved-key.ensures.updates
    c.insert_reserved-key.ensures.len c.insert_reserved-key.ensures.capacity)

pub returns-clause-entries : goal.returns-clause-entries
returns-clause-entries g c =
    let s = c.self.inside in
    let absent : seat_of c.args.handle.0 (entries_of s.seats s.index.items) ≡ None =
    ap (λ q. seat_of c.args.handle.0 q.entries) c.self.view_is ∙ c.requires.absent in
    ap (λ xs. entries_of c.insert_reserved-key.new.self xs) c.in-Ok.ensures.items
    ∙ put_in s.seats c.insert_reserved-key.new.self s.index.items c.first_from-place.result
    (record { handle = c.args.handle; key = c.insert_reserved-key.result }) c.kept.result
    c.self.invariant.present (rw c.deref.ensures.value at c.first_from-place.ensures.bound)
    ((rw c.deref.ensures.value at c.first_from-place.ensures.below) c.self.invariant.rising)
    (registered_above s.seats s.index.items c.args.handle.0 c.first_from-place.result
    c.self.invariant.rising absent ((rw c.deref.ensures.value at
    c.first_from-place.ensures.above) c.self.invariant.rising))
    c.insert_reserved-key.ensures.was_vacant c.insert_reserved-key.ensures.updates
    ∙ ap (λ seat. with_entry (record { handle = c.args.handle.0; seat = seat })
    (entries_of s.seats s.index.items)) c.kept.ensures
    ∙ ap (λ q. with_entry (record { handle = c.args.handle.0; seat = Home c.args.h }) q.entries)
    c.self.view_is
