use Rattle.std.proofs.Common.{◌≡◌, ◌<◌, length, ap, sym, ◌∙◌, arith}
use Rattle.std.specs.List.{HoldsAt}
use Rattle.std.specs.Mem.{manually_drop_value}
use Rattle.std.specs.Option.{option_map}
use Rattle.std.specs.Vec.{vec_capacity}
use Rattle.handler_repo.specs.declared.index.Registered.{Registered}
use Rattle.handler_repo.specs.Index.{seat_at, entries_of}
use Rattle.handler_repo.specs.Seats.{seat_of, without_handle}
use Rattle.handler_repo.proofs.Steps.{never_absent, is_out, not_home, sound_out, taken_out}
use Rattle.handler_repo.proofs.repository.Repo.drop_out.Goals as goal

pub unreachable-requires : goal.unreachable-requires
unreachable-requires g c =
    never_absent c.self.inside.seats c.self.inside.index.items c.args.handle.0
    ((rw c.deref.ensures.value at c.in_default.ensures) c.self.invariant.rising)
    (ap (λ q. seat_of c.args.handle.0 q.entries) c.self.view_is ∙ c.requires)

pub unreachable-requires-in-Home : goal.unreachable-requires-in-Home
unreachable-requires-in-Home g c =
    let s = c.self.inside in
    let at : (c.in-Some.place < length s.index.items)
    × HoldsAt (λ (r : Registered). r.handle.0 ≡ c.args.handle.0) s.index.items c.in-Some.place =
    rw c.deref.ensures.value at c.in-Some.ensures in
    not_home c.in-Home._h (manually_drop_value c.remove.result)
    (sym c.into_inner.ensures ∙ c.in-Home.is)
    (is_out s.seats s.index.items c.args.handle.0 c.in-Some.place c.remove-registered.result
    (manually_drop_value c.remove.result) c.self.invariant.rising at.0 at.1
    (ap (λ (r : Registered). seat_at s.seats r.key) (sym c.remove-registered.ensures.value)
    ∙ ap (option_map manually_drop_value) c.remove.ensures.value)
    (ap (λ q. seat_of c.args.handle.0 q.entries) c.self.view_is ∙ c.requires))

pub invariant_of-self : goal.invariant_of-self
invariant_of-self g c =
    let s = c.self.inside in
    let at : (c.in-Some.place < length s.index.items)
    × HoldsAt (λ (r : Registered). r.handle.0 ≡ c.args.handle.0) s.index.items c.in-Some.place =
    rw c.deref.ensures.value at c.in-Some.ensures in
    rw c.remove-registered.ensures.items
    (sound_out s.seats c.remove.new.self s.index.items c.in-Some.place (vec_capacity s.index)
    (vec_capacity c.remove-registered.new.self) s.spare c.remove-registered.result
    c.self.invariant (omega (arith, c.remove-registered.ensures.capacity)) at.0
    (rw (sym c.remove-registered.ensures.value) c.remove.ensures.updates) c.remove.ensures.len
    c.remove.ensures.capacity)

pub returns-clause-entries : goal.returns-clause-entries
returns-clause-entries g c =
    let s = c.self.inside in
    let at : (c.in-Some.place < length s.index.items)
    × HoldsAt (λ (r : Registered). r.handle.0 ≡ c.args.handle.0) s.index.items c.in-Some.place =
    rw c.deref.ensures.value at c.in-Some.ensures in
    ap (λ xs. entries_of c.remove.new.self xs) c.remove-registered.ensures.items
    ∙ taken_out s.seats c.remove.new.self s.index.items c.args.handle.0 c.in-Some.place
    c.remove-registered.result c.self.invariant.rising c.self.invariant.apart at.0 at.1
    (rw (sym c.remove-registered.ensures.value) c.remove.ensures.updates)
    ∙ ap (λ q. without_handle c.args.handle.0 q.entries) c.self.view_is
