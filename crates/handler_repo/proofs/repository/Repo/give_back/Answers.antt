use Rattle.std.proofs.Common.{◌≡◌, ◌<◌, length, ap, sym, ◌∙◌}
use Rattle.std.specs.List.{HoldsAt}
use Rattle.handler_repo.specs.declared.index.Registered.{Registered}
use Rattle.handler_repo.specs.declared.seat.Seat.TheVariants.{Home}
use Rattle.handler_repo.specs.Index.{seat_at}
use Rattle.handler_repo.specs.Seats.{seat_of, with_seat}
use Rattle.handler_repo.proofs.Steps.{never_absent, is_out, not_home, reseated}
use Rattle.handler_repo.proofs.repository.Repo.give_back.Goals as goal

pub unreachable-requires : goal.unreachable-requires
unreachable-requires g c =
    never_absent c.self.inside.seats c.self.inside.index.items c.args.handle.0
    ((rw c.deref.ensures.value at c.in_default.ensures) c.self.invariant.rising)
    (ap (λ q. seat_of c.args.handle.0 q.entries) c.self.view_is ∙ c.requires)

pub unreachable-requires-in-Home : goal.unreachable-requires-in-Home
unreachable-requires-in-Home g c =
    let s = c.self.inside in
    let at : (c.in-Some.place < length s.index.items)
    × HoldsAt (λ (r : Registered). r.handle.0 ≡ c.args.handle.0) s.index.items c.in-Some.place =
    rw c.deref.ensures.value at c.in-Some.ensures in
    not_home c.in-Home._h c.exchange.result c.in-Home.is
    (is_out s.seats s.index.items c.args.handle.0 c.in-Some.place c.index.result.now
    c.exchange.result c.self.invariant.rising at.0 at.1
    (ap (λ (r : Registered). seat_at s.seats r.key) (sym c.index.ensures) ∙ c.exchange.ensures.was)
    (ap (λ q. seat_of c.args.handle.0 q.entries) c.self.view_is ∙ c.requires))

pub returns-clause-entries : goal.returns-clause-entries
returns-clause-entries g c =
    let s = c.self.inside in
    let at : (c.in-Some.place < length s.index.items)
    × HoldsAt (λ (r : Registered). r.handle.0 ≡ c.args.handle.0) s.index.items c.in-Some.place =
    rw c.deref.ensures.value at c.in-Some.ensures in
    reseated s.seats c.exchange.new.seats s.index.items c.args.handle.0 c.in-Some.place
    c.index.result.now (Home c.args.h) c.self.invariant.rising c.self.invariant.apart at.0 at.1
    (rw (sym c.index.ensures) c.exchange.ensures.now)
    ∙ ap (λ q. with_seat c.args.handle.0 (Home c.args.h) q.entries) c.self.view_is
