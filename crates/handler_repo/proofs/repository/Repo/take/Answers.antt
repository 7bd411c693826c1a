use Rattle.std.proofs.Common.{◌≡◌, ◌<◌, length, Option, Some, None, ap, sym, ◌∙◌}
use Rattle.std.specs.Prelude.{OnSome}
use Rattle.std.specs.List.{HoldsAt}
use Rattle.handler_repo.specs.declared.index.Registered.{Registered}
use Rattle.handler_repo.specs.declared.seat.Seat.TheVariants.{Out}
use Rattle.handler_repo.specs.Index.{seat_at}
use Rattle.handler_repo.specs.Seats.{seat_of, home_of, with_seat}
use Rattle.handler_repo.proofs.Steps.{absent, seat_of-place, reseated}
use Rattle.handler_repo.proofs.repository.Repo.take.Goals as goal
use Rattle.handler_repo.proofs.repository.Repo.take.Goals.{in-Home, in-Out}

pub returns-in_err-place-clause-taken : goal.returns-in_err-place-clause-taken
returns-in_err-place-clause-taken g c =
    c.from_residual.ensures
    ∙ sym (ap home_of (sym (ap (λ q. seat_of c.args.handle.0 q.entries) c.self.view_is)
    ∙ absent c.self.inside.seats c.self.inside.index.items c.args.handle.0
    ((rw c.deref.ensures.value at c.in_err-place.ensures) c.self.invariant.rising)))

on_some : {X : Type 0} (o : Option X) (P : Type 0) → P → OnSome o P
on_some None P p = tt
on_some (Some x) P p = p

found : (g : _) (c : goal.Joined-exchange g)
    → seat_of c.args.handle.0 c.args.self.now.entries ≡ Some c.exchange.result
found g c =
    let s = c.self.inside in
    let at : (c.in_ok-place.place < length s.index.items)
    × HoldsAt (λ (r : Registered). r.handle.0 ≡ c.args.handle.0) s.index.items
    c.in_ok-place.place = rw c.deref.ensures.value at c.in_ok-place.ensures in
    sym (ap (λ q. seat_of c.args.handle.0 q.entries) c.self.view_is)
    ∙ seat_of-place s.seats s.index.items c.args.handle.0 c.in_ok-place.place c.index.result.now
    c.exchange.result c.self.invariant.rising at.0 at.1
    (ap (λ (r : Registered). seat_at s.seats r.key) (sym c.index.ensures) ∙ c.exchange.ensures.was)

pub returns-clause-taken : goal.returns-clause-taken
returns-clause-taken g c =
    elim c.match-exchange.branch [
      | in-Home w ↦ w.result-is ∙ sym (ap home_of (found g c ∙ ap Some w.in-Home.is))
      | in-Out w ↦ w.result-is ∙ sym (ap home_of (found g c ∙ ap Some w.in-Out.is))
    ]

pub returns-clause-out : goal.returns-clause-out
returns-clause-out g c =
    let s = c.self.inside in
    let at : (c.in_ok-place.place < length s.index.items)
    × HoldsAt (λ (r : Registered). r.handle.0 ≡ c.args.handle.0) s.index.items
    c.in_ok-place.place = rw c.deref.ensures.value at c.in_ok-place.ensures in
    on_some c.match-exchange.result _
    (reseated s.seats c.exchange.new.seats s.index.items c.args.handle.0 c.in_ok-place.place
    c.index.result.now Out c.self.invariant.rising c.self.invariant.apart at.0 at.1
    (rw (sym c.index.ensures) c.exchange.ensures.now)
    ∙ ap (λ q. with_seat c.args.handle.0 Out q.entries) c.self.view_is)
