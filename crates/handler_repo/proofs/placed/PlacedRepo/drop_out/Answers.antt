use Rattle.std.proofs.Common.{arith, ◌≡◌, ◌≤◌, ◌+◌, length, Some, ap, ◌∙◌, subst, sym}
use Rattle.handler_repo.specs.declared.seat.Seat.TheVariants.{Out}
use Rattle.handler_repo.specs.Seats.{seat_of}
use Rattle.handler_repo.proofs.Counts.{length_without_there}
use Rattle.handler_repo.proofs.placed.PlacedRepo.drop_out.Goals as goal

pub invariant_of-self-inside : goal.invariant_of-self-inside
invariant_of-self-inside g c =
    let s = c.self.inside in
    let there : seat_of c.args.handle.0 s.repo.entries ≡ Some Out =
    ap (λ q. seat_of c.args.handle.0 q.entries) c.self.view_is ∙ c.requires in
    let n : length c.drop_out.new.self.entries + 1 ≤ length s.repo.entries =
    subst (λ es. length es + 1 ≤ length s.repo.entries) (sym c.drop_out.ensures.entries)
    (length_without_there c.args.handle.0 Out s.repo.entries there) in (
      omega (arith, s.seats, c.drop_out.ensures.spare),
      (
        omega (arith, s.enough, c.push_reserved.ensures.len),
        (
          omega (arith, s.counted, n),
          (
            omega (
              arith,
              s.places,
              s.counted,
              n,
              c.push_reserved.ensures.len,
              c.push_reserved.ensures.capacity,
            ),
            tt,
          ),
        ),
      ),
    )
