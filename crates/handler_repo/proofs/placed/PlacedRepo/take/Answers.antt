use Rattle.std.proofs.Common.{arith, ◌≡◌, List, length, Option, Some, None, OnSome, IfNone, ap, ◌∙◌}
use Rattle.handler_repo.specs.declared.seat.Seat.TheVariants.{Out}
use Rattle.handler_repo.specs.Seats.{Entry, with_seat}
use Rattle.handler_repo.proofs.Counts.{length_with_seat}
use Rattle.handler_repo.proofs.placed.PlacedRepo.take.Goals as goal

-- as many entries after either answer
as_many : {H X : Type 0} (handle : _) (new old : List (Entry H)) (o : Option X)
    → OnSome o (new ≡ with_seat handle Out old) → IfNone o (new ≡ old) → length new ≡ length old
as_many handle new old None out same = ap length same
as_many handle new old (Some x) out same = ap length out ∙ length_with_seat handle Out old

pub invariant_of-self-inside : goal.invariant_of-self-inside
invariant_of-self-inside g c =
    let s = c.self.inside in
    let n : length c.take.new.self.entries ≡ length s.repo.entries =
    as_many c.args.handle.0 c.take.new.self.entries s.repo.entries c.take.result
    c.take.ensures.out c.take.ensures.unchanged in (
      omega (arith, s.seats, c.take.ensures.spare),
      (
        s.enough,
        (
          omega (arith, s.counted, n),
          (
            s.places,
            tt,
          ),
        ),
      ),
    )
