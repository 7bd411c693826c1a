use Rattle.std.proofs.Common.{arith, ◌≡◌, length, ap, ◌∙◌}
use Rattle.handler_repo.proofs.Counts.{length_with_seat}
use Rattle.handler_repo.proofs.placed.PlacedRepo.give_back.Goals as goal

pub invariant_of-self-inside : goal.invariant_of-self-inside
invariant_of-self-inside g c =
    let s = c.self.inside in
    let n : length c.give_back.new.self.entries ≡ length s.repo.entries =
    ap length c.give_back.ensures.entries ∙ length_with_seat c.args.handle.0 _ s.repo.entries in (
      omega (arith, s.seats, c.give_back.ensures.spare),
      (
        s.enough,
        (
          omega (arith, s.counted, n),
          (
            s.places,
            tt,
          ),
        ),
      ),
    )
