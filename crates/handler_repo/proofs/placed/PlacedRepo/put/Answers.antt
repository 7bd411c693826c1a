use Rattle.std.proofs.Common.{arith, ◌≡◌, ◌+◌, length, ap, ◌∙◌}
use Rattle.handler_repo.proofs.Counts.{length_with_entry}
use Rattle.handler_repo.proofs.placed.PlacedRepo.put.Goals as goal

pub invariant_of-self-inside : goal.invariant_of-self-inside
invariant_of-self-inside g c =
    let s = c.self.inside in
    let n : length c.put.new.self.entries ≡ length s.repo.entries + 1 =
    ap length c.put.ensures.entries ∙ length_with_entry _ s.repo.entries in (
      omega (arith, s.seats, c.put.ensures.spare),
      (
        omega (arith, s.enough, c.in-Some.ensures.cases),
        (
          omega (arith, s.counted, n),
          (
            omega (arith, s.places, c.in-Some.ensures.cases, c.pop.ensures.capacity),
            tt,
          ),
        ),
      ),
    )
