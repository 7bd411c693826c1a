-- The numbers of a summary fit a machine word.
use Rattle.std.specs.Prelude.{◌≤◌, ◌<◌, ◌+◌, ◌^◌}
use Rattle.reactor_summary.specs.Summary.{Summary}

-- its numbers are at most that of its entries, which is below the greatest word
pub record IsSmall (s : Summary) : Type 0 where
  pub entries : s.entries + 1 < 2 ^ 64
  pub opened : s.opened ≤ s.entries
  pub closed : s.closed ≤ s.entries
  pub scheduled : s.scheduled ≤ s.entries
  pub refused : s.refused ≤ s.entries
