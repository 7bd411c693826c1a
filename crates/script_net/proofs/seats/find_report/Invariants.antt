use Rattle.std.proofs.Common.{◌≡◌, ◌≤◌, ℕ, length}
use Rattle.script_net.specs.Scripts.{end_view}
use Rattle.script_net.specs.Seating.{last_to, found_to}
use Rattle.script_net.proofs.SeatingLemmas.{place_behind}
use Rattle.script_net.proofs.seats.find_report.Given as goal

abbrev pub invariant-loop-at : goal.invariant-loop-at
invariant-loop-at l =
    (bound : ℕ) × (bound ≤ length l.places) × (l.at ≡ last_to l.places (end_view l.fn.end) bound)
    × (found_to l.places (end_view l.fn.end) (length l.places)
    ≡ found_to l.places (end_view l.fn.end) bound)

abbrev pub decreases-loop-at : goal.decreases-loop-at
decreases-loop-at l = place_behind l.at
