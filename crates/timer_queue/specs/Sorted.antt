-- How a sorted list of timers is kept.
use Rattle.std.specs.Prelude.{ℕ, ◌≡◌, ◌==◌, ◌<◌, ◌≤◌, Bool, true, false, List, [], ◌∷◌, ◌+◌, ◌++◌}
use Rattle.std.specs.Prelude.{length, drop, Option, MatchOption}
use Rattle.std.specs.List.{AllWithin, HoldsAt}
use Rattle.timer_queue.specs.declared.timer.Timer.{Timer}
use Rattle.timer_queue.specs.Timers.{comes_before, IsSchedule, AreApart}

-- the timers from the head on, which fit in the room, and the room in the places
pub record IsSorted (items : List Timer) (head room capacity : ℕ) : Type 0 where
  pub schedule : IsSchedule (drop head items)
  pub within : head ≤ length items
  pub fits : length (drop head items) ≤ room
  pub places : room ≤ capacity

-- what a search for a number found: the first place that has it
abbrev pub Found : ℕ → List Timer → Option ℕ → Type 0
Found number xs r =
    MatchOption r (AllWithin (λ t. (t.timer == number) ≡ false) xs 0 (length xs))
    (λ i. (i < length xs) × HoldsAt (λ t. (t.timer == number) ≡ true) xs i
    × AllWithin (λ t. (t.timer == number) ≡ false) xs 0 i)

-- what a list in two rows keeps: each rises, no timer stands in both, and the row in which they are
-- put together is empty and has room
pub record AreRows (recent list merged : List Timer) (room list_spare merged_spare : ℕ) : Type 0
  where
    pub apart : AreApart (recent ++ list)
    pub recent_rises : IsSchedule recent
    pub list_rises : IsSchedule list
    pub empty : merged ≡ []
    pub fits : length recent + length list ≤ room
    pub list_room : room ≤ length list + list_spare
    pub merged_room : room ≤ merged_spare

-- the first timer of both rows is that of the first row
abbrev pub recent_first : List Timer → List Timer → Bool
recent_first [] list = false
recent_first (r ∷ rest) [] = true
recent_first (r ∷ rest) (l ∷ more) = comes_before r l
