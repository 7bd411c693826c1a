-- A binary heap of timers (C++NPv2 section 3.4, `ACE_Timer_Heap`).
use Rattle.std.specs.Prelude.{ℕ, ◌≡◌, ◌-◌, ◌/◌, ◌<◌, true, List, length, slice_index_or}
use Rattle.timer_queue.specs.declared.timer.Timer.{Timer}
use Rattle.timer_queue.specs.Timers.{comes_before}

-- the place above a place
abbrev pub parent : ℕ → ℕ
parent k = (k - 1) / 2

-- the timer at each place but the first comes after the one at its parent
abbrev pub IsHeap : List Timer → Type 0
IsHeap slots = (k : ℕ) (d : Timer) → 0 < k → k < length slots
    → comes_before (slice_index_or slots (parent k) d) (slice_index_or slots k d) ≡ true

-- the first place is the second or one of its ancestors
pub data OnPath : ℕ → ℕ → Type 0 where
  here : {n : ℕ} → OnPath n n
  above : {k n : ℕ} → 0 < n → OnPath k (parent n) → OnPath k n
