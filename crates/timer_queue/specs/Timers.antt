-- The list of timers that a timer queue stands for, and what each call does to it
-- (C++NPv2 section 3.4, `ACE_Timer_Queue`; POSA2, Reactor, "timer queue").
use Rattle.std.specs.Prelude.{ℕ, ◌≡◌, ◌≢◌, Bool, true, not, ◌&&◌, ◌||◌, ◌==◌, nat_lt, List, [], ◌∷◌}
use Rattle.std.specs.Prelude.{if◌then◌else◌, filter, AllPairs, Option, Some, None}
use Rattle.std.specs.List.{list_any, list_all}
use Rattle.timer_queue.specs.declared.timer.Timer.{Timer}

-- the first timer comes before the second in order of (deadline, timer)
abbrev pub comes_before : Timer → Timer → Bool
comes_before a b = nat_lt a.deadline b.deadline
    || (a.deadline == b.deadline && nat_lt a.timer b.timer)

-- each timer comes before all those after it
abbrev pub is_rising : List Timer → Bool
is_rising [] = true
is_rising (t ∷ rest) = list_all (λ u. comes_before t u) rest && is_rising rest

-- a timer of this number is in the list
abbrev pub is_scheduled : ℕ → List Timer → Bool
is_scheduled number timers = list_any (λ t. t.timer == number) timers

-- no two timers of the list have one number
abbrev pub names_once : List Timer → Bool
names_once [] = true
names_once (t ∷ rest) = not (is_scheduled t.timer rest) && names_once rest

-- a rising list with one timer more
abbrev pub with_timer : Timer → List Timer → List Timer
with_timer t [] = t ∷ []
with_timer t (u ∷ rest) = if comes_before t u then t ∷ u ∷ rest else u ∷ with_timer t rest

-- the list without the timer of this number
abbrev pub without_timer : ℕ → List Timer → List Timer
without_timer number timers = filter (λ t. not (t.timer == number)) timers

-- the list without the timers of this handle
abbrev pub without_handle : ℕ → List Timer → List Timer
without_handle handle timers = filter (λ t. not (t.handle.0 == handle)) timers

-- the deadline of the first timer
abbrev pub first_deadline : List Timer → Option ℕ
first_deadline [] = None
first_deadline (t ∷ rest) = Some t.deadline

-- these timers, which stand in any order, in order of (deadline, timer)
abbrev pub in_order : List Timer → List Timer
in_order [] = []
in_order (t ∷ rest) = with_timer t (in_order rest)

-- the list rises and names each timer once, as that of every timer queue does
pub record IsSchedule (timers : List Timer) : Type 0 where
  pub rising : is_rising timers ≡ true
  pub once : names_once timers ≡ true

-- no two of these timers, which stand in any order, have one number
abbrev pub AreApart : List Timer → Type 0
AreApart timers = AllPairs (λ t u. t.timer ≢ u.timer) timers
