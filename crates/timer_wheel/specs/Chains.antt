-- How a wheel keeps its chains.
use Rattle.std.specs.Prelude.{ℕ, ◌≡◌, ◌≢◌, ◌<◌, ◌≤◌, ◌-◌, ◌/◌, ◌==◌, Bool, true, not, List, [], ◌∷◌}
use Rattle.std.specs.Prelude.{◌++◌, length, slice_get, slice_index_or, slice_set, Contains, Option}
use Rattle.std.specs.Prelude.{Some, None, if◌then◌else◌}
use Rattle.std.specs.List.{list_all}
use Rattle.timer_queue.specs.declared.timer.Timer.{Timer}
use Rattle.timer_queue.specs.Timers.{comes_before, in_order, AreApart}
use Rattle.timer_wheel.specs.declared.place.Place.{Place}
use Rattle.timer_wheel.specs.Spokes.{of_spoke, timers_of, Follows}

-- the chain from here leads over these timers to there
abbrev pub Reaches : List Place → Option ℕ → List Timer → Option ℕ → Type 0
Reaches places at [] there = at ≡ there
Reaches places at (t ∷ rest) there =
    (k : ℕ) × (at ≡ Some k) × (p : Place) × (slice_get places k ≡ Some p) × (p.timer ≡ t)
    × Reaches places p.next rest there

-- the last place of the way over these timers
abbrev pub IsLast : List Place → Option ℕ → List Timer → Option ℕ → Type 0
IsLast places at front None = front ≡ []
IsLast places at front (Some q) = (before : List Timer) × (p : Place)
    × (front ≡ before ++ p.timer ∷ []) × (slice_get places q ≡ Some p)
    × Reaches places at before (Some q)

-- the way so far: these timers come before t and lead here, and the others follow
pub record Walked (places : List Place) (head : Option ℕ) (t : Timer) (timers : List Timer)
    (last at : Option ℕ) : Type 0 where
  pub front : List Timer
  pub back : List Timer
  pub whole : timers ≡ front ++ back
  pub before : list_all (λ u. comes_before u t) front ≡ true
  pub is_last : IsLast places head front last
  pub reaches : Reaches places head front at
  pub follows : Follows places at back

-- if there is a place to begin after, its timer is one of these and comes before t
abbrev pub IsStart : List Place → List Timer → Timer → Option ℕ → Type 0
IsStart places timers t start = (k : ℕ) (p : Place) → start ≡ Some k → slice_get places k ≡ Some p
    → Contains timers p.timer × (comes_before p.timer t ≡ true)

-- the gap of t in a chain: all in front of it come before t, and none after it does
pub record IsGap (places : List Place) (head : Option ℕ) (t : Timer) (timers : List Timer)
    (last at : Option ℕ) : Type 0 where
  pub way : Walked places head t timers last at
  pub behind : list_all (λ u. not (comes_before u t)) way.back ≡ true

-- the first of the list
abbrev pub first_of : List Timer → Option Timer
first_of [] = None
first_of (t ∷ rest) = Some t

-- the timer of these places that comes first of all, or none
abbrev pub IsEarliest : List Place → Option Timer → Type 0
IsEarliest places first = first ≡ first_of (in_order (timers_of places))

-- when the chain is changed after the place `last`, or at its head: the heads and the places then
abbrev pub linked_heads : List (Option ℕ) → ℕ → Option ℕ → Option ℕ → List (Option ℕ)
linked_heads heads spoke None to = slice_set heads spoke to
linked_heads heads spoke (Some q) to = heads

abbrev pub with_next : List Place → ℕ → Option ℕ → Option Place → List Place
with_next places q to None = places
with_next places q to (Some p) = slice_set places q (record p { next = to })

abbrev pub linked_places : List Place → Option ℕ → Option ℕ → List Place
linked_places places None to = places
linked_places places (Some q) to = with_next places q to (slice_get places q)

-- the chain of each spoke has the timers of the list that stand in it
abbrev pub AreChains : ℕ → ℕ → List (Option ℕ) → List Place → List Timer → Type 0
AreChains spokes resolution heads places timers =
    (s : ℕ) → s < spokes → Follows places (slice_index_or heads s None)
    (of_spoke spokes resolution s timers)

-- what a wheel keeps
pub record IsWheel (spokes resolution : ℕ) (heads : List (Option ℕ)) (places : List Place)
    (first : Option Timer) : Type 0 where
  pub some_spokes : 0 < spokes
  pub ticks : 0 < resolution
  pub each_spoke : length heads ≡ spokes
  pub apart : AreApart (timers_of places)
  pub chains : AreChains spokes resolution heads places (in_order (timers_of places))
  pub earliest : IsEarliest places first

-- the list has the timer of each place but this one
pub record HasAllBut (hole : ℕ) (places : List Place) (timers : List Timer) : Type 0 where
  pub others : (k : ℕ) (p : Place) → k ≢ hole → slice_get places k ≡ Some p
      → Contains timers p.timer
  pub lacks : (p : Place) → slice_get places hole ≡ Some p → Contains timers p.timer → ⊥

-- each timer of the second places stands among the first at that place or at a later one
abbrev pub ComesForward : List Place → List Place → Type 0
ComesForward places new = (k : ℕ) (q : Place) → slice_get new k ≡ Some q → (i : ℕ) × (k ≤ i)
    × (p : Place) × (slice_get places i ≡ Some p) × (p.timer ≡ q.timer)

-- the places from this one on have no timer of the handle
abbrev pub IsClear : ℕ → List Place → ℕ → Type 0
IsClear handle places from = (k : ℕ) (p : Place) → from ≤ k → slice_get places k ≡ Some p
    → p.timer.handle.0 ≢ handle

-- the one of the two that comes first
abbrev pub earlier_of : Option Timer → Timer → Option Timer
earlier_of None t = Some t
earlier_of (Some f) t = if comes_before t f then Some t else Some f

-- the timers at the heads of the spokes
abbrev pub place_timer : Option Place → List Timer
place_timer None = []
place_timer (Some p) = p.timer ∷ []

abbrev pub head_timer : List Place → Option ℕ → List Timer
head_timer places None = []
head_timer places (Some k) = place_timer (slice_get places k)

abbrev pub heads_of : List Place → List (Option ℕ) → List Timer
heads_of places [] = []
heads_of places (h ∷ rest) = head_timer places h ++ heads_of places rest

-- the first, if those at a head are looked at too
abbrev pub earlier_at : Option Timer → List Timer → Option Timer
earlier_at first [] = first
earlier_at first (t ∷ rest) = earlier_of first t

-- the timer at a head, if its tick is so many after another
abbrev pub in_tick : ℕ → ℕ → ℕ → List Timer → Option Timer
in_tick resolution tick turn [] = None
in_tick resolution tick turn (t ∷ rest) =
    if t.deadline / resolution - tick == turn then Some t else None

-- t is not the first
abbrev pub is_behind : Option Timer → Timer → Bool
is_behind None t = true
is_behind (Some f) t = not (f.timer == t.timer)
