-- The index of the waiting events: each is found by its number, by its handle and class, and by its
-- timer.
use Rattle.std.specs.Prelude.{ℕ, ◌≡◌, ◌<◌, ◌≤◌, ◌+◌, ◌*◌, ◌^◌, ◌==◌, nat_lt, nat_le, Bool, true}
use Rattle.std.specs.Prelude.{false, ◌&&◌, ◌||◌, if◌then◌else◌, List, Option, Some, None}
use Rattle.std.specs.List.{find, list_any}
use Rattle.std.specs.List.Sorted.{IsStrictlySortedBy}
use Rattle.std.specs.Map.{keys_of, values_of}
use Rattle.std.specs.Ordering.{nat_cmp, is_eq, is_gt}
use Rattle.ev_types.specs.declared.upcall.Upcall.{Upcall}
use Rattle.ev_types.specs.declared.upcall.Upcall.TheVariants.{Timeout}
use Rattle.reactor_journal.specs.Past.{class_of, is_timeout_of}
use Rattle.reactor_summary.specs.declared.parts.WaitingEvent.{WaitingEvent}
use Rattle.reactor_summary.specs.Tells.{Each}
use Rattle.journal_check.specs.Index.{pair_cmp}

-- the lane of an event: five for each handle, one for each class
abbrev pub lane_of : WaitingEvent → ℕ
lane_of w = w.handle.0 * 5 + class_of w.upcall

-- the lanes of its handle fit a machine word
abbrev pub IsNarrow : WaitingEvent → Type 0
IsNarrow w = w.handle.0 * 5 + 4 < 2 ^ 64

-- the timer of a timeout
abbrev pub timer_of : Upcall → Option ℕ
timer_of (Timeout timer) = Some timer
timer_of _ = None

-- whether it is that number
abbrev pub is_num : ℕ → Option ℕ → Bool
is_num n None = false
is_num n (Some m) = m == n

abbrev pub lane_key : WaitingEvent → Option ℕ
lane_key w = Some (lane_of w)

abbrev pub timer_key : WaitingEvent → Option ℕ
timer_key w = timer_of w.upcall

-- the set has a lane, or timer, with the number of an event exactly if that event waits
pub record Finds (key : WaitingEvent → Option ℕ) (has : ℕ × ℕ → Bool)
    (xs : List WaitingEvent) : Type 0 where
  pub at : (n i : ℕ) → has (n, i) ≡ list_any (λ w. is_num n (key w) && w.event == i) xs

pub record IsQueued (es : List (ℕ × WaitingEvent)) (lanes timers : ℕ × ℕ → Bool) : Type 0 where
  pub ordered : IsStrictlySortedBy nat_cmp (keys_of es)
  pub own : Each (λ e. e.0 ≡ e.1.event) es
  pub by_lane : Finds lane_key lanes (values_of es)
  pub by_timer : Finds timer_key timers (values_of es)
  pub narrow : Each (λ e. IsNarrow e.1) es

-- the event of the first pair from a number on and below another
pub record IsLeast (low high : ℕ) (has : ℕ × ℕ → Bool) (i : ℕ) : Type 0 where
  pub at : ℕ
  pub from : low ≤ at
  pub below : at < high
  pub is : has (at, i) ≡ true
  pub least : (n j : ℕ) → low ≤ n → has (n, j) ≡ true → is_gt (pair_cmp (at, i) (n, j)) ≡ false

abbrev pub is_within : ℕ → ℕ → ℕ → Bool
is_within low high n = nat_le low n && nat_lt n high

-- the event waits, and passes
pub record IsOne (p : WaitingEvent → Bool) (i : ℕ) (xs : List WaitingEvent) : Type 0 where
  pub waits : list_any (λ w. i == w.event) xs ≡ true
  pub passes : Each (λ w. w.event ≡ i → p w ≡ true) xs

-- whether an event goes before another, or is it: by class, and in one class by number
abbrev pub goes_first : WaitingEvent → WaitingEvent → Bool
goes_first a b = nat_lt (class_of a.upcall) (class_of b.upcall)
    || (class_of a.upcall == class_of b.upcall && nat_le a.event b.event)

-- the event of the handle that goes first
pub record IsFirstOf (x : ℕ) (xs : List WaitingEvent) (a : WaitingEvent) : Type 0 where
  pub is : find (λ w. w.event == a.event) xs ≡ Some a
  pub mine : a.handle.0 ≡ x
  pub first : Each (λ w. w.handle.0 ≡ x → goes_first a w ≡ true) xs

abbrev pub IsFront : ℕ → List WaitingEvent → Option WaitingEvent → Type 0
IsFront x xs None = list_any (λ w. x == w.handle.0) xs ≡ false
IsFront x xs (Some a) = IsFirstOf x xs a

-- a set with one key more, or less, if there is one
abbrev pub Gains : Option ℕ → ℕ → (ℕ × ℕ → Bool) → (ℕ × ℕ → Bool) → Type 0
Gains None i has later = (q : ℕ × ℕ) → later q ≡ has q
Gains (Some n) i has later = (q : ℕ × ℕ)
    → later q ≡ (if is_eq (pair_cmp (n, i) q) then true else has q)

abbrev pub Loses : Option ℕ → ℕ → (ℕ × ℕ → Bool) → (ℕ × ℕ → Bool) → Type 0
Loses None i has later = (q : ℕ × ℕ) → later q ≡ has q
Loses (Some n) i has later = (q : ℕ × ℕ)
    → later q ≡ (if is_eq (pair_cmp (n, i) q) then false else has q)

-- the timeouts of a timer are of one handle
pub record IsOwned (timer : ℕ) (xs : List WaitingEvent) : Type 0 where
  pub owner : ℕ
  pub mine : Each (λ w. is_timeout_of timer w.upcall ≡ true → w.handle.0 ≡ owner) xs
