-- How a heap keeps track of where its timers are.
use Rattle.std.specs.Prelude.{ℕ, ◌≡◌, ◌≢◌, ◌<◌, ◌≤◌, true, List, length, slice_index_or}
use Rattle.std.specs.Prelude.{slice_index, slice_get, vec_capacity, Contains, Option, Some, None}
use Rattle.std.specs.Prelude.{if◌then◌else◌, ◌==◌}
use Rattle.std.specs.List.{AllWithin}
use Rattle.std.specs.List.Sorted.{IsPermutation}
use Rattle.timer_queue.specs.declared.timer.Timer.{Timer}
use Rattle.timer_queue.specs.Timers.{comes_before, AreApart}
use Rattle.timer_index.specs.declared.index.Numbered.{Numbered}
use Rattle.timer_index.specs.Index.{IsRising}
use Rattle.timer_heap.specs.declared.tree.Tree.{Tree}
use Rattle.timer_heap.specs.Heap.{parent, IsHeap}

-- each place has a key of its own, also those that are free, and each key knows its place
pub record IsKeyed (slots : List Timer) (keys places : List ℕ) : Type 0 where
  pub fits : length slots ≤ length keys
  pub placed : (k : ℕ) → k < length keys → (slice_index keys k < length places)
      × (slice_index places (slice_index keys k) ≡ k)

abbrev pub HasKeys : Tree → Type 0
HasKeys tree = IsKeyed tree.slots.items tree.keys.items tree.places.items

-- as many keys have places, and the slots have as much room
pub record KeepsRoom (old new : Tree) : Type 0 where
  pub places : length new.places.items ≡ length old.places.items
  pub capacity : vec_capacity new.slots ≡ vec_capacity old.slots

-- each timer that is there now was there before, with the same key
abbrev pub ArePairs : List Timer → List Timer → List ℕ → List ℕ → Type 0
ArePairs old new old_keys new_keys =
    (k : ℕ) → k < length new → (j : ℕ) × (j < length old)
    × ((d : Timer) → slice_index_or new k d ≡ slice_index_or old j d)
    × (slice_index new_keys k ≡ slice_index old_keys j)

-- the timers stand at other places, each with its key
pub record AreMoved (old new : List Timer) (old_keys new_keys : List ℕ) : Type 0 where
  pub slots : IsPermutation old new
  pub pairs : ArePairs old new old_keys new_keys
  pub keys : length new_keys ≡ length old_keys

-- from this place on, no timer is of this handle
abbrev pub IsClear : ℕ → List Timer → ℕ → Type 0
IsClear handle slots from = AllWithin (λ t. t.handle.0 ≢ handle) slots from (length slots)

-- whichever handle has no timer in those places has none in these
abbrev pub StaysClear : List Timer → ℕ → List Timer → ℕ → Type 0
StaysClear old from new to = (handle : ℕ) → IsClear handle old from → IsClear handle new to

-- a heap but for one place and its parent
pub record IsHeapBelow (slots : List Timer) (at : ℕ) : Type 0 where
  pub others : (k : ℕ) (d : Timer) → 0 < k → k < length slots → k ≢ at
      → comes_before (slice_index_or slots (parent k) d) (slice_index_or slots k d) ≡ true
  pub across : (k : ℕ) (d : Timer) → 0 < at → 0 < k → k < length slots → parent k ≡ at
      → comes_before (slice_index_or slots (parent at) d) (slice_index_or slots k d) ≡ true

-- a heap but for one place and its children
pub record IsHeapAbove (slots : List Timer) (at : ℕ) : Type 0 where
  pub others : (k : ℕ) (d : Timer) → 0 < k → k < length slots → parent k ≢ at
      → comes_before (slice_index_or slots (parent k) d) (slice_index_or slots k d) ≡ true
  pub across : (k : ℕ) (d : Timer) → 0 < at → 0 < k → k < length slots → parent k ≡ at
      → comes_before (slice_index_or slots (parent at) d) (slice_index_or slots k d) ≡ true

-- a heap but for one place, its parent and its children
pub record IsHeapAround (slots : List Timer) (at : ℕ) : Type 0 where
  pub others : (k : ℕ) (d : Timer) → 0 < k → k < length slots → k ≢ at → parent k ≢ at
      → comes_before (slice_index_or slots (parent k) d) (slice_index_or slots k d) ≡ true
  pub across : (k : ℕ) (d : Timer) → 0 < at → 0 < k → k < length slots → parent k ≡ at
      → comes_before (slice_index_or slots (parent at) d) (slice_index_or slots k d) ≡ true

-- the index rises by number, and has each timer of the heap with its key
pub record IsIndex (index : List Numbered) (slots : List Timer) (keys : List ℕ) : Type 0 where
  pub rising : IsRising index
  pub covers : (k : ℕ) (d : Timer) → k < length slots
      → Contains index (record {
        timer = (slice_index_or slots k d).timer;
        key = slice_index keys k;
      })

-- the place of an entry: that of its key, if a timer of its number stands there
abbrev pub matched : ℕ → ℕ → Option Timer → Option ℕ
matched place timer None = None
matched place timer (Some t) = if t.timer == timer then Some place else None

abbrev pub found_at : List Timer → ℕ → Option ℕ → Option ℕ
found_at slots timer None = None
found_at slots timer (Some place) = matched place timer (slice_get slots place)

abbrev pub place_in : List Timer → List ℕ → Numbered → Option ℕ
place_in slots places e = found_at slots e.timer (slice_get places e.key)

-- what a heap keeps: the order, the keys, the index, and room for as many timers as there are keys
pub record IsSound (slots : List Timer) (keys places : List ℕ) (index : List Numbered)
    (slots_room index_room : ℕ) : Type 0 where
  pub heap : IsHeap slots
  pub apart : AreApart slots
  pub keyed : IsKeyed slots keys places
  pub each_key : length places ≡ length keys
  pub indexed : IsIndex index slots keys
  pub slots_fit : length keys ≤ slots_room
  pub index_fits : length keys ≤ index_room
