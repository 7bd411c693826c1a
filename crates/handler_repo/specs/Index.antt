-- How a repository keeps its map: an index in rising order of handle, whose keys name the places of
-- a slab.
use Rattle.std.specs.Prelude.{ℕ, ◌≡◌, ◌≢◌, ◌≤◌, ◌+◌, List, length, map, Option, All, AllPairs}
use Rattle.std.specs.Prelude.{unwrap_or}
use Rattle.std.specs.Option.{option_map}
use Rattle.std.specs.Mem.{manually_drop_value}
use Rattle.std.specs.declared.mem.ManuallyDrop.{ManuallyDrop}
use Rattle.handle_search.specs.Rising as R
use Rattle.slab.specs.Slab.{Slab, get, ContainsKey, slab_len}
use Rattle.handler_repo.specs.declared.index.Registered.{Registered}
use Rattle.handler_repo.specs.declared.seat.Seat.{Seat}
use Rattle.handler_repo.specs.declared.seat.Seat.TheVariants.{Out}
use Rattle.handler_repo.specs.Seats.{Entry}

-- the handles rise, so none is there twice
abbrev pub IsRising : List Registered → Type 0
IsRising index = R.IsRising (λ r. r.handle.0) index

module _ {H : Type 0} where
  -- what the slab has at a key
  abbrev pub seat_at : Slab (ManuallyDrop (Seat H)) → ℕ → Option (Seat H)
  seat_at seats key = option_map manually_drop_value (get seats key)

  -- the entry that a registered handle stands for
  abbrev pub entry_at : Slab (ManuallyDrop (Seat H)) → Registered → Entry H
  entry_at seats r = record { handle = r.handle.0; seat = unwrap_or (seat_at seats r.key) Out }

  abbrev pub entries_of : Slab (ManuallyDrop (Seat H)) → List Registered → List (Entry H)
  entries_of seats index = map (entry_at seats) index

  -- each registered key has a seat of its own, and both tables have room for so many more
  pub record IsSound (seats : Slab (ManuallyDrop (Seat H))) (index : List Registered)
      (room spare : ℕ) : Type 0 where
    pub rising : IsRising index
    pub present : All (λ r. ContainsKey seats r.key) index
    pub apart : AllPairs (λ r s. r.key ≢ s.key) index
    pub counted : slab_len seats ≡ length index
    pub seats_fit : slab_len seats + spare ≤ seats.capacity
    pub index_fits : length index + spare ≤ room
