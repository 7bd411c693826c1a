-- What a keeper of volumes, parts of a journal that were handed over, tells.
use Rattle.std.specs.Prelude.{◌≡◌, ◌≤◌, ◌^◌, ◌+◌, ℕ, List, ◌++◌, length, Option, Some, None}
use Rattle.std.specs.Prelude.{option_map, Result, Ok, Err}
use Rattle.ev_base.specs.Counts.{Rose}
use Rattle.reactor_journal.specs.Held.{Held}
use Rattle.reactor_journal.specs.declared.entry.Entry.{Entry}
use Rattle.reactor_model.specs.declared.volumes.TakeRefused.{TakeRefused}
use Rattle.reactor_model.specs.declared.volumes.TakeRefused.TheVariants.{Failed, NoMemory}

pub record VolumesFacts (N : Type 0) : Type 0 where
  -- how often a take failed
  pub faults : ℕ
  -- all entries that were taken, if they are told
  pub taken : Option (List (Entry N))
  -- the number, in its journal, of the first entry of the present journal that it has not taken,
  -- if it keeps count of that
  pub next : Option ℕ
  -- how many entries make a volume
  pub size : ℕ

-- if a keeper keeps count, this is the number of the first entry that it has not taken
abbrev pub IsNext : Option ℕ → ℕ → Type 0
IsNext None first = Unit {0}
IsNext (Some next) first = first ≡ next

-- a volume has from 1 to 2^62 entries
pub record IsSize (size : ℕ) : Type 0 where
  pub some : 1 ≤ size
  pub bounded : size ≤ 2 ^ 62

-- a journal begins: the next entry is its number 0
pub record BeginsJournal {N : Type 0} (old new : VolumesFacts N) : Type 0 where
  pub next : IsNext new.next 0
  pub taken : new.taken ≡ old.taken
  pub faults : new.faults ≡ old.faults
  pub size : new.size ≡ old.size

-- if the entries are told, these were added
abbrev pub AddsEntries : {N : Type 0} → Option (List (Entry N)) → List (Entry N)
    → Option (List (Entry N)) → Type 0
AddsEntries None entries None = Unit {0}
AddsEntries None entries (Some new) = ⊥
AddsEntries (Some old) entries None = ⊥
AddsEntries (Some old) entries (Some new) = new ≡ old ++ entries

-- these entries were taken
pub record TakesEntries {N : Type 0} (old : VolumesFacts N) (entries : List (Entry N))
    (new : VolumesFacts N) : Type 0 where
  pub taken : AddsEntries old.taken entries new.taken
  pub next : new.next ≡ option_map (λ n. n + length entries) old.next
  pub faults : new.faults ≡ old.faults
  pub size : new.size ≡ old.size

-- nothing was taken, and the volume comes back
pub record GivesBack {N : Type 0} (old : VolumesFacts N) (volume given : Held (Entry N))
    (new : VolumesFacts N) : Type 0 where
  pub back : given ≡ volume
  pub taken : new.taken ≡ old.taken
  pub next : new.next ≡ old.next
  pub size : new.size ≡ old.size

-- what a take of a volume does, by its answer
abbrev pub TakesVolume : {N : Type 0} → VolumesFacts N → Held (Entry N)
    → Result (Unit {0}) (Held (Entry N) × TakeRefused) → VolumesFacts N → Type 0
TakesVolume old volume (Ok _) new = TakesEntries old volume.entries new
TakesVolume old volume (Err (back, Failed)) new =
    GivesBack old volume back new × Rose old.faults new.faults
TakesVolume old volume (Err (back, NoMemory)) new =
    GivesBack old volume back new × (new.faults ≡ old.faults)

-- a keeper that tells no entries, keeps no count and never fails, with volumes of 512 entries
abbrev pub tells_nothing : {N : Type 0} → VolumesFacts N
tells_nothing = record { faults = 0; taken = None; next = None; size = 512 }
