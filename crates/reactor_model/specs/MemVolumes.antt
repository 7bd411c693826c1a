-- The keeper of volumes in memory.
use Rattle.std.specs.Prelude.{ℕ, List, Some, Contains, Result, Ok, Err}
use Rattle.reactor_journal.specs.Held.{Held}
use Rattle.reactor_journal.specs.declared.entry.Entry.{Entry}
use Rattle.reactor_model.specs.Volumes.{VolumesFacts}
use Rattle.reactor_model.specs.declared.volumes.TakeRefused.{TakeRefused}
use Rattle.reactor_model.specs.declared.volumes.TakeRefused.TheVariants.{Failed, NoMemory}
use Rattle.reactor_model.specs.declared.volumes.MemVolumes.{MemVolumes}

-- it tells its entries, and counts those of the present journal; a volume has 65,536 entries
abbrev pub mem_volumes_facts : {N : Type 0} → MemVolumes N → VolumesFacts N
mem_volumes_facts volumes = record {
  faults = volumes.faults;
  taken = Some volumes.entries.items;
  next = Some volumes.next;
  size = 65536;
}

-- how many takes it was asked for, and the numbers of those that are to fail
abbrev pub takes_of : {N : Type 0} → MemVolumes N → ℕ
takes_of volumes = volumes.takes

abbrev pub fails_of : {N : Type 0} → MemVolumes N → List ℕ
fails_of volumes = volumes.fails.items

-- the next take is to fail
abbrev pub FailsNow : {N : Type 0} → MemVolumes N → Type 0
FailsNow volumes = Contains (fails_of volumes) (takes_of volumes)

-- the answer is Failed
abbrev pub IsFailure : {N : Type 0} → Result (Unit {0}) (Held (Entry N) × TakeRefused) → Type 0
IsFailure (Ok _) = ⊥
IsFailure (Err (back, Failed)) = Unit {0}
IsFailure (Err (back, NoMemory)) = ⊥
