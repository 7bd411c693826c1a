-- What the turns of an end come to: its operations and their completions, and the bytes that went
-- either way (POSA2, Proactor).
use Rattle.std.specs.Prelude.{◌≡◌, ◌≤◌, ℕ, Bool, true, false, List, [], ◌∷◌, ◌++◌, length, take}
use Rattle.std.specs.Prelude.{map, Option, Some, None}
use Rattle.std.specs.List.{flat_map}
use Rattle.ev_base.specs.Bytes.{HasGiven}
use Rattle.proactor.specs.declared.operation.Op.{Op}
use Rattle.proactor.specs.declared.operation.Completed.{Completed}
use Rattle.proactor.specs.declared.operation.Outcome.{Outcome}
use Rattle.proactor.specs.declared.operation.Outcome.TheVariants as outcome
use Rattle.proactor.specs.declared.standing.Reading.{Reading}
use Rattle.proactor.specs.declared.standing.Writing.{Writing}
use Rattle.proactor.specs.Events.{Event, ReadDone, WriteDone, asked_reads, asked_writes, cancels}
use Rattle.proactor.specs.Events.{done_reads, done_writes, fails, given, read_by, some_of, taken}
use Rattle.proactor.specs.Events.{wrote_by}
use Rattle.proactor.specs.Turns.{State}

-- ---- operations that completed

abbrev pub read_completed_by : Event → List Reading
read_completed_by (ReadDone read came reply) = read ∷ []
read_completed_by _ = []

abbrev pub write_completed_by : Event → List Writing
write_completed_by (WriteDone write came reply) = write ∷ []
write_completed_by _ = []

abbrev pub completed_reads : List Event → List Reading
completed_reads events = flat_map read_completed_by events

abbrev pub completed_writes : List Event → List Writing
completed_writes events = flat_map write_completed_by events

-- those that completed with all of their bytes taken
abbrev pub written : List Event → List Writing
written events = flat_map wrote_by events

abbrev pub bytes_of : List Writing → List ℕ
bytes_of writes = flat_map (λ write. write.bytes) writes

-- their numbers
abbrev pub read_ids : List Reading → List ℕ
read_ids reads = map (λ read. read.id) reads

abbrev pub write_ids : List Writing → List ℕ
write_ids writes = map (λ write. write.id) writes

abbrev pub completed_ids : List Completed → List ℕ
completed_ids done = map (λ c. c.id) done

-- ---- bytes

-- these bytes were written and no others, if it is told
abbrev pub IsWritten : Option (List ℕ) → List ℕ → Type 0
IsWritten None bytes = Unit {0}
IsWritten (Some written) bytes = written ≡ bytes

abbrev pub first_bytes : List Writing → List ℕ
first_bytes [] = []
first_bytes (write ∷ rest) = write.bytes

-- The bytes that were given to the end: those of the writes that completed with all of theirs, in
-- the order in which they were asked, and then a front of those of the next one.
pub record GaveInOrder (asked : List Writing) (all : List Event) : Type 0 where
  pub next : List Writing
  pub order : asked ≡ written all ++ next
  pub part : List ℕ
  pub bytes : given all ≡ bytes_of (written all) ++ part
  pub front : part ≡ take (length part) (first_bytes next)

-- a read found the end of the input
abbrev pub is_over : Outcome → Bool
is_over outcome.Over = true
is_over _ = false

abbrev pub finds_over : Event → Bool
finds_over (ReadDone read came reply) = is_over came
finds_over _ = false

-- ---- all of it

-- What has happened so far at an end with this first operation, by where it stands. Operations
-- complete in the order in which they were asked and taken up, each once, and the others stand.
pub record Operates (first : Op) (all : List Event) (s : State) : Type 0 where
  pub reads : asked_reads first all ≡ completed_reads all ++ s.standing.reads
  pub writes : asked_writes first all ≡ completed_writes all ++ s.standing.writes
  -- the reads completed with the bytes that were taken from the end
  pub read_bytes : flat_map read_by all ≡ taken all
  pub took : HasGiven s.facts.bytes (taken all)
  pub took_so_many : s.facts.gave ≡ length (taken all)
  -- the bytes of writes were given to it
  pub gave : IsWritten s.facts.written (given all)
  -- an operation failed only if a call of the end did, a read was over only if its input was,
  -- and none was cancelled
  pub failed : some_of fails all ≡ true → 1 ≤ s.facts.faults
  pub over : some_of finds_over all ≡ s.facts.over
  pub none_cancelled : some_of cancels all ≡ false

-- all of that, and in which order bytes were given to the end
pub record Accounts (first : Op) (all : List Event) (s : State) : Type 0 where
  pub operates : Operates first all s
  pub in_order : GaveInOrder (asked_writes first all) all

-- every operation that was asked and taken up has completed, in that order
pub record CompletesAll (first : Op) (all : List Event) : Type 0 where
  pub reads : asked_reads first all ≡ completed_reads all
  pub writes : asked_writes first all ≡ completed_writes all
  pub read_numbers : completed_ids (done_reads all) ≡ read_ids (asked_reads first all)
  pub write_numbers : completed_ids (done_writes all) ≡ write_ids (asked_writes first all)
