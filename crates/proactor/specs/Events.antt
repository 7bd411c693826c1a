-- What happened at an end over a completion handler, one thing after another.
use Rattle.std.specs.Prelude.{◌+◌, ℕ, Bool, true, false, List, [], ◌∷◌, ◌++◌}
use Rattle.std.specs.Prelude.{length, ◌||◌}
use Rattle.std.specs.List.{flat_map}
use Rattle.proactor.specs.declared.operation.Op.{Op}
use Rattle.proactor.specs.declared.operation.Op.TheVariants as op
use Rattle.proactor.specs.declared.operation.Outcome.{Outcome}
use Rattle.proactor.specs.declared.operation.Outcome.TheVariants as outcome
use Rattle.proactor.specs.declared.operation.Completed.{Completed}
use Rattle.proactor.specs.declared.standing.Reading.{Reading}
use Rattle.proactor.specs.declared.standing.Writing.{Writing}
use Rattle.proactor.specs.Operations.{Told}

-- What a completion led to: the operations that the handler asked for, of which the first were
-- taken up and the others were not, and whether it was done; or that it found no memory.
pub data Reply : Type 0 where
  Asked : (up : List Op) (others : List Op) (done : Bool) → Reply
  FoundNoMemory : Reply

pub data Event : Type 0 where
  -- a read gave these bytes, a write took these
  Took : (bytes : List ℕ) → Event
  Gave : (bytes : List ℕ) → Event
  -- a read or a write completed
  ReadDone : (read : Reading) (came : Outcome) (reply : Reply) → Event
  WriteDone : (write : Writing) (came : Outcome) (reply : Reply) → Event

-- ---- replies

abbrev pub up_in : Reply → List Op
up_in (Asked up others done) = up
up_in FoundNoMemory = []

abbrev pub some_there : {A : Type 0} → List A → Bool
some_there [] = false
some_there (x ∷ xs) = true

-- there was no memory for all of it
abbrev pub lost_in : Reply → Bool
lost_in (Asked up others done) = some_there others
lost_in FoundNoMemory = true

abbrev pub done_in : Reply → Bool
done_in (Asked up others done) = done
done_in FoundNoMemory = false

-- as the handler was told: of nothing if it found no memory
abbrev pub told_in : Completed → Reply → List Told
told_in c (Asked up others done) = record { completed = c; asked = up ++ others; done = done } ∷ []
told_in c FoundNoMemory = []

abbrev pub reads_in : List Op → List Reading
reads_in [] = []
reads_in (op.Read id want ∷ ops) = record { id = id; want = want } ∷ reads_in ops
reads_in (op.Write id bytes ∷ ops) = reads_in ops

abbrev pub writes_in : List Op → List Writing
writes_in [] = []
writes_in (op.Read id want ∷ ops) = writes_in ops
writes_in (op.Write id bytes ∷ ops) = record { id = id; bytes = bytes } ∷ writes_in ops

-- ---- outcomes

abbrev pub is_failed : Outcome → Bool
is_failed outcome.Failed = true
is_failed _ = false

abbrev pub is_starved : Outcome → Bool
is_starved outcome.NoMemory = true
is_starved _ = false

abbrev pub is_cancelled : Outcome → Bool
is_cancelled outcome.Cancelled = true
is_cancelled _ = false

-- the bytes of a read
abbrev pub bytes_in : Outcome → List ℕ
bytes_in (outcome.Read bytes) = bytes
bytes_in _ = []

-- ---- events: the completion of each, if it is one

abbrev pub completion : ℕ → Outcome → Completed
completion id came = record { id = id; outcome = came }

-- what the handler was told, and what was asked and taken up
abbrev pub told_by : Event → List Told
told_by (Took bytes) = []
told_by (Gave bytes) = []
told_by (ReadDone read came reply) = told_in (completion read.id came) reply
told_by (WriteDone write came reply) = told_in (completion write.id came) reply

abbrev pub asked_by : Event → List Op
asked_by (Took bytes) = []
asked_by (Gave bytes) = []
asked_by (ReadDone read came reply) = up_in reply
asked_by (WriteDone write came reply) = up_in reply

-- the completions of reads, and of writes
abbrev pub read_done_by : Event → List Completed
read_done_by (ReadDone read came reply) = completion read.id came ∷ []
read_done_by _ = []

abbrev pub write_done_by : Event → List Completed
write_done_by (WriteDone write came reply) = completion write.id came ∷ []
write_done_by _ = []

-- the bytes that were read, and written
abbrev pub taken_by : Event → List ℕ
taken_by (Took bytes) = bytes
taken_by _ = []

abbrev pub given_by : Event → List ℕ
given_by (Gave bytes) = bytes
given_by _ = []

-- those of a read that completed with them, and the write that completed as it was asked
abbrev pub read_by : Event → List ℕ
read_by (ReadDone read came reply) = bytes_in came
read_by _ = []

abbrev pub is_wrote : Outcome → Bool
is_wrote outcome.Wrote = true
is_wrote _ = false

abbrev pub if_so : {A : Type 0} → Bool → A → List A
if_so true x = x ∷ []
if_so false x = []

abbrev pub wrote_by : Event → List Writing
wrote_by (WriteDone write came reply) = if_so (is_wrote came) write
wrote_by _ = []

-- ---- all events

abbrev pub told : List Event → List Told
told events = flat_map told_by events

-- operations asked and taken up, of each direction, the end's first operation first
abbrev pub asked_reads : Op → List Event → List Reading
asked_reads first events = reads_in (first ∷ flat_map asked_by events)

abbrev pub asked_writes : Op → List Event → List Writing
asked_writes first events = writes_in (first ∷ flat_map asked_by events)

-- operations completed, of each direction
abbrev pub done_reads : List Event → List Completed
done_reads events = flat_map read_done_by events

abbrev pub done_writes : List Event → List Completed
done_writes events = flat_map write_done_by events

-- the bytes taken from the end, and given to it
abbrev pub taken : List Event → List ℕ
taken events = flat_map taken_by events

abbrev pub given : List Event → List ℕ
given events = flat_map given_by events

-- some bytes went either way
abbrev pub moves : Event → Bool
moves (Took bytes) = true
moves (Gave bytes) = true
moves _ = false

-- the handler was done, or an operation failed; there was no memory; an operation was cancelled
abbrev pub ends : Event → Bool
ends (ReadDone read came reply) = is_failed came || done_in reply
ends (WriteDone write came reply) = is_failed came || done_in reply
ends _ = false

abbrev pub starves : Event → Bool
starves (ReadDone read came reply) = is_starved came || lost_in reply
starves (WriteDone write came reply) = is_starved came || lost_in reply
starves _ = false

abbrev pub cancels : Event → Bool
cancels (ReadDone read came reply) = is_cancelled came
cancels (WriteDone write came reply) = is_cancelled came
cancels _ = false

abbrev pub fails : Event → Bool
fails (ReadDone read came reply) = is_failed came
fails (WriteDone write came reply) = is_failed came
fails _ = false

abbrev pub some_of : (Event → Bool) → List Event → Bool
some_of p [] = false
some_of p (e ∷ events) = p e || some_of p events

-- how many operations completed
abbrev pub count_done : List Event → ℕ
count_done events = length (done_reads events) + length (done_writes events)
