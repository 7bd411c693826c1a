-- The operations that stand at an end.
use Rattle.std.specs.Prelude.{◌≡◌, ◌≤◌, ◌<◌, ◌+◌, ℕ, nat_lt, Bool, true, false, not, List, [], ◌∷◌}
use Rattle.std.specs.Prelude.{◌++◌, length, drop, Option, Some, None}
use Rattle.proactor.specs.declared.operation.Op.{Op}
use Rattle.proactor.specs.declared.operation.Ops.{Ops}
use Rattle.proactor.specs.declared.standing.Reading.{Reading}
use Rattle.proactor.specs.declared.standing.Writing.{Writing}
use Rattle.proactor.specs.Operations.{listed_op, ops_of}
use Rattle.proactor.specs.Events.{reads_in, writes_in, some_there}

-- the operations that stand, of each direction, in the order in which they were asked, and how many
-- bytes of the first write were taken
pub record Stands : Type 0 where
  pub reads : List Reading
  pub writes : List Writing
  pub sent : ℕ

-- reads want some bytes, and writes have some
abbrev pub AreReads : List Reading → Type 0
AreReads [] = Unit {0}
AreReads (read ∷ rest) = (1 ≤ read.want) × (read.want ≤ 65536) × AreReads rest

abbrev pub AreWrites : List Writing → Type 0
AreWrites [] = Unit {0}
AreWrites (write ∷ rest) = (1 ≤ length write.bytes) × AreWrites rest

-- of the first write fewer bytes were taken than it has, and none if no write stands
abbrev pub IsWithin : List Writing → ℕ → Type 0
IsWithin [] sent = sent ≡ 0
IsWithin (write ∷ rest) sent = sent < length write.bytes

abbrev pub AreSound : List Reading → List Writing → ℕ → Type 0
AreSound reads writes sent = AreReads reads × AreWrites writes × IsWithin writes sent

abbrev pub begins_with : Op → Stands
begins_with first = record {
  reads = reads_in (first ∷ []);
  writes = writes_in (first ∷ []);
  sent = 0;
}

abbrev pub queued : List Op → Stands → Stands
queued ops s = record s {
  reads = s.reads ++ reads_in ops;
  writes = s.writes ++ writes_in ops;
}

-- what the first read wants, from 1 to 65,536 bytes
abbrev pub Wants : List Reading → Option ℕ → Type 0
Wants [] None = Unit {0}
Wants (read ∷ rest) (Some want) = (want ≡ read.want) × (1 ≤ want) × (want ≤ 65536)
Wants [] (Some want) = ⊥
Wants (read ∷ rest) None = ⊥

-- the bytes of the first write that were not taken yet, at least one
abbrev pub GivesPieceOf : List Writing → ℕ → List ℕ → Type 0
GivesPieceOf [] sent piece = ⊥
GivesPieceOf (write ∷ rest) sent piece = (piece ≡ drop sent write.bytes) × (1 ≤ length piece)

abbrev pub GivesPiece : Stands → List ℕ → Type 0
GivesPiece s piece = GivesPieceOf s.writes s.sent piece

-- the first write has so many bytes that were not taken yet
abbrev pub HasLeftOf : List Writing → ℕ → ℕ → Type 0
HasLeftOf [] sent count = ⊥
HasLeftOf (write ∷ rest) sent count = count ≤ length (drop sent write.bytes)

abbrev pub HasLeft : Stands → ℕ → Type 0
HasLeft s count = HasLeftOf s.writes s.sent count

-- whether the first write has more bytes than so many
abbrev pub has_more : List Writing → ℕ → Bool
has_more [] sent = false
has_more (write ∷ rest) sent = nat_lt sent (length write.bytes)

abbrev pub AdvancesTo : ℕ → Stands → Bool → Stands → Type 0
AdvancesTo count old true new =
    (has_more old.writes (old.sent + count) ≡ true) × (new ≡ record old { sent = old.sent + count })
AdvancesTo count old false new =
    (has_more old.writes (old.sent + count) ≡ false) × (new ≡ old)

-- the first read or write stands no more
abbrev pub FinishesReadOf : List Reading → ℕ → List Reading → Type 0
FinishesReadOf [] id rest = ⊥
FinishesReadOf (read ∷ old) id rest = (id ≡ read.id) × (rest ≡ old)

abbrev pub FinishesRead : Stands → ℕ → Stands → Type 0
FinishesRead old id new =
    FinishesReadOf old.reads id new.reads × (new.writes ≡ old.writes) × (new.sent ≡ old.sent)

abbrev pub FinishesWriteOf : List Writing → ℕ → List Writing → Type 0
FinishesWriteOf [] id rest = ⊥
FinishesWriteOf (write ∷ old) id rest = (id ≡ write.id) × (rest ≡ old)

abbrev pub FinishesWrite : Stands → ℕ → Stands → Type 0
FinishesWrite old id new =
    FinishesWriteOf old.writes id new.writes × (new.reads ≡ old.reads) × (new.sent ≡ 0)

-- one operation, if it is there, is queued; or there was no memory for it
abbrev pub QueuesOne : Option Op → Stands → Bool → Stands → Type 0
QueuesOne op old true new = new ≡ queued (listed_op op) old
QueuesOne op old false new = (length (listed_op op) ≡ 1) × (new ≡ old)

-- the first of them are queued, and if there was memory all
pub record TakesUp (ops : Ops) (old : Stands) (all : Bool) (new : Stands) : Type 0 where
  pub up : List Op
  pub others : List Op
  pub are : ops_of ops ≡ up ++ others
  pub leaves : new ≡ queued up old
  pub all_is : all ≡ not (some_there others)

-- the first that stands, reads first, is taken out
abbrev pub TakesOut : List Reading → List Writing → Option ℕ → Stands → Type 0
TakesOut [] [] None new = Unit {0}
TakesOut [] [] (Some id) new = ⊥
TakesOut (read ∷ reads) writes (Some id) new =
    (id ≡ read.id) × (new.reads ≡ reads) × (new.writes ≡ writes)
TakesOut (read ∷ reads) writes None new = ⊥
TakesOut [] (write ∷ writes) (Some id) new =
    (id ≡ write.id) × (new.reads ≡ []) × (new.writes ≡ writes)
TakesOut [] (write ∷ writes) None new = ⊥
