-- What the adapters over std's readers and writers do to the bytes that these have left and hold,
-- if they know them.
use Rattle.std.specs.Prelude.{◌≡◌, ◌≤◌, ℕ, Bool, false, List, length, take, Option}
use Rattle.std.specs.Io.KnownBytes.{Keeps, Appends, Consumes, IsAtEnd}
use Rattle.ev_base.specs.declared.source.Got.{Got}
use Rattle.ev_base.specs.declared.source.Got.TheVariants as got
use Rattle.ev_base.specs.declared.sink.Wrote.{Wrote}
use Rattle.ev_base.specs.declared.sink.Wrote.TheVariants as wrote

-- What a read that was answered so did to the bytes that the reader had left, by whether a read had
-- found the end before: it gave the next of them; it left them and, if it is the first to find
-- the end, there was none; or it failed, and left them.
abbrev pub ReadsFrom : Bool → Option (List ℕ) → List ℕ → Got → Option (List ℕ) → Type 0
ReadsFrom over old buffer (got.Bytes n) new = Consumes old new (take n buffer)
ReadsFrom over old buffer got.Pause new = ⊥
ReadsFrom over old buffer got.Over new = Keeps old new × (over ≡ false → IsAtEnd new)
ReadsFrom over old buffer got.Failed new = Keeps old new

-- What a write of a piece that was answered so did to the bytes that the writer held: they grew by
-- those that it took. If it failed they may have grown by a front of the piece, which was
-- written before the flush failed.
abbrev pub WritesTo : Option (List ℕ) → List ℕ → Wrote → Option (List ℕ) → Type 0
WritesTo old piece (wrote.Bytes n) new = Appends old new (take n piece)
WritesTo old piece wrote.Failed new = (n : ℕ) × (n ≤ length piece) × Appends old new (take n piece)
