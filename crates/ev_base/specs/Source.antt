-- What a source of bytes tells, and what a read does to it.
use Rattle.std.specs.Prelude.{◌≡◌, ◌≤◌, ◌+◌, ℕ, List, length, take, Option, Bool, true, false}
use Rattle.ev_base.specs.Counts.{Rose}
use Rattle.ev_base.specs.Bytes.{ReaderBytes, MovesOn, NothingLeft}
use Rattle.ev_base.specs.declared.source.Got.{Got}
use Rattle.ev_base.specs.declared.source.Got.TheVariants.{Bytes, Pause, Over, Failed}

pub record SourceFacts : Type 0 where
  -- how often a read failed
  pub faults : ℕ
  -- how many bytes it gave
  pub gave : ℕ
  -- whether a read answered Over
  pub over : Bool
  -- the bytes, if they are told
  pub bytes : Option ReaderBytes

-- a read gave the first n bytes of the buffer
pub record GivesBytes (old : SourceFacts) (buffer : List ℕ) (n : ℕ) (new : SourceFacts) : Type 0
  where
    pub some : 1 ≤ n
    pub within : n ≤ length buffer
    pub gave : new.gave ≡ old.gave + n
    pub bytes : MovesOn old.bytes (take n buffer) new.bytes
    pub was_not_over : old.over ≡ false
    pub over : new.over ≡ false
    pub faults : new.faults ≡ old.faults

-- a read found the end of the input
pub record GivesEnd (old new : SourceFacts) : Type 0 where
  pub over : new.over ≡ true
  pub nothing_left : NothingLeft old.bytes
  pub gave : new.gave ≡ old.gave
  pub bytes : new.bytes ≡ old.bytes
  pub faults : new.faults ≡ old.faults

-- a read failed: the count of faults rose, and all else is as before
pub record FailsToRead (old new : SourceFacts) : Type 0 where
  pub rose : Rose old.faults new.faults
  pub gave : new.gave ≡ old.gave
  pub was_not_over : old.over ≡ false
  pub over : new.over ≡ false
  pub bytes : new.bytes ≡ old.bytes

-- what a read into a buffer does, by its answer; a source never pauses, and answers Over again and
-- again
abbrev pub Reads : SourceFacts → List ℕ → Got → SourceFacts → Type 0
Reads old buffer (Bytes n) new = GivesBytes old buffer n new
Reads old buffer Pause new = ⊥
Reads old buffer Over new = GivesEnd old new
Reads old buffer Failed new = FailsToRead old new
