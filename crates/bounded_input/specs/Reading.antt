-- What a bounded input stands for, and what its reads do.
use Rattle.std.specs.Prelude.{◌≡◌, ◌≤◌, ◌+◌, ℕ, false, true, List, [], ◌∷◌, ◌++◌, length, take}
use Rattle.ev_base.specs.Source.{SourceFacts}
use Rattle.bounded_input.specs.Input.{TakesInput, IsReadToEnd}
use Rattle.bounded_input.specs.declared.bounded.BoundedInput.{BoundedInput}
use Rattle.bounded_input.specs.declared.bounded.Part.{Part}
use Rattle.bounded_input.specs.declared.bounded.Part.TheVariants as part
use Rattle.bounded_input.specs.declared.whole.Ending.{Ending}
use Rattle.bounded_input.specs.declared.whole.Ending.TheVariants as ending

-- the source below
abbrev pub input_of : {S : Type 0} → BoundedInput S → S
input_of bounded = bounded.input

-- how many bytes it gives at most
abbrev pub limit_of : {S : Type 0} → BoundedInput S → ℕ
limit_of bounded = bounded.limit

-- how many bytes it gave
abbrev pub count_of : {S : Type 0} → BoundedInput S → ℕ
count_of bounded = bounded.gave

-- since its source told these facts it gave these bytes, and no read failed
pub record Gave {S : Type 0} (facts : S → SourceFacts) (i : SourceFacts) (bounded : BoundedInput S)
    (taken : List ℕ) : Type 0 where
  pub takes : TakesInput (limit_of bounded) false i (facts (input_of bounded)) taken []
  pub counts : count_of bounded ≡ length taken

-- a byte stands after the last that may be read
pub record IsTooLong (limit : ℕ) (i j : SourceFacts) (taken : List ℕ) : Type 0 where
  pub more : ℕ
  pub takes : TakesInput limit false i j taken (more ∷ [])

-- what a read into a buffer gave, after these bytes
abbrev pub Reads : {S : Type 0} → (S → SourceFacts) → SourceFacts → List ℕ → List ℕ → Part
    → BoundedInput S → Type 0
Reads facts i taken buffer (part.Bytes n) new = Gave facts i new (taken ++ take n buffer)
Reads facts i taken buffer part.Over new =
    IsReadToEnd (facts (input_of new)) × Gave facts i new taken
Reads facts i taken buffer part.Failed new =
    TakesInput (limit_of new) true i (facts (input_of new)) taken []
Reads facts i taken buffer part.TooLong new =
    IsTooLong (limit_of new) i (facts (input_of new)) taken

-- a read into a buffer gives some bytes of it, which are counted, or none
abbrev pub Counts : {S : Type 0} → BoundedInput S → List ℕ → Part → BoundedInput S → Type 0
Counts old buffer (part.Bytes n) new =
    (1 ≤ n) × (n ≤ length buffer) × (count_of new ≡ count_of old + n)
Counts old buffer _ new = count_of new ≡ count_of old

-- how reading the whole input ended, and the bytes that were read; if there was no memory some
-- of them are gone
abbrev pub ReadsWhole : ℕ → SourceFacts → List ℕ → Ending → SourceFacts → Type 0
ReadsWhole limit i bytes ending.Over j = IsReadToEnd j × TakesInput limit false i j bytes []
ReadsWhole limit i bytes ending.Failed j = TakesInput limit true i j bytes []
ReadsWhole limit i bytes ending.TooLong j = IsTooLong limit i j bytes
ReadsWhole limit i bytes ending.NoMemory j = (taken : List ℕ) × TakesInput limit false i j taken []

-- the input was read to its end, and these are its bytes
pub record IsReadWhole (limit : ℕ) (i j : SourceFacts) (text : List ℕ) : Type 0 where
  pub takes : TakesInput limit false i j text []
  pub over : IsReadToEnd j

-- some bytes were read, and no read failed; or the read after them failed; or one byte more than
-- the limit was there
abbrev pub ReadsSome : ℕ → SourceFacts → SourceFacts → Type 0
ReadsSome limit i j = (taken : List ℕ) × TakesInput limit false i j taken []

abbrev pub ReadsUpToFault : ℕ → SourceFacts → SourceFacts → Type 0
ReadsUpToFault limit i j = (taken : List ℕ) × TakesInput limit true i j taken []

abbrev pub ReadsTooLong : ℕ → SourceFacts → SourceFacts → Type 0
ReadsTooLong limit i j = (taken : List ℕ) × IsTooLong limit i j taken
