-- The laws of the record's grammar and of the decoder.
use Rattle.std.specs.Prelude.{◌≡◌, ◌≤◌, ℕ, List, [], ◌∷◌, ◌++◌, length, take, ◌↔◌, MatchOption}
use Rattle.std.specs.Int.{w32, w64}
use Rattle.std.specs.Int.RustNames.{FitsSigned}
use Rattle.cdr_record.specs.declared.record.Order.{Order}
use Rattle.cdr_record.specs.declared.record.LogRecord.{LogRecord}
use Rattle.cdr_record.specs.declared.bad.BadWhy.{BadWhy}
use Rattle.cdr_record.specs.declared.grammar.First.TheVariants as first
use Rattle.cdr_record.specs.Grammar.{Spells, first_of}
use Rattle.cdr_record.specs.Decoding.{Clean, Malformed, Decoded, DecoderState, StandsFor, decode}
use Rattle.cdr_record.specs.Decoding.{left_of, unfinished}
use Rattle.cdr_record.specs.Feeding.{RunsThrough, fresh, joined}
use Rattle.cdr_record.specs.Spelling.{canon, canon_2}

-- a record stands first exactly if that many bytes are there and spell one
abbrev pub OneIsARecord : Type 0
OneIsARecord = (t : List ℕ) (n : ℕ) → (first_of t ≡ first.One n)
    ↔ ((n ≤ length t) × ((r : LogRecord) × Spells (take n t) r))

-- a list spells at most one record
abbrev pub SpellsOneRecord : Type 0
SpellsOneRecord = (f : List ℕ) (r s : LogRecord) → Spells f r → Spells f s → r ≡ s

-- no spelling is the beginning of a longer one
abbrev pub NoSpellingBeginsAnother : Type 0
NoSpellingBeginsAnother = (f more : List ℕ) (r s : LogRecord) → Spells f r → Spells (f ++ more) s
    → more ≡ []

-- what stands first is not changed by bytes that come after it
abbrev pub FirstStays : Type 0
FirstStays = (t more : List ℕ) → ((n : ℕ) → first_of t ≡ first.One n
    → first_of (t ++ more) ≡ first.One n)
    × ((why : BadWhy) → first_of t ≡ first.Bad why → first_of (t ++ more) ≡ first.Bad why)

-- each list spells its record
abbrev pub SpellsEach : List (List ℕ) → List LogRecord → Type 0
SpellsEach [] [] = Unit {0}
SpellsEach (f ∷ fs) (r ∷ rs) = Spells f r × SpellsEach fs rs
SpellsEach _ _ = ⊥

-- t is spellings of these records, one after another, and then a rest at whose front no record
-- stands
abbrev pub IsCutInto : List ℕ → List LogRecord → List ℕ → Type 0
IsCutInto t records rest =
    (fs : List (List ℕ)) × SpellsEach fs records × (t ≡ joined fs ++ rest)
    × ((n : ℕ) → ¬ (first_of rest ≡ first.One n))

-- each stream is cut so into the records that it is decoded to, and into no others
abbrev pub DecodeCuts : Type 0
DecodeCuts = (t : List ℕ) → IsCutInto t (decode t).records (left_of t)
    × ((records : List LogRecord) (rest : List ℕ) → IsCutInto t records rest
    → ((decode t).records ≡ records) × (left_of t ≡ rest))

-- the numbers of a record but its seconds are numbers of 32 bits
pub record HasNumbersOf32Bits (r : LogRecord) : Type 0 where
  pub kind : FitsSigned w32 r.kind
  pub pid : FitsSigned w32 r.pid
  pub usec : FitsSigned w32 r.usec

abbrev pub one_record : LogRecord → Decoded
one_record r = record { records = r ∷ []; stop = Clean }

-- what is encoded in version 1 is decoded again
abbrev pub DecodesCanon : Type 0
DecodesCanon = (r : LogRecord) (order : Order) → HasNumbersOf32Bits r → FitsSigned w32 r.sec
    → length r.text ≤ 65536 → decode (canon r order) ≡ one_record r

-- and so in version 2
abbrev pub DecodesCanon2 : Type 0
DecodesCanon2 = (r : LogRecord) (order : Order) → HasNumbersOf32Bits r → FitsSigned w64 r.sec
    → length r.text ≤ 65536 → decode (canon_2 r order) ≡ one_record r

-- after a bad record no byte counts
abbrev pub BadEndsReading : Type 0
BadEndsReading = (t more : List ℕ) (at : ℕ) → (decode t).stop ≡ Malformed at
    → decode (t ++ more) ≡ decode t

-- the decoder has a bad record exactly if reading stops at one, with its place and its cause,
-- and else as many bytes as are unfinished
abbrev pub TellsStop : Type 0
TellsStop = (decoder : DecoderState) (t : List ℕ) → StandsFor decoder t
    → MatchOption decoder.bad ((decode t).stop ≡ unfinished (length decoder.rest))
    (λ bad. ((decode t).stop ≡ Malformed bad.at) × (first_of (left_of t) ≡ first.Bad bad.why)
    × (decoder.rest ≡ []))

-- a new decoder that was fed these pieces gave the records of all their bytes, and stands for these
abbrev pub GivesAll : Type 0
GivesAll = (pieces : List (List ℕ)) (records : List LogRecord) (decoder : DecoderState)
    → RunsThrough fresh pieces records decoder
    → (records ≡ (decode (joined pieces)).records) × StandsFor decoder (joined pieces)

-- how the bytes were cut into pieces does not matter
abbrev pub CuttingDoesNotMatter : Type 0
CuttingDoesNotMatter = (pieces others : List (List ℕ)) (records records' : List LogRecord)
    (decoder decoder' : DecoderState)
    → RunsThrough fresh pieces records decoder → RunsThrough fresh others records' decoder'
    → joined pieces ≡ joined others
    → (records ≡ records') × (decoder ≡ decoder')
