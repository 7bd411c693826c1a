-- What one feed of a decoder does, and a run of feeds.
use Rattle.std.specs.Prelude.{◌≡◌, ℕ, List, [], ◌∷◌, ◌++◌, Option, None}
use Rattle.cdr_record.specs.declared.record.LogRecord.{LogRecord}
use Rattle.cdr_record.specs.declared.decoder.Fed.{Fed}
use Rattle.cdr_record.specs.declared.bad.Bad.{Bad}
use Rattle.cdr_record.specs.Decoding.{DecoderState, StandsFor, decode, bad_of}

-- The decoder was fed a piece. For each list that it stood for, it stands now for that list and the
-- piece; the records that came are those that the whole has after those of the list; and a bad
-- record is told exactly if reading the whole stops at one.
pub record Feeds (old : DecoderState) (piece : List ℕ) (fed : Fed) (new : DecoderState) : Type 0
  where
    pub stands : (t : List ℕ) → StandsFor old t → StandsFor new (t ++ piece)
    pub records : (t : List ℕ) → StandsFor old t
        → (decode (t ++ piece)).records ≡ (decode t).records ++ fed.records
    pub bad : (t : List ℕ) → StandsFor old t → fed.bad ≡ bad_of (t ++ piece)
    pub same_bad : new.bad ≡ fed.bad

-- The decoder was fed a piece, and the records that came stand now after those that a list had.
abbrev pub FeedsTo : DecoderState → List ℕ → List LogRecord → Option Bad → List LogRecord
    → DecoderState → Type 0
FeedsTo old piece before bad after new =
    (fed : Fed) × (fed.bad ≡ bad) × (after ≡ before ++ fed.records) × Feeds old piece fed new

-- a decoder that was fed nothing
abbrev pub fresh : DecoderState
fresh = record { offset = 0; rest = []; bad = None }

-- pieces one after another
abbrev pub joined : List (List ℕ) → List ℕ
joined [] = []
joined (piece ∷ pieces) = piece ++ joined pieces

-- the pieces were fed in this order, and these are all records that came
abbrev pub RunsThrough : DecoderState → List (List ℕ) → List LogRecord → DecoderState → Type 0
RunsThrough old [] records new = (records ≡ []) × (new ≡ old)
RunsThrough old (piece ∷ pieces) records new =
    (fed : Fed) × (between : DecoderState) × (more : List LogRecord) × Feeds old piece fed between
    × RunsThrough between pieces more new × (records ≡ fed.records ++ more)
