-- What a whole stream of bytes is read as, and how a decoder that is fed in pieces stands for it.
use Rattle.std.specs.Prelude.{◌≡◌, ℕ, zero, suc, ◌-◌, ◌^◌, min, List, [], ◌∷◌, length, drop, Option}
use Rattle.std.specs.Prelude.{Some, None}
use Rattle.cdr_record.specs.declared.record.LogRecord.{LogRecord}
use Rattle.cdr_record.specs.declared.bad.Bad.{Bad}
use Rattle.cdr_record.specs.declared.grammar.First.{First}
use Rattle.cdr_record.specs.declared.grammar.First.TheVariants as first
use Rattle.cdr_record.specs.Grammar.{first_of, record_in}

-- the records that stand one after another at the front of a list, at most `most` of them
abbrev pub records_within : ℕ → List ℕ → List LogRecord
records_within zero t = []
records_within (suc most) t =
    elim (first_of t) [
      | first.One n ↦ record_in t ∷ records_within most (drop n t)
      | _ ↦ []
    ]

-- what is left of a list after at most `most` records at its front
abbrev pub left_within : ℕ → List ℕ → List ℕ
left_within zero t = t
left_within (suc most) t = elim (first_of t) [ first.One n ↦ left_within most (drop n t) | _ ↦ t ]

-- All records that stand one after another at the front, and what is left after them. A record
-- has at least one byte, so there are no more records than bytes.
unfoldable pub records_of : List ℕ → List LogRecord
records_of t = records_within (length t) t

unfoldable pub left_of : List ℕ → List ℕ
left_of t = left_within (length t) t

-- how many bytes those records take
abbrev pub taken_of : List ℕ → ℕ
taken_of t = length t - length (left_of t)

-- A place is told in a number of 64 bits. One that is too large is told as the largest of them.
abbrev pub told : ℕ → ℕ
told place = min place (2 ^ 64 - 1)

-- How reading stops: with nothing left, with so many bytes of an unfinished record, or at a bad
-- record, whose first byte is at that place.
pub data Stop : Type 0 where
  Clean : Stop
  Partial : ℕ → Stop
  Malformed : ℕ → Stop

abbrev pub unfinished : ℕ → Stop
unfinished zero = Clean
unfinished (suc n) = Partial (suc n)

-- how reading stops at a place, where so many bytes are left and this stands first in them
abbrev pub stop_at : ℕ → ℕ → First → Stop
stop_at place left (first.Bad why) = Malformed (told place)
stop_at place left _ = unfinished left

-- what a stream is read as
pub record Decoded : Type 0 where
  pub records : List LogRecord
  pub stop : Stop

abbrev pub decode : List ℕ → Decoded
decode t = record {
  records = records_of t;
  stop = stop_at (taken_of t) (length (left_of t)) (first_of (left_of t));
}

-- the record of a list that is read as one record, with nothing left after it
abbrev pub record_alone : List LogRecord → List ℕ → Option LogRecord
record_alone (entry ∷ []) [] = Some entry
record_alone _ _ = None

abbrev pub only_record : List ℕ → Option LogRecord
only_record t = record_alone (records_of t) (left_of t)

-- the bad record at a place where this stands first
abbrev pub bad_at : ℕ → First → Option Bad
bad_at place (first.Bad why) = Some (record { at = told place; why = why })
bad_at place _ = None

-- the bad record at which reading stops
abbrev pub bad_of : List ℕ → Option Bad
bad_of t = bad_at (taken_of t) (first_of (left_of t))

-- the bytes that a decoder keeps: what is left, unless a bad record stands there
abbrev pub kept_of : List ℕ → First → List ℕ
kept_of left (first.Bad why) = []
kept_of left _ = left

-- What callers see of a decoder: how many bytes the records took that it gave, as told; the bytes
-- of an unfinished record; and the bad record at which it stopped.
pub record DecoderState : Type 0 where
  pub offset : ℕ
  pub rest : List ℕ
  pub bad : Option Bad

-- the decoder stands for t, all bytes that it was fed
pub record StandsFor (decoder : DecoderState) (t : List ℕ) : Type 0 where
  pub offset : decoder.offset ≡ told (taken_of t)
  pub rest : decoder.rest ≡ kept_of (left_of t) (first_of (left_of t))
  pub bad : decoder.bad ≡ bad_of t
