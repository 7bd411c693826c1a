-- What is forwarded of a stream of records (C++NPv2 chapter 7: the client logging daemon).
use Rattle.std.specs.Prelude.{◌≡◌, ◌-◌, ◌^◌, List, ℕ, length, min, nat_le, int_le, pos, negsuc}
use Rattle.std.specs.Prelude.{Bool, true, ◌&&◌, if◌then◌else◌}
use Rattle.std.specs.List.{flat_map, list_all}
use Rattle.cdr_record.specs.declared.record.LogRecord.{LogRecord}
use Rattle.cdr_record.specs.declared.record.Order.TheVariants.{Big}
use Rattle.cdr_record.specs.Spelling.{canon, canon_2}
use Rattle.cdr_record.specs.Decoding.{decode}

-- whether the seconds of a record fit the 32 bits of version 1
abbrev pub fits_1 : LogRecord → Bool
fits_1 r = int_le (negsuc 2147483647) r.sec && int_le r.sec (pos 2147483647)

-- A record is forwarded in its canonical spelling of version 1, big-endian, or if it has none in
-- that of version 2.
abbrev pub sent_as : LogRecord → List ℕ
sent_as r = if fits_1 r then canon r Big else canon_2 r Big

abbrev pub sent_all : List LogRecord → List ℕ
sent_all records = flat_map sent_as records

-- what is forwarded of these bytes
abbrev pub feed : List ℕ → List ℕ
feed bytes = sent_all (decode bytes).records

-- no message is longer than a record may have
abbrev pub is_short : LogRecord → Bool
is_short r = nat_le (length r.text) 65536

abbrev pub are_short : List LogRecord → Bool
are_short records = list_all is_short records

-- how many they are, as a number of 64 bits, which stands still at its end
abbrev pub count_of : List LogRecord → ℕ
count_of records = min (length records) (2 ^ 64 - 1)

-- bytes are what is sent of records, if no message is too long, and a number is theirs
pub record AreSpelled (records : List LogRecord) (bytes : List ℕ) (count : ℕ) : Type 0 where
  pub spelled : are_short records ≡ true → bytes ≡ sent_all records
  pub counted : count ≡ count_of records
