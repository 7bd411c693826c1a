-- The records of the generator, one of each round r and each connection c, and their bytes (this
-- project's own).
use Rattle.std.specs.Prelude.{ℕ, ◌+◌, ◌*◌, ◌^◌, ◌%◌, ◌==◌, if◌then◌else◌, List, [], ◌∷◌, ◌++◌, drop}
use Rattle.std.specs.Prelude.{map, pos}
use Rattle.std.specs.List.{range_with_len}
use Rattle.cdr_record.specs.declared.record.Order.{Order}
use Rattle.cdr_record.specs.declared.record.Order.TheVariants.{Big, Little}
use Rattle.cdr_record.specs.declared.record.LogRecord.{LogRecord}
use Rattle.cdr_record.specs.Spelling.{octet_1, canon}

-- how many letters the message has, and letter number j of them, from 0
abbrev pub letter_count : ℕ → ℕ → ℕ → ℕ
letter_count seed r c = (seed + 7 * r + 3 * c) % 40

abbrev pub letter : ℕ → ℕ → ℕ → ℕ
letter r c j = 97 + (r + c + j) % 26

-- the message: the letters and one zero byte
abbrev pub message : ℕ → ℕ → ℕ → List ℕ
message seed r c = map (letter r c) (range_with_len 0 (letter_count seed r c)) ++ 0 ∷ []

unfoldable pub record_of : ℕ → ℕ → ℕ → LogRecord
record_of seed r c = record {
  kind = pos (2 ^ ((r + c) % 11));
  pid = pos (1000 + c);
  sec = pos r;
  usec = pos (seed % 1000000);
  text = message seed r c;
}

-- little-endian if r + c is odd
abbrev pub order_of : ℕ → ℕ → Order
order_of r c = if (r + c) % 2 == 1 then Little else Big

-- each of the three bytes of padding
abbrev pub padding : ℕ → ℕ → ℕ
padding r c = (r + c) % 256

-- The bytes of the record: its canonical spelling of version 1, but for the padding after the
-- order octet.
unfoldable pub bytes_of : ℕ → ℕ → ℕ → List ℕ
bytes_of seed r c =
    octet_1 (order_of r c) ∷ padding r c ∷ padding r c ∷ padding r c
    ∷ drop 4 (canon (record_of seed r c) (order_of r c))
