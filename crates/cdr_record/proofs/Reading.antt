-- What a record is read as, and what stays as the list grows.
use Rattle.std.proofs.Common.{◌≡◌, ℕ, ◌+◌, List, take, drop, refl}
use Rattle.std.specs.Prelude.{ℤ}
use Rattle.std.specs.Int.{w32, w64, cast_signed, cast_unsigned}
use Rattle.std.specs.Int.RustNames.{FitsSigned}
use Rattle.std.proofs.lemmas.Int.{to_z-of_z}
use Rattle.cdr_record.specs.declared.record.LogRecord.{LogRecord}
use Rattle.cdr_record.specs.Grammar.{record_in, word_at, seconds_in, seconds_size, message_length}
use Rattle.cdr_record.specs.Grammar.{octet}

-- the record that the code makes of the fields that it read
pub made_record : (f : List ℕ) (kind pid sec usec : ℤ) (text : List ℕ) (size : ℕ)
    → FitsSigned w32 kind → FitsSigned w32 pid → FitsSigned w64 sec → FitsSigned w32 usec
    → kind ≡ cast_signed w32 (word_at 8 f) → pid ≡ cast_signed w32 (word_at 12 f)
    → sec ≡ seconds_in f
    → size ≡ seconds_size (octet f) → usec ≡ cast_signed w32 (word_at (16 + size) f)
    → text ≡ take (message_length f) (drop (24 + seconds_size (octet f)) f)
    → ◌≡◌ {A = LogRecord} (record {
      kind = cast_signed w32 (cast_unsigned w32 kind);
      pid = cast_signed w32 (cast_unsigned w32 pid);
      sec = cast_signed w64 (cast_unsigned w64 sec);
      usec = cast_signed w32 (cast_unsigned w32 usec);
      text = text;
    }) (record_in f)
unfolding record_in
made_record f kind pid sec usec text size fk fp fs fu ek ep es esize eu et =
    rw (
      to_z-of_z w32 kind fk,
      to_z-of_z w32 pid fp,
      to_z-of_z w64 sec fs,
      to_z-of_z w32 usec fu,
      ek,
      ep,
      es,
      eu,
      esize,
      et,
    ) refl
