-- How long the texts of records are.
use Rattle.std.proofs.Common.{◌≡◌, ◌≤◌, ◌<◌, ℕ, ◌+◌, ◌*◌, ◌^◌, ◌==◌, Bool, true, false}
use Rattle.std.proofs.Common.{if◌then◌else◌, List, [], ◌∷◌, ◌++◌, length, flat_map, refl, arith}
use Rattle.std.proofs.Common.{length-append, ℤ, pos, negsuc}
use Rattle.std.specs.Prelude.{codes, decimal, take_while, not}
use Rattle.std.specs.Int.{w32, w64}
use Rattle.std.specs.Int.Signed.{mag}
use Rattle.std.specs.Int.RustNames.{FitsSigned}
use Rattle.std.specs.Fmt.{signed_decimal}
use Rattle.std.specs.List.{prefix_len}
use Rattle.std.proofs.lemmas.List.{length-take}
use Rattle.std.proofs.lemmas.Fmt.{length-decimal-le, length_signed_le}
use Rattle.cdr_record.specs.declared.record.LogRecord.{LogRecord}
use Rattle.cdr_record.specs.Laws.{HasNumbersOf32Bits}
use Rattle.log_lines.specs.Texts.{is_plain, byte_text, message_text, name_or_number, type_text}
use Rattle.log_lines.specs.Texts.{record_text}

-- one of two texts
either_short : (c : Bool) (xs ys : List ℕ) (n : ℕ) → length xs ≤ n → length ys ≤ n
    → length (if c then xs else ys) ≤ n
either_short true xs ys n first second = first
either_short false xs ys n first second = second

byte_short : (byte : ℕ) → length (byte_text byte) ≤ 4
byte_short byte = either_short (is_plain byte) (byte ∷ []) _ 4 (omega arith)
    (either_short (byte == 92) (92 ∷ 92 ∷ []) _ 4 (omega arith) (omega arith))

escaped_short : (bytes : List ℕ) → length (flat_map byte_text bytes) ≤ 4 * length bytes
escaped_short [] = omega arith
escaped_short (byte ∷ bytes) = omega (
  arith,
  length-append (byte_text byte) (flat_map byte_text bytes),
  byte_short byte,
  escaped_short bytes,
)

front_short : (p : ℕ → Bool) (bytes : List ℕ) → length (take_while p bytes) ≤ length bytes
front_short p bytes = omega (arith, length-take (prefix_len p bytes) bytes)

message_short : (message : List ℕ) → length (message_text message) ≤ 4 * length message
unfolding message_text
message_short message =
    let front = take_while (λ byte. not (byte == 0)) message in
    omega (arith, escaped_short front, front_short (λ byte. not (byte == 0)) message)

-- a number of 32 bits
word_short : (z : ℤ) → FitsSigned w32 z → length (signed_decimal z) ≤ 11
word_short z h = let small : mag z < 2 ^ 31 = h.sfits in
    length_signed_le 10 z (omega (arith, small)) (omega (arith, small))

-- a number of 64 bits
seconds_short : (z : ℤ) → FitsSigned w64 z → length (signed_decimal z) ≤ 20
seconds_short z h = let small : mag z < 2 ^ 63 = h.sfits in
    length_signed_le 19 z (omega (arith, small)) small

-- the name of a priority, or a number
name_short : (kind : ℕ) → length (decimal kind) ≤ 12 → length (name_or_number kind) ≤ 12
name_short kind short =
    either_short (kind == 1) (codes "LM_SHUTDOWN") _ 12 (omega arith)
    (either_short (kind == 2) (codes "LM_TRACE") _ 12 (omega arith)
    (either_short (kind == 4) (codes "LM_DEBUG") _ 12 (omega arith)
    (either_short (kind == 8) (codes "LM_INFO") _ 12 (omega arith)
    (either_short (kind == 16) (codes "LM_NOTICE") _ 12 (omega arith)
    (either_short (kind == 32) (codes "LM_WARNING") _ 12 (omega arith)
    (either_short (kind == 64) (codes "LM_STARTUP") _ 12 (omega arith)
    (either_short (kind == 128) (codes "LM_ERROR") _ 12 (omega arith)
    (either_short (kind == 256) (codes "LM_CRITICAL") _ 12 (omega arith)
    (either_short (kind == 512) (codes "LM_ALERT") _ 12 (omega arith)
    (either_short (kind == 1024) (codes "LM_EMERGENCY") _ 12 (omega arith) short))))))))))

type_short : (kind : ℤ) → FitsSigned w32 kind → length (type_text kind) ≤ 12
unfolding type_text
type_short (negsuc n) h = omega (arith, word_short (negsuc n) h)
type_short (pos n) h =
    let small : n < 2 ^ 31 = h.sfits in
    let digits = length-decimal-le 10 n (omega arith) (omega (arith, small)) (omega (arith, small))
    in
    name_short n (omega (arith, digits))

joined_length : (a b c d e f g h i : List ℕ) → length (a ++ b ++ c ++ d ++ e ++ f ++ g ++ h ++ i)
    ≡ length a + length b + length c + length d + length e + length f + length g + length h
    + length i
joined_length a b c d e f g h i = simp length-append refl

pub texts_short : (r : LogRecord) → HasNumbersOf32Bits r → FitsSigned w64 r.sec
    → length (record_text r) ≤ 59 + 4 * length r.text
unfolding record_text
texts_short r h sec =
    let all = joined_length (signed_decimal r.sec) (codes ",") (signed_decimal r.usec) (codes " ")
    (signed_decimal r.pid) (codes " ") (type_text r.kind) (codes ": ") (message_text r.text) in
    omega (
      arith,
      all,
      seconds_short r.sec sec,
      word_short r.usec h.usec,
      word_short r.pid h.pid,
      type_short r.kind h.kind,
      message_short r.text,
    )
