-- Messages and their digits.
use Rattle.std.proofs.Common.{◌≡◌, ◌∙◌, ℕ, zero, suc, ◌+◌, ◌*◌, ◌/◌, ◌%◌, ◌<◌, ◌≤◌, inl, inr}
use Rattle.std.proofs.Common.{nat_lt, nat_le, Bool, true, false, not, ◌&&◌, cond, ◌==◌, List, []}
use Rattle.std.proofs.Common.{◌∷◌, length, slice_index, Option, Some, None, Result, Ok, Err, refl}
use Rattle.std.proofs.Common.{sym, ap, arith}
use Rattle.std.specs.List.{list_all}
use Rattle.std.proofs.lemmas.Bool.{and_parts, cases_lt, eqb-true}
use Rattle.std.proofs.lemmas.Bool.Decides.{nat_tests}
use Rattle.hex.specs.Hex.{IsBytes, decode_of, decode_pairs, digit_or_error, hex_digit_value}
use Rattle.hex.specs.Hex.{encode_lower, encode_with, lower_digits, pair_value, value_at, ◌>>=◌}
use Rattle.hex.specs.declared.error.FromHexError.{FromHexError}
use Rattle.hex.proofs.HexLemmas.{length-encode_with, decode_of-encode_lower, decode_of-ok}
use Rattle.hex.proofs.HexLemmas.{decode_of-even}
use Rattle.journal_reader.specs.Reading.{is_lower_digit, value_of, message_of}
use Rattle.journal_reader.proofs.Joins.{is_plain, Plain}
use Rattle.journal_reader.proofs.Spelled.{Spelled, value_is}

-- ---- the sixteen digits

-- a digit by its value
abbrev glyph : ℕ → ℕ
glyph d = cond (nat_lt d 10) (48 + d) (87 + d)

abbrev all_glyphs : ℕ → Bool
all_glyphs zero = true
all_glyphs (suc n) = (slice_index lower_digits n == glyph n) && all_glyphs n

at_place : (n k : ℕ) → all_glyphs n ≡ true → k < n → slice_index lower_digits k ≡ glyph k
at_place zero k test lt = absurd (omega arith)
at_place (suc n) k test lt =
    let both = and_parts (slice_index lower_digits n == glyph n) (all_glyphs n) test in
    elim (cases_lt k n) [
      | inl below ↦ at_place n k both.1 below
      | inr top ↦
          let e : k ≡ n = omega arith in
          rw e (eqb-true (slice_index lower_digits n) (glyph n) both.0)
    ]

digit_is : (d : ℕ) → d < 16 → slice_index lower_digits d ≡ glyph d
digit_is d lt = at_place 16 d refl lt

lower_digit : (d : ℕ) → d < 16 → is_lower_digit (slice_index lower_digits d) ≡ true
lower_digit d lt = let is = digit_is d lt in rw is (grind (arith, nat_tests))

-- a digit in lower case is that of its value
digit_back : (c v : ℕ) → is_lower_digit c ≡ true → hex_digit_value c ≡ Some v
    → (slice_index lower_digits v ≡ c) × v < 16
digit_back c v lower is = let k : (glyph v ≡ c) × v < 16 =
    (grind (arith, nat_tests), grind (arith, nat_tests)) in (digit_is v k.1 ∙ k.0, k.1)

-- ---- the digits of messages

both_true : (a b : Bool) → a ≡ true → b ≡ true → (a && b) ≡ true
both_true true b first second = second
both_true false b first second = cc

lower_digits_all : (bytes : List ℕ) → IsBytes bytes
    → list_all is_lower_digit (encode_with lower_digits bytes) ≡ true
unfolding encode_with
lower_digits_all [] are = refl
lower_digits_all (b ∷ bytes) are =
    let small : b < 256 = are 0 in
    let high : b / 16 < 16 = omega arith in
    let low : b % 16 < 16 = omega arith in
    both_true _ _ (lower_digit (b / 16) high)
    (both_true _ _ (lower_digit (b % 16) low) (lower_digits_all bytes (λ k. are (suc k))))

message_all : (bytes : List ℕ) → IsBytes bytes → length bytes ≤ 65536
    → message_of (encode_lower bytes) ≡ Some bytes
unfolding message_of
message_all bytes are short =
    let long = length-encode_with lower_digits bytes in
    let within : nat_le (length (encode_lower bytes)) 131072 ≡ true = grind (arith, nat_tests) in
    rw (within, lower_digits_all bytes are, decode_of-encode_lower bytes are) refl

bound : {A B : Type 0} (r : Result A FromHexError) (f : A → Result B FromHexError) (y : B)
    → (r >>= f) ≡ Ok y → (x : A) × (r ≡ Ok x) × (f x ≡ Ok y)
bound (Ok x) f y h = (x, refl, h)
bound (Err e) f y h = cc h

digit_read : (c i v : ℕ) (o : Option ℕ) → digit_or_error c i o ≡ Ok v → o ≡ Some v
digit_read c i v None h = cc h
digit_read c i v (Some w) h = let same : w ≡ v = cc in ap Some same

-- what digits in lower case are decoded to is spelt by them
encoded : (i : ℕ) (digits bytes : List ℕ) → decode_pairs i digits ≡ Ok bytes
    → list_all is_lower_digit digits ≡ true → encode_with lower_digits bytes ≡ digits
unfolding decode_pairs encode_with
encoded i [] bytes h lower = let none : [] ≡ bytes = cc in ap (encode_with lower_digits) (sym none)
encoded i (a ∷ []) bytes h lower = cc h
encoded i (a ∷ b ∷ rest) bytes h lower =
    let pair = bound (pair_value a b i) _ bytes h in
    let high = bound (value_at a i) _ pair.0 pair.1 in
    let low = bound (value_at b (i + 1)) _ pair.0 high.2 in
    let more = bound (decode_pairs (i + 2) rest) _ bytes pair.2 in
    let first = and_parts (is_lower_digit a) _ lower in
    let second = and_parts (is_lower_digit b) _ first.1 in
    let is_high = digit_back a high.0 first.0 (digit_read a i high.0 (hex_digit_value a) high.1) in
    let is_low = digit_back b low.0 second.0 (digit_read b (i + 1) low.0 (hex_digit_value b) low.1)
    in
    let byte : high.0 * 16 + low.0 ≡ pair.0 = cc low.2 in
    let all : pair.0 ∷ more.0 ≡ bytes = cc more.2 in
    let quotient : pair.0 / 16 ≡ high.0 = omega (arith, byte, is_low.1) in
    let rest_of : pair.0 % 16 ≡ low.0 = omega (arith, byte, is_low.1) in
    ap (encode_with lower_digits) (sym all)
    ∙ ap (λ (ds : List ℕ). slice_index lower_digits (pair.0 / 16)
    ∷ slice_index lower_digits (pair.0 % 16) ∷ ds) (encoded (i + 2) rest more.0 more.1 second.1)
    ∙ ap (λ (d : ℕ). d ∷ slice_index lower_digits (pair.0 % 16) ∷ rest)
    (ap (slice_index lower_digits) quotient ∙ is_high.0)
    ∙ ap (λ (d : ℕ). a ∷ d ∷ rest) (ap (slice_index lower_digits) rest_of ∙ is_low.0)

-- the bytes of a message, and how many there may be
abbrev pub IsMessage : List ℕ → Type 0
IsMessage bytes = IsBytes bytes × (length bytes ≤ 65536)

decoded : (digits bytes : List ℕ) (r : Result (List ℕ) FromHexError) → decode_of digits ≡ r
    → value_of r ≡ Some bytes → decode_of digits ≡ Ok bytes
decoded digits bytes (Ok b) is h = is ∙ ap Ok (value_is b bytes h)
decoded digits bytes (Err e) is h = cc h

message_only : (digits bytes : List ℕ) → message_of digits ≡ Some bytes
    → (encode_lower bytes ≡ digits) × IsMessage bytes
unfolding message_of
message_only digits bytes h = by_tests (nat_le (length digits) 131072)
    (list_all is_lower_digit digits) refl refl h
  where
    by_tests : (a b : Bool) → nat_le (length digits) 131072 ≡ a → list_all is_lower_digit digits ≡ b
        → cond (a && b) (value_of (decode_of digits)) None ≡ Some bytes
        → (encode_lower bytes ≡ digits) × IsMessage bytes
    by_tests true true few lower h =
        let is = decoded digits bytes (decode_of digits) refl h in
        let ok = decode_of-ok digits bytes is in
        let short : length digits ≤ 131072 = grind (arith, nat_tests) in (
          encoded 0 digits bytes (sym (decode_of-even digits ok.0) ∙ is) lower,
          (ok.3, omega (arith, ok.2)),
        )
    by_tests true false few lower h = cc h
    by_tests false b few lower h = cc h

pub messages : Spelled message_of encode_lower IsMessage
messages = record { all = λ bytes is. message_all bytes is.0 is.1; only = message_only }

-- ---- no separator among the digits

free_digit : (d : ℕ) → d < 16 → not (slice_index lower_digits d == 58) ≡ true
free_digit d lt = let is = digit_is d lt in rw is (grind (arith, nat_tests))

pub free_message : (bytes : List ℕ) → IsBytes bytes
    → list_all (λ b. not (b == 58)) (encode_lower bytes) ≡ true
unfolding encode_with
free_message [] are = refl
free_message (b ∷ bytes) are =
    let small : b < 256 = are 0 in
    let high : b / 16 < 16 = omega arith in
    let low : b % 16 < 16 = omega arith in
    both_true _ _ (free_digit (b / 16) high)
    (both_true _ _ (free_digit (b % 16) low) (free_message bytes (λ k. are (suc k))))

plain_digit : (d : ℕ) → d < 16 → is_plain (slice_index lower_digits d) ≡ true
plain_digit d lt = let is = digit_is d lt in rw is (grind (arith, nat_tests))

pub plain_message : (bytes : List ℕ) → IsBytes bytes → Plain (encode_lower bytes)
unfolding encode_with
plain_message [] are = refl
plain_message (b ∷ bytes) are =
    let small : b < 256 = are 0 in
    let high : b / 16 < 16 = omega arith in
    let low : b % 16 < 16 = omega arith in
    both_true _ _ (plain_digit (b / 16) high)
    (both_true _ _ (plain_digit (b % 16) low) (plain_message bytes (λ k. are (suc k))))
