-- The words of lines: which bytes they have, and how they are cut and read.
use Rattle.std.proofs.Common.{◌≡◌, ◌∙◌, ℕ, zero, suc, ◌+◌, ◌-◌, ◌*◌, ◌/◌, ◌%◌, ◌^◌, ◌<◌, ◌≤◌, ◌==◌}
use Rattle.std.proofs.Common.{nat_le, true, false, List, [], ◌∷◌, ◌++◌, length, get_or, decimal}
use Rattle.std.proofs.Common.{Option, Some, None, refl, ap, arith}
use Rattle.std.specs.Prelude.{option_and_then}
use Rattle.std.specs.List.{AllByRecursion}
use Rattle.std.proofs.lemmas.Bool.Decides.{nat_tests}
use Rattle.std.proofs.lemmas.Fmt.{decimal_by_steps, decimal_digit, decimal_nonempty, first_decimal}
use Rattle.hex.specs.Hex.{IsBytes, encode_lower, encode_with, lower_digits, hex_digit_value}
use Rattle.hex.proofs.HexLemmas.{IsDigits-lower_digits, decode_of-encode_lower}
use Rattle.std.specs.Prelude.{slice_index}
use Rattle.event_script.specs.text_parts.proofs.Cuts.{Free, first_one}
use Rattle.event_script.specs.Grammar.{digit, digits_from, number, hex_bytes, value_of, raw_lines}
use Rattle.event_script.specs.Grammar.{without_last_empty}
use Rattle.event_script.proofs.Lines.{more_lines}

-- ---- bytes

-- every byte is above k, or below it
abbrev pub Above : ℕ → List ℕ → Type 0
Above k xs = AllByRecursion (λ b. k < b) xs

abbrev pub AreBytes : List ℕ → Type 0
AreBytes xs = AllByRecursion (λ b. b < 256) xs

pub above_lower : (j k : ℕ) (xs : List ℕ) → j ≤ k → Above k xs → Above j xs
above_lower j k [] le a = tt
above_lower j k (x ∷ xs) le a = (omega (arith, a.0), above_lower j k xs le a.1)

pub above_append : (k : ℕ) (xs ys : List ℕ) → Above k xs → Above k ys → Above k (xs ++ ys)
above_append k [] ys a b = b
above_append k (x ∷ xs) ys a b = (a.0, above_append k xs ys a.1 b)

pub bytes_append : (xs ys : List ℕ) → AreBytes xs → AreBytes ys → AreBytes (xs ++ ys)
bytes_append [] ys a b = b
bytes_append (x ∷ xs) ys a b = (a.0, bytes_append xs ys a.1 b)

pub is_bytes : (xs : List ℕ) → AreBytes xs → IsBytes xs
is_bytes [] a i = omega arith
is_bytes (x ∷ xs) a zero = a.0
is_bytes (x ∷ xs) a (suc i) = is_bytes xs a.1 i

-- ---- parts

pub free_above : (k sep : ℕ) (xs : List ℕ) → sep ≤ k → Above k xs → Free sep xs
free_above k sep [] le a = refl
free_above k sep (x ∷ xs) le a =
    let above : k < x = a.0 in
    let other : (x == sep) ≡ false = grind (arith, nat_tests) in
    rw other (free_above k sep xs le a.1)

-- ---- numbers

by_digit : (k m : ℕ) (ds ys : List ℕ)
    → ((j : ℕ) → digits_from j ds ≡ Some m → digits_from j (ds ++ ys) ≡ digits_from m ys)
    → (o : Option ℕ) → option_and_then (λ v. digits_from (k * 10 + v) ds) o ≡ Some m
    → option_and_then (λ v. digits_from (k * 10 + v) (ds ++ ys)) o ≡ digits_from m ys
by_digit k m ds ys rest None h = cc h
by_digit k m ds ys rest (Some v) h = rest (k * 10 + v) h

digits_behind : (k m : ℕ) (ds ys : List ℕ) → digits_from k ds ≡ Some m
    → digits_from k (ds ++ ys) ≡ digits_from m ys
digits_behind k m [] ys h = let same : k ≡ m = cc in ap (λ j. digits_from j ys) same
digits_behind k m (d ∷ ds) ys h = by_digit k m ds ys (λ j. digits_behind j m ds ys) (digit d) h

digit_is : (d : ℕ) → d < 10 → digit (48 + d) ≡ Some d
digit_is d lt =
    let low : nat_le 48 (48 + d) ≡ true = grind (arith, nat_tests) in
    let high : nat_le (48 + d) 57 ≡ true = grind (arith, nat_tests) in
    let back : 48 + d - 48 ≡ d = omega arith in
    rw (low, high, back) refl

one_digit : (k d : ℕ) → d < 10 → digits_from k ((48 + d) ∷ []) ≡ Some (k * 10 + d)
one_digit k d lt = ap (λ o. option_and_then (λ v. digits_from (k * 10 + v) []) o) (digit_is d lt)

digits_of_decimal : (n : ℕ) → n < 2 ^ 64 → digits_from 0 (decimal n) ≡ Some n
digits_of_decimal n small = decimal_by_steps (λ n ds. digits_from 0 ds ≡ Some n) one more n small
  where
    one : (n : ℕ) → n < 10 → digits_from 0 ((48 + n) ∷ []) ≡ Some n
    one n lt = one_digit 0 n lt ∙ ap Some (omega arith)

    more : (n : ℕ) (ds : List ℕ) → 10 ≤ n → digits_from 0 ds ≡ Some (n / 10)
        → digits_from 0 (ds ++ ((48 + n % 10) ∷ [])) ≡ Some n
    more n ds ge ih = digits_behind 0 (n / 10) ds ((48 + n % 10) ∷ []) ih
        ∙ one_digit (n / 10) (n % 10) (omega arith) ∙ ap Some (omega arith)

number_plain : (word : List ℕ) → 0 < length word → 48 < get_or word 0 0
    → number word ≡ digits_from 0 word
number_plain [] some first = absurd (omega arith)
number_plain (b ∷ bs) some first = let other : (b == 48) ≡ false = grind (arith, nat_tests) in
    rw other refl

pub number_of_decimal : (n : ℕ) → n < 2 ^ 64 → number (decimal n) ≡ Some n
number_of_decimal zero small = ap number (decimal_digit 0 (omega arith))
number_of_decimal (suc n) small =
    number_plain (decimal (suc n)) (decimal_nonempty (suc n) small)
    (first_decimal (suc n) (omega arith) small) ∙ digits_of_decimal (suc n) small

pub decimal_above : (n : ℕ) → n < 2 ^ 64 → Above 32 (decimal n)
decimal_above n small = decimal_by_steps (λ n ds. Above 32 ds) (λ n lt. (omega arith, tt))
    (λ n ds ge ih. above_append 32 ds ((48 + n % 10) ∷ []) ih (omega arith, tt)) n small

-- ---- hexadecimal digits

digit_above : (c d : ℕ) → hex_digit_value c ≡ Some d → 32 < c
digit_above c d h = grind (arith)

pub hex_above : (bytes : List ℕ) → AreBytes bytes → Above 32 (encode_lower bytes)
unfolding encode_with
hex_above [] a = tt
hex_above (b ∷ bytes) a =
    let byte : b < 256 = a.0 in
    let high : b / 16 < 16 = omega arith in
    let low : b % 16 < 16 = omega arith in (
      digit_above (slice_index lower_digits (b / 16)) (b / 16)
          (IsDigits-lower_digits (b / 16) high),
      (
        digit_above (slice_index lower_digits (b % 16)) (b % 16)
            (IsDigits-lower_digits (b % 16) low),
        hex_above bytes a.1,
      ),
    )

pub hex_of_bytes : (bytes : List ℕ) → AreBytes bytes → hex_bytes (encode_lower bytes) ≡ Some bytes
hex_of_bytes bytes a = ap value_of (decode_of-encode_lower bytes (is_bytes bytes a))

-- ---- lines of a text

-- a line with its line feed before a text
pub line_before : (line rest : List ℕ) → Above 10 line
    → raw_lines (line ++ 10 ∷ rest) ≡ line ∷ raw_lines rest
line_before line rest above = ap without_last_empty
    (first_one 10 line rest (free_above 10 10 line (omega arith) above)) ∙ more_lines line rest
