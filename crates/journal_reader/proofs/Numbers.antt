-- Numbers by their decimal digits.
use Rattle.std.proofs.Common.{◌≡◌, ◌∙◌, ℕ, zero, suc, ◌+◌, ◌-◌, ◌*◌, ◌^◌, ◌<◌, ◌≤◌, nat_lt, Bool}
use Rattle.std.proofs.Common.{true, false, ◌&&◌, cond, List, [], ◌∷◌, length, get_or, drop}
use Rattle.std.proofs.Common.{drop-cons, Option, Some, None, IfSome, decimal, refl, sym, subst, ap}
use Rattle.std.proofs.Common.{arith}
use Rattle.std.specs.Str.{bytes_eq}
use Rattle.std.specs.Char.{digit_value}
use Rattle.std.specs.Str.Parse.{AllDigits, digits_value, digits_value_after}
use Rattle.std.proofs.lemmas.Bool.Decides.{nat_tests}
use Rattle.std.proofs.lemmas.List.{drop_all}
use Rattle.std.proofs.lemmas.Fmt.{decimal_is_IsNumeral, decimal_nonempty, decimal_digit}
use Rattle.std.proofs.lemmas.Fmt.{first_decimal, decimal-digits_value}
use Rattle.std.proofs.lemmas.Slice.Eq.{bytes_eq-Decides}
use Rattle.std.proofs.lemmas.Str.{digit_value_digit}
use Rattle.std.proofs.lemmas.Str.Parse.{digit_from_value, numerals_by_value, tells_digits}
use Rattle.journal_reader.specs.Reading.{number_of}

-- a number is no less than what its first digits make
not_less : (bytes : List ℕ) (n : ℕ) → n ≤ digits_value_after 10 n bytes
not_less [] n = omega arith
not_less (byte ∷ bytes) n = omega (arith, not_less bytes (n * 10 + digit_value byte))

-- what is left after some digits: the number that they make goes on with it
pub record GoesOn (word : List ℕ) (at number : ℕ) : Type 0 where
  pub value : digits_value 10 word ≡ digits_value_after 10 number (drop at word)
  pub back : AllDigits 10 (drop at word) → AllDigits 10 word
  pub on : AllDigits 10 word → AllDigits 10 (drop at word)

pub begins : (word : List ℕ) → GoesOn word 0 0
begins word = record { value = refl; back = λ d. d; on = λ d. d }

-- with one digit more
pub goes_on : (word : List ℕ) (at number : ℕ) → at < length word → GoesOn word at number
    → 48 ≤ get_or word at 0 → get_or word at 0 ≤ 57
    → GoesOn word (suc at) (number * 10 + (get_or word at 0 - 48))
goes_on word at number lt so_far low high =
    let digit : digit_value (get_or word at 0) + 48 ≡ get_or word at 0 =
    digit_value_digit (get_or word at 0) (low, high) in
    let same : digit_value (get_or word at 0) ≡ get_or word at 0 - 48 = omega (arith, digit) in
    record {
      value = rw (← same) (rw (drop-cons word at 0) at so_far.value);
      back = λ rest. so_far.back (rw (drop-cons word at 0) (omega (arith, digit), rest));
      on = λ all. (rw (drop-cons word at 0) at (so_far.on all)).1;
    }

-- a byte that is none
pub no_digit : (word : List ℕ) (at number : ℕ) → at < length word → GoesOn word at number
    → AllDigits 10 word → (48 ≤ get_or word at 0) × (get_or word at 0 ≤ 57)
no_digit word at number lt so_far all =
    digit_from_value (get_or word at 0) (rw (drop-cons word at 0) at (so_far.on all)).0

-- what is beyond a limit with one digit more stays so
pub beyond : (word : List ℕ) (at number : ℕ) → at < length word → GoesOn word at number
    → 48 ≤ get_or word at 0 → get_or word at 0 ≤ 57
    → number * 10 + (get_or word at 0 - 48) ≤ digits_value 10 word
beyond word at number lt so_far low high =
    let more = goes_on word at number lt so_far low high in
    omega (arith, more.value, not_less (drop (suc at) word) (number * 10 + (get_or word at 0 - 48)))

-- all digits were read
pub all_read : (word : List ℕ) (at number : ℕ) → length word ≤ at → GoesOn word at number
    → AllDigits 10 word × (digits_value 10 word ≡ number)
all_read word at number end so_far =
    let none : drop at word ≡ [] = drop_all at word end in
    (so_far.back (rw none tt), so_far.value ∙ ap (digits_value_after 10 number) none)

-- ---- the spelling of a number

pub number_all : (n : ℕ) → n < 2 ^ 64 → number_of (decimal n) ≡ Some n
unfolding number_of
number_all n small =
    let is : digits_value 10 (decimal n) ≡ n = (decimal_is_IsNumeral n small).1 in
    let same : bytes_eq (decimal n) (decimal n) ≡ true =
    (bytes_eq-Decides (decimal n) (decimal n)).1 refl in
    let less : nat_lt n (2 ^ 64) ≡ true = grind (arith, nat_tests) in
    rw (is, same, less) refl

spelt : (word : List ℕ) (n v : ℕ) (same less : Bool) → bytes_eq word (decimal v) ≡ same
    → nat_lt v (2 ^ 64) ≡ less → cond (same && less) (Some v) None ≡ Some n → (decimal n ≡ word)
    × (n < 2 ^ 64)
spelt word n v true true same less is =
    let e : v ≡ n = cc in
    let eq : word ≡ decimal v = (bytes_eq-Decides word (decimal v)).0 same in
    let lt : v < 2 ^ 64 = grind (arith, nat_tests) in
    (ap decimal (sym e) ∙ sym eq, omega arith)
spelt word n v true false same less is = cc
spelt word n v false less same lt is = cc

pub number_only : (word : List ℕ) (n : ℕ) → number_of word ≡ Some n → (decimal n ≡ word)
    × (n < 2 ^ 64)
unfolding number_of
number_only word n is = spelt word n (digits_value 10 word) _ _ refl refl is

-- a word is no number if it is spelt by none
none_or_some : (word : List ℕ) (o : Option ℕ) → number_of word ≡ o
    → ((n : ℕ) → n < 2 ^ 64 → word ≡ decimal n → ⊥) → None ≡ o
none_or_some word None is never = refl
none_or_some word (Some n) is never = let only = number_only word n is in
    absurd (never n only.1 (sym only.0))

pub no_number : (word : List ℕ) → ((n : ℕ) → n < 2 ^ 64 → word ≡ decimal n → ⊥)
    → None ≡ number_of word
no_number word never = none_or_some word (number_of word) refl never

-- no digits, and digits after a leading zero
pub no_digits : (word : List ℕ) → length word ≡ 0 → None ≡ number_of word
no_digits word none = no_number word
    (λ n small is. omega (arith, none, ap length is, decimal_nonempty n small))

leading : (word : List ℕ) (n : ℕ) → get_or word 0 0 ≡ 48 → 1 < length word → n < 2 ^ 64
    → word ≡ decimal n → ⊥
leading word zero first many small is =
    omega (arith, many, ap length (is ∙ decimal_digit 0 (omega arith)))
leading word (suc n) first many small is =
    omega (
      arith,
      first,
      ap (λ (w : List ℕ). get_or w 0 0) is,
      first_decimal (suc n) (omega arith) small,
    )

pub leading_zero : (word : List ℕ) → get_or word 0 0 ≡ 48 → 1 < length word → None ≡ number_of word
leading_zero word first many = no_number word (λ n small is. leading word n first many small is)

-- what was read of digits without a leading zero
pub read_is : (word : List ℕ) (r : Option ℕ) → 0 < length word
    → (get_or word 0 0 ≡ 48 → length word ≡ 1) → IfSome r (λ n. n < 2 ^ 64)
    → IfSome r (λ n. AllDigits 10 word × (digits_value 10 word ≡ n))
    → (r ≡ None → AllDigits 10 word → 2 ^ 64 ≤ digits_value 10 word) → r ≡ number_of word
read_is word None some first small digits beyond =
    no_number word (λ n lt is.
    let k = decimal_is_IsNumeral n lt in
    omega (
      arith,
      lt,
      ap (digits_value 10) is,
      k.1,
      beyond refl (subst (AllDigits 10) (sym is) k.0.1),
    ))
read_is word (Some n) some first small digits beyond =
    let spelt : decimal (digits_value 10 word) ≡ word =
    decimal-digits_value (numerals_by_value _ tells_digits) word digits.0 some first
    (omega (arith, small, digits.1)) in
    sym (number_all n small) ∙ ap number_of (ap decimal (sym digits.1) ∙ spelt)
