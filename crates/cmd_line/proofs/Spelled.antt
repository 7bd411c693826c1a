-- Numbers by the words that spell them.
use Rattle.std.proofs.Common.{◌≡◌, ◌∙◌, ℕ, ◌^◌, ◌<◌, ◌≤◌, nat_le, Bool, true, false, ◌&&◌, cond}
use Rattle.std.proofs.Common.{List, Some, None, decimal, refl, ap, arith}
use Rattle.std.specs.Str.{bytes_eq}
use Rattle.std.specs.Str.Parse.{digits_value}
use Rattle.std.proofs.lemmas.Bool.Decides.{nat_tests}
use Rattle.std.proofs.lemmas.Fmt.{decimal_is_IsNumeral}
use Rattle.std.proofs.lemmas.Slice.Eq.{bytes_eq-Decides}
use Rattle.cmd_line.specs.Numbers.{number_in}

-- a word that spells a number between the two
pub spelled : (least most n : ℕ) (word : List ℕ) → word ≡ decimal n → n < 2 ^ 64 → least ≤ n
    → n ≤ most → Some n ≡ number_in least most word
unfolding number_in
spelled least most n word is small above below =
    let value : digits_value 10 word ≡ n =
    ap (digits_value 10) is ∙ (decimal_is_IsNumeral n small).1 in
    let same : bytes_eq word (decimal n) ≡ true = (bytes_eq-Decides word (decimal n)).1 is in
    let low : nat_le least n ≡ true = grind (arith, nat_tests) in
    let high : nat_le n most ≡ true = grind (arith, nat_tests) in
    rw (value, same, low, high) refl

by_tests : (n least most : ℕ) (word : List ℕ) (same low high : Bool)
    → bytes_eq word (decimal n) ≡ same → nat_le least n ≡ low → nat_le n most ≡ high
    → (word ≡ decimal n → least ≤ n → n ≤ most → ⊥)
    → None ≡ cond (same && (low && high)) (Some n) None
by_tests n least most word true true true same low high never =
    let above : least ≤ n = grind (arith, nat_tests) in
    let below : n ≤ most = grind (arith, nat_tests) in
    absurd (never ((bytes_eq-Decides word (decimal n)).0 same) above below)
by_tests n least most word true true false same low high never = refl
by_tests n least most word true false high same low is never = refl
by_tests n least most word false low high same is is' never = refl

-- a word that spells none
pub unspelled : (least most : ℕ) (word : List ℕ)
    → ((n : ℕ) → word ≡ decimal n → least ≤ n → n ≤ most → ⊥) → None ≡ number_in least most word
unfolding number_in
unspelled least most word never = by_tests (digits_value 10 word) least most word _ _ _ refl refl
    refl (never (digits_value 10 word))
