-- Texts that are joined of parts which have no separator in them.
use Rattle.std.proofs.Common.{◌≡◌, ◌∙◌, ℕ, suc, ◌<◌, ◌≤◌, ◌⊎◌, inl, inr, nat_le, Bool, true, not}
use Rattle.std.proofs.Common.{◌&&◌, ◌||◌, ◌==◌, List, [], ◌∷◌, ◌++◌, decimal, refl, ap, arith}
use Rattle.std.specs.List.{list_all, join_with_byte, AllByRecursion}
use Rattle.std.specs.Fmt.{signed_decimal}
use Rattle.std.specs.Int.{w64}
use Rattle.std.specs.Int.RustNames.{FitsSigned}
use Rattle.std.specs.Str.Parse.{AllDigits}
use Rattle.std.specs.Prelude.{ℤ, pos, negsuc, ◌^◌}
use Rattle.std.proofs.lemmas.Bool.{and_parts}
use Rattle.std.proofs.lemmas.Bool.Decides.{nat_tests}
use Rattle.std.proofs.lemmas.Fmt.{decimal_is_IsNumeral}
use Rattle.std.proofs.lemmas.List.Folds.{list_all-append}
use Rattle.std.proofs.lemmas.Str.Parse.{digit_from_value}
use Rattle.text_parts.specs.Parts.{parts}
use Rattle.text_parts.proofs.Cuts.{Free, first_one, last_one}

abbrev pub AllFree : ℕ → List (List ℕ) → Type 0
AllFree c ps = AllByRecursion (Free c) ps

-- what is joined is cut into its parts again
pub parts_joined : (c : ℕ) (part : List ℕ) (more : List (List ℕ)) → AllFree c (part ∷ more)
    → parts c (join_with_byte c (part ∷ more)) ≡ part ∷ more
parts_joined c part [] free = last_one c part free.0
parts_joined c part (next ∷ more) free =
    first_one c part (join_with_byte c (next ∷ more)) free.0
    ∙ ap (λ (ps : List (List ℕ)). part ∷ ps) (parts_joined c next more free.1)

-- ---- parts without a separator

pub free_both : (c : ℕ) (a b : List ℕ) → Free c a → Free c b → Free c (a ++ b)
free_both c a b first second = list_all-append (λ b. not (b == c)) a b
    ∙ ap (λ x. x && list_all (λ b. not (b == c)) b) first ∙ second

-- a separator that is no digit
abbrev pub IsNoDigit : ℕ → Type 0
IsNoDigit c = (c < 48) ⊎ (57 < c)

-- a small letter, a digit, a colon or a hyphen
abbrev pub is_plain : ℕ → Bool
is_plain b = (nat_le 97 b && nat_le b 122) || ((nat_le 48 b && nat_le b 58) || b == 45)

-- a part of such bytes alone
abbrev pub Plain : List ℕ → Type 0
Plain part = list_all is_plain part ≡ true

abbrev pub AllPlain : List (List ℕ) → Type 0
AllPlain ps = AllByRecursion Plain ps

above : (c b : ℕ) → c ≤ 32 → is_plain b ≡ true → not (b == c) ≡ true
above c b low is = grind (arith, nat_tests)

free_plain : (c : ℕ) (part : List ℕ) → c ≤ 32 → Plain part → Free c part
free_plain c [] low plain = refl
free_plain c (b ∷ part) low plain =
    let both = and_parts (is_plain b) (list_all is_plain part) plain in
    ap (λ x. x && list_all (λ b. not (b == c)) part) (above c b low both.0)
    ∙ free_plain c part low both.1

pub all_free : (c : ℕ) (ps : List (List ℕ)) → c ≤ 32 → AllPlain ps → AllFree c ps
all_free c [] low plain = tt
all_free c (part ∷ ps) low plain = (free_plain c part low plain.0, all_free c ps low plain.1)

-- no byte of what is joined is another separator
pub free_joined : (c separator : ℕ) (ps : List (List ℕ)) → not (separator == c) ≡ true
    → AllFree c ps → Free c (join_with_byte separator ps)
free_joined c separator [] other free = refl
free_joined c separator (part ∷ []) other free = free.0
free_joined c separator (part ∷ next ∷ ps) other free =
    free_both c part (separator ∷ join_with_byte separator (next ∷ ps)) free.0
    (ap (λ x. x && list_all (λ b. not (b == c)) (join_with_byte separator (next ∷ ps))) other
    ∙ free_joined c separator (next ∷ ps) other free.1)

pub plain_both : (a b : List ℕ) → Plain a → Plain b → Plain (a ++ b)
plain_both a b first second = list_all-append is_plain a b
    ∙ ap (λ x. x && list_all is_plain b) first ∙ second

plain_digit : (b : ℕ) → 48 ≤ b → b ≤ 57 → is_plain b ≡ true
plain_digit b low high = grind (arith, nat_tests)

plain_digits : (ds : List ℕ) → AllDigits 10 ds → Plain ds
plain_digits [] all = refl
plain_digits (d ∷ ds) all =
    let is = digit_from_value d all.0 in
    ap (λ x. x && list_all is_plain ds) (plain_digit d is.0 is.1) ∙ plain_digits ds all.1

pub plain_number : (n : ℕ) → n < 2 ^ 64 → Plain (decimal n)
plain_number n small = plain_digits (decimal n) (decimal_is_IsNumeral n small).0.1

pub plain_signed : (z : ℤ) → FitsSigned w64 z → Plain (signed_decimal z)
plain_signed (pos n) fits = plain_number n (omega (arith, fits.sfits))
plain_signed (negsuc n) fits = plain_number (suc n) (omega (arith, fits.sfits))

apart : (c b : ℕ) → IsNoDigit c → 48 ≤ b → b ≤ 57 → not (b == c) ≡ true
apart c b (inl below) low high = grind (arith, nat_tests)
apart c b (inr above) low high = grind (arith, nat_tests)

free_digits : (c : ℕ) (ds : List ℕ) → IsNoDigit c → AllDigits 10 ds → Free c ds
free_digits c [] no_digit all = refl
free_digits c (d ∷ ds) no_digit all =
    let is = digit_from_value d all.0 in
    ap (λ x. x && list_all (λ b. not (b == c)) ds) (apart c d no_digit is.0 is.1)
    ∙ free_digits c ds no_digit all.1

pub free_number : (c n : ℕ) → IsNoDigit c → n < 2 ^ 64 → Free c (decimal n)
free_number c n no_digit small = free_digits c (decimal n) no_digit
    (decimal_is_IsNumeral n small).0.1

pub free_signed : (c : ℕ) (z : ℤ) → IsNoDigit c → not (45 == c) ≡ true → FitsSigned w64 z
    → Free c (signed_decimal z)
free_signed c (pos n) no_digit no_sign fits = free_number c n no_digit (omega (arith, fits.sfits))
free_signed c (negsuc n) no_digit no_sign fits =
    ap (λ x. x && list_all (λ b. not (b == c)) (decimal (suc n))) no_sign
    ∙ free_number c (suc n) no_digit (omega (arith, fits.sfits))
