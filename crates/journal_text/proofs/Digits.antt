-- Hexadecimal digits of bytes that stand one after another.
use Rattle.std.proofs.Common.{◌≡◌, ◌≤◌, ◌+◌, ◌-◌, ◌++◌, List, [], ◌∷◌, ℕ, refl, ap, ◌∙◌, arith, ◌/◌}
use Rattle.std.proofs.Common.{◌%◌, slice_index, take, drop}
use Rattle.std.proofs.Math.Seq.{take-add}
use Rattle.hex.specs.Hex.{encode_with, encode_lower, lower_digits}

encode-append-with : (t xs ys : List ℕ)
    → encode_with t (xs ++ ys) ≡ encode_with t xs ++ encode_with t ys
unfolding encode_with
encode-append-with t [] ys = refl
encode-append-with t (b ∷ rest) ys =
    ap (λ (text : List ℕ). slice_index t (b / 16) ∷ slice_index t (b % 16) ∷ text)
    (encode-append-with t rest ys)

-- the digits of two lists, joined
pub encode-append : (xs ys : List ℕ) → encode_lower (xs ++ ys) ≡ encode_lower xs ++ encode_lower ys
encode-append xs ys = encode-append-with lower_digits xs ys

-- no bytes have no digits
pub encode-none : encode_lower [] ≡ []
unfolding encode_with
encode-none = refl

-- the digits of the bytes up to a place, and of those after it up to another
pub encode-further : (xs : List ℕ) (at end : ℕ) → at ≤ end
    → encode_lower (take end xs) ≡ encode_lower (take at xs)
    ++ encode_lower (take (end - at) (drop at xs))
encode-further xs at end up =
    let sum : end ≡ at + (end - at) = omega (arith, up) in
    ap (λ (n : ℕ). encode_lower (take n xs)) sum ∙ ap encode_lower (take-add at (end - at) xs)
    ∙ encode-append (take at xs) (take (end - at) (drop at xs))
