-- Runs of plain bytes.
use Rattle.std.proofs.Common.{◌≡◌, ◌≤◌, ℕ, zero, suc, ◌+◌, ◌==◌, Bool, not, length, true, false}
use Rattle.std.proofs.Common.{List, [], ◌∷◌, ◌++◌, take, drop, refl, sym, ap, ◌∙◌, arith, subst}
use Rattle.std.specs.Prelude.{flat_map}
use Rattle.std.specs.List.{prefix_len}
use Rattle.std.proofs.Math.Seq.{take-add, take-length}
use Rattle.std.proofs.lemmas.List.Sums.{prefix_len-le-length}
use Rattle.std.proofs.lemmas.Bool.{ne_eqb}
use Rattle.std.proofs.lemmas.List.Concat.{flat_map-cons}
use Rattle.std.proofs.lemmas.Grind.{flat_map-append}
use Rattle.log_lines.specs.Texts.{is_plain, byte_text, message_text}

-- one plain byte, or one that is not, before a run
plain_first : (x : ℕ) (xs : List ℕ) (b : Bool) → is_plain x ≡ b →
    flat_map byte_text (take (prefix_len is_plain xs) xs) ≡ take (prefix_len is_plain xs) xs →
    flat_map byte_text (take (prefix_len is_plain (x ∷ xs)) (x ∷ xs))
    ≡ take (prefix_len is_plain (x ∷ xs)) (x ∷ xs)
plain_first x xs true e run =
    let more : prefix_len is_plain (x ∷ xs) ≡ suc (prefix_len is_plain xs) = rw e (omega arith) in
    let itself : byte_text x ≡ x ∷ [] = rw e refl in
    let P : ℕ → Type 0 = λ n. flat_map byte_text (take n (x ∷ xs)) ≡ take n (x ∷ xs) in
    subst P (sym more) (flat_map-cons byte_text x (take (prefix_len is_plain xs) xs)
    ∙ ap (λ front. front ++ flat_map byte_text (take (prefix_len is_plain xs) xs)) itself
    ∙ ap (λ back. x ∷ back) run)
plain_first x xs false e run =
    let none : prefix_len is_plain (x ∷ xs) ≡ 0 = rw e refl in
    let P : ℕ → Type 0 = λ n. flat_map byte_text (take n (x ∷ xs)) ≡ take n (x ∷ xs) in
    subst P (sym none) refl

-- plain bytes are printed as they are
pub flat_map-plain : (xs : List ℕ)
    → flat_map byte_text (take (prefix_len is_plain xs) xs) ≡ take (prefix_len is_plain xs) xs
flat_map-plain [] = refl
flat_map-plain (x ∷ xs) = plain_first x xs (is_plain x) refl (flat_map-plain xs)

-- a plain byte is not zero
plain_before_zero : (x : ℕ) (xs : List ℕ) (b : Bool) → is_plain x ≡ b
    → prefix_len is_plain xs ≤ prefix_len (λ byte. not (byte == 0)) xs
    → prefix_len is_plain (x ∷ xs) ≤ prefix_len (λ byte. not (byte == 0)) (x ∷ xs)
plain_before_zero zero xs b e le = omega arith
plain_before_zero (suc x) xs true e le =
    let more : prefix_len is_plain (suc x ∷ xs) ≡ suc (prefix_len is_plain xs) =
    rw e (omega arith) in
    let some : (suc x == 0) ≡ false = ne_eqb (suc x) 0 (λ z. omega (arith, z)) in
    let other : prefix_len (λ byte. not (byte == 0)) (suc x ∷ xs)
    ≡ suc (prefix_len (λ byte. not (byte == 0)) xs) = rw some (omega arith) in
    omega (arith, more, other, le)
plain_before_zero (suc x) xs false e le =
    let none : prefix_len is_plain (suc x ∷ xs) ≡ 0 = rw e refl in
    omega (arith, none)

plain_le_nonzero : (xs : List ℕ) → prefix_len is_plain xs ≤ prefix_len (λ byte. not (byte == 0)) xs
plain_le_nonzero [] = omega arith
plain_le_nonzero (x ∷ xs) = plain_before_zero x xs (is_plain x) refl (plain_le_nonzero xs)

-- the text of a message whose bytes are all plain is the message
pub plain_text : (xs : List ℕ) → prefix_len is_plain xs ≡ length xs → message_text xs ≡ xs
unfolding message_text
plain_text xs all =
    let within : prefix_len (λ byte. not (byte == 0)) xs ≤ length xs =
    prefix_len-le-length (λ byte. not (byte == 0)) xs in
    let whole : prefix_len (λ byte. not (byte == 0)) xs ≡ prefix_len is_plain xs =
    omega (arith, plain_le_nonzero xs, within, all) in
    let P : ℕ → Type 0 = λ n. flat_map byte_text (take n xs) ≡ take n xs in
    subst P (sym whole) (flat_map-plain xs) ∙ ap (λ n. take n xs) (whole ∙ all) ∙ take-length xs

-- the bytes so far, a run, and the first bytes after it
pub escaped_next : (xs rest behind : List ℕ) (at plain n : ℕ) → rest ≡ drop at xs
    → plain ≡ prefix_len is_plain rest → behind ≡ drop plain rest →
    flat_map byte_text (take (at + (plain + n)) xs)
    ≡ flat_map byte_text (take at xs) ++ (take plain rest ++ flat_map byte_text (take n behind))
escaped_next xs rest behind at plain n is_rest is_run is_behind =
    let run : flat_map byte_text (take plain rest) ≡ take plain rest =
    let P : ℕ → Type 0 = λ k. flat_map byte_text (take k rest) ≡ take k rest in
    subst P (sym is_run) (flat_map-plain rest) in
    ap (flat_map byte_text) (take-add at (plain + n) xs)
    ∙ flat_map-append byte_text (take at xs) (take (plain + n) (drop at xs))
    ∙ ap (λ ys. flat_map byte_text (take at xs) ++ flat_map byte_text (take (plain + n) ys))
    (sym is_rest)
    ∙ ap (λ ys. flat_map byte_text (take at xs) ++ flat_map byte_text ys) (take-add plain n rest)
    ∙ ap (λ ys. flat_map byte_text (take at xs) ++ ys)
    (flat_map-append byte_text (take plain rest) (take n (drop plain rest)))
    ∙ ap (λ ys. flat_map byte_text (take at xs)
    ++ (ys ++ flat_map byte_text (take n (drop plain rest)))) run
    ∙ ap (λ ys. flat_map byte_text (take at xs)
    ++ (take plain rest ++ flat_map byte_text (take n ys))) (sym is_behind)
