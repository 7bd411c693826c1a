-- The characters of a word.
use Rattle.std.proofs.Common.{◌≡◌, ◌∙◌, ℕ, ◌==◌, Bool, true, false, cond, List, [], ◌∷◌, ◌++◌, map}
use Rattle.std.proofs.Common.{Some, None, refl, sym, subst, ap, arith, string_bytes, ◌||◌}
use Rattle.std.proofs.Common.{option_and_then}
use Rattle.std.specs.Prelude.{slice_get}
use Rattle.std.specs.declared.string.String.{String}
use Rattle.std.specs.Str.{IsUtf8, chars}
use Rattle.std.proofs.lemmas.Bool.Decides.{nat_tests}
use Rattle.std.proofs.lemmas.Str.{IsUtf8-past_char, encode_ascii, IsUtf8-string_bytes}
use Rattle.std.proofs.lemmas.Str.{encodes-chars}
use lib.Utf8.{encodes}
use Rattle.clap.specs.Lexer.{short_of_rest}
use Rattle.cmd_line.specs.Given.{Text}
use Rattle.cmd_line.specs.Lines.{has_dashes, is_dashes}
use Rattle.cmd_line.proofs.Turns.{IsText}
use Rattle.cmd_line.proofs.Readings.{AreWords}

-- a text of a byte or more has a first character
first_char : (byte : ℕ) (bytes : Text) → IsUtf8 (byte ∷ bytes) → (char : ℕ)
    × (slice_get (chars (byte ∷ bytes)) 0 ≡ Some char)
first_char byte bytes utf8 = go (chars (byte ∷ bytes)) (encodes-chars (byte ∷ bytes) utf8)
  where
    go : (cs : List ℕ) → encodes cs ≡ byte ∷ bytes → (char : ℕ) × (slice_get cs 0 ≡ Some char)
    go [] is = absurd (cc is)
    go (c ∷ cs) is = (c, refl)

behind_hyphen : (rest flags : Text) → IsUtf8 (45 ∷ rest) → short_of_rest rest ≡ Some flags
    → (char : ℕ) × (slice_get (chars flags) 0 ≡ Some char)
behind_hyphen [] flags utf8 is = absurd (cc is)
behind_hyphen (x ∷ rest) flags utf8 is = go (x == 45) is
  where
    go : (hyphen : Bool) → cond hyphen None (Some (x ∷ rest)) ≡ Some flags → (char : ℕ)
        × (slice_get (chars flags) 0 ≡ Some char)
    go true is = absurd (cc is)
    go false is =
        let same : flags ≡ x ∷ rest = cc is in
        let found = first_char x rest (IsUtf8-past_char (45 ∷ x ∷ rest) (x ∷ rest) 45 utf8
        (ap (λ (bs : List ℕ). bs ++ x ∷ rest) (sym (encode_ascii 45 (omega arith))))) in
        (found.0, ap (λ (f : Text). slice_get (chars f) 0) same ∙ found.1)

pub is_text : (word : Text) → IsUtf8 word → IsText word
is_text [] utf8 flags is = absurd (cc is)
is_text (byte ∷ rest) utf8 flags is = go (byte == 45) refl is
  where
    go : (hyphen : Bool) → (byte == 45) ≡ hyphen
        → option_and_then short_of_rest (cond hyphen (Some rest) None) ≡ Some flags → (char : ℕ)
        × (slice_get (chars flags) 0 ≡ Some char)
    go true same is =
        let hyphen : byte ≡ 45 = grind (arith, nat_tests) in
        behind_hyphen rest flags (subst (λ (b : ℕ). IsUtf8 (b ∷ rest)) hyphen utf8) is
    go false other is = absurd (cc is)

pub neither : (a b : Bool) → (a || b) ≡ false → (a ≡ false) × (b ≡ false)
neither true b none = absurd (cc none)
neither false b none = (refl, none)

pub are_words : {Z : Type 0} (words : List (String Z)) → has_dashes (map string_bytes words) ≡ false
    → AreWords (map string_bytes words)
are_words [] none = tt
are_words (word ∷ words) none =
    let each = neither (is_dashes (string_bytes word)) (has_dashes (map string_bytes words)) none in (
      record { other = each.0; text = is_text (string_bytes word) (IsUtf8-string_bytes word) },
      are_words words each.1,
    )
