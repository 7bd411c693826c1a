-- What begins with hyphens.
use Rattle.std.proofs.Common.{◌≡◌, ℕ, ◌==◌, Bool, true, false, ◌&&◌, not, cond, [], ◌∷◌, Some, None}
use Rattle.std.proofs.Common.{refl, option_map, option_and_then, is_some, codes}
use Rattle.std.specs.Str.{bytes_eq}
use Rattle.clap.specs.Lexer.{long_of, long_of_rest, short_of, short_of_rest, strip_byte}
use Rattle.cmd_line.specs.Given.{Text, behind, may_be_text, name_and_text, option_of}

-- a word after two hyphens, by whether its first bytes are such
two_first : (s t : Bool) (a b : ℕ) (rest : Text) → (a == 45) ≡ s → (b == 45) ≡ t
    → bytes_eq (a ∷ b ∷ rest) (codes "--") ≡ false
    → option_map name_and_text (option_and_then (behind 45) (cond s (Some (b ∷ rest)) None))
    ≡ option_and_then long_of_rest (option_and_then (strip_byte 45) (cond s (Some (b ∷ rest)) None))
two_first false t a b rest is is' other = refl
two_first true false a b rest is is' other = rw is' refl
two_first true true a b [] is is' other = let bad : true ≡ false = rw (is, is') at other in
    absurd (cc)
two_first true true a b (c ∷ rest) is is' other = rw is' refl

one_first : (s : Bool) → option_map name_and_text
    (option_and_then (behind 45) (cond s (Some []) None))
    ≡ option_and_then long_of_rest (option_and_then (strip_byte 45) (cond s (Some []) None))
one_first true = refl
one_first false = refl

pub long_of-option : (word : Text) → bytes_eq word (codes "--") ≡ false
    → option_of word ≡ long_of word
long_of-option [] other = refl
long_of-option (a ∷ []) other = one_first (a == 45)
long_of-option (a ∷ b ∷ rest) other = two_first (a == 45) (b == 45) a b rest refl refl other

two_text : (s t : Bool) (a b : ℕ) (rest : Text) → (a == 45) ≡ s → (b == 45) ≡ t
    → bytes_eq (a ∷ b ∷ rest) (codes "--") ≡ false
    → not s ≡ (not (is_some (option_and_then long_of_rest
    (option_and_then (strip_byte 45) (cond s (Some (b ∷ rest)) None))))
    && not (is_some (option_and_then short_of_rest (cond s (Some (b ∷ rest)) None))))
two_text false t a b rest is is' other = refl
two_text true false a b rest is is' other = rw is' refl
two_text true true a b [] is is' other = let bad : true ≡ false = rw (is, is') at other in
    absurd (cc)
two_text true true a b (c ∷ rest) is is' other = rw is' refl

one_text : (s : Bool) → true ≡ (not
    (is_some (option_and_then long_of_rest
    (option_and_then (strip_byte 45) (cond s (Some []) None))))
    && not (is_some (option_and_then short_of_rest (cond s (Some []) None))))
one_text true = refl
one_text false = refl

pub text-by_hyphens : (word : Text) → bytes_eq word (codes "--") ≡ false
    → may_be_text word ≡ (not (is_some (long_of word)) && not (is_some (short_of word)))
text-by_hyphens [] other = refl
text-by_hyphens (a ∷ []) other = one_text (a == 45)
text-by_hyphens (a ∷ b ∷ rest) other = two_text (a == 45) (b == 45) a b rest refl refl other
