-- The lines of entries have the bytes of words alone.
use Rattle.std.proofs.Common.{◌≡◌, ◌∙◌, ℕ, true, ◌&&◌, List, [], ◌∷◌, ◌++◌, codes, refl, ap, subst}
use Rattle.std.proofs.Common.{sym, arith}
use Rattle.std.specs.List.{list_all, join_with_byte}
use Rattle.std.proofs.lemmas.Bool.{and_parts}
use Rattle.std.proofs.lemmas.Bool.Decides.{nat_tests}
use Rattle.std.proofs.lemmas.List.Folds.{list_all-append}
use Rattle.journal_reader.specs.journal_text.specs.Texts.{entry_text, entry_line}
use Rattle.journal_reader.proofs.Joins.{is_plain, Plain, AllPlain}
use Rattle.journal_reader.proofs.EntryWords.{entry_words, entry_joined, entry_plain}
use Rattle.journal_viewer.specs.Laws.{is_word_byte, LinesAreWords}

abbrev Words : List ℕ → Type 0
Words text = list_all is_word_byte text ≡ true

both : (a b : List ℕ) → Words a → Words b → Words (a ++ b)
both a b p q = list_all-append is_word_byte a b ∙ ap (λ x. x && list_all is_word_byte b) p ∙ q

word_byte : (b : ℕ) → is_plain b ≡ true → is_word_byte b ≡ true
word_byte b is = grind (arith, nat_tests)

plain_words : (part : List ℕ) → Plain part → Words part
plain_words [] plain = refl
plain_words (b ∷ part) plain =
    let parts = and_parts (is_plain b) (list_all is_plain part) plain in
    ap (λ x. x && list_all is_word_byte part) (word_byte b parts.0) ∙ plain_words part parts.1

-- a space between two parts is such a byte
joined_words : (ps : List (List ℕ)) → AllPlain ps → Words (join_with_byte 32 ps)
joined_words [] plain = refl
joined_words (part ∷ []) plain = plain_words part plain.0
joined_words (part ∷ next ∷ ps) plain =
    both part (32 ∷ join_with_byte 32 (next ∷ ps)) (plain_words part plain.0)
    (joined_words (next ∷ ps) plain.1)

pub lines_are_words : LinesAreWords
unfolding entry_line
lines_are_words = λ e w. both (entry_text e) (codes "\n")
    (subst Words (sym (entry_joined e)) (joined_words (entry_words e) (entry_plain e w))) refl
