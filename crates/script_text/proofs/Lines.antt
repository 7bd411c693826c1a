-- The words of a line and the lines of a text, by what stands before a separator and after it.
use Rattle.std.proofs.Common.{◌≡◌, ◌∙◌, ℕ, ◌<◌, true, List, [], ◌∷◌, length, Option, Some, None}
use Rattle.std.proofs.Common.{refl, sym, ap, arith}
use Rattle.std.specs.List.{join_with_byte}
use Rattle.std.proofs.lemmas.List.Splits.{join_with_byte-slice_split}
use Rattle.std.specs.Prelude.{is_some}
use Rattle.std.specs.Borrow.{Bor}
use Rattle.script_net.specs.event_script.specs.Grammar.{line_of_words, without_last_empty}
use Rattle.text_parts.specs.Parts.{parts, parts_behind}
use Rattle.text_parts.proofs.Cuts.{one_part}

-- four words or more are no line
pub no_line : (a b d : List ℕ) (rest : Option (Bor (List ℕ))) → is_some rest ≡ true
    → line_of_words (a ∷ b ∷ d ∷ parts_behind 32 rest) ≡ None
no_line a b d None is = cc
no_line a b d (Some r) is = let p = one_part 32 r.now in
    ap (λ (ws : List (List ℕ)). line_of_words (a ∷ b ∷ d ∷ ws)) p.2

-- a text that is not empty and has no line feed is one line
pub one_line : (text line : List ℕ) → parts 10 text ≡ line ∷ [] → 0 < length text
    → without_last_empty (line ∷ []) ≡ line ∷ []
one_line text [] are some = absurd
    (omega (
      arith,
      ap length (sym (join_with_byte-slice_split 10 text)
          ∙ ap (join_with_byte 10) are),
    ))
one_line text (x ∷ line) are some = refl
