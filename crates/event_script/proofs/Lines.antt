-- The lines of a text.
use Rattle.std.proofs.Common.{◌≡◌, ◌∙◌, ℕ, List, [], ◌∷◌, refl, sym, ap}
use Rattle.text_parts.specs.Parts.{parts}
use Rattle.text_parts.proofs.Cuts.{one_part}
use Rattle.event_script.specs.Grammar.{raw_lines, without_last_empty}

not_last : (line first : List ℕ) (more : List (List ℕ))
    → without_last_empty (line ∷ first ∷ more) ≡ line ∷ without_last_empty (first ∷ more)
not_last [] first more = refl
not_last (x ∷ line) first more = refl

-- after a line feed the rest of the text has its lines
pub more_lines : (line rest : List ℕ)
    → without_last_empty (line ∷ parts 10 rest) ≡ line ∷ raw_lines rest
more_lines line rest =
    let p = one_part 10 rest in
    ap (λ (ps : List (List ℕ)). without_last_empty (line ∷ ps)) p.2 ∙ not_last line p.0 p.1
    ∙ ap (λ (ps : List (List ℕ)). line ∷ without_last_empty ps) (sym p.2)
