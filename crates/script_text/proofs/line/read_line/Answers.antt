use Rattle.std.proofs.Common.{◌≡◌, ◌∙◌, ◌∷◌, sym, ap, subst, List, ℕ, None, true}
use Rattle.std.specs.Prelude.{is_some}
use Rattle.script_net.specs.event_script.specs.Grammar.{line_of, line_of_words, IsBadBehind}
use Rattle.text_parts.specs.Parts.{parts_behind}
use Rattle.script_text.proofs.Lines.{no_line}
use Rattle.script_text.proofs.line.read_line.Goals as goal

pub returns-then-is_some : goal.returns-then-is_some
returns-then-is_some c =
    let more : is_some c.cut-3.result.1 ≡ true = cc in
    let none = no_line c.cut.result.0.now c.cut-2.result.0.now c.cut-3.result.0.now c.cut-3.result.1
    more in
    let is : line_of c.args.bytes.now ≡ None =
    ap line_of_words (c.cut.ensures.are
    ∙ ap (λ r. c.cut.result.0.now ∷ parts_behind 32 r) c.in-Some.is
    ∙ ap (λ (ws : List (List ℕ)). c.cut.result.0.now ∷ ws)
    (c.cut-2.ensures.are ∙ ap (λ r. c.cut-2.result.0.now ∷ parts_behind 32 r) c.in-Some-rest.is
    ∙ ap (λ (ws : List (List ℕ)). c.cut-2.result.0.now ∷ ws) c.cut-3.ensures.are)) ∙ none in
    λ past few. subst (IsBadBehind past) (sym is) tt
