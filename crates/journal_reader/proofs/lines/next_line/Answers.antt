use Rattle.std.proofs.Common.{◌==◌, None, Some, rules, tests, sym, subst, ◌∙◌}
use Rattle.std.proofs.lemmas.List.{take_rest}
use Rattle.std.proofs.lemmas.Iterator.{YieldsList-from_slice}
use Rattle.std.proofs.lemmas.Iterator.Search.{position_from_yields_List}
use Rattle.journal_reader.proofs.FirstLines.{line_at, LineAt}
use Rattle.journal_reader.proofs.lines.next_line.Goals as goal

pub returns-in-Some : goal.returns-in-Some
returns-in-Some c =
    let xs = c.args.text.now in
    let is = position_from_yields_List (λ b. b == 10) _ _ c.position.result c.position.ensures.ran
    (YieldsList-from_slice xs c.iter.ensures.rest) (λ x b q k. search (rules, tests)) in
    let line : LineAt xs (Some c.in-Some.at) =
    subst (LineAt xs) (sym is ∙ c.in-Some.is) (line_at xs) in
    (line.1, rw take_rest line.2)

pub returns-in-None : goal.returns-in-None
returns-in-None c =
    let xs = c.args.text.now in
    let is = position_from_yields_List (λ b. b == 10) _ _ c.position.result c.position.ensures.ran
    (YieldsList-from_slice xs c.iter.ensures.rest) (λ x b q k. search (rules, tests)) in
    let none : LineAt xs None = subst (LineAt xs) (sym is ∙ c.in-None.is) (line_at xs) in
    none
