use Rattle.std.proofs.Common.{◌==◌, Some, rules, tests, sym, subst, ◌∙◌}
use Rattle.std.proofs.lemmas.List.{take_rest}
use Rattle.std.proofs.lemmas.Iterator.{YieldsList-from_slice}
use Rattle.std.proofs.lemmas.Iterator.Search.{position_from_yields_List}
use Rattle.text_parts.proofs.Cuts.{are_cut, AreCut}
use Rattle.text_parts.proofs.parts.cut.Goals as goal

pub returns-in-Some-clause-are : goal.returns-in-Some-clause-are
returns-in-Some-clause-are c =
    let xs = c.args.bytes.now in
    let is = position_from_yields_List (λ b. b == c.args.separator) _ _ c.position.result
    c.position.ensures.ran (YieldsList-from_slice xs c.iter.ensures.rest)
    (λ x b q k. search (rules, tests)) in
    let cut : AreCut c.args.separator xs (Some c.in-Some.at) =
    subst (AreCut c.args.separator xs) (sym is ∙ c.in-Some.is) (are_cut c.args.separator xs) in
    rw take_rest cut.1

pub returns-in-None-clause-are : goal.returns-in-None-clause-are
returns-in-None-clause-are c =
    let xs = c.args.bytes.now in
    let is = position_from_yields_List (λ b. b == c.args.separator) _ _ c.position.result
    c.position.ensures.ran (YieldsList-from_slice xs c.iter.ensures.rest)
    (λ x b q k. search (rules, tests)) in
    subst (AreCut c.args.separator xs) (sym is ∙ c.in-None.is) (are_cut c.args.separator xs)
