use Rattle.std.proofs.Common.{◌≡◌, ◌∙◌, ◌∷◌, [], ◌-◌, ℕ, List, length, take, drop, sym, ap, arith}
use Rattle.std.proofs.lemmas.List.{take_rest, drop_all}
use Rattle.script_net.specs.event_script.specs.Grammar.{without_last_empty, raw_lines}
use Rattle.text_parts.specs.Parts.{parts_behind}
use Rattle.script_net.specs.event_script.proofs.Lines.{more_lines}
use Rattle.script_text.proofs.Lines.{one_line}
use Rattle.script_text.proofs.words.next_line.Goals as goal

pub returns-in-Some-clause-are : goal.returns-in-Some-clause-are
returns-in-Some-clause-are c =
    ap without_last_empty (c.cut.ensures.are
    ∙ ap (λ rest. c.cut.result.0.now ∷ parts_behind 10 rest) c.in-Some.is)
    ∙ more_lines c.cut.result.0.now c.in-Some.rest.now

pub returns-in-None-clause-are : goal.returns-in-None-clause-are
returns-in-None-clause-are c =
    let are = c.cut.ensures.are ∙ ap (λ rest. c.cut.result.0.now ∷ parts_behind 10 rest)
    c.in-None.is in
    let text = c.args.text.now in
    let none : take (length text - length text) (drop (length text) text) ≡ [] =
    rw take_rest (drop_all (length text) text (omega arith)) in
    ap without_last_empty are ∙ one_line c.args.text.now c.cut.result.0.now are
    (omega (arith, c.requires))
    ∙ ap (λ (rest : List ℕ). c.cut.result.0.now ∷ raw_lines rest) (sym none)
