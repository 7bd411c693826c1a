use Rattle.std.proofs.Common.{rules, ◌≡◌, ◌∙◌, true, false, [], ◌∷◌, ◌++◌, sym, ap, ap₂}
use Rattle.std.proofs.Common.{map, string_bytes, arith}
use Rattle.std.proofs.lemmas.Grind.{common_steps}
use Rattle.program_words.specs.Parting.{is_alone, is_own, left_over, taken_off}
use Rattle.program_words.proofs.Parts.{none_left, none_taken, other_left, other_taken, own_left}
use Rattle.program_words.proofs.Parts.{own_taken}
use Rattle.program_words.proofs.parting.part.Goals as goal

pub loop-word-preserved-in-Continue-1 : goal.loop-word-preserved-in-Continue-1
loop-word-preserved-in-Continue-1 c =
    let l = c.loop-word in
    let word = c.in-Some.word in
    let next = c.next.new.self.rest.items in
    let own : is_own c.args.takes l.waits (string_bytes word) ≡ true = search rules in
    let alone : is_alone c.args.takes (string_bytes word)
    ≡ c.is_alone-waits.result = search rules in
    let items : l.own.items ++ word ∷ [] ≡ c.push.new.self.items = search rules in (
      l.invariant.0
          ∙ ap (λ left. map string_bytes l.own.items
          ++ taken_off c.args.takes l.waits (map string_bytes left))
          c.in-Some.ensures.steps.0 ∙ own_taken l.own.items next word c.args.takes l.waits own
          ∙ ap₂ (λ had waits. map string_bytes had
          ++ taken_off c.args.takes waits (map string_bytes next)) items
          alone,
      l.invariant.1
          ∙ ap (λ left. map string_bytes l.rest.items
          ++ left_over c.args.takes l.waits (map string_bytes left))
          c.in-Some.ensures.steps.0 ∙ own_left l.rest.items next word c.args.takes l.waits own
          ∙ ap (λ waits. map string_bytes l.rest.items
          ++ left_over c.args.takes waits (map string_bytes next))
          alone,
    )

pub loop-word-preserved : goal.loop-word-preserved
loop-word-preserved c =
    let l = c.loop-word in
    let word = c.in-Some.word in
    let next = c.next.new.self.rest.items in
    let other : is_own c.args.takes l.waits (string_bytes word) ≡ false = search rules in
    let alone : is_alone c.args.takes (string_bytes word)
    ≡ c.is_alone-waits.result = search rules in
    let items : l.rest.items ++ word ∷ [] ≡ c.push-else-is_own.new.self.items = search rules in (
      l.invariant.0
          ∙ ap (λ left. map string_bytes l.own.items
          ++ taken_off c.args.takes l.waits (map string_bytes left))
          c.in-Some.ensures.steps.0 ∙ other_taken l.own.items next word c.args.takes l.waits other
          ∙ ap (λ waits. map string_bytes l.own.items
          ++ taken_off c.args.takes waits (map string_bytes next))
          alone,
      l.invariant.1
          ∙ ap (λ left. map string_bytes l.rest.items
          ++ left_over c.args.takes l.waits (map string_bytes left))
          c.in-Some.ensures.steps.0 ∙ other_left l.rest.items next word c.args.takes l.waits other
          ∙ ap₂ (λ had waits. map string_bytes had
          ++ left_over c.args.takes waits (map string_bytes next)) items
          alone,
    )

pub returns-clause-own : goal.returns-clause-own
returns-clause-own c =
    let l = c.loop-word in
    let none : l.word-iterator.rest.items ≡ [] = grind (arith, common_steps) in
    sym (l.invariant.0
    ∙ ap (λ left. map string_bytes l.own.items
    ++ taken_off c.args.takes l.waits (map string_bytes left))
    none ∙ none_taken (map string_bytes l.own.items) c.args.takes l.waits)

pub returns-clause-rest : goal.returns-clause-rest
returns-clause-rest c =
    let l = c.loop-word in
    let none : l.word-iterator.rest.items ≡ [] = grind (arith, common_steps) in
    sym (l.invariant.1
    ∙ ap (λ left. map string_bytes l.rest.items
    ++ left_over c.args.takes l.waits (map string_bytes left))
    none ∙ none_left (map string_bytes l.rest.items) c.args.takes l.waits)
