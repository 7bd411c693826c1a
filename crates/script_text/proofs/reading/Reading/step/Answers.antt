use Rattle.std.proofs.Common.{◌≡◌, ◌∙◌, ◌++◌, ◌+◌, ◌∷◌, [], ℕ, List, not, true, sym, ap, subst}
use Rattle.std.proofs.Common.{arith}
use Rattle.script_net.specs.event_script.specs.Grammar.{Stepping, may_stand, steps_in}
use Rattle.script_net.specs.event_script.specs.Stories.{offers_of}
use Rattle.script_net.specs.declared.script.End.{End}
use Rattle.script_text.specs.Lines.{step_view}
use Rattle.script_net.specs.Scripts.{group_views, steps_at}
use Rattle.script_text.specs.Reading.{HasTold, open_group, is_empty}
use Rattle.script_text.proofs.Steps.{one_more, not_empty}
use Rattle.script_text.proofs.reading.Reading.step.Goals as goal

pub returns-clause-taken : goal.returns-clause-taken
returns-clause-taken c = λ past r.
    let self = c.args.self.now in
    let noted = c.note.new.self in
    let step = step_view c.args.step in
    let end = c.end-end.result in
    let may : may_stand past (Stepping step) ≡ true = cc (c.may_stand.ensures past r) in
    let rest = c.note.ensures.rest in
    let items : c.push.new.self.items ≡ self.current.items ++ end ∷ [] =
    c.in_ok-push.ensures.items ∙ ap (λ v. v.current.items ++ end ∷ []) rest in
    let told : HasTold noted.connections.items self.room (step ∷ steps_in past) =
    c.in_ok-note.ensures.told past r may in (
      may,
      record {
        moment = ap (λ v. v.moment) rest ∙ r.moment;
        steps = ap (λ v. v.steps + 1) rest ∙ ap (λ (n : ℕ). n + 1) r.steps ∙ omega arith;
        done = c.in_ok-note.ensures.done past r may;
        told = subst (λ (room : ℕ). HasTold noted.connections.items room (step ∷ steps_in past))
            (sym (ap (λ v. v.room) rest)) told;
        offered = c.in_ok-note.ensures.offered ∙ ap (λ os. os ++ offers_of step) r.offered;
        groups = ap (λ v. group_views v.groups.items
            ++ open_group v.moment (steps_at c.push.new.self.items)) rest
            ∙ ap (λ (ends : List End). group_views self.groups.items
            ++ open_group self.moment (steps_at ends)) items
            ∙ one_more (group_views self.groups.items) self.moment self.current.items end step past
            r.groups r.moment r.goes_on c.end-end.ensures;
        goes_on = ap (λ (ends : List End). not (is_empty ends)) items
            ∙ not_empty self.current.items end;
      },
    )
