-- One more step of the group that may go on.
use Rattle.std.proofs.Common.{◌≡◌, ◌∙◌, ℕ, Bool, true, not, cond, List, [], ◌∷◌, ◌++◌, refl, sym}
use Rattle.std.proofs.Common.{ap}
use Rattle.std.proofs.lemmas.List.{append-nil, map-append}
use Rattle.ev_base.specs.Terms.{Step, Group}
use Rattle.script_net.specs.event_script.specs.Script.{ScriptStep, report_step}
use Rattle.script_net.specs.event_script.specs.Grammar.{Line, Stepping, moment_of, is_step}
use Rattle.script_net.specs.declared.script.End.{End}
use Rattle.script_net.specs.Scripts.{step_at, steps_at}
use Rattle.script_text.specs.Reading.{and_step, played_by, open_group, is_empty}

with_last : (step : Step) (moment : ℕ) (steps : List Step) (groups : List Group)
    → and_step step (groups ++ record { moment = moment; steps = steps } ∷ [])
    ≡ groups ++ record { moment = moment; steps = steps ++ step ∷ [] } ∷ []
with_last step moment steps [] = refl
with_last step moment steps (g ∷ []) = refl
with_last step moment steps (g ∷ h ∷ groups) =
    ap (λ (gs : List Group). g ∷ gs) (with_last step moment steps (h ∷ groups))

pub one_more : (groups : List Group) (moment : ℕ) (ends : List End) (end : End) (step : ScriptStep)
    (past : List Line) → groups ++ open_group moment (steps_at ends) ≡ played_by past
    → moment ≡ moment_of past
    → not (is_empty ends) ≡ is_step past → step_at end ≡ report_step step
    → groups ++ open_group moment (steps_at (ends ++ end ∷ []))
    ≡ played_by (Stepping step ∷ past)
one_more groups moment [] end step past are m goes at =
    ap (λ (s : Step). groups ++ record { moment = moment; steps = s ∷ [] } ∷ []) at
    ∙ ap (λ (gs : List Group). gs ++ record { moment = moment; steps = report_step step ∷ [] } ∷ [])
    (sym (append-nil groups) ∙ are)
    ∙ ap (λ (n : ℕ). played_by past ++ record { moment = n; steps = report_step step ∷ [] } ∷ []) m
    ∙ ap (λ (b : Bool). cond b (and_step (report_step step) (played_by past))
    (played_by past ++ record { moment = moment_of past; steps = report_step step ∷ [] } ∷ []))
    goes
one_more groups moment (first ∷ ends) end step past are m goes at =
    ap (λ (steps : List Step). groups ++ record { moment = moment; steps = step_at first ∷ steps }
    ∷ []) (map-append step_at ends (end ∷ []))
    ∙ ap (λ (s : Step). groups ++ record {
      moment = moment;
      steps = step_at first ∷ steps_at ends ++ s ∷ [];
    } ∷ []) at
    ∙ sym (with_last (report_step step) moment (step_at first ∷ steps_at ends) groups)
    ∙ ap (and_step (report_step step)) are
    ∙ ap (λ (b : Bool). cond b (and_step (report_step step) (played_by past))
    (played_by past ++ record { moment = moment_of past; steps = report_step step ∷ [] } ∷ []))
    goes

pub not_empty : (ends : List End) (end : End) → not (is_empty (ends ++ end ∷ [])) ≡ true
not_empty [] end = refl
not_empty (first ∷ ends) end = refl
