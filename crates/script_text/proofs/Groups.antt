-- The groups of the lines that were read, and what the ends have to tell in them.
use Rattle.std.proofs.Common.{◌≡◌, ◌∙◌, ℕ, ◌+◌, Bool, true, false, not, cond, List, [], ◌∷◌, ◌++◌}
use Rattle.std.proofs.Common.{reverse, refl, sym, ap, append_assoc}
use Rattle.std.specs.List.{flat_map}
use Rattle.std.proofs.lemmas.List.{append-nil, map-append}
use Rattle.std.proofs.lemmas.Grind.{flat_map-append, reverse_onto}
use Rattle.ev_base.specs.Terms.{Step, Group}
use Rattle.script_net.specs.event_script.specs.Script.{ScriptStep, Opens, Brings, Shuts, Fails}
use Rattle.script_net.specs.event_script.specs.Script.{ListenerFails, ScriptGroup, report_step}
use Rattle.script_net.specs.event_script.specs.Script.{group_told, groups_told, steps_of, opened}
use Rattle.script_net.specs.event_script.specs.Stories.{parts_of, story, offers_of, offers}
use Rattle.script_net.specs.event_script.specs.Grammar.{Line, At, Quiet, Stepping, moment_of}
use Rattle.script_net.specs.event_script.specs.Grammar.{steps_in, is_step, with_step, groups_of}
use Rattle.script_text.specs.Reading.{told_by, offered_by, and_step, played_by, is_empty}

flat_more : {A : Type 0} (f : ScriptStep → List A) (past : List ScriptStep) (step : ScriptStep)
    → flat_map f (reverse past) ++ f step ≡ flat_map f (reverse (step ∷ past))
flat_more f past step =
    ap (λ ps. flat_map f (reverse past) ++ ps) (sym (append-nil (f step)))
    ∙ sym (flat_map-append f (reverse past) (step ∷ []))
    ∙ ap (flat_map f) (sym (reverse_onto past step []))

-- what is told and offered step by step
pub told_is : (c : ℕ) (past : List ScriptStep) → told_by c past ≡ story c (reverse past)
told_is c [] = refl
told_is c (step ∷ past) = ap (λ ps. ps ++ parts_of c step) (told_is c past)
    ∙ flat_more (parts_of c) past step

pub offered_is : (past : List ScriptStep) → offered_by past ≡ offers (reverse past)
offered_is [] = refl
offered_is (step ∷ past) = ap (λ os. os ++ offers_of step) (offered_is past)
    ∙ flat_more offers_of past step

-- how many connections came, in either order
opened_more : (steps : List ScriptStep) (step : ScriptStep)
    → opened (steps ++ step ∷ []) ≡ opened (step ∷ steps)
opened_more [] step = refl
opened_more (Opens conn ∷ steps) (Opens c) = ap (λ n. n + 1) (opened_more steps (Opens c))
opened_more (Opens conn ∷ steps) (Brings c bytes) =
    ap (λ n. n + 1) (opened_more steps (Brings c bytes))
opened_more (Opens conn ∷ steps) (Shuts c) = ap (λ n. n + 1) (opened_more steps (Shuts c))
opened_more (Opens conn ∷ steps) (Fails c) = ap (λ n. n + 1) (opened_more steps (Fails c))
opened_more (Opens conn ∷ steps) ListenerFails = ap (λ n. n + 1) (opened_more steps ListenerFails)
opened_more (Brings conn bs ∷ steps) (Opens c) = opened_more steps (Opens c)
opened_more (Brings conn bs ∷ steps) (Brings c bytes) = opened_more steps (Brings c bytes)
opened_more (Brings conn bs ∷ steps) (Shuts c) = opened_more steps (Shuts c)
opened_more (Brings conn bs ∷ steps) (Fails c) = opened_more steps (Fails c)
opened_more (Brings conn bs ∷ steps) ListenerFails = opened_more steps ListenerFails
opened_more (Shuts conn ∷ steps) (Opens c) = opened_more steps (Opens c)
opened_more (Shuts conn ∷ steps) (Brings c bytes) = opened_more steps (Brings c bytes)
opened_more (Shuts conn ∷ steps) (Shuts c) = opened_more steps (Shuts c)
opened_more (Shuts conn ∷ steps) (Fails c) = opened_more steps (Fails c)
opened_more (Shuts conn ∷ steps) ListenerFails = opened_more steps ListenerFails
opened_more (Fails conn ∷ steps) (Opens c) = opened_more steps (Opens c)
opened_more (Fails conn ∷ steps) (Brings c bytes) = opened_more steps (Brings c bytes)
opened_more (Fails conn ∷ steps) (Shuts c) = opened_more steps (Shuts c)
opened_more (Fails conn ∷ steps) (Fails c) = opened_more steps (Fails c)
opened_more (Fails conn ∷ steps) ListenerFails = opened_more steps ListenerFails
opened_more (ListenerFails ∷ steps) (Opens c) = opened_more steps (Opens c)
opened_more (ListenerFails ∷ steps) (Brings c bytes) = opened_more steps (Brings c bytes)
opened_more (ListenerFails ∷ steps) (Shuts c) = opened_more steps (Shuts c)
opened_more (ListenerFails ∷ steps) (Fails c) = opened_more steps (Fails c)
opened_more (ListenerFails ∷ steps) ListenerFails = opened_more steps ListenerFails

opened_both : (a b : List ScriptStep) (step : ScriptStep) → opened a ≡ opened b
    → opened (step ∷ a) ≡ opened (step ∷ b)
opened_both a b (Opens c) e = ap (λ n. n + 1) e
opened_both a b (Brings c bytes) e = e
opened_both a b (Shuts c) e = e
opened_both a b (Fails c) e = e
opened_both a b ListenerFails e = e

pub opened_is : (past : List ScriptStep) → opened past ≡ opened (reverse past)
opened_is [] = refl
opened_is (step ∷ past) =
    opened_both past (reverse past) step (opened_is past) ∙ sym (opened_more (reverse past) step)
    ∙ ap opened (sym (reverse_onto past step []))

-- the groups as they are played
and_told : (step : ScriptStep) (groups : List ScriptGroup)
    → and_step (report_step step) (groups_told groups) ≡ groups_told (with_step step groups)
and_told step [] = refl
and_told step (g ∷ []) = ap (λ (steps : List Step). record { moment = g.moment; steps = steps }
    ∷ []) (sym (map-append report_step g.steps (step ∷ [])))
and_told step (g ∷ h ∷ groups) = ap (λ (gs : List Group). group_told g ∷ gs)
    (and_told step (h ∷ groups))

stepped : (b : Bool) (step : ScriptStep) (moment : ℕ) (groups : List ScriptGroup)
    → cond b (and_step (report_step step) (groups_told groups))
    (groups_told groups ++ record { moment = moment; steps = report_step step ∷ [] } ∷ [])
    ≡ groups_told (cond b (with_step step groups)
    (groups ++ record { moment = moment; steps = step ∷ [] } ∷ []))
stepped true step moment groups = and_told step groups
stepped false step moment groups =
    sym (map-append group_told groups (record { moment = moment; steps = step ∷ [] } ∷ []))

pub played_is : (past : List Line) → played_by past ≡ groups_told (groups_of past)
played_is [] = refl
played_is (At moment ∷ past) = played_is past
played_is (Quiet ∷ past) =
    ap (λ (gs : List Group). gs ++ record { moment = moment_of past; steps = [] } ∷ [])
    (played_is past)
    ∙ sym (map-append group_told (groups_of past)
    (record { moment = moment_of past; steps = [] } ∷ []))
played_is (Stepping step ∷ past) =
    ap (λ (gs : List Group). cond (is_step past) (and_step (report_step step) gs)
    (gs ++ record { moment = moment_of past; steps = report_step step ∷ [] } ∷ []))
    (played_is past)
    ∙ stepped (is_step past) step (moment_of past) (groups_of past)

-- the steps of the groups are those of the lines
abbrev some_group : List ScriptGroup → Bool
some_group groups = not (is_empty groups)

step_some : (step : ScriptStep) (groups : List ScriptGroup) → some_group groups ≡ true
    → some_group (with_step step groups) ≡ true
step_some step [] some = some
step_some step (g ∷ []) some = refl
step_some step (g ∷ h ∷ groups) some = refl

more_some : (group : ScriptGroup) (groups : List ScriptGroup)
    → some_group (groups ++ group ∷ []) ≡ true
more_some group [] = refl
more_some group (g ∷ groups) = refl

some_step : (b : Bool) (step : ScriptStep) (moment : ℕ) (groups : List ScriptGroup)
    → (b ≡ true → some_group groups ≡ true)
    → some_group (cond b (with_step step groups)
    (groups ++ record { moment = moment; steps = step ∷ [] } ∷ [])) ≡ true
some_step true step moment groups some = step_some step groups (some refl)
some_step false step moment groups some =
    more_some (record { moment = moment; steps = step ∷ [] }) groups

goes_on : (past : List Line) → is_step past ≡ true → some_group (groups_of past) ≡ true
goes_on [] is = cc
goes_on (At moment ∷ past) is = cc
goes_on (Quiet ∷ past) is = cc
goes_on (Stepping step ∷ past) is =
    some_step (is_step past) step (moment_of past) (groups_of past) (goes_on past)

with_steps : (step : ScriptStep) (groups : List ScriptGroup) → some_group groups ≡ true
    → steps_of (with_step step groups) ≡ steps_of groups ++ step ∷ []
with_steps step [] some = cc
with_steps step (g ∷ []) some = append-nil (g.steps ++ step ∷ [])
    ∙ ap (λ steps. steps ++ step ∷ []) (sym (append-nil g.steps))
with_steps step (g ∷ h ∷ groups) some =
    ap (λ steps. g.steps ++ steps) (with_steps step (h ∷ groups) refl)
    ∙ sym (append_assoc g.steps (steps_of (h ∷ groups)) (step ∷ []))

one_group : (groups : List ScriptGroup) (group : ScriptGroup)
    → steps_of (groups ++ group ∷ []) ≡ steps_of groups ++ group.steps
one_group groups group = flat_map-append (λ g. g.steps) groups (group ∷ [])
    ∙ ap (λ steps. steps_of groups ++ steps) (append-nil group.steps)

step_joins : (b : Bool) (step : ScriptStep) (moment : ℕ) (groups : List ScriptGroup)
    → (b ≡ true → some_group groups ≡ true)
    → steps_of (cond b (with_step step groups)
    (groups ++ record { moment = moment; steps = step ∷ [] } ∷ []))
    ≡ steps_of groups ++ step ∷ []
step_joins true step moment groups some = with_steps step groups (some refl)
step_joins false step moment groups some =
    one_group groups (record { moment = moment; steps = step ∷ [] })

pub steps_are : (past : List Line) → steps_of (groups_of past) ≡ reverse (steps_in past)
steps_are [] = refl
steps_are (At moment ∷ past) = steps_are past
steps_are (Quiet ∷ past) = one_group (groups_of past)
    (record { moment = moment_of past; steps = [] }) ∙ append-nil (steps_of (groups_of past))
    ∙ steps_are past
steps_are (Stepping step ∷ past) =
    step_joins (is_step past) step (moment_of past) (groups_of past) (goes_on past)
    ∙ ap (λ steps. steps ++ step ∷ []) (steps_are past)
    ∙ sym (reverse_onto (steps_in past) step [])
