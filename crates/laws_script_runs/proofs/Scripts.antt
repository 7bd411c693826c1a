-- The steps of a script: how many connections they have, and that nothing of a connection follows
-- its end.
use Rattle.std.proofs.Common.{ℕ, ◌≡◌, ◌+◌, ◌≤◌, ◌<◌, Bool, true, false, not, cond, ◌&&◌, ◌||◌, List}
use Rattle.std.proofs.Common.{[], ◌∷◌, ◌++◌, length, reverse, refl, sym, ap, ◌∙◌, subst, arith}
use Rattle.std.proofs.Common.{⊎_elim, append_assoc}
use Rattle.std.specs.Prelude.{nat_lt}
use Rattle.std.specs.List.{list_any}
use Rattle.std.proofs.lemmas.Bool.{false≢true, and_parts, not-true, both_ways, cases_Bool, eqb-true}
use Rattle.std.proofs.lemmas.Bool.{ltb-true}
use Rattle.std.proofs.lemmas.List.{reverse-append}
use Rattle.laws_script_turns.specs.acceptor.specs.Accepting as accepting
use Rattle.laws_script_turns.specs.event_script.specs.Script.{ScriptStep, Opens, Brings, Shuts}
use Rattle.laws_script_turns.specs.event_script.specs.Script.{Fails, ListenerFails, opened, is_of}
use Rattle.laws_script_turns.specs.event_script.specs.Script.{shuts, fails, is_done, may_follow}
use Rattle.laws_script_turns.specs.event_script.specs.Script.{are_steps, goes_on, most_steps}
use Rattle.laws_script_turns.specs.Laws.{is_orderly}

-- the last step may follow those before it
pub step_parts : (step : ScriptStep) (past : List ScriptStep) → are_steps (step ∷ past) ≡ true
    → (may_follow past step ≡ true) × (are_steps past ≡ true)
step_parts step past h =
    let parts = and_parts (nat_lt (length past) most_steps && may_follow past step) (are_steps past)
    h in
    ((and_parts (nat_lt (length past) most_steps) (may_follow past step) parts.0).1, parts.1)

parts_of_steps : (later past : List ScriptStep) → are_steps (later ++ past) ≡ true
    → are_steps past ≡ true
parts_of_steps [] past h = h
parts_of_steps (s ∷ later) past h = parts_of_steps later past (step_parts s (later ++ past) h).1

more_steps : (step : ScriptStep) (steps past : List ScriptStep)
    → reverse (step ∷ steps) ++ past ≡ reverse steps ++ (step ∷ past)
more_steps step steps past = ap (λ (l : List ScriptStep). l ++ past)
    (reverse-append (step ∷ []) steps) ∙ append_assoc (reverse steps) (step ∷ []) past

-- a step of a connection stands only if that goes on
of_going : (c : ℕ) (step : ScriptStep) (past : List ScriptStep) → may_follow past step ≡ true
    → is_of c step ≡ true → is_done c past ≡ false
of_going c (Brings conn bytes) past m o =
    subst (λ (k : ℕ). is_done k past ≡ false) (eqb-true conn c o)
    (not-true _ (and_parts _ _ (and_parts (goes_on conn past) _ m).0).1)
of_going c (Shuts conn) past m o =
    subst (λ (k : ℕ). is_done k past ≡ false) (eqb-true conn c o) (not-true _ (and_parts _ _ m).1)
of_going c (Fails conn) past m o =
    subst (λ (k : ℕ). is_done k past ≡ false) (eqb-true conn c o) (not-true _ (and_parts _ _ m).1)
of_going c (Opens conn) past m o = absurd (false≢true o)
of_going c ListenerFails past m o = absurd (false≢true o)

or_right : (b c : Bool) → c ≡ true → (b || c) ≡ true
or_right true c h = refl
or_right false c h = h

none_after : (c : ℕ) (steps past : List ScriptStep) → are_steps (reverse steps ++ past) ≡ true
    → is_done c past ≡ true → list_any (is_of c) steps ≡ false
none_after c [] past h d = refl
none_after c (step ∷ steps) past h d =
    let whole : are_steps (reverse steps ++ (step ∷ past)) ≡ true =
    sym (ap are_steps (more_steps step steps past)) ∙ h in
    let may = (step_parts step past (parts_of_steps (reverse steps) (step ∷ past) whole)).0 in
    let other : is_of c step ≡ false =
    ⊎_elim (λ (t : is_of c step ≡ true). absurd (both_ways _ (of_going c step past may t) d))
    (λ (f : is_of c step ≡ false). f) (cases_Bool (is_of c step)) in
    ap (λ (b : Bool). b || list_any (is_of c) steps) other
    ∙ none_after c steps (step ∷ past) whole
    (or_right (shuts c step || fails c step) (is_done c past) d)

orderly_from : (c : ℕ) (steps past : List ScriptStep) → are_steps (reverse steps ++ past) ≡ true
    → is_orderly c steps ≡ true
orderly_from c [] past h = refl
orderly_from c (step ∷ steps) past h =
    by_step (shuts c step) (fails c step) refl refl (orderly_from c steps (step ∷ past) whole)
  where
    whole : are_steps (reverse steps ++ (step ∷ past)) ≡ true
    whole = sym (ap are_steps (more_steps step steps past)) ∙ h

    by_step : (s f : Bool) → shuts c step ≡ s → fails c step ≡ f → is_orderly c steps ≡ true
        → cond s (not (list_any (is_of c) steps))
        (cond f (not (list_any (is_of c) steps)) (is_orderly c steps)) ≡ true
    by_step true f e g rest = ap not (none_after c steps (step ∷ past) whole
        (ap (λ (b : Bool). (b || fails c step) || is_done c past) e))
    by_step false true e g rest = ap not
        (none_after c steps (step ∷ past) whole
        (ap (λ (b : Bool). (b || fails c step) || is_done c past) e
        ∙ ap (λ (b : Bool). b || is_done c past) g))
    by_step false false e g rest = rest

pub orderly : (c : ℕ) (steps : List ScriptStep) → are_steps (reverse steps) ≡ true
    → is_orderly c steps ≡ true
orderly c steps h = orderly_from c steps [] (ap are_steps (none_behind (reverse steps)) ∙ h)
  where
    none_behind : (l : List ScriptStep) → l ++ [] ≡ l
    none_behind [] = refl
    none_behind (x ∷ l) = ap (λ (m : List ScriptStep). x ∷ m) (none_behind l)

-- a script has at most 65,536 connections
few_past : (past : List ScriptStep) → are_steps past ≡ true → opened past ≤ 65536
few_past [] h = omega arith
few_past (Opens conn ∷ past) h =
    let m = step_parts (Opens conn) past h in
    let n = and_parts _ _ m.0 in
    let is : conn ≡ opened past = eqb-true _ _ n.0 in
    let few : conn < 65536 = ltb-true _ _ n.1 in
    omega (arith, is, few)
few_past (Brings conn bytes ∷ past) h = few_past past (step_parts (Brings conn bytes) past h).1
few_past (Shuts conn ∷ past) h = few_past past (step_parts (Shuts conn) past h).1
few_past (Fails conn ∷ past) h = few_past past (step_parts (Fails conn) past h).1
few_past (ListenerFails ∷ past) h = few_past past (step_parts ListenerFails past h).1

opened_append : (a b : List ScriptStep) → opened (a ++ b) ≡ opened a + opened b
opened_append [] b = omega arith
opened_append (Opens conn ∷ a) b = omega (arith, opened_append a b)
opened_append (Brings conn bytes ∷ a) b = opened_append a b
opened_append (Shuts conn ∷ a) b = opened_append a b
opened_append (Fails conn ∷ a) b = opened_append a b
opened_append (ListenerFails ∷ a) b = opened_append a b

pub opened_reverse : (l : List ScriptStep) → opened (reverse l) ≡ opened l
opened_reverse [] = refl
opened_reverse (s ∷ l) = ap opened (reverse-append (s ∷ []) l) ∙ opened_append (reverse l) (s ∷ [])
    ∙ swap (opened (reverse l)) (opened l) (opened (s ∷ [])) (opened_reverse l)
    ∙ sym (opened_append (s ∷ []) l)
  where
    swap : (a b c : ℕ) → a ≡ b → a + c ≡ c + b
    swap a b c e = omega arith

pub few : (steps : List ScriptStep) → are_steps (reverse steps) ≡ true
    → opened steps < accepting.most_connections
few steps h =
    let le : opened (reverse steps) ≤ 65536 = few_past (reverse steps) h in
    let same : opened (reverse steps) ≡ opened steps = opened_reverse steps in
    omega (arith, le, same)
