-- Lines one after another, each of which may stand there, and the groups that they make.
use Rattle.std.proofs.Common.{◌≡◌, ◌∙◌, ℕ, ◌+◌, ◌<◌, ◌≤◌, nat_lt, nat_le, Bool, true, false, ◌&&◌}
use Rattle.std.proofs.Common.{cond, List, [], ◌∷◌, ◌++◌, length, reverse, Some, refl, sym, ap}
use Rattle.std.proofs.Common.{append_assoc, append-nil, arith}
use Rattle.std.specs.Prelude.{map}
use Rattle.std.proofs.lemmas.Bool.Decides.{nat_tests}
use Rattle.std.proofs.lemmas.Grind.{reverse_onto, flat_map-append}
use Rattle.event_script.specs.Script.{ScriptStep, ScriptGroup, steps_of, opened, is_done}
use Rattle.event_script.specs.Script.{may_follow, are_steps, most_steps}
use Rattle.event_script.specs.Grammar.{Line, At, Stepping, moment_of, steps_in, last_moment}
use Rattle.event_script.specs.Grammar.{is_step, with_step, groups_of, line_of, Spells}
use Rattle.script_generator.specs.Texts.{line_words}

-- lines, the latest first, after others
abbrev pub onto : List Line → List Line → List Line
onto [] past = past
onto (line ∷ ls) past = onto ls (line ∷ past)

pub onto_both : (a b past : List Line) → onto (a ++ b) past ≡ onto b (onto a past)
onto_both [] b past = refl
onto_both (line ∷ a) b past = onto_both a b (line ∷ past)

onto_is : (ls past : List Line) → onto ls past ≡ reverse ls ++ past
onto_is [] past = refl
onto_is (line ∷ ls) past =
    onto_is ls (line ∷ past) ∙ sym (append_assoc (reverse ls) (line ∷ []) past)
    ∙ ap (λ (xs : List Line). xs ++ past) (sym (reverse_onto ls line []))

pub onto_all : (ls : List Line) → onto ls [] ≡ reverse ls
onto_all ls = onto_is ls [] ∙ append-nil (reverse ls)

-- the last group, if it has a step
abbrev pub last_group : ℕ → List ScriptStep → List ScriptGroup
last_group moment [] = []
last_group moment (step ∷ steps) = record { moment = moment; steps = step ∷ steps } ∷ []

abbrev pub some : List ScriptStep → Bool
some [] = false
some (step ∷ steps) = true

pub some_more : (steps : List ScriptStep) (step : ScriptStep) → some (steps ++ step ∷ []) ≡ true
some_more [] step = refl
some_more (first ∷ steps) step = refl

-- What these lines stand for: each reads back and may stand there; the moment so far; how many
-- steps there are, and connections that came; from which connection on none was shut; and the
-- groups before the last one, and the steps of that.
pub record Stands (past : List Line) (moment count came shut : ℕ) (groups : List ScriptGroup)
    (last : List ScriptStep) : Type 0 where
  pub spells : Spells (map line_words past) past
  pub moment_is : moment_of past ≡ moment
  pub count_is : length (steps_in past) ≡ count
  pub came_are : opened (steps_in past) ≡ came
  pub live : (c : ℕ) → shut ≤ c → is_done c (steps_in past) ≡ false
  pub groups_are : groups_of past ≡ groups ++ last_group moment last
  pub goes_on : is_step past ≡ some last
  pub steps_are : reverse (steps_in past) ≡ steps_of groups ++ last
  pub valid : are_steps (steps_in past) ≡ true

pub stands_at_first : Stands [] 0 0 0 0 [] []
stands_at_first = record {
  spells = tt;
  moment_is = refl;
  count_is = refl;
  came_are = refl;
  live = λ c le. refl;
  groups_are = refl;
  goes_on = refl;
  steps_are = refl;
  valid = refl;
}

pub same_standing : (past : List Line) (moment count count' came came' shut shut' : ℕ)
    (groups groups' : List ScriptGroup) (last last' : List ScriptStep)
    → count ≡ count' → came ≡ came' → shut ≡ shut' → groups ≡ groups' → last ≡ last'
    → Stands past moment count came shut groups last
    → Stands past moment count' came' shut' groups' last'
same_standing past moment count count' came came' shut shut' groups groups' last last' ec ea es eg
    el s = rw (← ec, ← ea, ← es, ← eg, ← el) s

-- ---- one step more

with_last : (step : ScriptStep) (moment : ℕ) (steps : List ScriptStep) (groups : List ScriptGroup)
    → with_step step (groups ++ record { moment = moment; steps = steps } ∷ [])
    ≡ groups ++ record { moment = moment; steps = steps ++ step ∷ [] } ∷ []
with_last step moment steps [] = refl
with_last step moment steps (g ∷ []) = refl
with_last step moment steps (g ∷ h ∷ groups) =
    ap (λ (gs : List ScriptGroup). g ∷ gs) (with_last step moment steps (h ∷ groups))

one_more : (groups : List ScriptGroup) (moment : ℕ) (last : List ScriptStep) (step : ScriptStep)
    (past : List Line) → groups_of past ≡ groups ++ last_group moment last → moment_of past ≡ moment
    → is_step past ≡ some last → groups_of (Stepping step ∷ past)
    ≡ groups ++ last_group moment (last ++ step ∷ [])
one_more groups moment [] step past are m goes =
    ap (λ (b : Bool). cond b (with_step step (groups_of past))
    (groups_of past ++ record { moment = moment_of past; steps = step ∷ [] } ∷ [])) goes
    ∙ ap (λ (n : ℕ). groups_of past ++ record { moment = n; steps = step ∷ [] } ∷ []) m
    ∙ ap (λ (gs : List ScriptGroup). gs ++ record { moment = moment; steps = step ∷ [] } ∷ [])
    (are ∙ append-nil groups)
one_more groups moment (first ∷ last) step past are m goes =
    ap (λ (b : Bool). cond b (with_step step (groups_of past))
    (groups_of past ++ record { moment = moment_of past; steps = step ∷ [] } ∷ [])) goes
    ∙ ap (with_step step) are ∙ with_last step moment (first ∷ last) groups

below_most : (n : ℕ) → n < 1000000 → nat_lt n most_steps ≡ true
below_most n lt = grind (arith, nat_tests)

pub step_stands : (past : List Line) (moment count came shut came' shut' : ℕ)
    (groups : List ScriptGroup) (last : List ScriptStep) (step : ScriptStep)
    → Stands past moment count came shut groups last
    → count < 1000000 → line_of (line_words (Stepping step)) ≡ Some (Stepping step)
    → may_follow (steps_in past) step ≡ true → opened (step ∷ steps_in past) ≡ came'
    → ((c : ℕ) → shut' ≤ c → is_done c (step ∷ steps_in past) ≡ false)
    → Stands (Stepping step ∷ past) moment (count + 1) came' shut' groups (last ++ step ∷ [])
step_stands past moment count came shut came' shut' groups last step s few reads may came_is live =
    let room : nat_lt (length (steps_in past)) most_steps ≡ true =
    ap (λ (n : ℕ). nat_lt n most_steps) s.count_is ∙ below_most count few in
    let stands : nat_lt (length (steps_in past)) most_steps && may_follow (steps_in past) step
    ≡ true = rw (room, may) refl in
    let size : length (step ∷ steps_in past) ≡ count + 1 = omega (arith, s.count_is) in
    record {
      spells = (reads, stands, s.spells);
      moment_is = s.moment_is;
      count_is = size;
      came_are = came_is;
      live = live;
      groups_are = one_more groups moment last step past s.groups_are s.moment_is s.goes_on;
      goes_on = sym (some_more last step);
      steps_are = reverse_onto (steps_in past) step []
          ∙ ap (λ (xs : List ScriptStep). xs ++ step ∷ []) s.steps_are
          ∙ append_assoc (steps_of groups) last (step ∷ []);
      valid = rw (room, may) s.valid;
    }

-- ---- one moment more

some_none : (moment : ℕ) (last : List ScriptStep) → steps_of (last_group moment last) ≡ last
some_none moment [] = refl
some_none moment (step ∷ last) = append-nil (step ∷ last)

pub at_stands : (past : List Line) (moment count came shut now : ℕ) (groups : List ScriptGroup)
    (last : List ScriptStep) → Stands past moment count came shut groups last
    → moment ≤ now → now ≤ last_moment → line_of (line_words (At now)) ≡ Some (At now)
    → Stands (At now ∷ past) now count came shut (groups ++ last_group moment last) []
at_stands past moment count came shut now groups last s later within reads =
    let low : nat_le (moment_of past) now ≡ true =
    ap (λ (n : ℕ). nat_le n now) s.moment_is ∙ grind (arith, nat_tests) in
    let high : nat_le now last_moment ≡ true = grind (arith, nat_tests) in
    let stands : nat_le (moment_of past) now && nat_le now last_moment ≡ true =
    rw (low, high) refl in
    record {
      spells = (reads, stands, s.spells);
      moment_is = refl;
      count_is = s.count_is;
      came_are = s.came_are;
      live = s.live;
      groups_are = s.groups_are ∙ sym (append-nil (groups ++ last_group moment last));
      goes_on = refl;
      steps_are = s.steps_are ∙ ap (λ (xs : List ScriptStep). steps_of groups ++ xs)
          (sym (some_none moment last)) ∙ sym
          (flat_map-append (λ (g : ScriptGroup). g.steps) groups (last_group moment last))
          ∙ sym (append-nil (steps_of (groups ++ last_group moment last)));
      valid = s.valid;
    }
