-- That every script can be played.
use Rattle.std.proofs.Common.{◌≡◌, ◌∙◌, ℕ, suc, ◌+◌, ◌<◌, ◌≤◌, ◌==◌, ◌&&◌, Bool, true, false, not}
use Rattle.std.proofs.Common.{cond, List, [], ◌∷◌, ◌++◌, length, reverse, refl, sym, ap, subst}
use Rattle.std.proofs.Common.{arith}
use Rattle.std.specs.Prelude.{nat_lt, nat_le}
use Rattle.std.proofs.lemmas.Bool.Decides.{nat_tests}
use Rattle.ev_base.specs.Story.{Part, Piece, Pausing, Ending, Failing, Offer, Connection, NoneThere}
use Rattle.ev_base.specs.Story.{OneFailure, AreNumbered}
use Rattle.ev_base.specs.Terms.{StepEnd, AtListener, AtConnection, Step, Group}
use Rattle.std.proofs.lemmas.List.{length-append}
use Rattle.script_net.specs.event_script.specs.Script.{ScriptStep, Opens, Brings, Shuts, Fails}
use Rattle.script_net.specs.event_script.specs.Script.{ListenerFails, ScriptGroup, opened, goes_on}
use Rattle.script_net.specs.event_script.specs.Script.{is_done, end_of, may_follow, report_step}
use Rattle.script_net.specs.event_script.specs.Script.{most_steps, most_connections}
use Rattle.script_net.specs.event_script.specs.Stories.{parts_of, offers_of, story, offers}
use Rattle.script_net.specs.event_script.specs.Grammar.{Line, At, Quiet, Stepping, moment_of}
use Rattle.script_net.specs.event_script.specs.Grammar.{steps_in, is_step, may_stand, last_moment}
use Rattle.script_net.specs.event_script.specs.Grammar.{groups_of, raw_lines, Spells, IsScriptText}
use Rattle.script_text.specs.Reading.{told_by, offered_by, and_step, played_by}
use Rattle.script_net.specs.Playable.{AreInOrder, AreFilled, many_offered, IsWithin, AreWithin}
use Rattle.script_net.specs.Playable.{AllWithin, many_steps}
use Rattle.script_text.specs.Playable.{ArePlayable}
use Rattle.script_text.proofs.Groups.{told_is, offered_is, opened_is, played_is, steps_are}

left_of : (a b : Bool) → a && b ≡ true → a ≡ true
left_of true b e = refl
left_of false b e = e

right_of : (a b : Bool) → a && b ≡ true → b ≡ true
right_of true b e = e
right_of false b e = cc

-- ---- moments

abbrev UpTo : ℕ → List Group → Type 0
UpTo moment [] = Unit {0}
UpTo moment (group ∷ groups) = (group.moment ≤ moment) × UpTo moment groups

up_later : (m n : ℕ) (groups : List Group) → m ≤ n → UpTo m groups → UpTo n groups
up_later m n [] le u = tt
up_later m n (g ∷ groups) le u = (omega (arith, u.0), up_later m n groups le u.1)

up_more : (m : ℕ) (groups : List Group) (group : Group) → UpTo m groups → group.moment ≤ m
    → UpTo m (groups ++ group ∷ [])
up_more m [] group u le = (le, tt)
up_more m (g ∷ groups) group u le = (u.0, up_more m groups group u.1 le)

up_and : (m : ℕ) (step : Step) (groups : List Group) → UpTo m groups → UpTo m (and_step step groups)
up_and m step [] u = tt
up_and m step (g ∷ []) u = (u.0, tt)
up_and m step (g ∷ h ∷ groups) u = (u.0, up_and m step (h ∷ groups) u.1)

order_more : (from : ℕ) (groups : List Group) (group : Group) → AreInOrder from groups
    → UpTo group.moment groups → from ≤ group.moment → group.moment ≤ last_moment
    → AreInOrder from (groups ++ group ∷ [])
order_more from [] group o u le last = (le, last, tt)
order_more from (g ∷ groups) group o u le last =
    (o.0, o.1, order_more g.moment groups group o.2 u.1 u.0 last)

order_and : (from : ℕ) (step : Step) (groups : List Group) → AreInOrder from groups
    → AreInOrder from (and_step step groups)
order_and from step [] o = tt
order_and from step (g ∷ []) o = (o.0, o.1, tt)
order_and from step (g ∷ h ∷ groups) o = (o.0, o.1, order_and g.moment step (h ∷ groups) o.2)

pub record Ordered (past : List Line) : Type 0 where
  pub order : AreInOrder 0 (played_by past)
  pub up : UpTo (moment_of past) (played_by past)
  pub last : moment_of past ≤ last_moment

order_step : (b : Bool) (step : Step) (moment : ℕ) (groups : List Group) → AreInOrder 0 groups
    → UpTo moment groups → moment ≤ last_moment
    → AreInOrder 0 (cond b (and_step step groups)
    (groups ++ record { moment = moment; steps = step ∷ [] } ∷ []))
    × UpTo moment (cond b (and_step step groups)
    (groups ++ record { moment = moment; steps = step ∷ [] } ∷ []))
order_step true step moment groups o u last =
    (order_and 0 step groups o, up_and moment step groups u)
order_step false step moment groups o u last = (
  order_more 0 groups (record { moment = moment; steps = step ∷ [] }) o u (omega arith) last,
  up_more moment groups (record { moment = moment; steps = step ∷ [] }) u (omega arith),
)

not_back : (now moment : ℕ) → nat_le now moment && nat_le moment last_moment ≡ true → (now ≤ moment)
    × (moment ≤ last_moment)
not_back now moment may =
    let a = left_of (nat_le now moment) (nat_le moment last_moment) may in
    let b = right_of (nat_le now moment) (nat_le moment last_moment) may in
    (grind (arith, nat_tests), grind (arith, nat_tests))

pub ordered : (raws : List (List ℕ)) (past : List Line) → Spells raws past → Ordered past
ordered [] [] s = record { order = tt; up = tt; last = omega arith }
ordered [] (x ∷ past) s = absurd s
ordered (raw ∷ raws) [] s = absurd s
ordered (raw ∷ raws) (At moment ∷ past) s =
    let r = ordered raws past s.2 in
    let may = not_back (moment_of past) moment s.1 in
    record {
      order = r.order;
      up = up_later (moment_of past) moment (played_by past) may.0 r.up;
      last = may.1;
    }
ordered (raw ∷ raws) (Quiet ∷ past) s =
    let r = ordered raws past s.2 in
    record {
      order = order_more 0 (played_by past) (record { moment = moment_of past; steps = [] }) r.order
          r.up (omega arith) r.last;
      up = up_more (moment_of past) (played_by past)
          (record { moment = moment_of past; steps = [] }) r.up (omega arith);
      last = r.last;
    }
ordered (raw ∷ raws) (Stepping step ∷ past) s =
    let r = ordered raws past s.2 in
    let both = order_step (is_step past) (report_step step) (moment_of past) (played_by past)
    r.order r.up r.last in
    record { order = both.0; up = both.1; last = r.last }

-- ---- pieces

filled_more : (a b : List Part) → AreFilled a → AreFilled b → AreFilled (a ++ b)
filled_more [] b f g = g
filled_more (part ∷ a) b f g = (f.0, filled_more a b f.1 g)

filled_if : (b : Bool) (parts : List Part) → AreFilled parts → AreFilled (cond b parts [])
filled_if true parts f = f
filled_if false parts f = tt

step_filled : (c : ℕ) (past : List ScriptStep) (step : ScriptStep) → may_follow past step ≡ true
    → AreFilled (parts_of c step)
step_filled c past (Opens conn) may = tt
step_filled c past (Brings conn bytes) may =
    let some = right_of (goes_on conn past) (nat_lt 0 (length bytes)) may in
    let more : 0 < length bytes = grind (arith, nat_tests) in
    filled_if (conn == c) (Piece bytes ∷ Pausing ∷ []) (more, (tt, tt))
step_filled c past (Shuts conn) may = filled_if (conn == c) (Ending ∷ []) (tt, tt)
step_filled c past (Fails conn) may = filled_if (conn == c) (Failing ∷ []) (tt, tt)
step_filled c past ListenerFails may = tt

follows : (past : List Line) (step : ScriptStep) → may_stand past (Stepping step) ≡ true
    → may_follow (steps_in past) step ≡ true
follows past step may = right_of (nat_lt (length (steps_in past)) most_steps)
    (may_follow (steps_in past) step) may

filled : (raws : List (List ℕ)) (past : List Line) (c : ℕ) → Spells raws past
    → AreFilled (told_by c (steps_in past))
filled [] [] c s = tt
filled [] (x ∷ past) c s = absurd s
filled (raw ∷ raws) [] c s = absurd s
filled (raw ∷ raws) (At moment ∷ past) c s = filled raws past c s.2
filled (raw ∷ raws) (Quiet ∷ past) c s = filled raws past c s.2
filled (raw ∷ raws) (Stepping step ∷ past) c s =
    filled_more (told_by c (steps_in past)) (parts_of c step) (filled raws past c s.2)
    (step_filled c (steps_in past) step (follows past step s.1))

-- ---- offers

numbered_more : (n : ℕ) (a b : List Offer) → AreNumbered n a → AreNumbered (n + many_offered a) b
    → AreNumbered n (a ++ b)
numbered_more n [] b f g = subst (λ (k : ℕ). AreNumbered k b) (omega arith) g
numbered_more n (Connection serial ∷ a) b f g =
    (f.0, numbered_more (suc n) a b f.1 (subst (λ (k : ℕ). AreNumbered k b) (omega arith) g))
numbered_more n (NoneThere ∷ a) b f g = numbered_more n a b f g
numbered_more n (OneFailure ∷ a) b f g = numbered_more n a b f g

many_more : (a b : List Offer) → many_offered (a ++ b) ≡ many_offered a + many_offered b
many_more [] b = omega arith
many_more (Connection serial ∷ a) b = omega (arith, many_more a b)
many_more (NoneThere ∷ a) b = many_more a b
many_more (OneFailure ∷ a) b = many_more a b

step_offered : (n : ℕ) (step : ScriptStep) (past : List ScriptStep) → n ≡ opened past
    → n + many_offered (offers_of step) ≡ opened (step ∷ past)
step_offered n (Opens conn) past e = omega arith
step_offered n (Brings conn bytes) past e = omega arith
step_offered n (Shuts conn) past e = omega arith
step_offered n (Fails conn) past e = omega arith
step_offered n ListenerFails past e = omega arith

pub all_offered : (past : List ScriptStep) → many_offered (offered_by past) ≡ opened past
all_offered [] = refl
all_offered (step ∷ past) = many_more (offered_by past) (offers_of step)
    ∙ step_offered (many_offered (offered_by past)) step past (all_offered past)

step_numbered : (n : ℕ) (past : List ScriptStep) (step : ScriptStep) → n ≡ opened past
    → may_follow past step ≡ true → AreNumbered n (offers_of step)
step_numbered n past (Opens conn) e may =
    let same = left_of (conn == opened past) (nat_lt conn most_connections) may in
    let is : conn ≡ opened past = grind (arith, nat_tests) in
    (is ∙ sym e, tt)
step_numbered n past (Brings conn bytes) e may = tt
step_numbered n past (Shuts conn) e may = tt
step_numbered n past (Fails conn) e may = tt
step_numbered n past ListenerFails e may = tt

pub numbered : (raws : List (List ℕ)) (past : List Line) → Spells raws past
    → AreNumbered 0 (offered_by (steps_in past))
numbered [] [] s = tt
numbered [] (x ∷ past) s = absurd s
numbered (raw ∷ raws) [] s = absurd s
numbered (raw ∷ raws) (At moment ∷ past) s = numbered raws past s.2
numbered (raw ∷ raws) (Quiet ∷ past) s = numbered raws past s.2
numbered (raw ∷ raws) (Stepping step ∷ past) s =
    let at : 0 + many_offered (offered_by (steps_in past)) ≡ opened (steps_in past) =
    omega (arith, all_offered (steps_in past)) in
    numbered_more 0 (offered_by (steps_in past)) (offers_of step) (numbered raws past s.2)
    (step_numbered (0 + many_offered (offered_by (steps_in past))) (steps_in past) step at
    (follows past step s.1))

-- ---- all of it

of_past : (raws : List (List ℕ)) (past : List Line) → Spells raws past
    → ArePlayable (groups_of past)
of_past raws past s =
    let steps = sym (steps_are past) in
    record {
      in_order = subst (AreInOrder 0) (played_is past) (ordered raws past s).order;
      filled = λ c. subst AreFilled (told_is c (steps_in past) ∙ ap (story c) steps)
          (filled raws past c s);
      numbered = subst (AreNumbered 0) (offered_is (steps_in past) ∙ ap offers steps)
          (numbered raws past s);
      all_offered =
          ap (λ list. many_offered (offers list)) (steps_are past)
          ∙ ap many_offered (sym (offered_is (steps_in past))) ∙ all_offered (steps_in past)
          ∙ opened_is (steps_in past) ∙ ap opened steps;
    }

pub are_playable : (text : List ℕ) (groups : List ScriptGroup) → IsScriptText text groups
    → ArePlayable groups
are_playable text groups s = subst ArePlayable (sym s.are)
    (of_past (reverse (raw_lines text)) s.past s.spells)

-- ---- what a net needs of the groups

within_later : (m n : ℕ) (steps : List Step) → m ≤ n → AreWithin m steps → AreWithin n steps
within_later m n [] le within = tt
within_later m n (step ∷ steps) le within =
    (end_later step.end within.0, within_later m n steps le within.1)
  where
    end_later : (e : StepEnd) → IsWithin m e → IsWithin n e
    end_later AtListener is = tt
    end_later (AtConnection c) is = omega (arith, is, le)

all_later : (m n : ℕ) (groups : List Group) → m ≤ n → AllWithin m groups → AllWithin n groups
all_later m n [] le within = tt
all_later m n (group ∷ groups) le within =
    (within_later m n group.steps le within.0, all_later m n groups le within.1)

all_more : (n : ℕ) (groups : List Group) (group : Group) → AllWithin n groups
    → AreWithin n group.steps → AllWithin n (groups ++ group ∷ [])
all_more n [] group all within = (within, tt)
all_more n (g ∷ groups) group all within = (all.0, all_more n groups group all.1 within)

steps_more : (n : ℕ) (steps : List Step) (step : Step) → AreWithin n steps → IsWithin n step.end
    → AreWithin n (steps ++ step ∷ [])
steps_more n [] step all is = (is, tt)
steps_more n (s ∷ steps) step all is = (all.0, steps_more n steps step all.1 is)

all_and : (n : ℕ) (groups : List Group) (step : Step) → AllWithin n groups → IsWithin n step.end
    → AllWithin n (and_step step groups)
all_and n [] step all is = tt
all_and n (g ∷ []) step all is = (steps_more n g.steps step all.0 is, tt)
all_and n (g ∷ h ∷ groups) step all is = (all.0, all_and n (h ∷ groups) step all.1 is)

within_step : (b : Bool) (n : ℕ) (step : Step) (moment : ℕ) (groups : List Group)
    → AllWithin n groups → IsWithin n step.end
    → AllWithin n (cond b (and_step step groups)
    (groups ++ record { moment = moment; steps = step ∷ [] } ∷ []))
within_step true n step moment groups all is = all_and n groups step all is
within_step false n step moment groups all is =
    all_more n groups (record { moment = moment; steps = step ∷ [] }) all (is, tt)

goes_on_below : (c : ℕ) (past : List ScriptStep) → goes_on c past ≡ true → c < opened past
goes_on_below c past goes = let came =
    left_of (nat_lt c (opened past)) (not (is_done c past)) goes in grind (arith, nat_tests)

end_within : (past : List ScriptStep) (step : ScriptStep) → may_follow past step ≡ true
    → IsWithin (opened (step ∷ past)) (end_of step)
end_within past (Opens conn) may = tt
end_within past (Brings conn bytes) may =
    goes_on_below conn past (left_of (goes_on conn past) (nat_lt 0 (length bytes)) may)
end_within past (Shuts conn) may = goes_on_below conn past may
end_within past (Fails conn) may = goes_on_below conn past may
end_within past ListenerFails may = tt

opened_grows : (past : List ScriptStep) (step : ScriptStep) → opened past ≤ opened (step ∷ past)
opened_grows past (Opens conn) = omega arith
opened_grows past (Brings conn bytes) = omega arith
opened_grows past (Shuts conn) = omega arith
opened_grows past (Fails conn) = omega arith
opened_grows past ListenerFails = omega arith

-- each step is at the listener or at a connection that came
pub all_within : (raws : List (List ℕ)) (past : List Line) → Spells raws past
    → AllWithin (opened (steps_in past)) (played_by past)
all_within [] [] s = tt
all_within [] (x ∷ past) s = absurd s
all_within (raw ∷ raws) [] s = absurd s
all_within (raw ∷ raws) (At moment ∷ past) s = all_within raws past s.2
all_within (raw ∷ raws) (Quiet ∷ past) s =
    all_more (opened (steps_in past)) (played_by past)
    (record { moment = moment_of past; steps = [] }) (all_within raws past s.2) tt
all_within (raw ∷ raws) (Stepping step ∷ past) s =
    let n = opened (step ∷ steps_in past) in
    within_step (is_step past) n (report_step step) (moment_of past) (played_by past)
    (all_later (opened (steps_in past)) n (played_by past) (opened_grows (steps_in past) step)
    (all_within raws past s.2))
    (end_within (steps_in past) step (follows past step s.1))

-- no more steps are played than were read
many_more_steps : (groups : List Group) (group : Group)
    → many_steps (groups ++ group ∷ []) ≡ many_steps groups + length group.steps
many_more_steps [] group = omega arith
many_more_steps (g ∷ groups) group = omega (arith, many_more_steps groups group)

many_and : (groups : List Group) (step : Step)
    → many_steps (and_step step groups) ≤ many_steps groups + 1
many_and [] step = omega arith
many_and (g ∷ []) step = omega (arith, length-append g.steps (step ∷ []))
many_and (g ∷ h ∷ groups) step = omega (arith, many_and (h ∷ groups) step)

many_step : (b : Bool) (step : Step) (moment : ℕ) (groups : List Group)
    → many_steps (cond b (and_step step groups)
    (groups ++ record { moment = moment; steps = step ∷ [] } ∷ [])) ≤ many_steps groups + 1
many_step true step moment groups = many_and groups step
many_step false step moment groups =
    omega (arith, many_more_steps groups (record { moment = moment; steps = step ∷ [] }))

pub few_steps : (past : List Line) → many_steps (played_by past) ≤ length (steps_in past)
few_steps [] = omega arith
few_steps (At moment ∷ past) = few_steps past
few_steps (Quiet ∷ past) = omega (
  arith,
  few_steps past,
  many_more_steps (played_by past) (record { moment = moment_of past; steps = [] }),
)
few_steps (Stepping step ∷ past) =
    omega (
      arith,
      few_steps past,
      many_step (is_step past) (report_step step) (moment_of past)
          (played_by past),
    )

-- a step that brings bytes brings one at least
pub has_byte : (past : List Line) (conn : ℕ) (bytes : List ℕ)
    → may_stand past (Stepping (Brings conn bytes)) ≡ true → 0 < length bytes
has_byte past conn bytes may =
    let some = right_of (goes_on conn (steps_in past)) (nat_lt 0 (length bytes))
    (follows past (Brings conn bytes) may) in
    grind (arith, nat_tests)
