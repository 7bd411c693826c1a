-- How a wait sorts steps, one by one.
use Rattle.std.proofs.Common.{◌≡◌, ◌∙◌, ℕ, zero, suc, ◌+◌, ◌-◌, ◌<◌, ◌≤◌, Bool, true, false, not}
use Rattle.std.proofs.Common.{◌&&◌, cond, List, [], ◌∷◌, ◌++◌, length, drop, get_or, Option, Some}
use Rattle.std.proofs.Common.{None, refl, sym, ap, subst, arith}
use Rattle.std.specs.List.{filter}
use Rattle.std.proofs.lemmas.List.{append-nil, append_assoc, length-append, map-append, drop_more}
use Rattle.ev_base.specs.Terms.{StepEnd, Step}
use Rattle.ev_base.specs.Net.{mask_has}
use Rattle.ev_base.specs.Playing.{Seat, is_end, is_at, report_at, gives, leaves, given, left}
use Rattle.ev_base.specs.Playing.{without, most_reports}
use Rattle.ev_base.specs.declared.net.Report.{Report}
use Rattle.script_net.specs.declared.script.End.{End}
use Rattle.script_net.specs.Scripts.{end_view, step_at, steps_at}
use Rattle.script_net.specs.Playable.{IsWithin, AreWithin}
use Rattle.script_net.specs.Seating.{is_marked, SeatsContent}
use Rattle.script_net.specs.Sorting.{IsSorted, TakesStep, AreSorted, AreGiven, WaitSorts}

-- with no room nothing is given, and all is left
none_given : (r : Option Report) (more : ℕ → List Report) → more 0 ≡ [] → gives r 0 more ≡ []
none_given None more rest = rest
none_given (Some r) more rest = refl

pub given_none : (seats : List Seat) (steps : List Step) → given seats 0 steps ≡ []
given_none seats [] = refl
given_none seats (step ∷ steps) = none_given (report_at seats step) (λ room. given seats room steps)
    (given_none seats steps)

all_leaves : (r : Option Report) (step : Step) (steps : List Step) (more : ℕ → List Step)
    → more 0 ≡ steps → leaves r step 0 more ≡ step ∷ steps
all_leaves None step steps more rest = ap (λ ss. step ∷ ss) rest
all_leaves (Some r) step steps more rest = ap (λ ss. step ∷ ss) rest

pub left_all : (seats : List Seat) (steps : List Step) → left seats 0 steps ≡ steps
left_all seats [] = refl
left_all seats (step ∷ steps) = all_leaves (report_at seats step) step steps
    (λ room. left seats room steps) (left_all seats steps)

-- ---- steps that nobody wants

-- if nothing is given, the first step has no report
gives_nothing : (r : Option Report) (room : ℕ) (more : ℕ → List Report) → 0 < room
    → gives r room more ≡ [] → r ≡ None
gives_nothing None room more some none = refl
gives_nothing (Some r) zero more some none = absurd (omega arith)
gives_nothing (Some r) (suc room) more some none = absurd cc

-- and nothing is given of the others
record Unwanted (seats : List Seat) (room : ℕ) (step : Step) (steps : List Step) : Type 0 where
  first : report_at seats step ≡ None
  others : given seats room steps ≡ []

unwanted_parts : (seats : List Seat) (room : ℕ) (step : Step) (steps : List Step) → 0 < room
    → given seats room (step ∷ steps) ≡ [] → Unwanted seats room step steps
unwanted_parts seats room step steps some none =
    let absent = gives_nothing (report_at seats step) room (λ n. given seats n steps) some none in
    record {
      first = absent;
      others = ap (λ r. gives r room (λ n. given seats n steps)) (sym absent)
          ∙ none;
    }

unwanted_first : (seats : List Seat) (room : ℕ) (step : Step) (steps : List Step)
    → report_at seats step ≡ None → given seats room (step ∷ steps) ≡ given seats room steps
unwanted_first seats room step steps absent =
    ap (λ r. gives r room (λ n. given seats n steps)) absent

-- all of them are left
pub nothing_given : (seats : List Seat) (room : ℕ) (steps : List Step) → 0 < room
    → given seats room steps ≡ [] → left seats room steps ≡ steps
nothing_given seats room [] some none = refl
nothing_given seats room (step ∷ steps) some none =
    let u = unwanted_parts seats room step steps some none in
    ap (λ r. leaves r step room (λ n. left seats n steps)) u.first
    ∙ ap (λ ss. step ∷ ss) (nothing_given seats room steps some u.others)

-- steps after them are given and left as if they stood alone
pub given_behind : (seats : List Seat) (room : ℕ) (a b : List Step) → 0 < room
    → given seats room a ≡ [] → given seats room (a ++ b) ≡ given seats room b
given_behind seats room [] b some none = refl
given_behind seats room (step ∷ a) b some none =
    let u = unwanted_parts seats room step a some none in
    unwanted_first seats room step (a ++ b) u.first ∙ given_behind seats room a b some u.others

pub left_behind : (seats : List Seat) (room : ℕ) (a b : List Step) → 0 < room
    → given seats room a ≡ [] → left seats room (a ++ b) ≡ a ++ left seats room b
left_behind seats room [] b some none = refl
left_behind seats room (step ∷ a) b some none =
    let u = unwanted_parts seats room step a some none in
    ap (λ r. leaves r step room (λ n. left seats n (a ++ b))) u.first
    ∙ ap (λ ss. step ∷ ss) (left_behind seats room a b some u.others)

-- fewer steps
unwanted_if : (seats : List Seat) (room : ℕ) (p : Step → Bool) (step : Step) (steps : List Step)
    (b : Bool) → report_at seats step ≡ None → given seats room (filter p steps) ≡ []
    → given seats room (cond b (step ∷ filter p steps) (filter p steps)) ≡ []
unwanted_if seats room p step steps true absent others =
    unwanted_first seats room step (filter p steps) absent ∙ others
unwanted_if seats room p step steps false absent others = others

pub unwanted_fewer : (seats : List Seat) (room : ℕ) (p : Step → Bool) (steps : List Step) → 0 < room
    → given seats room steps ≡ [] → given seats room (filter p steps) ≡ []
unwanted_fewer seats room p [] some none = refl
unwanted_fewer seats room p (step ∷ steps) some none =
    let u = unwanted_parts seats room step steps some none in
    unwanted_if seats room p step steps (p step) u.first
    (unwanted_fewer seats room p steps some u.others)

-- fewer seats
report_if : (q : Seat → Bool) (seat : Seat) (seats : List Seat) (step : Step) (b : Bool)
    → (is_end seat.end step.end && mask_has seat.mask step.kind) ≡ false
    → report_at (filter q seats) step ≡ None
    → report_at (cond b (seat ∷ filter q seats) (filter q seats)) step ≡ None
report_if q seat seats step true test others =
    ap (λ c. cond c (Some (record { handle = record { 0 = seat.handle }; kind = step.kind }))
    (report_at (filter q seats) step)) test ∙ others
report_if q seat seats step false test others = others

-- if the first seat and the others have no report
neither : (c : Bool) (report : Report) (other : Option Report) → cond c (Some report) other ≡ None
    → (c ≡ false) × (other ≡ None)
neither true report other e = absurd cc
neither false report other e = (refl, e)

report_fewer : (q : Seat → Bool) (seats : List Seat) (step : Step) → report_at seats step ≡ None
    → report_at (filter q seats) step ≡ None
report_fewer q [] step absent = absent
report_fewer q (seat ∷ seats) step absent =
    let both = neither (is_end seat.end step.end && mask_has seat.mask step.kind)
    (record { handle = record { 0 = seat.handle }; kind = step.kind }) (report_at seats step)
    absent in
    report_if q seat seats step (q seat) both.0 (report_fewer q seats step both.1)

pub unwanted_still : (q : Seat → Bool) (seats : List Seat) (room : ℕ) (steps : List Step) → 0 < room
    → given seats room steps ≡ [] → given (filter q seats) room steps ≡ []
unwanted_still q seats room [] some none = refl
unwanted_still q seats room (step ∷ steps) some none =
    let u = unwanted_parts seats room step steps some none in
    unwanted_first (filter q seats) room step steps (report_fewer q seats step u.first)
    ∙ unwanted_still q seats room steps some u.others

-- one more that has no report
unwanted_more : (seats : List Seat) (passed : List Step) (step : Step)
    → given seats most_reports passed ≡ [] → report_at seats step ≡ None
    → given seats most_reports (passed ++ step ∷ []) ≡ []
unwanted_more seats passed step none absent =
    given_behind seats most_reports passed (step ∷ []) (omega arith) none
    ∙ unwanted_first seats most_reports step [] absent

-- ---- one step more

-- the steps at no end that is gone, with one more at either end
without_first : (gone : List StepEnd) (step : Step) (steps : List Step) (b : Bool)
    → is_at gone step ≡ b → without gone (step ∷ steps)
    ≡ cond (not b) (step ∷ without gone steps) (without gone steps)
without_first gone step steps b is =
    ap (λ x. cond (not x) (step ∷ without gone steps) (without gone steps)) is

filter_more : {A : Type 0} (p : A → Bool) (xs ys : List A)
    → filter p (xs ++ ys) ≡ filter p xs ++ filter p ys
filter_more p [] ys = refl
filter_more p (x ∷ xs) ys = by (p x) ∙ ap (λ zs. cond (p x) (x ∷ zs) zs) (filter_more p xs ys)
    ∙ back (p x)
  where
    by : (b : Bool) → cond b (x ∷ filter p (xs ++ ys)) (filter p (xs ++ ys))
        ≡ cond b (x ∷ filter p (xs ++ ys)) (filter p (xs ++ ys))
    by b = refl

    back : (b : Bool) → cond b (x ∷ (filter p xs ++ filter p ys)) (filter p xs ++ filter p ys)
        ≡ cond b (x ∷ filter p xs) (filter p xs) ++ filter p ys
    back true = refl
    back false = refl

pub without_more : (gone : List StepEnd) (xs ys : List End)
    → without gone (steps_at (xs ++ ys)) ≡ without gone (steps_at xs) ++ without gone (steps_at ys)
without_more gone xs ys = ap (without gone) (map-append step_at xs ys)
    ∙ filter_more (λ step. not (is_at gone step)) (steps_at xs) (steps_at ys)

-- a step at an end that is gone is dropped
pub drops : (seats : List Seat) (all : List Step) (reports : List Report) (passed : List Step)
    (gone : List StepEnd) (step : Step) (rest : List Step) → is_at gone step ≡ true
    → IsSorted seats all reports passed (without gone (step ∷ rest))
    → IsSorted seats all reports passed (without gone rest)
drops seats all reports passed gone step rest is s =
    subst (IsSorted seats all reports passed) (without_first gone step rest true is) s

-- one that is not wanted is passed over
passes : (seats : List Seat) (all : List Step) (reports : List Report) (passed : List Step)
    (step : Step) (rest : List Step) → report_at seats step ≡ None
    → IsSorted seats all reports passed (step ∷ rest)
    → IsSorted seats all reports (passed ++ step ∷ []) rest
passes seats all reports passed step rest none s = record {
  given_is = s.given_is ∙ ap (λ r. reports
      ++ gives r (most_reports - length reports) (λ room. given seats room rest)) none;
  left_is = s.left_is ∙ ap (λ r. passed
      ++ leaves r step (most_reports - length reports) (λ room. left seats room rest)) none
      ∙ sym (append_assoc passed (step ∷ []) (left seats (most_reports - length reports) rest));
  unwanted = unwanted_more seats passed step s.unwanted none;
  few = s.few;
}

-- one that is wanted is reported, if there is room
reports_one : (seats : List Seat) (all : List Step) (reports : List Report) (passed : List Step)
    (step : Step) (rest : List Step) (report : Report) (n m : ℕ)
    → report_at seats step ≡ Some report
    → n ≡ suc m → n ≡ most_reports - length reports
    → m ≡ most_reports - length (reports ++ report ∷ []) → length reports < most_reports
    → IsSorted seats all reports passed (step ∷ rest)
    → IsSorted seats all (reports ++ report ∷ []) passed rest
reports_one seats all reports passed step rest report n m wanted one room room' fits s = record {
  given_is = s.given_is ∙ ap (λ k. reports
      ++ gives (report_at seats step) k (λ room. given seats room rest)) (sym room ∙ one)
      ∙ ap (λ r. reports ++ gives r (suc m) (λ room. given seats room rest)) wanted
      ∙ sym (append_assoc reports (report ∷ []) (given seats m rest))
      ∙ ap (λ k. (reports ++ report ∷ []) ++ given seats k rest) room';
  left_is = s.left_is ∙ ap (λ k. passed
      ++ leaves (report_at seats step) step k (λ room. left seats room rest)) (sym room ∙ one)
      ∙ ap (λ r. passed ++ leaves r step (suc m) (λ room. left seats room rest)) wanted
      ∙ ap (λ k. passed ++ left seats k rest) room';
  unwanted = s.unwanted;
  few = omega (arith, length-append reports (report ∷ []));
}

-- if there is no room, this is what a wait gives and leaves
stops : (seats : List Seat) (all : List Step) (reports : List Report) (passed rest : List Step)
    → most_reports ≤ length reports → IsSorted seats all reports passed rest
    → AreGiven seats all reports passed (passed ++ rest)
stops seats all reports passed rest full s =
    let none : most_reports - length reports ≡ 0 = omega arith in
    record {
      given_are = sym (s.given_is ∙ ap (λ n. reports ++ given seats n rest) none
          ∙ ap (λ rs. reports ++ rs) (given_none seats rest) ∙ append-nil reports);
      left_are = sym (s.left_is ∙ ap (λ n. passed ++ left seats n rest) none
          ∙ ap (λ ss. passed ++ ss) (left_all seats rest));
      unwanted = s.unwanted;
    }

-- and if no step is to come
ends : (seats : List Seat) (all : List Step) (reports : List Report) (passed : List Step)
    → IsSorted seats all reports passed [] → AreGiven seats all reports passed (passed ++ [])
ends seats all reports passed s = record {
  given_are = sym (s.given_is ∙ append-nil reports);
  left_are = sym s.left_is;
  unwanted = s.unwanted;
}

-- ---- steps of a script

start_sorted : (seats : List Seat) (all : List Step) → IsSorted seats all [] [] all
start_sorted seats all = record {
  given_is = refl;
  left_is = refl;
  unwanted = refl;
  few = omega arith;
}

pub sorted_none : (seats : SeatsContent) (all : List End) (reports : List Report)
    (passed : List End) → reports ≡ [] → passed ≡ [] → AreSorted seats all reports passed all
sorted_none seats all reports passed no_report none gone marks =
    subst (λ rs. IsSorted seats.seats (without gone (steps_at all)) rs
    (without gone (steps_at passed)) (without gone (steps_at all))) (sym no_report)
    (subst (λ es. IsSorted seats.seats (without gone (steps_at all)) [] (without gone (steps_at es))
    (without gone (steps_at all))) (sym none)
    (start_sorted seats.seats (without gone (steps_at all))))

one_step : (seats : SeatsContent) (all : List End) (end : End) (rest : List End)
    (reports reports' : List Report) (passed passed' : List End) (marked : Bool) (r : Option Report)
    → IsWithin (length seats.marks.connections) (end_view end)
    → is_marked seats.marks (end_view end) ≡ marked → report_at seats.seats (step_at end) ≡ r
    → TakesStep marked r end reports passed true reports' passed'
    → AreSorted seats all reports passed (end ∷ rest)
    → AreSorted seats all reports' passed' rest
one_step seats all end rest reports reports' passed passed' true r within is told
    (taken, same, same') sorted gone marks =
    let at = sym (marks (end_view end) (step_at end) refl within) ∙ is in
    subst (λ rs. IsSorted seats.seats (without gone (steps_at all)) rs
    (without gone (steps_at passed')) (without gone (steps_at rest))) (sym same)
    (subst (λ es. IsSorted seats.seats (without gone (steps_at all)) reports
    (without gone (steps_at es)) (without gone (steps_at rest))) (sym same')
    (drops seats.seats (without gone (steps_at all)) reports (without gone (steps_at passed)) gone
    (step_at end) (steps_at rest) at (sorted gone marks)))
one_step seats all end rest reports reports' passed passed' false None within is told
    (taken, same, more) sorted gone marks =
    let at = sym (marks (end_view end) (step_at end) refl within) ∙ is in
    let here = subst (IsSorted seats.seats (without gone (steps_at all)) reports
    (without gone (steps_at passed))) (without_first gone (step_at end) (steps_at rest) false
    at) (sorted gone marks) in
    let passed_one : without gone (steps_at passed) ++ step_at end ∷ []
    ≡ without gone (steps_at passed') =
    ap (λ ss. without gone (steps_at passed) ++ ss)
    (sym (without_first gone (step_at end) [] false at))
    ∙ sym (without_more gone passed (end ∷ []))
    ∙ ap (λ es. without gone (steps_at es)) (sym more) in
    subst (λ rs. IsSorted seats.seats (without gone (steps_at all)) rs
    (without gone (steps_at passed')) (without gone (steps_at rest))) (sym same)
    (subst (λ ss. IsSorted seats.seats (without gone (steps_at all)) reports ss
    (without gone (steps_at rest))) passed_one
    (passes seats.seats (without gone (steps_at all)) reports (without gone (steps_at passed))
    (step_at end) (without gone (steps_at rest)) told here))
one_step seats all end rest reports reports' passed passed' false (Some report) within is told
    (fits, more, same') sorted gone marks =
    let at = sym (marks (end_view end) (step_at end) refl within) ∙ is in
    let here = subst (IsSorted seats.seats (without gone (steps_at all)) reports
    (without gone (steps_at passed))) (without_first gone (step_at end) (steps_at rest) false
    at) (sorted gone marks) in
    let long = length-append reports (report ∷ []) in
    subst (λ rs. IsSorted seats.seats (without gone (steps_at all)) rs
    (without gone (steps_at passed')) (without gone (steps_at rest))) (sym more)
    (subst (λ es. IsSorted seats.seats (without gone (steps_at all)) (reports ++ report ∷ [])
    (without gone (steps_at es)) (without gone (steps_at rest))) (sym same')
    (reports_one seats.seats (without gone (steps_at all)) reports (without gone (steps_at passed))
    (step_at end) (without gone (steps_at rest)) report
    (most_reports - length reports) (most_reports - length (reports ++ report ∷ [])) told
    (omega (arith, fits, long)) refl refl fits here))

pub sorted_more : (seats : SeatsContent) (all : List End) (end : End) (rest : List End)
    (reports reports' : List Report) (passed passed' : List End)
    → IsWithin (length seats.marks.connections) (end_view end)
    → TakesStep (is_marked seats.marks (end_view end)) (report_at seats.seats (step_at end)) end
    reports passed true reports' passed' → AreSorted seats all reports passed (end ∷ rest)
    → AreSorted seats all reports' passed' rest
sorted_more seats all end rest reports reports' passed passed' within takes sorted =
    one_step seats all end rest reports reports' passed passed'
    (is_marked seats.marks (end_view end)) (report_at seats.seats (step_at end)) within refl
    refl takes sorted

pub sorted_all : (seats : SeatsContent) (all : List End) (reports : List Report)
    (passed rest : List End) → rest ≡ [] → AreSorted seats all reports passed rest
    → WaitSorts seats all reports passed rest
sorted_all seats all reports passed rest none sorted gone marks =
    subst (AreGiven seats.seats (without gone (steps_at all)) reports
    (without gone (steps_at passed))) (sym
    (without_more gone passed rest ∙ ap
    (λ es. without gone (steps_at passed) ++ without gone (steps_at es)) none))
    (ends seats.seats (without gone (steps_at all)) reports (without gone (steps_at passed))
    (subst (λ es. IsSorted seats.seats (without gone (steps_at all)) reports
    (without gone (steps_at passed)) (without gone (steps_at es))) none (sorted gone marks)))

-- a step that was not taken is to be reported, and there is no room; nothing changed
pub record IsFull (reports reports' : List Report) (passed passed' : List End) : Type 0 where
  pub full : most_reports ≤ length reports
  pub same : reports' ≡ reports
  pub same_passed : passed' ≡ passed

pub not_taken : (marked : Bool) (r : Option Report) (end : End) (reports reports' : List Report)
    (passed passed' : List End) → TakesStep marked r end reports passed false reports' passed'
    → IsFull reports reports' passed passed'
not_taken true r end reports reports' passed passed' (taken, same, same') = absurd cc
not_taken false None end reports reports' passed passed' (taken, same, same') = absurd cc
not_taken false (Some report) end reports reports' passed passed' (full, same, same') =
    record { full = full; same = same; same_passed = same' }

pub sorted_full : (seats : SeatsContent) (all : List End) (reports reports' : List Report)
    (passed passed' rest : List End) → IsFull reports reports' passed passed'
    → AreSorted seats all reports passed rest → WaitSorts seats all reports' passed' rest
sorted_full seats all reports reports' passed passed' rest f sorted gone marks =
    subst (λ rs. AreGiven seats.seats (without gone (steps_at all)) rs
    (without gone (steps_at passed')) (without gone (steps_at (passed' ++ rest)))) (sym f.same)
    (subst (λ es. AreGiven seats.seats (without gone (steps_at all)) reports
    (without gone (steps_at es)) (without gone (steps_at (es ++ rest)))) (sym f.same_passed)
    (subst (AreGiven seats.seats (without gone (steps_at all)) reports
    (without gone (steps_at passed))) (sym (without_more gone passed rest))
    (stops seats.seats (without gone (steps_at all)) reports (without gone (steps_at passed))
    (without gone (steps_at rest)) f.full (sorted gone marks))))

-- ---- what is passed over

within_push : (many : ℕ) (ends : List End) (end : End) → AreWithin many (steps_at ends)
    → IsWithin many (end_view end) → AreWithin many (steps_at (ends ++ end ∷ []))
within_push many [] end within is = (is, tt)
within_push many (e ∷ ends) end within is = (within.0, within_push many ends end within.1 is)

pub record PassesOn (many : ℕ) (passed passed' : List End) : Type 0 where
  pub within : AreWithin many (steps_at passed')
  pub few : length passed' ≤ length passed + 1

pub passes_on : (many : ℕ) (marked : Bool) (r : Option Report) (end : End)
    (reports reports' : List Report) (passed passed' : List End)
    → TakesStep marked r end reports passed true reports' passed'
    → IsWithin many (end_view end) → AreWithin many (steps_at passed) → PassesOn many passed passed'
passes_on many true r end reports reports' passed passed' (taken, same, same') is within =
    record {
      within = subst (λ es. AreWithin many (steps_at es)) (sym same') within;
      few = omega (arith, ap length same');
    }
passes_on many false None end reports reports' passed passed' (taken, same, more) is within =
    record {
      within = subst (λ es. AreWithin many (steps_at es)) (sym more)
          (within_push many passed end within is);
      few = omega (arith, ap length more, length-append passed (end ∷ []));
    }
passes_on many false (Some report) end reports reports' passed passed' (fits, more, same') is
    within = record {
      within = subst (λ es. AreWithin many (steps_at es)) (sym same') within;
      few = omega (arith, ap length same');
    }

-- the next step
pub next_within : (many : ℕ) (steps : List End) (at : ℕ) (d : End) → at < length steps
    → AreWithin many (steps_at (drop at steps)) → IsWithin many (end_view (get_or steps at d))
    × AreWithin many (steps_at (drop (at + 1) steps))
next_within many steps at d lt within = let w =
    subst (λ es. AreWithin many (steps_at es)) (drop_more steps at d lt) within in (w.0, w.1)
