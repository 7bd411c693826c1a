-- What the player of a script does to what it stands for.
use Rattle.std.proofs.Common.{◌≡◌, ◌∙◌, ℕ, zero, suc, ◌+◌, ◌-◌, ◌<◌, ◌≤◌, Bool, true, false, cond}
use Rattle.std.proofs.Common.{List, [], ◌∷◌, ◌++◌, length, drop, get_or, Option, Some, None, Vec}
use Rattle.std.proofs.Common.{vec_capacity, refl, sym, ap, subst, arith}
use Rattle.std.specs.declared.alloc.Global.{Global}
use Rattle.std.proofs.lemmas.Bool.Decides.{nat_tests}
use Rattle.std.proofs.lemmas.Option.{same_Some}
use Rattle.std.proofs.lemmas.List.{append_assoc, length-append, length-map, length-drop, drop_all}
use Rattle.std.proofs.lemmas.List.{drop-drop, drop-append-le}
use Rattle.ev_base.specs.Terms.{Step, Group}
use Rattle.ev_base.specs.Playing.{Seat, Playing, gives, given, left, without, waited, by_held}
use Rattle.ev_base.specs.Playing.{of_held, of_groups, of_none, of_time, of_group, answer_at}
use Rattle.ev_base.specs.Playing.{is_late, time_up, most_reports}
use Rattle.ev_base.specs.declared.net.Report.{Report}
use Rattle.ev_base.specs.declared.net.Waited.TheVariants.{Over, Quiet}
use Rattle.script_net.specs.declared.player.Player.{Player}
use Rattle.script_net.specs.declared.script.End.{End}
use Rattle.script_net.specs.declared.script.Group.{Group as ScriptGroup}
use Rattle.script_net.specs.Scripts.{step_at, steps_at, group_view, group_views}
use Rattle.event_script.specs.Grammar.{last_moment}
use Rattle.script_net.specs.Playable.{AreInOrder, AreWithin, AllWithin, many_steps}
use Rattle.script_net.specs.Sorting.{AreGiven, WaitSorts}
use Rattle.script_net.specs.Player.{Stands, connections_of, fresh_of, held_of, GivesHeld}
use Rattle.script_net.specs.Player.{GivesGroup, PlayerWaits}
use Rattle.script_net.proofs.Opened.{opened}
use Rattle.script_net.proofs.SortingLemmas.{without_more, nothing_given, given_behind, left_behind}

-- ---- steps of the script

pub within_drop : (many : ℕ) (n : ℕ) (ends : List End) → AreWithin many (steps_at ends)
    → AreWithin many (steps_at (drop n ends))
within_drop many zero ends within = within
within_drop many (suc n) [] within = tt
within_drop many (suc n) (e ∷ ends) within = within_drop many n ends within.1

pub within_both : (many : ℕ) (a b : List End) → AreWithin many (steps_at a)
    → AreWithin many (steps_at b) → AreWithin many (steps_at (a ++ b))
within_both many [] b v w = w
within_both many (e ∷ a) b v w = (v.0, within_both many a b v.1 w)

pub within_behind : (many : ℕ) (a b : List End) → AreWithin many (steps_at (a ++ b))
    → AreWithin many (steps_at b)
within_behind many [] b w = w
within_behind many (e ∷ a) b w = within_behind many a b w.1

pub within_front : (many : ℕ) (a b : List End) → AreWithin many (steps_at (a ++ b))
    → AreWithin many (steps_at a)
within_front many [] b w = tt
within_front many (e ∷ a) b w = (w.0, within_front many a b w.1)

-- ---- held steps

-- what a wait sorted, as the rules name it
sorted_as : (old : Player) (p : Playing) (all : List End) (reports : List Report)
    (passed rest : List End) → Stands old p → WaitSorts old.seats all reports passed rest
    → AreGiven p.seats (without p.gone (steps_at all)) reports (without p.gone (steps_at passed))
    (without p.gone (steps_at (passed ++ rest)))
sorted_as old p all reports passed rest s sorted =
    subst (λ (seats : List Seat). AreGiven seats (without p.gone (steps_at all)) reports
    (without p.gone (steps_at passed)) (without p.gone (steps_at (passed ++ rest)))) s.seats
    (sorted p.gone s.marks)

-- the lists if the steps that nobody wanted are to be looked at again
pub record LooksAgain (old : Player) (held' : Vec End Global) (first' : ℕ)
    (unwanted' : Vec End Global) : Type 0 where
  pub first : first' ≡ old.first - length old.unwanted.items
  pub held : drop first' held'.items ≡ held_of old
  pub many : length held'.items ≡ length old.held.items
  pub room : vec_capacity old.held ≤ vec_capacity held'
  pub empty : unwanted'.items ≡ []
  pub unwanted_room : vec_capacity old.unwanted ≤ vec_capacity unwanted'

pub looks_again : (p : Playing) (old : Player) (held' : Vec End Global) (first' : ℕ)
    (unwanted' : Vec End Global) → Stands old p → LooksAgain old held' first' unwanted'
    → Stands (record old { unwanted = unwanted'; held = held'; first = first'; changed = false }) p
looks_again p old held' first' unwanted' s b =
    let all : unwanted'.items ++ drop first' held'.items ≡ held_of old =
    ap (λ es. es ++ drop first' held'.items) b.empty ∙ b.held in
    let none = ap length b.empty in
    let long = ap length all in
    record {
      moment = s.moment;
      groups = s.groups;
      held = ap (λ es. without p.gone (steps_at es)) all ∙ s.held;
      seats = s.seats;
      marks = s.marks;
      order = s.order;
      last = s.last;
      within = s.within;
      held_within = subst (λ es. AreWithin (connections_of old) (steps_at es)) (sym all)
          s.held_within;
      unwanted = λ same. ap (λ es. given p.seats most_reports (without p.gone (steps_at es)))
          b.empty;
      behind = omega (arith, none);
      unwanted_room = omega (arith, s.unwanted_room, b.unwanted_room, long);
      first = omega (arith, s.first, b.first, b.many);
      room = omega (arith, s.room, b.many, b.room);
      passed_room = omega (arith, s.passed_room, long);
      none_passed = s.none_passed;
      report_room = s.report_room;
    }

-- the lists after a sorting of the steps that are still to be looked at
pub record PutsBehind (old : Player) (stop : ℕ) (passed : List End)
    (unwanted' passed' : Vec End Global) (reports' : Vec Report Global) : Type 0 where
  pub sorted : WaitSorts old.seats (fresh_of old) reports'.items passed (drop stop old.held.items)
  pub within : AreWithin (connections_of old) (steps_at passed)
  pub few : old.first + length passed ≤ stop
  pub stops : stop ≤ length old.held.items
  pub unwanted : unwanted'.items ≡ old.unwanted.items ++ passed
  pub room : vec_capacity old.unwanted ≤ vec_capacity unwanted'
  pub empty : passed'.items ≡ []
  pub passed_room : vec_capacity old.passed ≤ vec_capacity passed'
  pub report_room : vec_capacity old.reports ≤ vec_capacity reports'

pub gives_held : (p : Playing) (old : Player) (stop : ℕ) (passed : List End)
    (unwanted' passed' : Vec End Global) (reports' : Vec Report Global) → Stands old p
    → old.changed ≡ false
    → PutsBehind old stop passed unwanted' passed' reports'
    → GivesHeld p (record old {
      unwanted = unwanted';
      first = stop;
      passed = passed';
      reports = reports';
    })
gives_held p old stop passed unwanted' passed' reports' s same b =
    let given_is = sorted_as old p (fresh_of old) reports'.items passed (drop stop old.held.items) s
    b.sorted in
    let u = without p.gone (steps_at old.unwanted.items) in
    let fresh = without p.gone (steps_at (fresh_of old)) in
    let none : given p.seats most_reports u ≡ [] = s.unwanted same in
    let apart : u ++ fresh ≡ p.held = sym (without_more p.gone old.unwanted.items (fresh_of old))
    ∙ s.held in
    let rest : drop stop old.held.items ≡ drop (stop - old.first) (fresh_of old) =
    (let there : old.first + (stop - old.first) ≡ stop = omega (arith, b.few) in
    ap (λ (n : ℕ). drop n old.held.items) (sym there))
    ∙ sym (drop-drop (stop - old.first) old.first old.held.items) in
    let fresh_within = within_behind (connections_of old) old.unwanted.items (fresh_of old)
    s.held_within in
    let rest_within = subst (λ es. AreWithin (connections_of old) (steps_at es)) (sym rest)
    (within_drop (connections_of old) (stop - old.first) (fresh_of old) fresh_within) in
    let all : unwanted'.items ++ drop stop old.held.items
    ≡ old.unwanted.items ++ (passed ++ drop stop old.held.items) =
    ap (λ es. es ++ drop stop old.held.items) b.unwanted
    ∙ append_assoc old.unwanted.items passed (drop stop old.held.items) in
    let long = ap length all in
    let long' = length-append old.unwanted.items (passed ++ drop stop old.held.items) in
    let longer = length-append passed (drop stop old.held.items) in
    let before = length-append old.unwanted.items (fresh_of old) in
    let before' = length-drop old.first old.held.items in
    let behind = length-drop stop old.held.items in
    let more = ap length b.unwanted in
    let more' = length-append old.unwanted.items passed in
    record {
      reports = given_is.given_are ∙ sym
          (given_behind p.seats most_reports u fresh (omega arith) none)
          ∙ ap (given p.seats most_reports) apart;
      stands = record {
        moment = s.moment;
        groups = s.groups;
        held = ap (λ es. without p.gone (steps_at es)) all
            ∙ without_more p.gone old.unwanted.items (passed ++ drop stop old.held.items)
            ∙ ap (λ ss. u ++ ss) given_is.left_are
            ∙ sym (left_behind p.seats most_reports u fresh (omega arith) none)
            ∙ ap (left p.seats most_reports) apart;
        seats = s.seats;
        marks = s.marks;
        order = s.order;
        last = s.last;
        within = s.within;
        held_within = subst (λ es. AreWithin (connections_of old) (steps_at es)) (sym all)
            (within_both (connections_of old) old.unwanted.items
            (passed ++ drop stop old.held.items)
            (within_front (connections_of old) old.unwanted.items (fresh_of old) s.held_within)
            (within_both (connections_of old) passed (drop stop old.held.items) b.within
            rest_within));
        unwanted = λ still. ap (λ es. given p.seats most_reports (without p.gone (steps_at es)))
            b.unwanted ∙ ap (given p.seats most_reports)
            (without_more p.gone old.unwanted.items passed)
            ∙ given_behind p.seats most_reports u (without p.gone (steps_at passed)) (omega arith)
            none ∙ given_is.unwanted;
        behind = omega (arith, s.behind, b.few, more, more');
        unwanted_room = omega (
          arith,
          s.unwanted_room,
          b.room,
          long,
          long',
          longer,
          before,
          before',
          behind,
          b.few,
          b.stops,
        );
        first = b.stops;
        room = s.room;
        passed_room = omega (
          arith,
          s.passed_room,
          b.passed_room,
          long,
          long',
          longer,
          before,
          before',
          behind,
          b.few,
          b.stops,
        );
        none_passed = b.empty;
        report_room = omega (arith, s.report_room, b.report_room);
      };
    }

-- ---- the next group

pub record NextGroup (old : Player) (p : Playing) (group : ScriptGroup) : Type 0 where
  pub is : p.groups ≡ group_view group ∷ drop (old.next + 1) (group_views old.groups.items)
  pub within : AreWithin (connections_of old) (steps_at group.steps.items)
  pub within_rest : AllWithin (connections_of old)
      (drop (old.next + 1) (group_views old.groups.items))
  pub room : length old.held.items + length group.steps.items
      + many_steps (drop (old.next + 1) (group_views old.groups.items)) ≤ vec_capacity old.held
  pub passed_room : length (held_of old) + length group.steps.items
      + many_steps (drop (old.next + 1) (group_views old.groups.items)) ≤ vec_capacity old.passed
  pub unwanted_room : length (held_of old) + length group.steps.items
      + many_steps (drop (old.next + 1) (group_views old.groups.items)) ≤ vec_capacity old.unwanted
  pub later : p.moment ≤ group.moment
  pub bounded : group.moment ≤ last_moment
  pub order : AreInOrder group.moment (drop (old.next + 1) (group_views old.groups.items))

pub next_group : (old : Player) (p : Playing) (group : ScriptGroup) → Stands old p
    → old.next < length old.groups.items → group ≡ get_or old.groups.items old.next group
    → NextGroup old p group
next_group old p group s lt read =
    let is : p.groups ≡ group_view group ∷ drop (old.next + 1) (group_views old.groups.items) =
    sym s.groups ∙ opened group_view old.groups.items old.next group lt read in
    let within = subst (AllWithin (connections_of old)) is s.within in
    let order = subst (AreInOrder p.moment) is s.order in
    let steps = ap many_steps is in
    let many = length-map group.steps.items step_at in
    record {
      is = is;
      within = within.0;
      within_rest = within.1;
      room = omega (arith, s.room, steps, many);
      passed_room = omega (arith, s.passed_room, steps, many);
      unwanted_room = omega (arith, s.unwanted_room, steps, many);
      later = order.0;
      bounded = order.1;
      order = order.2;
    }

-- the lists after a sorting of the group's steps
pub record Holds (old : Player) (group : ScriptGroup) (stop : ℕ) (passed : List End)
    (held' passed' : Vec End Global) (reports' : Vec Report Global) : Type 0 where
  pub sorted : WaitSorts old.seats group.steps.items reports'.items passed
      (drop stop group.steps.items)
  pub within : AreWithin (connections_of old) (steps_at passed)
  pub few : length passed ≤ stop
  pub stops : stop ≤ length group.steps.items
  pub held : held'.items ≡ old.held.items ++ passed ++ drop stop group.steps.items
  pub room : vec_capacity old.held ≤ vec_capacity held'
  pub empty : passed'.items ≡ []
  pub passed_room : vec_capacity old.passed ≤ vec_capacity passed'
  pub report_room : vec_capacity old.reports ≤ vec_capacity reports'

gives_next : (p : Playing) (old : Player) (group : ScriptGroup) (stop : ℕ) (passed : List End)
    (held' passed' : Vec End Global) (reports' : Vec Report Global) → Stands old p
    → NextGroup old p group
    → Holds old group stop passed held' passed' reports'
    → GivesGroup p (group_view group) (drop (old.next + 1) (group_views old.groups.items))
    (record old {
      next = old.next + 1;
      now = group.moment;
      held = held';
      passed = passed';
      reports = reports';
    })
gives_next p old group stop passed held' passed' reports' s g h =
    let given_is = sorted_as old p group.steps.items reports'.items passed
    (drop stop group.steps.items) s h.sorted in
    let more = passed ++ drop stop group.steps.items in
    let fresh : drop old.first held'.items ≡ fresh_of old ++ more =
    ap (drop old.first) (h.held ∙ append_assoc old.held.items passed (drop stop group.steps.items))
    ∙ drop-append-le old.first old.held.items more s.first in
    let held : old.unwanted.items ++ drop old.first held'.items ≡ held_of old ++ more =
    ap (λ es. old.unwanted.items ++ es) fresh
    ∙ sym (append_assoc old.unwanted.items (fresh_of old) more) in
    let longer = length-append passed (drop stop group.steps.items) in
    let all = length-append old.held.items more in
    let all' = length-append (held_of old) more in
    let long = ap length (h.held ∙ append_assoc old.held.items passed (drop stop group.steps.items))
    in
    let long' = ap length held in
    let behind = length-drop stop group.steps.items in
    let rest_within = within_drop (connections_of old) stop group.steps.items g.within in
    record {
      reports = given_is.given_are;
      stands = record {
        moment = refl;
        groups = refl;
        held = ap (λ es. without p.gone (steps_at es)) held ∙ without_more p.gone (held_of old) more
            ∙ ap (λ ss. ss ++ without p.gone (steps_at more)) s.held
            ∙ ap (λ ss. p.held ++ ss) given_is.left_are;
        seats = s.seats;
        marks = s.marks;
        order = g.order;
        last = g.bounded;
        within = g.within_rest;
        held_within = subst (λ es. AreWithin (connections_of old) (steps_at es)) (sym held)
            (within_both (connections_of old) (held_of old) more s.held_within
            (within_both (connections_of old) passed (drop stop group.steps.items) h.within
            rest_within));
        unwanted = s.unwanted;
        behind = s.behind;
        unwanted_room = omega (arith, g.unwanted_room, long', all', longer, behind, h.few, h.stops);
        first = omega (arith, s.first, long, all);
        room = omega (arith, g.room, h.room, long, all, longer, behind, h.few, h.stops);
        passed_room = omega (
          arith,
          g.passed_room,
          h.passed_room,
          long',
          all',
          longer,
          behind,
          h.few,
          h.stops,
        );
        none_passed = h.empty;
        report_room = omega (arith, s.report_room, h.report_room);
      };
    }

first_same : {A : Type 0} (x y : A) (xs ys : List A) → x ∷ xs ≡ y ∷ ys → (x ≡ y) × (xs ≡ ys)
first_same x y xs ys e = (cc, cc)

pub gives_group : (p : Playing) (old : Player) (group : ScriptGroup) (stop : ℕ) (passed : List End)
    (held' passed' : Vec End Global) (reports' : Vec Report Global) → Stands old p
    → NextGroup old p group
    → Holds old group stop passed held' passed' reports' → (g : Group) (gs : List Group)
    → p.groups ≡ g ∷ gs
    → GivesGroup p g gs (record old {
      next = old.next + 1;
      now = group.moment;
      held = held';
      passed = passed';
      reports = reports';
    })
gives_group p old group stop passed held' passed' reports' s n h g gs are =
    let same = first_same (group_view group) g (drop (old.next + 1) (group_views old.groups.items))
    gs (sym n.is ∙ are) in
    let new = record old {
      next = old.next + 1;
      now = group.moment;
      held = held';
      passed = passed';
      reports = reports';
    } in
    subst (λ xs. GivesGroup p g xs new) same.1
    (subst (λ x. GivesGroup p x (drop (old.next + 1) (group_views old.groups.items)) new) same.0
    (gives_next p old group stop passed held' passed' reports' s n h))

-- ---- a wait

pub waits_held : (p : Playing) (most : Option ℕ) (new : Player) (reports : List Report)
    → GivesHeld p new → new.reports.items ≡ reports → (reports ≡ [] → ⊥)
    → PlayerWaits p most (answer_at new.now new.reports.items) new
waits_held p most new reports g are some =
    by new.reports.items g.reports (λ none. some (sym are ∙ none))
  where
    by : (rs : List Report) → rs ≡ given p.seats most_reports p.held → (rs ≡ [] → ⊥)
        → PlayerWaits p most (answer_at new.now new.reports.items) new
    by [] is some = absurd (some refl)
    by (r ∷ rs) is some =
        let here : waited most p ≡ of_held p =
        ap (λ (xs : List Report). by_held xs most p) (sym is) in
        record {
          answers = ap (λ (n : ℕ). answer_at n new.reports.items) g.stands.moment
              ∙ ap (answer_at p.moment) g.reports ∙ ap (λ a. a.answer) (sym here);
          reports = g.reports ∙ ap (λ a. a.reports) (sym here);
          stands = subst (λ a. Stands new a.next) (sym here) g.stands;
        }

-- nothing held can be reported: the groups decide
waits_groups : (p : Playing) (most : Option ℕ) (groups : List Group)
    → given p.seats most_reports p.held ≡ [] → p.groups ≡ groups
    → waited most p ≡ of_groups most groups p
waits_groups p most groups none are =
    ap (λ (xs : List Report). by_held xs most p) none ∙ ap (λ gs. of_groups most gs p) are

pub waits_over : (p : Playing) (most : Option ℕ) (old : Player) → Stands old p
    → given p.seats most_reports p.held ≡ [] → length old.groups.items ≤ old.next
    → old.reports.items ≡ [] → PlayerWaits p most (Over old.now) old
waits_over p most old s none past empty =
    let no_group : p.groups ≡ [] = sym s.groups
    ∙ drop_all old.next (group_views old.groups.items)
    (omega (arith, length-map old.groups.items group_view)) in
    let here : waited most p ≡ of_none p = waits_groups p most [] none no_group in
    record {
      answers = ap Over s.moment ∙ ap (λ a. a.answer) (sym here);
      reports = empty ∙ ap (λ a. a.reports) (sym here);
      stands = subst (λ a. Stands old a.next) (sym here) s;
    }

-- what `time_is_up` says
late_bound : (most : Option ℕ) (now moment : ℕ) → is_late most now moment ≡ true
    → time_up most now ≤ moment
late_bound None now moment late = absurd cc
late_bound (Some most) now moment late = let lt : now + most < moment = grind (arith, nat_tests) in
    omega arith

is_up : (b : Bool) (x y : ℕ) → cond b (Some x) None ≡ Some y → (b ≡ true) × (x ≡ y)
is_up true x y e = (refl, same_Some x y e)
is_up false x y e = absurd cc

not_up : (b : Bool) (x : ℕ) → cond b (Some x) None ≡ None → b ≡ false
not_up true x e = absurd cc
not_up false x e = refl

abbrev later_groups : Player → List Group
later_groups old = drop (old.next + 1) (group_views old.groups.items)

pub waits_quiet : (p : Playing) (most : Option ℕ) (old : Player) (group : ScriptGroup) (now : ℕ)
    → Stands old p → NextGroup old p group → given p.seats most_reports p.held ≡ []
    → old.reports.items ≡ []
    → cond (is_late most old.now group.moment) (Some (time_up most old.now)) None ≡ Some now
    → PlayerWaits p most (Quiet now) (record old { now = now })
waits_quiet p most old group now s g none empty up =
    let both = is_up (is_late most old.now group.moment) (time_up most old.now) now up in
    let late : is_late most p.moment group.moment ≡ true =
    ap (λ (n : ℕ). is_late most n group.moment) (sym s.moment) ∙ both.0 in
    let here : waited most p ≡ of_time most p =
    waits_groups p most (group_view group ∷ later_groups old) none g.is
    ∙ ap (λ b. cond b (of_time most p) (of_group (group_view group) (later_groups old) p)) late
    in
    let is_now : now ≡ time_up most p.moment = sym both.1 ∙ ap (time_up most) s.moment in
    let bound : time_up most p.moment ≤ group.moment = late_bound most p.moment group.moment late in
    let stands : Stands (record old { now = now }) (of_time most p).next = record {
      moment = is_now;
      groups = s.groups;
      held = s.held;
      seats = s.seats;
      marks = s.marks;
      order = subst (AreInOrder (time_up most p.moment)) (sym g.is) (bound, g.bounded, g.order);
      last = omega (arith, bound, g.bounded);
      within = s.within;
      held_within = s.held_within;
      unwanted = s.unwanted;
      behind = s.behind;
      unwanted_room = s.unwanted_room;
      first = s.first;
      room = s.room;
      passed_room = s.passed_room;
      none_passed = s.none_passed;
      report_room = s.report_room;
    } in
    record {
      answers = ap Quiet is_now ∙ ap (λ a. a.answer) (sym here);
      reports = empty ∙ ap (λ a. a.reports) (sym here);
      stands = subst (λ a. Stands (record old { now = now }) a.next) (sym here) stands;
    }

pub waits_group : (p : Playing) (most : Option ℕ) (old new : Player) (group : ScriptGroup)
    → Stands old p → NextGroup old p group → given p.seats most_reports p.held ≡ []
    → cond (is_late most old.now group.moment) (Some (time_up most old.now)) None ≡ None
    → GivesGroup p (group_view group) (later_groups old) new
    → PlayerWaits p most (answer_at new.now new.reports.items) new
waits_group p most old new group s g none up gives =
    let late : is_late most p.moment group.moment ≡ false =
    ap (λ (n : ℕ). is_late most n group.moment) (sym s.moment)
    ∙ not_up (is_late most old.now group.moment) (time_up most old.now) up in
    let here : waited most p ≡ of_group (group_view group) (later_groups old) p =
    waits_groups p most (group_view group ∷ later_groups old) none g.is
    ∙ ap (λ b. cond b (of_time most p) (of_group (group_view group) (later_groups old) p)) late
    in
    record {
      answers = ap (λ (n : ℕ). answer_at n new.reports.items) gives.stands.moment
          ∙ ap (answer_at group.moment) gives.reports ∙ ap (λ a. a.answer) (sym here);
      reports = gives.reports ∙ ap (λ a. a.reports) (sym here);
      stands = subst (λ a. Stands new a.next) (sym here) gives.stands;
    }

-- the player that stands for what is left of held steps, if none was given
pub still_stands : (p : Playing) (new : Player) → GivesHeld p new
    → given p.seats most_reports p.held ≡ [] → Stands new p
still_stands p new g none =
    let same : left p.seats most_reports p.held ≡ p.held =
    nothing_given p.seats most_reports p.held (omega arith) none in
    subst (λ (ss : List Step). Stands new (record p { held = ss })) same g.stands

-- the reports of the wait before are forgotten
pub stands_cleared : (p : Playing) (old : Player) (reports' : Vec Report Global) → Stands old p
    → vec_capacity old.reports ≤ vec_capacity reports'
    → Stands (record old { reports = reports' }) p
stands_cleared p old reports' s room = record {
  moment = s.moment;
  groups = s.groups;
  held = s.held;
  seats = s.seats;
  marks = s.marks;
  order = s.order;
  last = s.last;
  within = s.within;
  held_within = s.held_within;
  unwanted = s.unwanted;
  behind = s.behind;
  unwanted_room = s.unwanted_room;
  first = s.first;
  room = s.room;
  passed_room = s.passed_room;
  none_passed = s.none_passed;
  report_room = omega (arith, s.report_room, room);
}
