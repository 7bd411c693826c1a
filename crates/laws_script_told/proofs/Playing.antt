-- How many steps of an end are still to be reported.
use Rattle.std.proofs.Common.{ℕ, zero, suc, ◌≡◌, ◌==◌, ◌+◌, Bool, true, false, not, cond, ◌&&◌}
use Rattle.std.proofs.Common.{◌||◌, List, [], ◌∷◌, ◌++◌, refl, sym, ap, ◌∙◌, arith, Option, Some}
use Rattle.std.proofs.Common.{None, ⊎_elim}
use Rattle.std.proofs.lemmas.Bool.{false≢true, and_parts, and_from, or_parts, cases_Bool, eqb-true}
use Rattle.std.proofs.lemmas.Bool.{eq-eqb}
use Rattle.std.specs.List.{list_any, list_all, filter}
use Rattle.event_script.specs.ev_types.specs.declared.upcall.Kind.{Kind}
use Rattle.event_script.specs.ev_types.specs.declared.upcall.Kind.TheVariants.{Read, Write, Except}
use Rattle.event_script.specs.ev_base.specs.Terms.{StepEnd, AtListener, AtConnection, Step, Group}
use Rattle.event_script.specs.ev_base.specs.declared.net.Report.{Report}
use Rattle.event_script.specs.ev_base.specs.Net.{mask_has}
use Rattle.log_handler.specs.reactor_journal.specs.Past.{count, upcall_of}
use Rattle.log_handler.specs.reactor_journal.proofs.Turning.{count-append}
use Rattle.laws_reports.specs.Laws.{is_input}
use Rattle.event_script.specs.ev_base.specs.Playing.{Playing, Seat, Answered, is_end, report_at}
use Rattle.event_script.specs.ev_base.specs.Playing.{gives, leaves, given, left, most_reports}
use Rattle.event_script.specs.ev_base.specs.Playing.{without, is_at, waited, by_held, of_held}
use Rattle.event_script.specs.ev_base.specs.Playing.{of_groups, of_time, of_group, answer_at}
use Rattle.event_script.specs.ev_base.specs.Playing.{is_late}
use Rattle.laws_script_told.specs.Laws.{is_step_at, steps_at, all_steps}
use Rattle.laws_script_told.specs.Told.{is_over}

-- ---- ends

pub end_same : (a b : StepEnd) → is_end a b ≡ true → a ≡ b
end_same AtListener AtListener h = refl
end_same (AtConnection c) (AtConnection d) h = ap AtConnection (eqb-true c d h)
end_same AtListener (AtConnection d) h = absurd (false≢true h)
end_same (AtConnection c) AtListener h = absurd (false≢true h)

pub end_self : (a : StepEnd) → is_end a a ≡ true
end_self AtListener = refl
end_self (AtConnection c) = eq-eqb c c refl

-- ---- reports of a handle

-- whether a report is of input of this handle
abbrev pub is_report_of : ℕ → Report → Bool
is_report_of x report = report.handle.0 == x && is_input (upcall_of report.kind)

-- the seats of the handle are those at the end
abbrev pub is_seat_right : ℕ → StepEnd → Seat → Type 0
is_seat_right x end seat = (seat.handle == x) ≡ is_end seat.end end

abbrev pub AreSeatsRight : ℕ → StepEnd → List Seat → Type 0
AreSeatsRight x end [] = Unit {0}
AreSeatsRight x end (seat ∷ seats) = is_seat_right x end seat × AreSeatsRight x end seats

abbrev pub is_read : Step → Bool
is_read step = is_input (upcall_of step.kind)

-- a step that is reported is reported of the handle exactly if it is at the end
abbrev ReportsRight : ℕ → StepEnd → Step → Option Report → Type 0
ReportsRight x end step None = Unit {0}
ReportsRight x end step (Some report) = is_report_of x report ≡ is_step_at end step

report_right : (x : ℕ) (end : StepEnd) (seats : List Seat) (step : Step) → AreSeatsRight x end seats
    → is_read step ≡ true → ReportsRight x end step (report_at seats step)
report_right x end [] step right read = tt
report_right x end (seat ∷ seats) step right read =
    by_test (is_end seat.end step.end && mask_has seat.mask step.kind) refl
    (report_right x end seats step right.1 read)
  where
    and_true : (b c : Bool) → c ≡ true → (b && c) ≡ b
    and_true true c h = h
    and_true false c h = refl

    by_test : (b : Bool) → (is_end seat.end step.end && mask_has seat.mask step.kind) ≡ b
        → ReportsRight x end step (report_at seats step)
        → ReportsRight x end step (cond b (Some
        (record { handle = record { 0 = seat.handle }; kind = step.kind }))
        (report_at seats step))
    by_test true e rest =
        let same : seat.end ≡ step.end = end_same seat.end step.end (and_parts _ _ e).0 in
        and_true (seat.handle == x) (is_input (upcall_of step.kind)) read ∙ right.0
        ∙ ap (λ (d : StepEnd). is_end d end) same
    by_test false e rest = rest

-- each step reports input
abbrev pub AreReads : List Step → Type 0
AreReads steps = list_all is_read steps ≡ true

-- ---- what is given and what is left

one_count : (b : Bool) (n m k : ℕ) → n + m ≡ k → cond b (suc n) n + m ≡ cond b (suc k) k
one_count true n m k e = omega arith
one_count false n m k e = e

left_count : (b : Bool) (n m k : ℕ) → n + m ≡ k → n + cond b (suc m) m ≡ cond b (suc k) k
left_count true n m k e = omega arith
left_count false n m k e = e

given_none : (seats : List Seat) (steps : List Step) → given seats 0 steps ≡ []
given_none seats [] = refl
given_none seats (step ∷ steps) = by_report (report_at seats step) (given_none seats steps)
  where
    by_report : (report : Option Report) → given seats 0 steps ≡ []
        → gives report 0 (λ r. given seats r steps) ≡ []
    by_report None h = h
    by_report (Some report) h = refl

pub split_count : (x : ℕ) (end : StepEnd) (seats : List Seat) (room : ℕ) (steps : List Step)
    → AreSeatsRight x end seats → AreReads steps
    → count (is_report_of x) (given seats room steps) + steps_at end (left seats room steps)
    ≡ steps_at end steps
split_count x end seats room [] right reads = refl
split_count x end seats room (step ∷ steps) right reads =
    by_report (report_at seats step) room
    (report_right x end seats step right (and_parts _ _ reads).0)
    (λ r. split_count x end seats r steps right
    (and_parts (is_read step) (list_all is_read steps) reads).1)
  where
    by_report : (report : Option Report) (room : ℕ) → ReportsRight x end step report
        → ((r : ℕ) → count (is_report_of x) (given seats r steps)
        + steps_at end (left seats r steps) ≡ steps_at end steps)
        → count (is_report_of x) (gives report room (λ r. given seats r steps))
        + steps_at end (leaves report step room (λ r. left seats r steps))
        ≡ steps_at end (step ∷ steps)
    by_report None room right rest = left_count (is_step_at end step) _ _ _ (rest room)
    by_report (Some report) zero right rest =
        left_count (is_step_at end step) 0 (steps_at end (left seats 0 steps)) (steps_at end steps)
        (ap (λ (r : List Report). count (is_report_of x) r + steps_at end (left seats 0 steps))
        (sym (given_none seats steps)) ∙ rest 0)
    by_report (Some report) (suc room) right rest =
        ap (λ (b : Bool). cond b (suc (count (is_report_of x) (given seats room steps)))
        (count (is_report_of x) (given seats room steps))
        + steps_at end (left seats room steps)) right
        ∙ one_count (is_step_at end step) _ _ _ (rest room)

left_reads : (seats : List Seat) (room : ℕ) (steps : List Step) → AreReads steps
    → AreReads (left seats room steps)
left_reads seats room [] reads = refl
left_reads seats room (step ∷ steps) reads =
    by_report (report_at seats step) room
    (and_parts (is_read step) (list_all is_read steps) reads).0
    (λ r. left_reads seats r steps (and_parts (is_read step) (list_all is_read steps) reads).1)
  where
    by_report : (report : Option Report) (room : ℕ) → is_read step ≡ true
        → ((r : ℕ) → AreReads (left seats r steps))
        → AreReads (leaves report step room (λ r. left seats r steps))
    by_report None room h rest = and_from _ _ h (rest room)
    by_report (Some report) zero h rest = and_from _ _ h (rest zero)
    by_report (Some report) (suc room) h rest = rest room

pub filter_reads : (p : Step → Bool) (steps : List Step) → AreReads steps
    → AreReads (filter p steps)
filter_reads p [] reads = refl
filter_reads p (step ∷ steps) reads =
    by_test (p step) (and_parts (is_read step) (list_all is_read steps) reads).0
    (filter_reads p steps (and_parts (is_read step) (list_all is_read steps) reads).1)
  where
    by_test : (b : Bool) → is_read step ≡ true → AreReads (filter p steps)
        → AreReads (cond b (step ∷ filter p steps) (filter p steps))
    by_test true h rest = and_from _ _ h rest
    by_test false h rest = rest

append_reads : (a b : List Step) → AreReads a → AreReads b → AreReads (a ++ b)
append_reads [] b h k = k
append_reads (step ∷ a) b h k = and_from (is_read step) (list_all is_read (a ++ b))
    (and_parts (is_read step) (list_all is_read a) h).0
    (append_reads a b (and_parts (is_read step) (list_all is_read a) h).1 k)

-- steps that are dropped are of other ends
pub without_count : (end : StepEnd) (ends : List StepEnd) (steps : List Step)
    → list_any (λ e. is_end e end) ends ≡ false
    → steps_at end (without ends steps) ≡ steps_at end steps
without_count end ends [] h = refl
without_count end ends (step ∷ steps) h =
    by_test (is_at ends step) refl (without_count end ends steps h)
  where
    others : (ends : List StepEnd) → list_any (λ e. is_end e end) ends ≡ false
        → is_at ends step ≡ true → is_step_at end step ≡ false
    others [] h t = absurd (false≢true t)
    others (e ∷ ends) h t = ⊎_elim
        (λ (s : is_end e step.end ≡ true).
        ap (λ (d : StepEnd). is_end d end) (sym (end_same e step.end s)) ∙ (or_parts _ _ h).0)
        (λ (s : is_end e step.end ≡ false).
        others ends (or_parts _ _ h).1 (sym (ap (λ (b : Bool). b || is_at ends step) s) ∙ t))
        (cases_Bool (is_end e step.end))

    by_test : (b : Bool) → is_at ends step ≡ b
        → steps_at end (without ends steps) ≡ steps_at end steps
        → steps_at end (cond (not b) (step ∷ without ends steps) (without ends steps))
        ≡ steps_at end (step ∷ steps)
    by_test true t rest = rest ∙ sym (ap
        (λ (b : Bool). cond b (suc (steps_at end steps)) (steps_at end steps)) (others ends h t))
    by_test false t rest = ap (λ (n : ℕ). cond (is_step_at end step) (suc n) n) rest

-- ---- one wait

-- the steps of the end that are still to be reported
abbrev pub to_come : StepEnd → Playing → ℕ
to_come end p = steps_at end p.held + steps_at end (all_steps p.groups)

-- How far a script was played, as one end sees it: its seats are right, it is not gone, and all
-- steps report input.
pub record Sees (x : ℕ) (end : StepEnd) (p : Playing) : Type 0 where
  pub seats : AreSeatsRight x end p.seats
  pub stays : list_any (λ e. is_end e end) p.gone ≡ false
  pub held : AreReads p.held
  pub coming : AreReads (all_steps p.groups)

-- a wait reports what is no longer to come
pub record Reports (x : ℕ) (end : StepEnd) (p : Playing) (a : Answered) : Type 0 where
  pub counts : count (is_report_of x) a.reports + to_come end a.next ≡ to_come end p
  pub sees : Sees x end a.next
  pub seats : a.next.seats ≡ p.seats

module _ (x : ℕ) (end : StepEnd) (p : Playing) (sees : Sees x end p) where
  held_reports : Reports x end p (of_held p)
  held_reports = record {
    counts = sums (count (is_report_of x) (given p.seats most_reports p.held))
        (steps_at end (left p.seats most_reports p.held)) (steps_at end p.held)
        (steps_at end (all_steps p.groups))
        (split_count x end p.seats most_reports p.held sees.seats sees.held);
    sees = record {
      seats = sees.seats;
      stays = sees.stays;
      held = left_reads p.seats most_reports p.held sees.held;
      coming = sees.coming;
    };
    seats = refl;
  }
    where
      sums : (g l h c : ℕ) → g + l ≡ h → g + (l + c) ≡ h + c
      sums g l h c e = omega arith

  zero_more : (n : ℕ) → 0 + n ≡ n
  zero_more n = omega arith

  group_reports : (group : Group) (groups : List Group) → p.groups ≡ group ∷ groups
      → Reports x end p (of_group group groups p)
  group_reports group groups is =
      let reads = parted group.steps (all_steps groups)
      (sym (ap (λ (g : List Group). list_all is_read (all_steps g)) is) ∙ sees.coming) in
      let steps = without p.gone group.steps in
      let step_reads = filter_reads (λ s. not (is_at p.gone s)) group.steps reads.0 in
      record {
        counts = sums (count (is_report_of x) (given p.seats most_reports steps))
            (steps_at end (left p.seats most_reports steps)) (steps_at end steps)
            (steps_at end group.steps) (steps_at end p.held) (steps_at end (all_steps groups)) _ _
            (split_count x end p.seats most_reports steps sees.seats step_reads)
            (without_count end p.gone group.steps sees.stays)
            (count-append (is_step_at end) p.held (left p.seats most_reports steps))
            (ap (λ (g : List Group). steps_at end (all_steps g)) is
            ∙ count-append (is_step_at end) group.steps (all_steps groups));
        sees = record {
          seats = sees.seats;
          stays = sees.stays;
          held =
              append_reads p.held (left p.seats most_reports steps) sees.held
              (left_reads p.seats most_reports steps step_reads);
          coming = reads.1;
        };
        seats = refl;
      }
    where
      parted : (a b : List Step) → AreReads (a ++ b) → AreReads a × AreReads b
      parted [] b h = (refl, h)
      parted (step ∷ a) b h = let more =
          parted a b (and_parts (is_read step) (list_all is_read (a ++ b)) h).1 in (
            and_from (is_read step) (list_all is_read a)
                (and_parts (is_read step) (list_all is_read (a ++ b)) h).0 more.0,
            more.1,
          )

      sums : (g l s t h c hl all : ℕ) → g + l ≡ s → s ≡ t → hl ≡ h + l → all ≡ t + c
          → g + (hl + c) ≡ h + all
      sums g l s t h c hl all e f i j = omega arith

  groups_report : (most : Option ℕ) (groups : List Group) → p.groups ≡ groups
      → Reports x end p (of_groups most groups p)
  groups_report most [] is = record {
    counts = zero_more (to_come end p);
    sees = sees;
    seats = refl;
  }
  groups_report most (group ∷ groups) is = by_late (is_late most p.moment group.moment)
    where
      by_late : (b : Bool) → Reports x end p (cond b (of_time most p) (of_group group groups p))
      by_late true = record {
        counts = zero_more (to_come end p);
        sees =
            record {
              seats = sees.seats;
              stays = sees.stays;
              held = sees.held;
              coming = sees.coming;
            };
        seats = refl;
      }
      by_late false = group_reports group groups is

  pub wait_reports : (most : Option ℕ) → Reports x end p (waited most p)
  wait_reports most = by_given (given p.seats most_reports p.held)
    where
      by_given : (reports : List Report) → Reports x end p (by_held reports most p)
      by_given [] = groups_report most p.groups refl
      by_given (report ∷ reports) = held_reports

-- ---- the last wait

-- a wait that is answered with Over leaves all as it was: no group is left, and nothing that is
-- held can be reported
pub record LeavesNothing (p : Playing) (next : Playing) : Type 0 where
  pub groups : next.groups ≡ []
  pub held : given next.seats most_reports next.held ≡ []

pub over_leaves : (most : Option ℕ) (p : Playing) → is_over (Some (waited most p).answer) ≡ true
    → LeavesNothing p (waited most p).next
over_leaves most p over = by_given (given p.seats most_reports p.held) refl over
  where
    not_over : (moment : ℕ) (reports : List Report)
        → is_over (Some (answer_at moment reports)) ≡ true → ⊥
    not_over moment [] h = false≢true h
    not_over moment (report ∷ reports) h = false≢true h

    by_late : (b : Bool) (group : Group) (groups : List Group)
        → is_over (Some (cond b (of_time most p) (of_group group groups p)).answer) ≡ true
        → LeavesNothing p (cond b (of_time most p) (of_group group groups p)).next
    by_late true group groups h = absurd (false≢true h)
    by_late false group groups h = absurd (not_over _ _ h)

    by_groups : (groups : List Group) → p.groups ≡ groups → given p.seats most_reports p.held ≡ []
        → is_over (Some (of_groups most groups p).answer) ≡ true
        → LeavesNothing p (of_groups most groups p).next
    by_groups [] is none h = record { groups = is; held = none }
    by_groups (group ∷ groups) is none h =
        by_late (is_late most p.moment group.moment) group groups h

    by_given : (reports : List Report) → given p.seats most_reports p.held ≡ reports
        → is_over (Some (by_held reports most p).answer) ≡ true
        → LeavesNothing p (by_held reports most p).next
    by_given [] none h = by_groups p.groups refl none h
    by_given (report ∷ reports) some h = absurd (not_over _ _ h)

-- if the handle has a seat at the end, to be read, nothing at the end is held that cannot be
-- reported
abbrev pub has_seat : StepEnd → Seat → Bool
has_seat end seat = is_end seat.end end && seat.mask.read

some_report : (end : StepEnd) (seats : List Seat) (step : Step)
    → list_any (has_seat end) seats ≡ true → is_read step ≡ true → is_step_at end step ≡ true
    → report_at seats step ≡ None → ⊥
some_report end [] step seated read at none = false≢true seated
some_report end (seat ∷ seats) step seated read at none =
    by_test (is_end seat.end step.end && mask_has seat.mask step.kind) refl none
    (λ (rest : list_any (has_seat end) seats ≡ true) (n : report_at seats step ≡ None).
    some_report end seats step rest read at n)
  where
    reads : (kind : Kind) → is_input (upcall_of kind) ≡ true
        → mask_has seat.mask kind ≡ seat.mask.read
    reads Read h = refl
    reads Write h = absurd (false≢true h)
    reads Except h = absurd (false≢true h)

    no_seat : (is_end seat.end step.end && mask_has seat.mask step.kind) ≡ false
        → has_seat end seat ≡ false
    no_seat h = ap (λ (d : StepEnd). is_end seat.end d && seat.mask.read)
        (sym (end_same step.end end at)) ∙ ap (λ (m : Bool). is_end seat.end step.end && m)
        (sym (reads step.kind read)) ∙ h

    by_test : (b : Bool) → (is_end seat.end step.end && mask_has seat.mask step.kind) ≡ b
        → ◌≡◌ {A = Option Report} (cond b (Some
        (record { handle = record { 0 = seat.handle }; kind = step.kind }))
        (report_at seats step)) None
        → (list_any (has_seat end) seats ≡ true → report_at seats step ≡ None → ⊥) → ⊥
    by_test true e h rest = some _ h
      where
        some : (r : Report) → Some r ≡ None → ⊥
        some r q = cc
    by_test false e h rest = rest (sym
        (ap (λ (b : Bool). b || list_any (has_seat end) seats) (no_seat e)) ∙ seated) h

pub none_held : (end : StepEnd) (seats : List Seat) (room : ℕ) (steps : List Step)
    → list_any (has_seat end) seats ≡ true → AreReads steps → given seats (suc room) steps ≡ []
    → steps_at end steps ≡ 0
none_held end seats room [] seated reads none = refl
none_held end seats room (step ∷ steps) seated reads none =
    by_report (report_at seats step) refl none
    (none_held end seats room steps seated
    (and_parts (is_read step) (list_all is_read steps) reads).1)
  where
    by_report : (report : Option Report) → report_at seats step ≡ report
        → gives report (suc room) (λ r. given seats r steps) ≡ []
        → (given seats (suc room) steps ≡ [] → steps_at end steps ≡ 0)
        → steps_at end (step ∷ steps) ≡ 0
    by_report None is h rest = ⊎_elim
        (λ (t : is_step_at end step ≡ true).
        absurd (some_report end seats step seated
        (and_parts (is_read step) (list_all is_read steps) reads).0 t is))
        (λ (f : is_step_at end step ≡ false).
        ap (λ (b : Bool). cond b (suc (steps_at end steps)) (steps_at end steps)) f ∙ rest h)
        (cases_Bool (is_step_at end step))
    by_report (Some report) is h rest = absurd (some h)
      where
        some : report ∷ given seats room steps ≡ [] → ⊥
        some q = cc

-- ---- a handle without a seat

abbrev pub is_seat_of : ℕ → Seat → Bool
is_seat_of x seat = seat.handle == x

abbrev NotOf : ℕ → Option Report → Type 0
NotOf x None = Unit {0}
NotOf x (Some report) = is_report_of x report ≡ false

no_report : (x : ℕ) (seats : List Seat) (step : Step) → list_any (is_seat_of x) seats ≡ false
    → NotOf x (report_at seats step)
no_report x [] step none = tt
no_report x (seat ∷ seats) step none =
    by_test (is_end seat.end step.end && mask_has seat.mask step.kind)
    (no_report x seats step (or_parts _ _ none).1)
  where
    by_test : (b : Bool) → NotOf x (report_at seats step)
        → NotOf x (cond b (Some (record { handle = record { 0 = seat.handle }; kind = step.kind }))
        (report_at seats step))
    by_test true rest = ap (λ (b : Bool). b && is_input (upcall_of step.kind)) (or_parts _ _ none).0
    by_test false rest = rest

none_given : (x : ℕ) (seats : List Seat) (room : ℕ) (steps : List Step)
    → list_any (is_seat_of x) seats ≡ false → count (is_report_of x) (given seats room steps) ≡ 0
none_given x seats room [] none = refl
none_given x seats room (step ∷ steps) none =
    by_report (report_at seats step) room (no_report x seats step none)
    (λ r. none_given x seats r steps none)
  where
    by_report : (report : Option Report) (room : ℕ) → NotOf x report
        → ((r : ℕ) → count (is_report_of x) (given seats r steps) ≡ 0)
        → count (is_report_of x) (gives report room (λ r. given seats r steps)) ≡ 0
    by_report None room not_ rest = rest room
    by_report (Some report) zero not_ rest = refl
    by_report (Some report) (suc room) not_ rest =
        ap (λ (b : Bool). cond b (suc (count (is_report_of x) (given seats room steps)))
        (count (is_report_of x) (given seats room steps))) not_ ∙ rest room

pub none_waited : (x : ℕ) (most : Option ℕ) (p : Playing) → list_any (is_seat_of x) p.seats ≡ false
    → count (is_report_of x) (waited most p).reports ≡ 0
none_waited x most p none = by_given (given p.seats most_reports p.held)
  where
    by_late : (b : Bool) (group : Group) (groups : List Group)
        → count (is_report_of x) (cond b (of_time most p) (of_group group groups p)).reports ≡ 0
    by_late true group groups = refl
    by_late false group groups = none_given x p.seats most_reports (without p.gone group.steps) none

    by_groups : (groups : List Group) → count (is_report_of x) (of_groups most groups p).reports ≡ 0
    by_groups [] = refl
    by_groups (group ∷ groups) = by_late (is_late most p.moment group.moment) group groups

    by_given : (reports : List Report) → count (is_report_of x) (by_held reports most p).reports ≡ 0
    by_given [] = by_groups p.groups
    by_given (report ∷ reports) = none_given x p.seats most_reports p.held none
