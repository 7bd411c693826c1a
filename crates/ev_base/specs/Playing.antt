-- What a net answers that plays the groups of a script, by the calls that it was asked for (POSA2,
-- Reactor: Synchronous Event Demultiplexer; scripts are this project's own).
use Rattle.std.specs.Prelude.{◌≡◌, ℕ, zero, suc, ◌+◌, ◌==◌, nat_lt, Bool, true, false, not, ◌&&◌}
use Rattle.std.specs.Prelude.{if◌then◌else◌, List, [], ◌∷◌, ◌++◌, length, filter, map, Option, Some}
use Rattle.std.specs.Prelude.{None}
use Rattle.std.specs.List.{list_any}
use Rattle.ev_types.specs.declared.upcall.Mask.{Mask}
use Rattle.ev_base.specs.Terms.{StepEnd, AtListener, AtConnection, Step, Group}
use Rattle.ev_base.specs.Net.{Call, Waits, Attaches, SetsMask, Retires, TurnsAway, mask_has}
use Rattle.ev_base.specs.declared.net.Report.{Report}
use Rattle.ev_base.specs.declared.net.Waited.{Waited}
use Rattle.ev_base.specs.declared.net.Waited.TheVariants.{Reports, Quiet, Over}

-- how many reports one wait gives at most
abbrev pub most_reports : ℕ
most_reports = 256

-- an end that is attached
pub record Seat : Type 0 where
  pub handle : ℕ
  pub mask : Mask
  pub end : StepEnd

-- How far a script was played: the present moment, the groups that are left, the steps that are
-- held back, the ends that are attached, and those that never will be again.
pub record Playing : Type 0 where
  pub moment : ℕ
  pub groups : List Group
  pub held : List Step
  pub seats : List Seat
  pub gone : List StepEnd

abbrev pub at_start : List Group → Playing
at_start groups = record { moment = 0; groups = groups; held = []; seats = []; gone = [] }

abbrev pub is_end : StepEnd → StepEnd → Bool
is_end AtListener AtListener = true
is_end (AtConnection c) (AtConnection d) = c == d
is_end _ _ = false

-- ---- which steps are reported

-- the report of a step, if its end is attached with the kind in its mask
abbrev pub report_at : List Seat → Step → Option Report
report_at [] step = None
report_at (seat ∷ seats) step =
    if is_end seat.end step.end && mask_has seat.mask step.kind
    then Some (record { handle = record { 0 = seat.handle }; kind = step.kind })
    else report_at seats step

-- Of some steps so many at most are reported, in order; the others are left, in order.
abbrev pub gives : Option Report → ℕ → (ℕ → List Report) → List Report
gives None room rest = rest room
gives (Some report) zero rest = []
gives (Some report) (suc room) rest = report ∷ rest room

abbrev pub leaves : Option Report → Step → ℕ → (ℕ → List Step) → List Step
leaves None step room rest = step ∷ rest room
leaves (Some report) step zero rest = step ∷ rest zero
leaves (Some report) step (suc room) rest = rest room

abbrev pub given : List Seat → ℕ → List Step → List Report
given seats room [] = []
given seats room (step ∷ steps) = gives (report_at seats step) room (λ room. given seats room steps)

abbrev pub left : List Seat → ℕ → List Step → List Step
left seats room [] = []
left seats room (step ∷ steps) = leaves (report_at seats step) step room
    (λ room. left seats room steps)

-- whether a step is at one of these ends, and the steps at no such end
abbrev pub is_at : List StepEnd → Step → Bool
is_at ends step = list_any (λ e. is_end e step.end) ends

abbrev pub without : List StepEnd → List Step → List Step
without ends steps = filter (λ step. not (is_at ends step)) steps

-- ---- waiting

pub record Answered : Type 0 where
  pub answer : Waited
  pub reports : List Report
  pub next : Playing

-- the answer at a moment with these reports
abbrev pub answer_at : ℕ → List Report → Waited
answer_at now [] = Quiet now
answer_at now (report ∷ reports) = Reports now (length (report ∷ reports))

-- whether the group comes later than the wait may last
abbrev pub is_late : Option ℕ → ℕ → ℕ → Bool
is_late None now moment = false
is_late (Some most) now moment = nat_lt (now + most) moment

-- the moment at which a wait is over that found nothing
abbrev pub time_up : Option ℕ → ℕ → ℕ
time_up None now = now
time_up (Some most) now = now + most

-- 1. If held steps can be reported, they are, at the present moment.
abbrev pub of_held : Playing → Answered
of_held p =
    let reports = given p.seats most_reports p.held in
    record {
      answer = answer_at p.moment reports;
      reports = reports;
      next = record p { held = left p.seats most_reports p.held };
    }

-- 2. Else, if no group is left, nothing can be reported any more.
abbrev pub of_none : Playing → Answered
of_none p = record { answer = Over p.moment; reports = []; next = p }

-- 3. Else, if the next group comes later than the wait may last, nothing is reported when the
--    time is up.
abbrev pub of_time : Option ℕ → Playing → Answered
of_time most p = record {
  answer = Quiet (time_up most p.moment);
  reports = [];
  next = record p { moment = time_up most p.moment };
}

-- 4. Else the group comes. Its steps at ends that are attached and want them are reported; those at
--    ends that are gone are dropped; and the others are held.
abbrev pub of_group : Group → List Group → Playing → Answered
of_group group groups p =
    let steps = without p.gone group.steps in
    let reports = given p.seats most_reports steps in
    record {
      answer = answer_at group.moment reports;
      reports = reports;
      next = record p {
        moment = group.moment;
        groups = groups;
        held = p.held ++ left p.seats most_reports steps;
      };
    }

abbrev pub of_groups : Option ℕ → List Group → Playing → Answered
of_groups most [] p = of_none p
of_groups most (group ∷ groups) p =
    if is_late most p.moment group.moment then of_time most p else of_group group groups p

abbrev pub by_held : List Report → Option ℕ → Playing → Answered
by_held [] most p = of_groups most p.groups p
by_held (report ∷ reports) most p = of_held p

abbrev pub waited : Option ℕ → Playing → Answered
waited most p = by_held (given p.seats most_reports p.held) most p

-- ---- ends

-- an end is attached
abbrev pub attached : ℕ → Mask → StepEnd → Playing → Playing
attached handle mask end p = record p {
  seats = record { handle = handle; mask = mask; end = end } ∷ p.seats;
}

-- the mask of an end is set
abbrev pub masked : ℕ → Mask → Seat → Seat
masked handle mask seat = if seat.handle == handle then record seat { mask = mask } else seat

abbrev pub mask_set : ℕ → Mask → Playing → Playing
mask_set handle mask p = record p { seats = map (masked handle mask) p.seats }

-- ends are gone: what is held of them is dropped
abbrev pub dropped : List StepEnd → Playing → Playing
dropped ends p = record p { held = without ends p.held; gone = ends ++ p.gone }

abbrev pub has_handle : ℕ → Seat → Bool
has_handle handle seat = seat.handle == handle

-- an end is retired, or turned away
abbrev pub retired : ℕ → Playing → Playing
retired handle p =
    dropped (map (λ seat. seat.end) (filter (has_handle handle) p.seats))
    (record p { seats = filter (λ seat. not (has_handle handle seat)) p.seats })

abbrev pub turned_away : StepEnd → Playing → Playing
turned_away end p = dropped (end ∷ []) p

-- ---- the calls of a net

-- the end of a serial number: the listener has none
abbrev pub end_of_serial : Option ℕ → StepEnd
end_of_serial None = AtListener
end_of_serial (Some serial) = AtConnection serial

-- how far a script was played by these calls, the latest first
abbrev pub played : List Group → List Call → Playing
played groups [] = at_start groups
played groups (Waits most answer reports ∷ calls) = (waited most (played groups calls)).next
played groups (Attaches handle mask serial ∷ calls) =
    attached handle mask (end_of_serial serial) (played groups calls)
played groups (SetsMask handle mask ∷ calls) = mask_set handle mask (played groups calls)
played groups (Retires handle ∷ calls) = retired handle (played groups calls)
played groups (TurnsAway serial ∷ calls) = turned_away (end_of_serial serial) (played groups calls)

-- each wait has the answer and the reports of the rules
pub record IsAnswer (most : Option ℕ) (answer : Waited) (reports : List Report) (p : Playing) : Type
    0 where
  pub answers : answer ≡ (waited most p).answer
  pub gives : reports ≡ (waited most p).reports

abbrev pub Plays : List Group → List Call → Type 0
Plays groups [] = Unit {0}
Plays groups (Waits most answer reports ∷ calls) =
    IsAnswer most answer reports (played groups calls) × Plays groups calls
Plays groups (Attaches handle mask serial ∷ calls) = Plays groups calls
Plays groups (SetsMask handle mask ∷ calls) = Plays groups calls
Plays groups (Retires handle ∷ calls) = Plays groups calls
Plays groups (TurnsAway serial ∷ calls) = Plays groups calls

-- if a net tells its calls and there are groups, it plays them
abbrev pub FollowsGroups : Option (List Call) → Option (List Group) → Type 0
FollowsGroups None groups = Unit {0}
FollowsGroups (Some calls) None = Unit {0}
FollowsGroups (Some calls) (Some groups) = Plays groups calls
