-- How a wait sorts steps: those that it reports, those that it passes over and those that it did
-- not come to.
use Rattle.std.specs.Prelude.{◌≡◌, ◌≤◌, ◌<◌, ◌+◌, ◌-◌, ℕ, Bool, true, false, List, [], ◌∷◌, ◌++◌}
use Rattle.std.specs.Prelude.{length, drop, Option, Some, None, Vec, vec_capacity}
use Rattle.std.specs.declared.alloc.Global.{Global}
use Rattle.ev_base.specs.Terms.{StepEnd, Step}
use Rattle.ev_base.specs.Playing.{Seat, is_at, given, left, without, most_reports}
use Rattle.ev_base.specs.declared.net.Report.{Report}
use Rattle.script_net.specs.declared.script.End.{End}
use Rattle.script_net.specs.Scripts.{steps_at}
use Rattle.script_net.specs.Playable.{IsWithin, AreWithin}
use Rattle.script_net.specs.Seating.{Marks, is_marked, SeatsContent}

-- the marks tell, of each end of the script, whether it is one of those that are gone
abbrev pub AreMarks : Marks → List StepEnd → Type 0
AreMarks marks gone = (end : StepEnd) (step : Step) → step.end ≡ end
    → IsWithin (length marks.connections) end → is_marked marks end ≡ is_at gone step

-- Of all steps these were reported and these passed over, which nobody wants, and these are still
-- to come.
pub record IsSorted (seats : List Seat) (all : List Step) (reports : List Report)
    (passed rest : List Step) : Type 0 where
  pub given_is : given seats most_reports all
      ≡ reports ++ given seats (most_reports - length reports) rest
  pub left_is : left seats most_reports all
      ≡ passed ++ left seats (most_reports - length reports) rest
  pub unwanted : given seats most_reports passed ≡ []
  pub few : length reports ≤ most_reports

-- one step was sorted: it is dropped if its end is gone, reported if that is wanted and there
-- is room, and else passed over
abbrev pub TakesStep : Bool → Option Report → End → List Report → List End → Bool → List Report
    → List End → Type 0
TakesStep true report end reports passed taken reports' passed' =
    (taken ≡ true) × (reports' ≡ reports) × (passed' ≡ passed)
TakesStep false None end reports passed taken reports' passed' =
    (taken ≡ true) × (reports' ≡ reports) × (passed' ≡ passed ++ end ∷ [])
TakesStep false (Some report) end reports passed true reports' passed' =
    (length reports < most_reports) × (reports' ≡ reports ++ report ∷ []) × (passed' ≡ passed)
TakesStep false (Some report) end reports passed false reports' passed' =
    (most_reports ≤ length reports) × (reports' ≡ reports) × (passed' ≡ passed)

-- Steps were sorted up to a place, whatever ends are gone that the marks tell.
abbrev pub AreSorted : SeatsContent → List End → List Report → List End → List End → Type 0
AreSorted seats all reports passed rest =
    (gone : List StepEnd) → AreMarks seats.marks gone
    → IsSorted seats.seats (without gone (steps_at all)) reports
    (without gone (steps_at passed)) (without gone (steps_at rest))

-- and if no more can be reported, or none is to come, this is what a wait gives and leaves
pub record AreGiven (seats : List Seat) (all : List Step) (reports : List Report)
    (passed behind : List Step) : Type 0 where
  pub given_are : reports ≡ given seats most_reports all
  pub left_are : behind ≡ left seats most_reports all
  pub unwanted : given seats most_reports passed ≡ []

abbrev pub WaitSorts : SeatsContent → List End → List Report → List End → List End → Type 0
WaitSorts seats all reports passed rest =
    (gone : List StepEnd) → AreMarks seats.marks gone
    → AreGiven seats.seats (without gone (steps_at all)) reports
    (without gone (steps_at passed)) (without gone (steps_at (passed ++ rest)))

-- The steps from one place to another were sorted, into lists that have not lost room.
pub record IsUnderWay (seats : SeatsContent) (steps : List End) (from at : ℕ)
    (reports : Vec Report Global) (passed : Vec End Global) (report_room room : ℕ) : Type 0 where
  pub sorted : AreSorted seats (drop from steps) reports.items passed.items (drop at steps)
  pub within_passed : AreWithin (length seats.marks.connections) (steps_at passed.items)
  pub within_rest : AreWithin (length seats.marks.connections) (steps_at (drop at steps))
  pub few : from + length passed.items ≤ at
  pub report_room_left : report_room ≤ vec_capacity reports
  pub room_left : room ≤ vec_capacity passed
