-- The masks of the ends that the net watches, and its report (POSA2, Reactor: Synchronous Event
-- Demultiplexer).
use Rattle.std.specs.Prelude.{ℕ, ◌==◌, if◌then◌else◌, List, [], ◌∷◌, Option, Some, None}
use Rattle.ev_base.specs.ev_types.specs.declared.upcall.Mask.{Mask}
use Rattle.ev_base.specs.ev_types.specs.declared.upcall.Kind.TheVariants.{Read}
use Rattle.ev_base.specs.declared.net.Report.{Report}
use Rattle.ev_base.specs.declared.net.Waited.{Waited}
use Rattle.ev_base.specs.declared.net.Waited.TheVariants.{Reports, Over}

-- Masks by handle, the latest first. The end that was attached first can be read at any time, and
-- is reported if its mask has that.
abbrev pub first_report : List (ℕ × Mask) → Option Report
first_report [] = None
first_report (entry ∷ []) = if entry.1.read then Some
    (record { handle = record { 0 = entry.0 }; kind = Read }) else None
first_report (entry ∷ (other ∷ masks)) = first_report (other ∷ masks)

-- the report of a wait, if it has one
abbrev pub report_list : Option Report → List Report
report_list None = []
report_list (Some report) = report ∷ []

-- a wait answers at moment 0, with that report or, if there is none, that nothing can be
-- reported any more
abbrev pub answer_of : Option Report → Waited
answer_of None = Over 0
answer_of (Some report) = Reports 0 1

-- an entry with this mask if it has this handle
abbrev pub masked : ℕ → Mask → ℕ × Mask → ℕ × Mask
masked handle mask entry = if entry.0 == handle then (handle, mask) else entry
