-- What a net, the demultiplexer of events on ends, tells, and what its calls do (POSA2, Reactor:
-- Synchronous Event Demultiplexer). What it tells of the past, it tells like the past of a journal:
-- the latest first.
use Rattle.std.specs.Prelude.{◌≡◌, ◌≤◌, ◌^◌, ◌+◌, ℕ, Bool, true, if◌then◌else◌, ◌==◌, not, ◌&&◌}
use Rattle.std.specs.Prelude.{filter, List, [], ◌∷◌, length, Option, Some, None, option_map, Result}
use Rattle.std.specs.Prelude.{Ok, Err}
use Rattle.std.specs.List.{list_any, list_all}
use Rattle.ev_types.specs.declared.upcall.Mask.{Mask}
use Rattle.ev_types.specs.declared.upcall.Kind.{Kind}
use Rattle.ev_types.specs.declared.upcall.Kind.TheVariants.{Read, Write, Except}
use Rattle.ev_types.specs.declared.refusal.NetFailed.{NetFailed}
use Rattle.ev_base.specs.Counts.{Rose}
use Rattle.ev_base.specs.declared.net.Report.{Report}
use Rattle.ev_base.specs.declared.net.Waited.{Waited}
use Rattle.ev_base.specs.declared.net.Waited.TheVariants.{Reports, Quiet, Over, Failed}

-- A call of a net that did not fail: a wait with its limit, its answer and its reports; an end
-- attached, with its handle, its mask and its serial number if it has one; a mask set; an end
-- retired; or an end turned away.
pub data Call : Type 0 where
  Waits : (most : Option ℕ) (answer : Waited) (reports : List Report) → Call
  Attaches : (handle : ℕ) (mask : Mask) (serial : Option ℕ) → Call
  SetsMask : (handle : ℕ) (mask : Mask) → Call
  Retires : (handle : ℕ) → Call
  TurnsAway : (serial : Option ℕ) → Call

pub record NetFacts (E : Type 0) : Type 0 where
  -- how often a wait failed, and how often an attach
  pub failed_waits : ℕ
  pub failed_attaches : ℕ
  -- whether it tells that it never fails
  pub steady : Bool
  -- the handles of the ends that are attached, and how many more it has places for
  pub attached : List ℕ
  pub spare : ℕ
  -- the moment of the last wait in milliseconds, 0 before the first, and its reports
  pub now : ℕ
  pub reports : List Report
  -- if it tells them: its calls, the masks of its handles, and the ends that were retired and
  -- turned away
  pub calls : Option (List Call)
  pub masks : Option (List (ℕ × Mask))
  pub retired : Option (List (ℕ × E))
  pub turned_away : Option (List E)

-- a net that never fails has no fault
abbrev pub IsSound : {E : Type 0} → NetFacts E → Type 0
IsSound n = n.steady ≡ true → (n.failed_waits ≡ 0) × (n.failed_attaches ≡ 0)

-- if a list is told, it is empty
abbrev pub HasNone : {A : Type 0} → Option (List A) → Type 0
HasNone None = Unit {0}
HasNone (Some told) = told ≡ []

-- a net that has made no call, with nothing attached, retired or turned away
pub record IsNew {E : Type 0} (n : NetFacts E) : Type 0 where
  pub failed_waits : n.failed_waits ≡ 0
  pub failed_attaches : n.failed_attaches ≡ 0
  pub attached : n.attached ≡ []
  pub now : n.now ≡ 0
  pub calls : HasNone n.calls
  pub masks : HasNone n.masks
  pub retired : HasNone n.retired
  pub turned_away : HasNone n.turned_away

-- a list that is told, with one more
abbrev pub with_one : {A : Type 0} → Option (List A) → A → Option (List A)
with_one None x = None
with_one (Some told) x = Some (x ∷ told)

-- a list of handles without one of them
abbrev pub without : ℕ → List ℕ → List ℕ
without handle handles = filter (λ h. not (h == handle)) handles

-- masks by handle, with one changed, and without one
abbrev pub changed_mask : ℕ → Mask → List (ℕ × Mask) → List (ℕ × Mask)
changed_mask handle mask [] = []
changed_mask handle mask (entry ∷ masks) =
    (if entry.0 == handle then (handle, mask) else entry) ∷ changed_mask handle mask masks

abbrev pub without_mask : ℕ → List (ℕ × Mask) → List (ℕ × Mask)
without_mask handle masks = filter (λ entry. not (entry.0 == handle)) masks

-- a report's kind is in the mask that stands for its handle
abbrev pub mask_has : Mask → Kind → Bool
mask_has mask Read = mask.read
mask_has mask Write = mask.write
mask_has mask Except = mask.except

abbrev pub is_wanted : List (ℕ × Mask) → Report → Bool
is_wanted masks report = list_any (λ entry. entry.0 == report.handle.0
    && mask_has entry.1 report.kind) masks

-- if masks are told, each report is wanted: the others are held back
abbrev pub AreWanted : Option (List (ℕ × Mask)) → List Report → Type 0
AreWanted None reports = Unit {0}
AreWanted (Some masks) reports = list_all (is_wanted masks) reports ≡ true

-- ---- waiting

-- a wait was answered at a moment in milliseconds, which is not below an earlier one
pub record AnswersWait {E : Type 0} (old : NetFacts E) (most : Option ℕ) (answer : Waited)
    (moment : ℕ) (new : NetFacts E) : Type 0 where
  pub now : new.now ≡ moment
  pub later : old.now ≤ moment
  pub bounded : moment ≤ 2 ^ 62
  pub few : length new.reports ≤ 256
  pub wanted : AreWanted old.masks new.reports
  pub calls : new.calls ≡ with_one old.calls (Waits most answer new.reports)
  pub failed_waits : new.failed_waits ≡ old.failed_waits
  pub failed_attaches : new.failed_attaches ≡ old.failed_attaches
  pub steady : new.steady ≡ old.steady
  pub attached : new.attached ≡ old.attached
  pub spare : old.spare ≤ new.spare
  pub masks : new.masks ≡ old.masks
  pub retired : new.retired ≡ old.retired
  pub turned_away : new.turned_away ≡ old.turned_away

-- a call left all as it was but a count of faults
pub record FailsCall {E : Type 0} (old new : NetFacts E) : Type 0 where
  pub now : new.now ≡ old.now
  pub reports : new.reports ≡ old.reports
  pub calls : new.calls ≡ old.calls
  pub steady : new.steady ≡ old.steady
  pub attached : new.attached ≡ old.attached
  pub spare : old.spare ≤ new.spare
  pub masks : new.masks ≡ old.masks
  pub retired : new.retired ≡ old.retired
  pub turned_away : new.turned_away ≡ old.turned_away

pub record FailsToWait {E : Type 0} (old new : NetFacts E) : Type 0 where
  pub rose : Rose old.failed_waits new.failed_waits
  pub failed_attaches : new.failed_attaches ≡ old.failed_attaches
  pub same : FailsCall old new

-- what a wait does, by its answer
abbrev pub NetWaits : {E : Type 0} → NetFacts E → Option ℕ → Waited → NetFacts E → Type 0
NetWaits old most (Reports now count) new =
    AnswersWait old most (Reports now count) now new × (length new.reports ≡ count) × (1 ≤ count)
NetWaits old most (Quiet now) new = AnswersWait old most (Quiet now) now new × (new.reports ≡ [])
NetWaits old most (Over now) new = AnswersWait old most (Over now) now new × (new.reports ≡ [])
NetWaits old most Failed new = FailsToWait old new

-- ---- ends

-- more places, and nothing else
pub record Reserves {E : Type 0} (old new : NetFacts E) : Type 0 where
  pub spare : old.spare ≤ new.spare
  pub failed_waits : new.failed_waits ≡ old.failed_waits
  pub failed_attaches : new.failed_attaches ≡ old.failed_attaches
  pub now : new.now ≡ old.now
  pub reports : new.reports ≡ old.reports
  pub calls : new.calls ≡ old.calls
  pub steady : new.steady ≡ old.steady
  pub attached : new.attached ≡ old.attached
  pub masks : new.masks ≡ old.masks
  pub retired : new.retired ≡ old.retired
  pub turned_away : new.turned_away ≡ old.turned_away

-- an end was attached, which uses one place
pub record AttachesEnd {E : Type 0} (old : NetFacts E) (handle : ℕ) (mask : Mask)
    (serial : Option ℕ) (new : NetFacts E) : Type 0 where
  pub attached : new.attached ≡ handle ∷ old.attached
  pub spare : old.spare ≤ new.spare + 1
  pub calls : new.calls ≡ with_one old.calls (Attaches handle mask serial)
  pub masks : new.masks ≡ with_one old.masks (handle, mask)
  pub failed_waits : new.failed_waits ≡ old.failed_waits
  pub failed_attaches : new.failed_attaches ≡ old.failed_attaches
  pub now : new.now ≡ old.now
  pub reports : new.reports ≡ old.reports
  pub steady : new.steady ≡ old.steady
  pub retired : new.retired ≡ old.retired
  pub turned_away : new.turned_away ≡ old.turned_away

pub record FailsToAttach {E : Type 0} (old new : NetFacts E) : Type 0 where
  pub rose : Rose old.failed_attaches new.failed_attaches
  pub failed_waits : new.failed_waits ≡ old.failed_waits
  pub same : FailsCall old new

-- what an attach does, by its answer
abbrev pub NetAttaches : {E : Type 0} → NetFacts E → ℕ → Mask → Option ℕ
    → Result (Unit {0}) NetFailed → NetFacts E → Type 0
NetAttaches old handle mask serial (Ok _) new = AttachesEnd old handle mask serial new
NetAttaches old handle mask serial (Err _) new = FailsToAttach old new

-- a mask was set
pub record SetsMaskOf {E : Type 0} (old : NetFacts E) (handle : ℕ) (mask : Mask)
    (new : NetFacts E) : Type 0 where
  pub masks : new.masks ≡ option_map (changed_mask handle mask) old.masks
  pub calls : new.calls ≡ with_one old.calls (SetsMask handle mask)
  pub attached : new.attached ≡ old.attached
  pub spare : old.spare ≤ new.spare
  pub failed_waits : new.failed_waits ≡ old.failed_waits
  pub failed_attaches : new.failed_attaches ≡ old.failed_attaches
  pub now : new.now ≡ old.now
  pub reports : new.reports ≡ old.reports
  pub steady : new.steady ≡ old.steady
  pub retired : new.retired ≡ old.retired
  pub turned_away : new.turned_away ≡ old.turned_away

-- an end was retired
pub record RetiresEnd {E : Type 0} (old : NetFacts E) (handle : ℕ) (end : E)
    (new : NetFacts E) : Type 0 where
  pub attached : new.attached ≡ without handle old.attached
  pub masks : new.masks ≡ option_map (without_mask handle) old.masks
  pub retired : new.retired ≡ with_one old.retired (handle, end)
  pub calls : new.calls ≡ with_one old.calls (Retires handle)
  pub spare : old.spare ≤ new.spare
  pub failed_waits : new.failed_waits ≡ old.failed_waits
  pub failed_attaches : new.failed_attaches ≡ old.failed_attaches
  pub now : new.now ≡ old.now
  pub reports : new.reports ≡ old.reports
  pub steady : new.steady ≡ old.steady
  pub turned_away : new.turned_away ≡ old.turned_away

-- an end was turned away, which uses one place
pub record TurnsAwayEnd {E : Type 0} (old : NetFacts E) (serial : Option ℕ) (end : E)
    (new : NetFacts E) : Type 0 where
  pub turned_away : new.turned_away ≡ with_one old.turned_away end
  pub calls : new.calls ≡ with_one old.calls (TurnsAway serial)
  pub spare : old.spare ≤ new.spare + 1
  pub attached : new.attached ≡ old.attached
  pub masks : new.masks ≡ old.masks
  pub retired : new.retired ≡ old.retired
  pub failed_waits : new.failed_waits ≡ old.failed_waits
  pub failed_attaches : new.failed_attaches ≡ old.failed_attaches
  pub now : new.now ≡ old.now
  pub reports : new.reports ≡ old.reports
  pub steady : new.steady ≡ old.steady
