-- What a net's calls have to do with the journal: the calls that it was asked for are those that
-- the entries tell.
use Rattle.std.specs.Prelude.{ℕ, ◌≡◌, ◌-◌, Bool, true, false, List, [], ◌∷◌, filter, Option, Some}
use Rattle.std.specs.Prelude.{None, min, option_map}
use Rattle.reactor_summary.specs.ev_types.specs.declared.upcall.Mask.{Mask}
use Rattle.ev_base.specs.Terms.{Terms}
use Rattle.ev_base.specs.Net.{Call, Waits, Attaches, SetsMask, Retires, TurnsAway}
use Rattle.ev_base.specs.declared.net.Report.{Report}
use Rattle.ev_base.specs.declared.net.Waited.{Waited}
use Rattle.reactor_model.specs.reactor_journal.specs.declared.entry.Entry.{Entry}
use Rattle.reactor_model.specs.reactor_journal.specs.declared.entry.Entry.TheVariants.{Opened}
use Rattle.reactor_model.specs.reactor_journal.specs.declared.entry.Entry.TheVariants.{Polled}
use Rattle.reactor_model.specs.reactor_journal.specs.declared.entry.Entry.TheVariants.{Masked}
use Rattle.reactor_model.specs.reactor_journal.specs.declared.entry.Entry.TheVariants.{Refused}
use Rattle.reactor_model.specs.reactor_journal.specs.declared.entry.Entry.TheVariants.{Closed}
use Rattle.reactor_model.specs.reactor_journal.specs.Past.{offered_here}
use Rattle.reactor_model.specs.Entries.{IsAnsweredAt, taken_before}
use Rattle.reactor_summary.specs.Summary.{Summary, summary, is_wanted}
use Rattle.reactor_state.specs.Tables.{first_armed_deadline}
use Rattle.reactor_model.specs.Handling.{Handling, Names}

-- the milliseconds from the moment to the first deadline, 0 if it is reached
abbrev pub time_left : Summary → Option ℕ
time_left s = option_map (λ deadline. deadline - s.moment) (first_armed_deadline s.armed)

-- the lesser of two limits, where none is no limit
abbrev pub least_limit : Option ℕ → Option ℕ → Option ℕ
least_limit None other = other
least_limit (Some a) None = Some a
least_limit (Some a) (Some b) = Some (min a b)

-- a report that becomes a `Ready`: its handle is alive and its kind in the mask
abbrev pub is_taken : Summary → Report → Bool
is_taken s report = is_wanted s report.handle.0 report.kind

-- if the terms have the limit of waits, the wait was asked for the lesser of it and the time to
-- the first deadline
abbrev pub IsAskedFor : Option (Option ℕ) → Summary → Option ℕ → Type 0
IsAskedFor None s most = Unit {0}
IsAskedFor (Some limit) s most = most ≡ least_limit limit (time_left s)

-- whether the entry tells of a call
abbrev pub makes_call : {N : Type 0} → Entry N → Bool
makes_call (Opened handle mask) = true
makes_call (Polled moment) = true
makes_call (Masked handle mask) = true
makes_call (Refused live fault note) = true
makes_call (Closed handle note) = true
makes_call _ = false

-- a wait of the `Polled`, after which these reports were taken; the attach of the `Opened`, of the
-- end whose serial number its handler's origin names, if it does; the mask that was set, and the
-- end that was retired or turned away
pub record IsWait (t : Terms) (s : Summary) (now : ℕ) (taken : List Report) (most : Option ℕ)
    (answer : Waited) (reports : List Report) : Type 0 where
  pub moment : IsAnsweredAt now answer
  pub asked : IsAskedFor t.limit s most
  pub are_taken : taken ≡ filter (is_taken s) reports

pub record IsAttach (opened : ℕ) (wanted : Mask) (named : Option (Option ℕ)) (x : ℕ) (given : Mask)
    (serial : Option ℕ) : Type 0 where
  pub handle : x ≡ opened
  pub mask : given ≡ wanted
  pub names : Names named serial

abbrev pub IsCallOf : {H E N : Type 0} → Handling H E N → Terms → List (Entry N) → List Report
    → Entry N → Call → Type 0
IsCallOf means t past taken (Opened handle mask) (Attaches x given serial) =
    IsAttach handle.0 mask (means.serial t (offered_here past)) x given serial
IsCallOf means t past taken (Polled moment) (Waits most answer reports) =
    IsWait t (summary past) moment taken most answer reports
IsCallOf means t past taken (Masked handle mask) (SetsMask x given) =
    (x ≡ handle.0) × (given ≡ mask)
IsCallOf means t past taken (Closed handle note) (Retires x) = x ≡ handle.0
IsCallOf means t past taken (Refused live fault note) (TurnsAway serial) =
    Names (means.serial t (offered_here past)) serial
IsCallOf means t past taken _ _ = ⊥

abbrev pub CallsBy : {H E N : Type 0} → Handling H E N → Terms → Bool → Entry N → List (Entry N)
    → List Report → List Call → (List Call → Type 0) → Type 0
CallsBy means t false e past taken calls rest = rest calls
CallsBy means t true e past taken [] rest = ⊥
CallsBy means t true e past taken (call ∷ calls) rest =
    IsCallOf means t past taken e call × rest calls

-- The calls, the latest first, are those of the past, after whose last wait these reports are
-- still to be taken.
abbrev pub AreCalls : {H E N : Type 0} → Handling H E N → Terms → List (Entry N) → List Report
    → List Call → Type 0
AreCalls means t [] taken calls = calls ≡ []
AreCalls means t (e ∷ past) taken calls =
    CallsBy means t (makes_call e) e past taken calls
    (λ rest. AreCalls means t past (taken_before e taken) rest)
