-- What entries of a journal tell (POSA2, Reactor: the Synchronous Event Demultiplexer's answers,
-- the attaches that it refused, and the notifications of others).
use Rattle.std.specs.Prelude.{◌≡◌, ℕ, Bool, true, false, List, [], ◌∷◌}
use Rattle.ev_base.specs.declared.net.Report.{Report}
use Rattle.ev_base.specs.declared.net.Waited.{Waited}
use Rattle.ev_base.specs.declared.net.Waited.TheVariants as waited
use Rattle.reactor_journal.specs.declared.entry.Entry.{Entry}
use Rattle.reactor_journal.specs.declared.entry.Entry.TheVariants.{Polled, Ready, Posted, Stale}
use Rattle.reactor_journal.specs.declared.entry.Entry.TheVariants.{Refused}

-- whether the entry is a notification's
abbrev pub is_notice : {N : Type 0} → Entry N → Bool
is_notice (Posted handle kind from seq) = true
is_notice (Stale handle from seq) = true
is_notice _ = false

-- whether the entry is a `Refused` for a fault of the net
abbrev pub is_fault : {N : Type 0} → Entry N → Bool
is_fault (Refused live fault note) = fault
is_fault _ = false

-- a wait was answered at the moment
abbrev pub IsAnsweredAt : ℕ → Waited → Type 0
IsAnsweredAt moment (waited.Reports now count) = now ≡ moment
IsAnsweredAt moment (waited.Quiet now) = now ≡ moment
IsAnsweredAt moment (waited.Over now) = now ≡ moment
IsAnsweredAt moment waited.Failed = ⊥

-- the reports that were taken after a wait, as they stand after the entry, and as they stood before
-- it
abbrev pub taken_before : {N : Type 0} → Entry N → List Report → List Report
taken_before (Ready handle kind) taken = record { handle = handle; kind = kind } ∷ taken
taken_before (Polled moment) taken = []
taken_before _ taken = taken
