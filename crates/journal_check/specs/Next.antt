-- What is known of an entry that may follow.
use Rattle.std.specs.Prelude.{ℕ, ◌≡◌, ◌<◌, true, false}
use Rattle.ev_types.specs.declared.upcall.Handle.{Handle}
use Rattle.ev_types.specs.declared.upcall.Mask.{Mask}
use Rattle.reactor_journal.specs.declared.entry.Entry.{Entry}
use Rattle.reactor_journal.specs.declared.entry.Entry.TheVariants.{Opened, Scheduled, Started}
use Rattle.reactor_summary.specs.Summary.{Summary, is_armed, is_pick}
use Rattle.reactor_summary.specs.Tells.{Each}
use Rattle.journal_check.specs.Sound.{AreEarlier}

-- handles and timers are numbered in order, and the event that is started is the one to be started
-- next
pub record IsNext {N : Type 0} (s : Summary) (e : Entry N) : Type 0 where
  pub opened : (handle : Handle) (mask : Mask) → e ≡ Opened handle mask → handle.0 ≡ s.opened
  pub scheduled : (timer : ℕ) (handle : Handle) (first every : ℕ)
      → e ≡ Scheduled timer handle first every → timer ≡ s.scheduled
  pub started : (event : ℕ) → e ≡ Started event → is_pick s event ≡ true

-- the timer that it sets is not armed, the handle that it opens is beyond each live one, and no
-- waiting event has the number of the entry
pub record IsNew {N : Type 0} (s : Summary) (e : Entry N) : Type 0 where
  pub events : AreEarlier s
  pub timer : (timer : ℕ) (handle : Handle) (first every : ℕ)
      → e ≡ Scheduled timer handle first every → is_armed s timer ≡ false
  pub handle : (handle : Handle) (mask : Mask) → e ≡ Opened handle mask
      → Each (λ h. h.handle.0 < handle.0) s.handles
