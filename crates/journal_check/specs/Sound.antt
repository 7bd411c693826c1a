-- What holds of the summary of each legal journal, and what one more entry makes of it but for the
-- number of entries.
use Rattle.std.specs.List.{list_any}
use Rattle.std.specs.Prelude.{ℕ, ◌≡◌, ◌<◌, ◌≤◌, ◌==◌, Bool, true, false, not, ◌++◌, filter, Option}
use Rattle.std.specs.Prelude.{Some}
use Rattle.reactor_journal.specs.declared.entry.Entry.{Entry}
use Rattle.reactor_journal.specs.declared.entry.Entry.TheVariants.{Polled, Started, Ended}
use Rattle.reactor_summary.specs.declared.parts.OpenEvent.{OpenEvent}
use Rattle.reactor_summary.specs.declared.parts.WaitingEvent.{WaitingEvent}
use Rattle.reactor_summary.specs.Summary as S
use Rattle.reactor_summary.specs.Summary.{Summary}
use Rattle.reactor_summary.specs.Tells.{listed, Each}
use Rattle.journal_check.specs.Index.{is_idle}
use Rattle.journal_check.specs.Queue.{IsOwned}

-- each waiting event stands before the next entry
abbrev pub AreEarlier : Summary → Type 0
AreEarlier s = Each (λ w. w.event < s.entries) s.waiting

-- the numbers of its waiting events rise and are those of entries, their timers are not armed, and
-- no timer is armed that was not set; its handles were opened, the timeouts of a timer are of one
-- handle, no waiting event is open, and no two open events have one number
pub record IsSound (s : Summary) : Type 0 where
  pub event : ℕ → Option WaitingEvent
  pub bound : ℕ
  pub listed : s.waiting ≡ listed event bound
  pub own : (k : ℕ) (w : WaitingEvent) → event k ≡ Some w → w.event ≡ k
  pub past : AreEarlier s
  pub idle : Each (λ w. is_idle w.due s.armed ≡ true) s.waiting
  pub fresh : (t : ℕ) → s.scheduled ≤ t → S.is_armed s t ≡ false
  pub owned : (t : ℕ) → IsOwned t s.waiting
  pub numbered : Each (λ h. h.handle.0 < s.opened) s.handles
  pub settled : Each (λ w. list_any (λ o. w.event == o.event) s.opens ≡ false) s.waiting
  pub opened : ℕ → Option OpenEvent
  pub opens : Each (λ o. opened o.event ≡ Some o) s.opens

-- the summary after one more entry, but for the number of entries
abbrev pub after : {N : Type 0} → Summary → Entry N → Summary
after s e = record (S.step s e) { entries = s.entries }

-- the event is started: it waits no more, is open from then on, and a periodic timer that came due
-- is armed again
abbrev pub started : Summary → WaitingEvent → Summary
started s w = record s {
  waiting = filter (λ v. not (w.event == v.event)) s.waiting;
  opens = s.opens ++ S.opens_from s.moment (Some w);
  armed = S.with_next s.moment w.handle w.due s.armed;
}

-- whether the case of the entry can be told without the event to be started next and the handles
-- that wait for their close
abbrev pub is_alone : {N : Type 0} → Entry N → Bool
is_alone (Started event) = false
is_alone (Polled moment) = false
is_alone Ended = false
is_alone _ = true
