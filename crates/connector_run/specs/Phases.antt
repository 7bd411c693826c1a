-- The history of a reactor that has one handler: it was registered with the mask write alone and
-- one timer, is served while it is alive, and closes itself or is removed.
use Rattle.std.specs.Prelude.{ℕ, ◌≡◌, ◌≤◌, Bool, true, false, List, [], ◌∷◌, ◌++◌, length, Some}
use Rattle.std.specs.List.{list_all}
use Rattle.ev_base.specs.ev_types.specs.declared.upcall.Answer.TheVariants.{Close}
use Rattle.ev_base.specs.ev_types.specs.declared.upcall.Handle.{Handle}
use Rattle.ev_base.specs.ev_types.specs.declared.upcall.Mask.{Mask}
use Rattle.ev_base.specs.ev_types.specs.declared.upcall.Upcall.{Upcall}
use Rattle.reactor_model.specs.reactor_journal.specs.declared.entry.Entry.{Entry}
use Rattle.reactor_model.specs.reactor_journal.specs.declared.entry.Entry.TheVariants as entry
use Rattle.reactor_model.specs.reactor_journal.specs.Past.{past_of}
use Rattle.reactor_core.specs.reactor_summary.specs.Summary.{summary, is_overdue, open_event}
use Rattle.reactor_core.specs.reactor_summary.specs.declared.parts.LiveHandle.{LiveHandle}
use Rattle.core_loop.specs.Leading.{closed_of}

abbrev pub one_handle : Handle
one_handle = record { 0 = 0 }

abbrev pub write_alone : Mask
write_alone = record { read = false; write = true; except = false }

-- it was registered before the first wait, with a timer that comes due once after so many
-- milliseconds
abbrev pub first_entries : {N : Type 0} → ℕ → List (Entry N)
first_entries wait =
    entry.Opened one_handle write_alone ∷ entry.Scheduled 0 one_handle wait 0 ∷ []

-- the kinds of entries while it is alive: waits, timers that come due, reports and upcalls
abbrev pub is_served : {N : Type 0} → Entry N → Bool
is_served (entry.Polled now) = true
is_served (entry.Due timer) = true
is_served (entry.Ready handle kind) = true
is_served (entry.Started event) = true
is_served (entry.Returned event answer note) = true
is_served _ = false

-- each wait of a past was begun while no armed deadline was reached
abbrev pub BeginInTime : {N : Type 0} → List (Entry N) → Type 0
BeginInTime [] = Unit {0}
BeginInTime (entry.Polled now ∷ past) = (is_overdue (summary past) ≡ false) × BeginInTime past
BeginInTime (_ ∷ past) = BeginInTime past

-- It is alive: it was registered, and waits, timers, reports and upcalls are all that was since.
pub record IsAlive {N : Type 0} (wait : ℕ) (h : List (Entry N)) : Type 0 where
  pub served : List (Entry N)
  pub is : h ≡ first_entries wait ++ served
  pub kinds : list_all is_served served ≡ true
  pub handler : LiveHandle
  pub handles : (summary (past_of h)).handles ≡ handler ∷ []
  pub handle : handler.handle ≡ one_handle
  pub alive : handler.alive ≡ true
  pub none_closed : closed_of h ≡ 0
  pub in_time : BeginInTime (past_of h)
  pub going : (summary (past_of h)).ended ≡ false

-- It closed itself: it was alive until its last turn, which was that of this upcall at this moment,
-- was answered Close and noted this. The entries of that turn are held.
pub record ClosedItself {N : Type 0} (wait first : ℕ) (h : List (Entry N)) : Type 0 where
  pub before : List (Entry N)
  pub alive : IsAlive wait before
  pub event : ℕ
  pub returned : ℕ
  pub upcall : Upcall
  pub moment : ℕ
  pub made : open_event (summary (past_of (before ++ entry.Started event ∷ []))) returned
      ≡ Some (record {
        event = returned;
        handle = one_handle;
        upcall = upcall;
        moment = moment;
      })
  pub note : N
  pub said : N
  pub is : h ≡ before ++ entry.Started event ∷ entry.Returned returned Close note
      ∷ entry.Closed one_handle said ∷ []
  pub held : first ≤ length before
  pub none_live : (summary (past_of h)).handles ≡ []
  pub going : (summary (past_of h)).ended ≡ false
