-- What a run of one connector leaves.
use Rattle.std.specs.Prelude.{ℕ, ◌≡◌, List, [], ◌∷◌, ◌++◌}
use Rattle.ev_base.specs.Net.{NetFacts, Call}
use Rattle.ev_base.specs.declared.net.Waited.{Waited}
use Rattle.ev_base.specs.declared.net.Waited.TheVariants as waited
use Rattle.ev_base.specs.Terms.{Terms}
use Rattle.ev_base.specs.ev_types.specs.declared.upcall.Answer.TheVariants.{Close}
use Rattle.ev_base.specs.ev_types.specs.declared.upcall.Why.{Why}
use Rattle.timer_queue.specs.declared.timer.Timer.{Timer}
use Rattle.reactor_model.specs.Handling.{Handling, NoClose}
use Rattle.reactor_model.specs.reactor_journal.specs.Event.{Item, Origin}
use Rattle.reactor_model.specs.reactor_journal.specs.declared.entry.Entry.{Entry}
use Rattle.reactor_model.specs.reactor_journal.specs.declared.entry.Entry.TheVariants as entry
use Rattle.reactor_model.specs.reactor_journal.specs.Past.{past_of, had}
use Rattle.reactor_core.specs.Beginning.{PartsStand}
use Rattle.reactor_core.specs.Ends.{WhereTold}
use Rattle.reactor_core.specs.Marks.{answers}
use Rattle.reactor_core.specs.Stands.{Meaning}
use Rattle.reactor_core.specs.declared.reactor.Parts.{Parts}
use Rattle.std.specs.Prelude.{Option}
use Rattle.connector_run.specs.Phases.{ClosedItself, one_handle}

-- the net has retired one end, that of a handler that had these turns, and turned none away
pub record LeavesOne {H E N : Type 0} (means : Handling H E N) (t : Terms) (turns : List (Item N))
    (net : NetFacts E) : Type 0 where
  pub end : E
  pub retired : WhereTold (λ ends. ends ≡ (0, end) ∷ []) net.retired
  pub turned_away : WhereTold (λ ends. ends ≡ []) net.turned_away
  pub origin : Option (Origin N)
  pub why : Why
  pub said : N
  pub gone : means.gone t origin end turns why said

-- The handler had closed itself: its end tells of its turns, the last of which is the one in which
-- it did, and the only one. Of the journal at least the end from that turn's `Returned` on is held.
pub record LeavesClosed {H M Q W V N E : Type 0} (m : Meaning H M Q W V N E)
    (armed : Q → List Timer) (t : Terms) {wait first : ℕ} {h : List (Entry N)}
    (closed : ClosedItself wait first h) (parts : Parts N M Q W V) : Type 0 where
  pub earlier : List (Item N)
  pub goes_on : NoClose earlier
  pub one : LeavesOne m.means t (earlier ++ record {
    upcall = closed.upcall;
    moment = closed.moment;
    answer = Close;
    note = closed.note;
  } ∷ []) (m.facts parts.net)
  pub stand : PartsStand m armed t first (h ++ entry.Ended ∷ []) parts
  pub front : List (Entry N)
  pub journal : parts.journal.entries ≡ front ++ entry.Returned closed.returned Close closed.note
      ∷ entry.Closed one_handle closed.said ∷ entry.Ended ∷ []

-- the last wait was answered that nothing can be reported any more
pub record LastWaitWasOver (calls : List Call) : Type 0 where
  pub moment : ℕ
  pub earlier : List Waited
  pub is : answers calls ≡ waited.Over moment ∷ earlier

-- the handler was alive until the reactor was stopped
pub record LeavesAlive {H M Q W V N E : Type 0} (m : Meaning H M Q W V N E)
    (armed : Q → List Timer) (t : Terms) (first : ℕ) (h : List (Entry N))
    (parts : Parts N M Q W V) : Type 0 where
  pub one : LeavesOne m.means t (had (past_of h) 0) (m.facts parts.net)
  pub said : N
  pub stand : PartsStand m armed t first
      (h ++ entry.Ended ∷ entry.Removed one_handle ∷ entry.Closed one_handle said ∷ []) parts
