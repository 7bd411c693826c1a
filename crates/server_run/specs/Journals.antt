-- What the journal of a run of the server says, and how the run ended (C++NPv2 chapter 4; POSA2,
-- Leader/Followers).
use Rattle.std.specs.Prelude.{ℕ, ◌≡◌, ◌≤◌, ◌+◌, ◌==◌, ◌⊎◌, Bool, true, false, List, [], ◌∷◌, ◌++◌}
use Rattle.std.specs.Prelude.{Option, Some, None}
use Rattle.std.specs.List.{list_any, list_all}
use Rattle.ev_base.specs.ev_types.specs.declared.upcall.Answer.{Answer}
use Rattle.ev_base.specs.ev_types.specs.declared.upcall.Handle.{Handle}
use Rattle.ev_base.specs.ev_types.specs.declared.upcall.Kind.{Kind}
use Rattle.ev_base.specs.ev_types.specs.declared.upcall.Upcall.TheVariants.{Notice}
use Rattle.ev_base.specs.Net.{NetFacts}
use Rattle.ev_base.specs.Terms.{Terms}
use Rattle.log_handler.specs.reactor_journal.specs.Event.{Event}
use Rattle.log_handler.specs.reactor_journal.specs.Follow.{follows_ready}
use Rattle.log_handler.specs.reactor_journal.specs.Past.{past_of, count}
use Rattle.log_handler.specs.reactor_journal.specs.Past.{event_at, is_closed}
use Rattle.log_handler.specs.reactor_journal.specs.declared.entry.Entry.{Entry}
use Rattle.log_handler.specs.reactor_journal.specs.declared.entry.Entry.TheVariants.{Opened}
use Rattle.log_handler.specs.reactor_journal.specs.declared.entry.Entry.TheVariants.{Posted}
use Rattle.log_handler.specs.reactor_journal.specs.declared.entry.Entry.TheVariants.{Stale}
use Rattle.log_handler.specs.reactor_journal.specs.declared.entry.Entry.TheVariants.{Returned}
use Rattle.log_handler.specs.reactor_journal.specs.declared.entry.Entry.TheVariants.{Ended}
use Rattle.tp_reactor.specs.reactor_summary.specs.Summary.{summary, is_busy}
use Rattle.log_handler.specs.reactor_model.specs.Handling.{Handling}
use Rattle.tp_reactor.specs.laws_by_turns.specs.ByTurns.{DispatchedByTurns}
use Rattle.acceptor.specs.Servers.{read_alone}
use Rattle.laws_script_taken.specs.laws_script_runs.specs.Runs.{IsWhole, HasNoWork, first_handle}
use Rattle.laws_script_taken.specs.laws_script_runs.specs.Runs.{is_refusal}
use Rattle.laws_script_taken.specs.reactor_model.specs.Entries.{is_notice, is_fault}
use Rattle.laws_script_taken.specs.Laws.{OffersEach}
use Rattle.tp_reactor.specs.reactor_core.specs.Acting.{StopAppends}
use Rattle.tp_reactor.specs.reactor_core.specs.Ends.{WhereTold}
use Rattle.tp_reactor.specs.reactor_core.specs.Marks.{IsOverAt, answers, is_polled}
use Rattle.tp_reactor.specs.reactor_core.specs.Removing.{AreRemovals, alive_handles}
use Rattle.server_run.specs.declared.ending.Ending.{Ending}
use Rattle.server_run.specs.declared.ending.Ending.TheVariants as ending

-- the registration of the acceptor, with reports to read and no others
abbrev pub first_entry : {N : Type 0} → Entry N
first_entry = Opened first_handle read_alone

-- the notice that ends a run: after how many closings and refusals, and to which handle
abbrev pub notice_for : Option ℕ → Option (ℕ × Handle)
notice_for None = None
notice_for (Some wanted) = Some (wanted, first_handle)

-- A run either registered no handler, or began with the registration of its acceptor.
abbrev pub BeginsSo : {N : Type 0} → List (Entry N) → Type 0
BeginsSo {N} run = (run ≡ []) ⊎ ((rest : List (Entry N)) × (run ≡ first_entry ∷ rest))

-- notifications stand only if the run is to be ended by one, and are for the acceptor
abbrev pub is_for_acceptor : {N : Type 0} → Entry N → Bool
is_for_acceptor (Posted handle kind from seq) = handle.0 == 0
is_for_acceptor (Stale handle from seq) = handle.0 == 0
is_for_acceptor _ = true

abbrev pub HasNotices : {N : Type 0} → Option ℕ → List (Entry N) → Type 0
HasNotices None journal = list_any is_notice journal ≡ false
HasNotices (Some n) journal = list_all is_for_acceptor journal ≡ true

-- The run ended at a wait that was answered Over: it stands directly after the entries of its last
-- wait, with nothing to start and nothing open, and if the net tells its calls, the answer of
-- that wait was Over. Then the handlers that were alive were removed and closed, in rising order.
pub record EndsAtNetOver {N E : Type 0} (net : NetFacts E) (run closing : List (Entry N)) : Type 0
  where
    pub behind : follows_ready (past_of run) ≡ true
    pub idle : HasNoWork (past_of run)
    pub over : WhereTold (λ calls. IsOverAt (count is_polled (past_of run)) (answers calls))
        net.calls
    pub closes : AreRemovals (is_busy (summary (past_of run)))
        (alive_handles (summary (past_of run)))
        closing

-- The run ended by its notice: directly after the turn of a notification, and after as many
-- closings and refusals as were asked for.
pub record EndsByNotice {N : Type 0} (until : Option ℕ) (run : List (Entry N)) : Type 0 where
  pub wanted : ℕ
  pub asked : until ≡ Some wanted
  pub enough : wanted ≤ count is_closed (past_of run) + count is_refusal (past_of run)
  pub before : List (Entry N)
  pub number : ℕ
  pub answer : Answer
  pub note : N
  pub directly : run ≡ before ++ Returned number answer note ∷ []
  pub event : Event
  pub kind : Kind
  pub is : event_at (past_of before) number ≡ Some event
  pub notice : event.upcall ≡ Notice kind

-- Why it ended, as far as the journal says: if the listener was not attached there is nothing
-- before the end and after it.
abbrev pub EndsSo : {N E : Type 0} → Option ℕ → NetFacts E → Ending → List (Entry N)
    → List (Entry N) → Type 0
EndsSo until net ending.Over run closing = EndsAtNetOver net run closing
EndsSo until net ending.Notified run closing = EndsByNotice until run
EndsSo until net ending.NotAttached run closing = (run ≡ []) × (closing ≡ [])
EndsSo until net ending.Broken run closing = Unit {0}
EndsSo until net ending.NetFault run closing = Unit {0}
EndsSo until net ending.NoMemory run closing = Unit {0}
EndsSo until net ending.VolumeFault run closing = Unit {0}

-- The journal of a run that ended so: it is legal, was stopped, and each handle that was opened was
-- closed; before its end it goes by turns alone after the registration of the acceptor. After its
-- end each handler that a turn installs is registered or refused directly after that turn, but
-- one `Closed` may stand between. No more handlers were refused for a fault than the net failed to
-- attach.
pub record IsRun {H N E : Type 0} (means : Handling H E N) (t : Terms) (until : Option ℕ)
    (net : NetFacts E) (how : Ending) (journal : List (Entry N)) : Type 0 where
  pub whole : IsWhole t.most journal
  pub run : List (Entry N)
  pub closing : List (Entry N)
  pub is : journal ≡ run ++ Ended ∷ closing
  pub begins : BeginsSo run
  pub turned : DispatchedByTurns means t 1 run
  pub offers : OffersEach means closing
  pub notices : HasNotices until journal
  pub faults : count is_fault journal ≤ net.failed_attaches
  pub ends : EndsSo until net how run closing

-- The journal is the list with what the stop of the reactor appended: nothing if it was stopped
-- before, and else its end and the removals of the handlers that were alive, in rising order.
pub record WindsUp {N : Type 0} (list journal : List (Entry N)) : Type 0 where
  pub more : List (Entry N)
  pub stops : StopAppends (summary (past_of list)) (summary (past_of list)).ended more
  pub is : journal ≡ list ++ more
