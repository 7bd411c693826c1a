-- What the journal of a run says, and how the run ended (C++NPv2 chapter 3,
-- `ACE_Reactor::run_reactor_event_loop`).
use Rattle.std.specs.Prelude.{ℕ, ◌≡◌, ◌≤◌, ◌+◌, ◌⊎◌, true, List, [], ◌∷◌, ◌++◌, length}
use Rattle.std.specs.Prelude.{IsTrue, Option, Some}
use Rattle.ev_base.specs.Counts.{Rose}
use Rattle.ev_base.specs.Net.{NetFacts}
use Rattle.ev_base.specs.Terms.{Terms}
use Rattle.reactor_model.specs.Handling.{Handling}
use Rattle.reactor_model.specs.reactor_journal.specs.Follow.{Legal}
use Rattle.reactor_model.specs.reactor_journal.specs.Past.{all_below, count, ended, is_closed}
use Rattle.reactor_model.specs.reactor_journal.specs.Past.{opened, past_of, was_closed}
use Rattle.reactor_model.specs.reactor_journal.specs.declared.entry.Entry.{Entry}
use Rattle.reactor_model.specs.reactor_journal.specs.declared.entry.Entry.TheVariants.{Ended}
use Rattle.reactor_core.specs.Ends.{WhereTold}
use Rattle.reactor_core.specs.Marks.{IsOverAt, answers, is_polled}
use Rattle.reactor_core.specs.Removing.{AreRemovals, alive_handles}
use Rattle.reactor_core.specs.Upcalls.{HasNoPick}
use Rattle.reactor_core.specs.reactor_summary.specs.Summary.{summary, is_busy}
use Rattle.reactor_core.specs.reactor_summary.specs.Tells.{is_refused}
use Rattle.core_loop.specs.Leading.{IsTurn, IsWait, NoneOpen, Reaches, StaysBelow}
use Rattle.proactor.specs.declared.service.AioNote.{AioNote}
use Rattle.cmd_aio.specs.Starting.{first_entry}
use Rattle.cmd_aio.specs.declared.ending.AioEnd.{AioEnd}
use Rattle.cmd_aio.specs.declared.ending.AioEnd.TheVariants as end

-- it is legal and was stopped, and every handle that was opened was closed
pub record IsWhole {N : Type 0} (most : ℕ) (journal : List (Entry N)) : Type 0 where
  pub legal : Legal journal most
  pub stopped : IsTrue (ended (past_of journal))
  pub closed : all_below (opened (past_of journal)) (was_closed (past_of journal)) ≡ true

-- The journal is a run and its end: `Ended`, and then each handler that was alive was removed and
-- closed, by rising handle.
pub record EndsRun {N : Type 0} (run journal : List (Entry N)) : Type 0 where
  pub removals : List (Entry N)
  pub are : AreRemovals (is_busy (summary (past_of run))) (alive_handles (summary (past_of run)))
      removals
  pub is : journal ≡ run ++ Ended ∷ removals

-- No handler was registered; or the acceptor was, and from there on the run went by waits and turns
-- alone.
abbrev pub GoesByTurns : {H E : Type 0} → Handling H E AioNote → Terms → List (Entry AioNote)
    → Type 0
GoesByTurns means t run = (run ≡ []) ⊎ ((steps : List (List (Entry AioNote)))
    × Reaches means t (first_entry ∷ []) steps run)

-- Its last step was a wait, after which there is no upcall to make and none is on its way. If the
-- net tells its calls, that wait was answered Over. Fewer handlers were closed or refused than were
-- asked for.
pub record EndsAtOver {E : Type 0} (until : Option ℕ) (net : NetFacts E)
    (run : List (Entry AioNote)) : Type 0 where
  pub before : List (Entry AioNote)
  pub entries : List (Entry AioNote)
  pub wait : IsWait entries
  pub is : run ≡ before ++ entries
  pub none : HasNoPick (past_of run)
  pub idle : NoneOpen run
  pub over : WhereTold (λ calls. IsOverAt (count is_polled (past_of run)) (answers calls)) net.calls
  pub few : StaysBelow until (first_entry ∷ []) run

-- Its last step was a turn, and then as many handlers were closed or refused as were asked for, and
-- not before it. The entries of that turn are held.
pub record EndsByCount {H E : Type 0} (means : Handling H E AioNote) (t : Terms)
    (until : Option ℕ) (first : ℕ) (run : List (Entry AioNote)) : Type 0 where
  pub wanted : ℕ
  pub asked : until ≡ Some wanted
  pub before : List (Entry AioNote)
  pub entries : List (Entry AioNote)
  pub turn : IsTurn means t before entries
  pub is : run ≡ before ++ entries
  pub held : first ≤ length before
  pub few : StaysBelow until (first_entry ∷ []) before
  pub enough : wanted ≤ count is_closed (past_of run) + count is_refused (past_of run)

-- Why it ended. With a net fault a wait of the net failed; or its attach of the listener did, and
-- then nothing was done. Before it, as before want of memory, fewer handlers were closed or refused
-- than were asked for. A failed write is told of the output.
abbrev pub EndsSo : {H E : Type 0} → Handling H E AioNote → Terms → Option ℕ → NetFacts E → ℕ
    → AioEnd → List (Entry AioNote) → Type 0
EndsSo means t until net first end.Done run =
    EndsAtOver until net run ⊎ EndsByCount means t until first run
EndsSo means t until net first end.NetFault run = StaysBelow until (first_entry ∷ []) run
    × (Rose 0 net.failed_waits ⊎ (Rose 0 net.failed_attaches × (run ≡ [])))
EndsSo means t until net first end.WriteFault run = Unit {0}
EndsSo means t until net first end.NoMemory run = StaysBelow until (first_entry ∷ []) run
EndsSo means t until net first end.ListenFault run = ⊥

-- the journal of a run that ended so, of which the first entries were let go, so many
pub record IsRun {H E : Type 0} (means : Handling H E AioNote) (t : Terms) (until : Option ℕ)
    (net : NetFacts E) (first : ℕ) (how : AioEnd) (journal : List (Entry AioNote)) : Type 0 where
  pub whole : IsWhole t.most journal
  pub run : List (Entry AioNote)
  pub closes : EndsRun run journal
  pub turns : GoesByTurns means t run
  pub why : EndsSo means t until net first how run
