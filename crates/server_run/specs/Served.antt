-- What a run of the server leaves.
use Rattle.std.specs.Prelude.{ℕ, ◌≡◌, ◌<◌, ◌≤◌, ◌-◌, ◌^◌, ◌⊎◌, true, List, [], ◌∷◌, length, Some}
use Rattle.ev_base.specs.Counts.{Rose}
use Rattle.ev_base.specs.Net.{NetFacts}
use Rattle.ev_base.specs.Terms.{Terms}
use Rattle.tp_reactor.specs.timer_queue.specs.declared.timer.Timer.{Timer}
use Rattle.log_handler.specs.reactor_journal.specs.declared.entry.Entry.{Entry}
use Rattle.log_handler.specs.declared.note.ServerNote.{ServerNote}
use Rattle.log_handler.specs.reactor_model.specs.Volumes.{VolumesFacts}
use Rattle.tp_reactor.specs.reactor_core.specs.Beginning.{PartsStand}
use Rattle.tp_reactor.specs.reactor_core.specs.Stands.{Meaning}
use Rattle.tp_reactor.specs.reactor_desk.specs.Desks.{FillsVolume}
use Rattle.tp_reactor.specs.reactor_desk.specs.declared.terms.DeskTerms.{DeskTerms}
use Rattle.tp_reactor.specs.leader_token.specs.declared.kept.View.{View}
use Rattle.tp_reactor.specs.notify_ring.specs.declared.view.View.{View as RingView}
use Rattle.tp_reactor.specs.Alone.{RunsTo}
use Rattle.tp_reactor.specs.Pool.{HiresNone, RunsPool, WorkerEnd}
use Rattle.tp_reactor.specs.declared.working.Ran.{Ran}
use Rattle.tp_reactor.specs.declared.working.Ran.TheVariants as ran
use Rattle.server_run.specs.Journals.{IsRun, WindsUp, first_entry, notice_for}
use Rattle.server_run.specs.declared.asked.Asked.{Asked}
use Rattle.server_run.specs.declared.ending.Ending.{Ending}
use Rattle.server_run.specs.declared.ending.Ending.TheVariants as ending
use Rattle.server_run.specs.declared.ending.Served.{Served}

-- how a run ended whose workers left their loops with this answer, unless its watch failed
abbrev pub ending_of : Ran → Ending
ending_of ran.Broken = ending.Broken
ending_of ran.NetFault = ending.NetFault
ending_of ran.NoMemory = ending.NoMemory
ending_of ran.VolumeFault = ending.VolumeFault
ending_of ran.Stopped = ending.Notified
ending_of ran.Over = ending.Over

-- The ending names this cause, or tells that the watch failed, whatever else ended the run.
abbrev pub IsBrokenOr : Ending → Ending → Type 0
IsBrokenOr how cause = (how ≡ ending.Broken) ⊎ (how ≡ cause)

-- No reactor was made, for want of memory, so the journal is empty.
pub record IsUnmade {N : Type 0} (how : Ending) (journal : List (Entry N)) : Type 0 where
  pub named : IsBrokenOr how ending.NoMemory
  pub none : journal ≡ []

-- No worker led: the net did not take the listener in, or there was no memory. The reactor was
-- stopped at once, with no handler or with the acceptor alone.
pub record IsUnled {N : Type 0} (how : Ending) (journal : List (Entry N)) : Type 0 where
  pub named : IsBrokenOr how ending.NotAttached ⊎ IsBrokenOr how ending.NoMemory
  pub winds : WindsUp [] journal ⊎ WindsUp (first_entry ∷ []) journal

-- Several workers brought the journal to this list. A root that had seen the registration of the
-- acceptor alone hired the others, each of which made its loop. Their answer is the first in order
-- of those with which they left. Or there was no memory for the list of the workers, and none led.
pub record IsPooled {H M Q W V N E : Type 0} (m : Meaning H M Q W V N E) (terms : DeskTerms)
    (asked : Asked) (answer : Ran) (list : List (Entry N)) : Type 0 where
  pub root : View (Entry N) DeskTerms
  pub postings : RingView
  pub end : WorkerEnd N
  pub root_terms : root.terms ≡ terms
  pub begins : root.seen ≡ first_entry ∷ []
  pub answers : end.ran ≡ answer
  pub leaves : end.known.seen ≡ list
  pub ran : HiresNone root postings end
      ⊎ RunsPool m asked.limit (notice_for asked.until) (asked.workers - 1) root postings end

-- The workers left their loops with this answer, when the journal was this list, and then the
-- reactor was stopped. One worker brought it from the registration of the acceptor to the list by
-- its rounds alone, entry by entry.
pub record HasLed {H M Q W V N E : Type 0} (m : Meaning H M Q W V N E) (t : Terms) (asked : Asked)
    (how : Ending) (journal : List (Entry N)) : Type 0 where
  pub answer : Ran
  pub named : IsBrokenOr how (ending_of answer)
  pub list : List (Entry N)
  pub winds : WindsUp list journal
  pub terms : DeskTerms
  pub run_terms : terms.run ≡ t
  pub alone : asked.workers ≡ 1 → RunsTo m terms asked.limit (first_entry ∷ []) answer list
  pub pooled : 1 < asked.workers → IsPooled m terms asked answer list

-- How far a run came. No reactor was made. Or there is a run as `run` says, and no worker led, or
-- the workers led to its journal as `led` says.
abbrev pub CameSo : {N : Type 0} → Ending → List (Entry N) → Type 0 → Type 0 → Type 0
CameSo how journal run led = IsUnmade how journal ⊎ (run × (IsUnled how journal ⊎ led))

-- What is left of a run under these terms: one journal, of at most 2^62 entries, for which the
-- parts stand. Entries were handed over only as whole volumes of the size that was asked for, or
-- more.
pub record LeavesRun {H M Q W V E : Type 0} (m : Meaning H M Q W V ServerNote E)
    (armed : Q → List Timer) (t : Terms) (asked : Asked) (served : Served M Q W V) : Type 0 where
  pub first : ℕ
  pub journal : List (Entry ServerNote)
  pub stand : PartsStand m armed t first journal served.parts
  pub bound : length journal ≤ 2 ^ 62
  pub filled : FillsVolume asked.volume first
  pub came : CameSo served.ending journal
      (IsRun m.means t asked.until (m.facts served.parts.net) served.ending journal)
      (HasLed m t asked served.ending journal)
  pub broken : (before : ℕ) → served.ending ≡ ending.Broken → t.output_faults ≡ Some before
      → Rose before (m.faults served.parts.watch)

-- With a fault the count of its cause rose: that of failed attaches or of failed waits of the net,
-- or that of the faults of the volumes.
abbrev pub FaultRose : {N E : Type 0} → Ending → NetFacts E → NetFacts E → VolumesFacts N
    → VolumesFacts N → Type 0
FaultRose ending.NotAttached net net' volumes volumes' =
    Rose net.failed_attaches net'.failed_attaches
FaultRose ending.NetFault net net' volumes volumes' = Rose net.failed_waits net'.failed_waits
FaultRose ending.VolumeFault net net' volumes volumes' = Rose volumes.faults volumes'.faults
FaultRose ending.Broken net net' volumes volumes' = Unit {0}
FaultRose ending.NoMemory net net' volumes volumes' = Unit {0}
FaultRose ending.Notified net net' volumes volumes' = Unit {0}
FaultRose ending.Over net net' volumes volumes' = Unit {0}

-- It did so since the net and the volumes were these; and a watch that failed is told.
pub record HasCauses {H M Q W V N E : Type 0} (m : Meaning H M Q W V N E) (net : M) (volumes : V)
    (served : Served M Q W V) : Type 0 where
  pub rose : FaultRose served.ending (m.facts net) (m.facts served.parts.net) (m.volumes volumes)
      (m.volumes served.parts.volumes)
  pub told : m.is_broken served.parts.watch ≡ true → served.ending ≡ ending.Broken
