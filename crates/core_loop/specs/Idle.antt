-- When a reactor stands for a history in which no upcall is on its way, and when it does while one
-- is.
use Rattle.std.specs.Prelude.{ℕ, ◌≡◌, ◌≤◌, ◌+◌, true, List, [], length, Option, Some, None}
use Rattle.ev_base.specs.Counts.{Rose}
use Rattle.ev_base.specs.Terms.{Terms}
use Rattle.timer_queue.specs.declared.timer.Timer.{Timer}
use Rattle.reactor_model.specs.reactor_journal.specs.declared.entry.Entry.{Entry}
use Rattle.reactor_model.specs.reactor_journal.specs.Past.{past_of, count}
use Rattle.reactor_core.specs.reactor_summary.specs.Summary.{summary}
use Rattle.reactor_core.specs.Stands.{From, Meaning, Stands, StandsWith}
use Rattle.reactor_core.specs.Beginning.{IsShutDown, PartsStand}
use Rattle.reactor_core.specs.Marks.{is_polled}
use Rattle.reactor_core.specs.Views.{net_of, over_of, volumes_of, watch_of}
use Rattle.reactor_core.specs.declared.reactor.Parts.{Parts}
use Rattle.reactor_core.specs.Registering.{IsOffered}
use Rattle.reactor_core.specs.Upcalls.{DoneFits, HasNoPick}
use Rattle.reactor_core.specs.declared.reactor.Core.{Core}
use Rattle.reactor_core.specs.declared.job.Done.{Done}
use Rattle.core_loop.specs.declared.turns.RunEnd.{RunEnd}
use Rattle.core_loop.specs.declared.turns.RunEnd.TheVariants as end

-- it stands for a history, on terms that bind the limit of waits so, and no event is open
pub record IsIdleOn {H M Q W V N E : Type 0} (m : Meaning H M Q W V N E)
    (bound : Option (Option ℕ)) (core : Core H M Q W V N E) : Type 0 where
  pub terms : Terms
  pub limit : terms.limit ≡ bound
  pub first : ℕ
  pub history : List (Entry N)
  pub stands : Stands m terms core first history
  pub none_open : (summary (past_of history)).opens ≡ []

-- it does on terms that leave that limit open
abbrev pub IsIdle : {H M Q W V N E : Type 0} → Meaning H M Q W V N E → Core H M Q W V N E → Type 0
IsIdle m core = IsIdleOn m None core

-- it stands so, and there is no upcall to make
abbrev pub HasNoUpcall : {H M Q W V N E : Type 0} → Meaning H M Q W V N E → Core H M Q W V N E
    → Type 0
HasNoUpcall m core = (i : IsIdle m core) × HasNoPick (past_of i.history)

-- whatever binds the limit of waits, it stays idle
abbrev pub StaysIdle : {H M Q W V N E : Type 0} → Meaning H M Q W V N E → Core H M Q W V N E
    → Core H M Q W V N E → Type 0
StaysIdle m old new = (bound : Option (Option ℕ)) → IsIdleOn m bound old → IsIdleOn m bound new

-- It stays idle on terms that have this limit of waits. So each wait of a net that tells its calls
-- was asked for this limit, or for less if a deadline came first.
abbrev pub StaysWithin : {H M Q W V N E : Type 0} → Meaning H M Q W V N E → Option ℕ
    → Core H M Q W V N E → Core H M Q W V N E → Type 0
StaysWithin m most old new = IsIdleOn m (Some most) old → IsIdleOn m (Some most) new

-- the handler may be offered to it
abbrev pub MayTake : {H M Q W V N E : Type 0} → Meaning H M Q W V N E → Core H M Q W V N E → H
    → Type 0
MayTake m core handler = (i : IsIdle m core) × IsOffered m.means i.terms (past_of i.history) handler

-- it stands for such a history, and no event is open but that of an upcall that was made, which is
-- to be settled
pub record IsOutOn {H M Q W V N E : Type 0} (m : Meaning H M Q W V N E) (bound : Option (Option ℕ))
    (core : Core H M Q W V N E) (done : Done H N E) : Type 0 where
  pub terms : Terms
  pub limit : terms.limit ≡ bound
  pub first : ℕ
  pub history : List (Entry N)
  pub stands : Stands m terms core first history
  pub fits : DoneFits m.means terms (past_of history) done
  pub one_open : length (summary (past_of history)).opens ≤ 1

abbrev pub IsOut : {H M Q W V N E : Type 0} → Meaning H M Q W V N E → Core H M Q W V N E
    → Done H N E → Type 0
IsOut m core done = IsOutOn m None core done

-- it stands so while the upcall is out, or stands idle if there is none
abbrev pub IsOutOrIdleOn : {H M Q W V N E : Type 0} → Meaning H M Q W V N E → Option (Option ℕ)
    → Core H M Q W V N E → Option (Done H N E) → Type 0
IsOutOrIdleOn m bound core (Some done) = IsOutOn m bound core done
IsOutOrIdleOn m bound core None = IsIdleOn m bound core

abbrev pub IsOutOrIdle : {H M Q W V N E : Type 0} → Meaning H M Q W V N E → Core H M Q W V N E
    → Option (Done H N E) → Type 0
IsOutOrIdle m core done = IsOutOrIdleOn m None core done

-- it stands for a history that is over
abbrev pub WasStopped : {H M Q W V N E : Type 0} → Meaning H M Q W V N E → Core H M Q W V N E
    → Type 0
WasStopped m core = StandsWith m (λ t h. IsShutDown (summary (past_of h))) core

-- it stands idle, and in its history so many handlers were closed or refused; the reactor was
-- stopped; its last wait was answered Over; or that is so, and there is no upcall to make
abbrev pub HasClosedOn : {H M Q W V N E : Type 0} → Meaning H M Q W V N E → Option (Option ℕ) → ℕ
    → Core H M Q W V N E → Type 0
HasClosedOn m bound closed core = (i : IsIdleOn m bound core)
    × (closed ≡ (summary (past_of i.history)).closed + (summary (past_of i.history)).refused)

abbrev pub HasClosed : {H M Q W V N E : Type 0} → Meaning H M Q W V N E → ℕ → Core H M Q W V N E
    → Type 0
HasClosed m closed core = HasClosedOn m None closed core

abbrev pub HasEnded : {H M Q W V N E : Type 0} → Meaning H M Q W V N E → Core H M Q W V N E → Type 0
HasEnded m core = (i : IsIdle m core) × ((summary (past_of i.history)).ended ≡ true)

abbrev pub WaitedOver : {H M Q W V N E : Type 0} → Meaning H M Q W V N E → Core H M Q W V N E
    → Type 0
WaitedOver m core = (i : IsIdle m core) × (over_of core ≡ count is_polled (past_of i.history))

abbrev pub WasOver : {H M Q W V N E : Type 0} → Meaning H M Q W V N E → Core H M Q W V N E → Type 0
WasOver m core = (i : IsIdle m core) × (over_of core ≡ count is_polled (past_of i.history))
    × HasNoPick (past_of i.history)

-- What stands after the end of a step of a loop over a net whose count of failed waits was this
-- before. Want of memory alone needs no cause.
abbrev pub StepEndsSo : {H M Q W V N E : Type 0} → Meaning H M Q W V N E → Option ℕ → ℕ → RunEnd
    → Core H M Q W V N E → Type 0
StepEndsSo m until waits end.Enough core =
    (enough : ℕ) × (closed : ℕ) × (until ≡ Some enough) × (enough ≤ closed)
    × HasClosed m closed core
StepEndsSo m until waits end.Over core = WasOver m core
StepEndsSo m until waits end.Stopped core = HasEnded m core
StepEndsSo m until waits end.NetFault core = Rose waits (m.facts (net_of core)).failed_waits
StepEndsSo m until waits end.Broken core = ⊥
StepEndsSo m until waits end.VolumeFault core = ⊥
StepEndsSo m until waits end.NoMemory core = Unit {0}

-- after a volume that was not taken, if the volumes' count of faults was this before
abbrev pub FailsVolume : ℕ → RunEnd → ℕ → Type 0
FailsVolume before end.VolumeFault now = Rose before now
FailsVolume before end.NoMemory now = Unit {0}
FailsVolume before _ now = ⊥

-- its watch failed: if the terms name the count of faults at the start, it rose since
pub record HasBroken {H M Q W V N E : Type 0} (m : Meaning H M Q W V N E)
    (core : Core H M Q W V N E) : Type 0 where
  pub told : m.is_broken (watch_of core) ≡ true
  pub rose : From m core (λ t F h. (before : ℕ) → t.output_faults ≡ Some before
      → Rose before (m.faults (watch_of core)))

-- after the end of a loop
abbrev pub EndsSo : {H M Q W V N E : Type 0} → Meaning H M Q W V N E → Option ℕ → ℕ → ℕ → RunEnd
    → Core H M Q W V N E → Type 0
EndsSo m until waits faults end.VolumeFault core = Rose faults (m.volumes (volumes_of core)).faults
EndsSo m until waits faults end.Broken core = HasBroken m core
EndsSo m until waits faults end.Enough core = StepEndsSo m until waits end.Enough core
EndsSo m until waits faults end.Over core = StepEndsSo m until waits end.Over core
EndsSo m until waits faults end.Stopped core = StepEndsSo m until waits end.Stopped core
EndsSo m until waits faults end.NetFault core = StepEndsSo m until waits end.NetFault core
EndsSo m until waits faults end.NoMemory core = Unit {0}

-- the parts of a reactor that was stopped and stood for a legal history, under some terms
pub record LeavesParts {H M Q W V N E : Type 0} (m : Meaning H M Q W V N E) (armed : Q → List Timer)
    (parts : Parts N M Q W V) : Type 0 where
  pub terms : Terms
  pub first : ℕ
  pub history : List (Entry N)
  pub over : IsShutDown (summary (past_of history))
  pub stand : PartsStand m armed terms first history parts
