-- What comes of the registration of the acceptor.
use Rattle.std.specs.Prelude.{◌≡◌, ◌≤◌, List, [], ◌∷◌, Some, Result, Ok, Err}
use Rattle.ev_base.specs.Terms.{Terms}
use Rattle.tp_reactor.specs.timer_queue.specs.declared.timer.Timer.{Timer}
use Rattle.log_handler.specs.declared.note.ServerNote.{ServerNote}
use Rattle.tp_reactor.specs.reactor_core.specs.Stands.{Meaning, Stands}
use Rattle.tp_reactor.specs.reactor_core.specs.Views.{net_of, volumes_of}
use Rattle.tp_reactor.specs.reactor_core.specs.declared.reactor.Core.{Core}
use Rattle.tp_reactor.specs.reactor_core.specs.declared.registering.RegisterRefused.{
  RegisterRefused,
}
use Rattle.tp_reactor.specs.reactor_core.specs.declared.registering.RegisterRefused.TheVariants
    as refused
use Rattle.server_run.specs.Journals.{first_entry}
use Rattle.server_run.specs.Served.{HasCauses, LeavesRun}
use Rattle.server_run.specs.declared.asked.Asked.{Asked}
use Rattle.server_run.specs.declared.ending.Ending.{Ending}
use Rattle.server_run.specs.declared.ending.Ending.TheVariants as ending
use Rattle.server_run.specs.declared.ending.Served.{Served}

-- under these terms the reactor has no handler and a place for one, and the listener and its idle
-- time keep the terms
pub record CanRegister {H M Q W V N E : Type 0} (m : Meaning H M Q W V N E)
    (listener_keeps : Terms → E → Type 0) (asked : Asked) (listener : E) (core : Core H M Q W V N E)
    (t : Terms) : Type 0 where
  pub stands : Stands m t core 0 []
  pub place : 1 ≤ t.most
  pub listener_keeps_terms : listener_keeps t listener
  pub idle : t.idle ≡ Some asked.idle

-- how a run ended whose acceptor was refused
abbrev pub refused_ending : RegisterRefused → Ending
refused_ending refused.NetFailed = ending.NotAttached
refused_ending refused.NoMemory = ending.NoMemory
refused_ending refused.Stopped = ending.NoMemory
refused_ending (refused.Full live opened) = ending.NoMemory

-- the acceptor was registered, or the run has ended
abbrev pub OpensSo : {H M Q W V E : Type 0} → Meaning H M Q W V ServerNote E → (Q → List Timer)
    → Terms → Asked → Result (Core H M Q W V ServerNote E) (Served M Q W V) → Type 0
OpensSo m armed t asked (Ok core) = Stands m t core 0 (first_entry ∷ [])
OpensSo m armed t asked (Err served) = LeavesRun m armed t asked served

-- no count of faults changed since the net and the volumes were these
pub record SameCounts {H M Q W V N E : Type 0} (m : Meaning H M Q W V N E) (net : M) (volumes : V)
    (core : Core H M Q W V N E) : Type 0 where
  pub waits : (m.facts (net_of core)).failed_waits ≡ (m.facts net).failed_waits
  pub attaches : (m.facts (net_of core)).failed_attaches ≡ (m.facts net).failed_attaches
  pub volumes_faults : (m.volumes (volumes_of core)).faults ≡ (m.volumes volumes).faults

-- which counts rose, if it has ended
abbrev pub OpenCounts : {H M Q W V N E : Type 0} → Meaning H M Q W V N E → M → V
    → Result (Core H M Q W V N E) (Served M Q W V) → Type 0
OpenCounts m net volumes (Ok core) = SameCounts m net volumes core
OpenCounts m net volumes (Err served) = HasCauses m net volumes served
