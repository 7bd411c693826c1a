-- How a run of the server begins (C++NPv2 chapter 4, `Logging_Acceptor`; POSA2, Leader/Followers).
use Rattle.std.specs.Prelude.{◌≡◌, ◌≤◌, ◌+◌, List, [], Some}
use Rattle.ev_base.specs.Terms.{Terms}
use Rattle.ev_base.specs.declared.end.PeerEnd.{Ghosts}
use Rattle.tp_reactor.specs.timer_queue.specs.declared.timer.Timer.{Timer}
use Rattle.log_handler.specs.declared.note.ServerNote.{ServerNote}
use Rattle.acceptor.specs.Idle.{IsIdleTime}
use Rattle.acceptor.specs.declared.server.ServerHandler.{ServerHandler}
use Rattle.tp_reactor.specs.reactor_core.specs.Beginning.{CanBegin}
use Rattle.tp_reactor.specs.reactor_core.specs.Stands.{Meaning}
use Rattle.server_run.specs.declared.asked.Asked.{Asked}
use Rattle.server_run.specs.declared.asked.Ground.{Ground}

-- A run can be made so: by 1 to 64 workers, with 1 to 4,096 connections at once, an idle time that
-- can be that of a timer, and volumes of at least one entry.
pub record IsFine (asked : Asked) : Type 0 where
  pub workers : 1 ≤ asked.workers
  pub few_workers : asked.workers ≤ 64
  pub connections : 1 ≤ asked.connections
  pub few_connections : asked.connections ≤ 4096
  pub idle : IsIdleTime asked.idle
  pub volume : 1 ≤ asked.volume

-- The terms are those of what the run is asked for: they have its limit of waits and its idle time,
-- and say that its journal goes by turns after the first entry, the registration of the acceptor.
pub record AreTermsOf (asked : Asked) (t : Terms) : Type 0 where
  pub limit : t.limit ≡ Some asked.limit
  pub idle : t.idle ≡ Some asked.idle
  pub by_turn : t.by_turn ≡ Some 1

-- Under these terms the run may begin on this ground: nothing was done yet, there is a place for
-- each connection and one for the acceptor, and the net, the listener and the watch keep the terms.
pub record CanStart {M Q W V E : Type 0} {G : Ghosts E}
    (m : Meaning (ServerHandler E G) M Q W V ServerNote E) (armed : Q → List Timer)
    (listener_keeps : Terms → E → Type 0)
    (asked : Asked) (ground : Ground E M Q W V) (t : Terms) : Type 0 where
  pub terms : AreTermsOf asked t
  pub begins : CanBegin (m.facts ground.net) (m.keeps t ground.net) (armed ground.timers)
      (m.watched t ground.watch []) (m.volumes ground.volumes) t (asked.connections + 1)
  pub listener : listener_keeps t ground.listener
