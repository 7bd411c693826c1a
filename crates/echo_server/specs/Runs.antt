-- Runs of the echo server: how they begin, and what they leave.
use Rattle.std.specs.Prelude.{◌≡◌, ◌⊎◌, ℕ, true, List, [], ◌∷◌, filter, Option, Some, None}
use Rattle.std.specs.List.{AllByRecursion}
use Rattle.reactor.specs.ev_base.specs.Counts.{Rose}
use Rattle.reactor.specs.ev_base.specs.End.{EndFacts}
use Rattle.reactor.specs.ev_base.specs.Terms.{Terms, open_terms}
use Rattle.reactor.specs.ev_base.specs.declared.end.PeerEnd.{Ghosts}
use Rattle.reactor.specs.reactor_journal.specs.declared.entry.Entry.{Entry}
use Rattle.reactor.specs.reactor_journal.specs.declared.entry.Entry.TheVariants.{Opened}
use Rattle.reactor.specs.reactor_core.specs.Ends.{WhereTold}
use Rattle.reactor.specs.reactor_core.specs.Stands.{Meaning, Stands, StandsWith}
use Rattle.reactor.specs.reactor_core.specs.Views.{net_of, volumes_of, watch_of}
use Rattle.reactor.specs.reactor_core.specs.declared.reactor.Core.{Core}
use Rattle.reactor.specs.reactor_core.specs.declared.registering.RegisterRefused.{RegisterRefused}
use Rattle.reactor.specs.reactor_core.specs.declared.registering.RegisterRefused.TheVariants
    as register
use Rattle.reactor.specs.core_loop.specs.Idle.{HasEnded, WasOver}
use Rattle.reactor.specs.tp_reactor.specs.declared.working.Ran.{Ran}
use Rattle.reactor.specs.tp_reactor.specs.declared.working.Ran.TheVariants as ran
use Rattle.echo_server.specs.Echo.{WentBack}
use Rattle.reactor.specs.reactor_model.specs.Entries.{is_notice}
use Rattle.echo_server.specs.Handlers.{idle_of, read_alone}
use Rattle.echo_server.specs.declared.note.EchoNote.{EchoNote}
use Rattle.echo_server.specs.declared.acceptor.EchoAcceptor.{EchoAcceptor}
use Rattle.echo_server.specs.declared.handler.EchoHandler.{EchoHandler}
use Rattle.echo_server.specs.declared.handler.EchoHandler.TheVariants.{Listen}
use Rattle.echo_server.specs.declared.opening.OpenRefused.{OpenRefused}
use Rattle.echo_server.specs.declared.opening.OpenRefused.TheVariants.{NotAttached, NoMemory}

-- how many handlers may be live: the acceptor and 1,000 connections
abbrev pub most_handlers : ℕ
most_handlers = 1001

-- the terms of a run whose connections have this idle time: no watch failed before it, and all else
-- is open
abbrev pub run_terms : ℕ → Terms
run_terms idle =
    record (open_terms most_handlers) { output_faults = Some 0; idle = Some (Some idle) }

-- a reactor stands for nothing yet, on the terms of the acceptor's idle time, and may take it
pub record MayRegister {M Q W V E : Type 0} {G : Ghosts E}
    (m : Meaning (EchoHandler E G) M Q W V EchoNote E)
    (core : Core (EchoHandler E G) M Q W V EchoNote E) (acceptor : EchoAcceptor E G) : Type 0 where
  pub stands : Stands m (run_terms (idle_of acceptor)) core 0 []
  pub fits : m.means.fits (run_terms (idle_of acceptor)) None (Listen acceptor) []

-- the acceptor is registered on handle 0
abbrev pub first_entry : {N : Type 0} → Entry N
first_entry = Opened (record { 0 = 0 }) read_alone

-- it has the acceptor, with this idle time, as its one handler, and did nothing yet
abbrev pub IsOpened : {H M Q W V N E : Type 0} → Meaning H M Q W V N E → ℕ → Core H M Q W V N E
    → Type 0
IsOpened m idle core = Stands m (run_terms idle) core 0 (first_entry ∷ [])

abbrev pub echo_refusal : RegisterRefused → OpenRefused
echo_refusal register.NetFailed = NotAttached
echo_refusal _ = NoMemory

-- what stands behind a refusal, by the count of failed attaches of the net before and now
abbrev pub HasCause : OpenRefused → ℕ → ℕ → Type 0
HasCause NotAttached before now = Rose before now
HasCause NoMemory before now = Unit {0}

-- What stands behind the answer of a pool that ran one reactor and gave it back. Want of memory
-- needs no cause.
abbrev pub PoolEnds : {H M Q W V N E : Type 0} → Meaning H M Q W V N E → Core H M Q W V N E → Ran
    → Core H M Q W V N E → Type 0
PoolEnds m old ran.NetFault new = Rose (m.facts (net_of old)).failed_waits
    (m.facts (net_of new)).failed_waits
PoolEnds m old ran.VolumeFault new =
    Rose (m.volumes (volumes_of old)).faults (m.volumes (volumes_of new)).faults
PoolEnds m old ran.Broken new = Rose 0 (m.faults (watch_of new))
PoolEnds m old ran.Over new = WasOver m new
PoolEnds m old ran.Stopped new = HasEnded m new
PoolEnds m old ran.NoMemory new = Unit {0}

-- it stands for a history in which no notification was drained
abbrev pub IsUnposted : {H M Q W V N E : Type 0} → Meaning H M Q W V N E → Core H M Q W V N E
    → Type 0
IsUnposted m core = StandsWith m (λ t h. filter is_notice h ≡ []) core

-- Of the bytes that an end gave, in order, the first were written to it, and nothing else was; and
-- if its input was at its end, all of them.
pub record WasEchoed (e : EndFacts) : Type 0 where
  pub waiting : List ℕ
  pub went : WentBack waiting e
  pub all : e.over ≡ true → waiting ≡ []

-- an end that was retired, with its handle: the listener, or that of a connection, which was echoed
abbrev pub IsServed : {E : Type 0} → (E → EndFacts) → ℕ × E → Type 0
IsServed tells retired = ((tells retired.1).listener ≡ true) ⊎ WasEchoed (tells retired.1)

abbrev pub AreEchoed : {E : Type 0} → (E → EndFacts) → Option (List (ℕ × E)) → Type 0
AreEchoed tells retired = WhereTold (λ ends. AllByRecursion (IsServed tells) ends) retired
