-- What a run of the reactor of `one` does to it, from call to call.
use Rattle.std.specs.Prelude.{◌≡◌, ◌≤◌, ◌⊎◌, ◌-◌, ℕ, suc, [], ◌∷◌, length, slice_get, Bool, true}
use Rattle.std.specs.Prelude.{false, List, Option, Some, None, Result, Ok, Err}
use Rattle.ev_base.specs.Counts.{Rose}
use Rattle.ev_base.specs.Source.{SourceFacts}
use Rattle.ev_base.specs.Sink.{SinkFacts}
use Rattle.ev_base.specs.Terms.{Terms}
use Rattle.ev_base.specs.declared.end.PeerEnd.{Ghosts}
use Rattle.timer_queue.specs.Content.{Content}
use Rattle.reactor_model.specs.reactor_journal.specs.declared.entry.Entry.{Entry}
use Rattle.reactor_model.specs.reactor_journal.specs.declared.entry.Entry.TheVariants as entry
use Rattle.reactor_model.specs.reactor_journal.specs.Follow.{Legal}
use Rattle.reactor_model.specs.Volumes.{VolumesFacts}
use Rattle.reactor_core.specs.reactor_state.specs.State.{Shows, HasPlaces, IsPlaced}
use Rattle.reactor_core.specs.Stands.{Meaning, meaning, Stands, StandsWith}
use Rattle.reactor_core.specs.Polling.{FitsLimit}
use Rattle.reactor_core.specs.Views.{volumes_of}
use Rattle.reactor_core.specs.declared.reactor.Core.{Core}
use Rattle.reactor_core.specs.declared.reactor.Parts.{Parts}
use Rattle.reactor_core.specs.Beginning.{PartsStand}
use Rattle.ev_base.specs.ev_types.specs.declared.upcall.Why.TheVariants.{Own}
use Rattle.log_handler.specs.log_lines.specs.declared.end_kind.EndKind.TheVariants as end
use Rattle.log_handler.specs.declared.note.ServerNote.{ServerNote}
use Rattle.log_handler.specs.declared.note.ServerNote.TheVariants as note
use Rattle.log_handler.specs.declared.connection.LogConnection.{LogConnection}
use Rattle.log_handler.specs.Connections.{connections}
use Rattle.log_handler.specs.LineSink.{LineSink, PutsLines, line_sink_faults, is_broken, whole_of}
use Rattle.one_net.specs.declared.one_end.OneEnd.{OneEnd}
use Rattle.one_net.specs.declared.one_net.OneNet.{OneNet}
use Rattle.one_net.specs.OneEnd.{one_end_facts}
use Rattle.one_net.specs.OneKeeps.{OneEndKeeps}
use Rattle.one_net.specs.OneNet.{one_net_facts, one_net_keeps}
use Rattle.one_run.specs.Phases.{IsRead, IsShut, IsFinished, CanEnd, GrowsFrom, turns_in}
use Rattle.one_run.specs.declared.serving.Halt.{Halt}
use Rattle.one_run.specs.declared.serving.Halt.TheVariants as halt

-- what the things outside mean and tell: a source, a sink and volumes tell these facts
abbrev pub one_meaning : {S K V : Type 0} {G : Ghosts (OneEnd S)} → (S → SourceFacts)
    → (K → SinkFacts) → (V → VolumesFacts ServerNote)
    → Meaning (LogConnection (OneEnd S) G) (OneNet S) Content (LineSink K) V ServerNote (OneEnd S)
one_meaning source sink volumes =
    meaning (connections (one_end_facts source) (OneEndKeeps source)) one_net_facts one_net_keeps
    (Shows (λ q. q.timers)) (HasPlaces (λ q. q.spare)) IsPlaced (PutsLines sink)
    (line_sink_faults sink) is_broken whole_of volumes

-- the terms of a run of `one`: a wait has no limit, and a connection is never closed for being
-- quiet
pub record AreOfOne (t : Terms) : Type 0 where
  pub limit : FitsLimit t None
  pub idle : t.idle ≡ Some None

-- a call is right if the core stands for a history with P
abbrev pub CanRun : {H M Q W V N E : Type 0} → Meaning H M Q W V N E → (List (Entry N) → Type 0)
    → Core H M Q W V N E → Type 0
CanRun {N = N} m P core = StandsWith m (λ t h. AreOfOne t × P h) core

-- the core stands for some history with P
abbrev pub StandsIn : {H M Q W V N E : Type 0} → Meaning H M Q W V N E → Terms
    → (List (Entry N) → Type 0) → Core H M Q W V N E → Type 0
StandsIn {N = N} m t P core = (F : ℕ) × (h : List (Entry N)) × Stands m t core F h × P h

-- if the core stood for a history with P, it stands now for one that is R to it
abbrev pub LeadsBy : {H M Q W V N E : Type 0} → Meaning H M Q W V N E → (List (Entry N) → Type 0)
    → (List (Entry N) → List (Entry N) → Type 0) → Core H M Q W V N E → Core H M Q W V N E → Type 0
LeadsBy {N = N} m P R old new = (t : Terms) (F : ℕ) (h : List (Entry N)) → Stands m t old F h
    → AreOfOne t → P h → StandsIn m t (R h) new

-- if it stood for a history with P, it stands now for one with Q
abbrev pub Leads : {H M Q W V N E : Type 0} → Meaning H M Q W V N E → (List (Entry N) → Type 0)
    → (List (Entry N) → Type 0) → Core H M Q W V N E → Core H M Q W V N E → Type 0
Leads m P Q old new = LeadsBy m P (λ before h. Q h) old new

-- it stands for the same history
abbrev pub KeepsHistory : {H M Q W V N E : Type 0} → Meaning H M Q W V N E → Core H M Q W V N E
    → Core H M Q W V N E → Type 0
KeepsHistory {N = N} m old new = (t : Terms) (F : ℕ) (h : List (Entry N)) → Stands m t old F h
    → (now : ℕ) × Stands m t new now h

-- the handler had one turn more, and reads on
abbrev pub ReadsOneMore : {N : Type 0} → List (Entry N) → List (Entry N) → Type 0
ReadsOneMore before h = IsRead h × (length (turns_in h) ≡ suc (length (turns_in before)))

-- one upcall at most returned since, and the handler reads on or closed itself
abbrev pub TurnsOnce : {N : Type 0} → List (Entry N) → List (Entry N) → Type 0
TurnsOnce before h = (IsRead h ⊎ IsShut [] h) × GrowsFrom 1 before h

-- The watch saw so many entries without a failure: at least all of those before the return of the
-- last upcall.
pub record IsWholeUntilLast {N : Type 0} (whole : ℕ) (h : List (Entry N)) : Type 0 where
  pub before : List (Entry N)
  pub seen : length before ≤ whole
  pub grows : GrowsFrom 1 before h

-- the handler had so many turns at least, and reads on
abbrev pub HasRead : {N : Type 0} → ℕ → List (Entry N) → Type 0
HasRead turns h = IsRead h × (turns ≤ length (turns_in h))

-- the volumes' count of faults rose if the run was halted for them, and else stands
abbrev pub VolumesSince : Option Halt → ℕ → ℕ → Type 0
VolumesSince (Some halt.VolumesFailed) before now = Rose before now
VolumesSince _ before now = now ≡ before

abbrev pub VolumesTell : {H M Q W V N E : Type 0} → (V → VolumesFacts ServerNote) → Option Halt
    → Core H M Q W V N E → Core H M Q W V N E → Type 0
VolumesTell volumes halt old new =
    VolumesSince halt (volumes (volumes_of old)).faults (volumes (volumes_of new)).faults

-- why a run was halted, if it was
abbrev pub halted : {A : Type 0} → Result A Halt → Option Halt
halted (Ok value) = None
halted (Err why) = Some why

-- whether a note is that of a connection that was closed for want of memory
abbrev pub is_lost : ServerNote → Bool
is_lost (note.Finished conn end.NoMemory) = true
is_lost _ = false

-- the last entry, if there is one, and whether it is such a closing
abbrev pub last_entry : {N : Type 0} → List (Entry N) → Option (Entry N)
last_entry entries = slice_get entries (length entries - 1)

abbrev pub closes_lost : Option (Entry ServerNote) → Bool
closes_lost (Some (entry.Closed handle said)) = is_lost said
closes_lost _ = false

-- the handler closed itself, and this tells whether for want of memory
abbrev pub IsShutAs : List ℕ → Bool → List (Entry ServerNote) → Type 0
IsShutAs moments lost h = (s : IsShut moments h) × (lost ≡ is_lost s.closed.note)

-- a run was halted, or went on until its connection had closed itself and one wait was made after
-- that
abbrev pub HasEnded : Option Halt → Bool → List (Entry ServerNote) → Type 0
HasEnded None lost h = (now : ℕ) × IsShutAs (now ∷ []) lost h
HasEnded (Some why) lost h = CanEnd h

-- The handler of a journal that is finished had closed itself, and this tells whether for want of
-- memory. After its closing one wait was made, and then the reactor was stopped.
pub record ClosedItself (lost : Bool) (h : List (Entry ServerNote)) (over : IsFinished h) : Type 0
  where
    pub own : over.closed.reason ≡ Own
    pub lost_so : lost ≡ is_lost over.closed.note
    pub moment : ℕ
    pub rest : over.closed.rest ≡ entry.Polled moment ∷ entry.Ended ∷ []

-- the parts of this reactor, which was stopped, stand for a history that is legal and finished
pub record LeavesParts {H M W V E : Type 0} (m : Meaning H M Content W V ServerNote E) (t : Terms)
    (core : Core H M Content W V ServerNote E)
    (P : (h : List (Entry ServerNote)) → IsFinished h → Type 0)
    (parts : Parts ServerNote M Content W V) : Type 0 where
  pub first : ℕ
  pub journal : List (Entry ServerNote)
  pub legal : Legal journal t.most
  pub finished : IsFinished journal
  pub so : P journal finished
  pub stand : PartsStand m (λ q. q.timers) t first journal parts
