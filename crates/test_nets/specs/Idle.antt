-- Reactors of steady handlers, and when one stands for a history in which two upcalls are on their
-- way.
use Rattle.std.specs.Prelude.{ℕ, ◌≡◌, ◌≢◌, ◌≤◌, false, List, length, Option, Some, None}
use Rattle.ev_base.specs.Net.{NetFacts}
use Rattle.ev_base.specs.Terms.{Terms}
use Rattle.demux.specs.declared.play_end.PlayEnd.{PlayEnd}
use Rattle.timer_queue.specs.Content.{Content}
use Rattle.reactor_model.specs.reactor_journal.specs.declared.entry.Entry.{Entry}
use Rattle.reactor_model.specs.reactor_journal.specs.Past.{past_of}
use Rattle.reactor_core.specs.reactor_summary.specs.Summary.{summary}
use Rattle.reactor_model.specs.Volumes.{VolumesFacts}
use Rattle.reactor_model.specs.declared.watch.NoWatch.{NoWatch}
use Rattle.reactor_core.specs.reactor_state.specs.State.{Shows, HasPlaces, IsPlaced}
use Rattle.reactor_core.specs.Stands.{Meaning, meaning, Stands}
use Rattle.reactor_core.specs.Upcalls.{DoneFits}
use Rattle.reactor_core.specs.declared.reactor.Core.{Core}
use Rattle.reactor_core.specs.declared.job.Done.{Done}
use Rattle.test_nets.specs.declared.handler.Steady.{Steady}
use Rattle.test_nets.specs.Handlers.{steady}
use Rattle.core_loop.specs.Idle.{IsOut}

-- a reactor of steady handlers over a net M, which keeps its timers in a sorted list and hands its
-- volumes over to V
abbrev pub RowsOf : Type 0 → Type 0 → Type 0
RowsOf M V = Core Steady M Content NoWatch V ℕ PlayEnd

-- what its parts mean, by what its net tells and keeps and what its volumes tell
abbrev pub rows : {M V : Type 0} → (M → NetFacts PlayEnd) → (Terms → M → Type 0)
    → (V → VolumesFacts ℕ) → Meaning Steady M Content NoWatch V ℕ PlayEnd
rows facts keeps volumes = meaning steady facts keeps (Shows (λ q. q.timers))
    (HasPlaces (λ q. q.spare)) IsPlaced (λ t watch h. Unit {0}) (λ watch. 0) (λ watch. false)
    (λ watch. 0) volumes

-- it stands for such a history, and no events are open but those of two upcalls that were made,
-- which are to be settled
pub record AreOut {M V : Type 0} (m : Meaning Steady M Content NoWatch V ℕ PlayEnd)
    (core : RowsOf M V) (done other : Done Steady ℕ PlayEnd) : Type 0 where
  pub terms : Terms
  pub limit : terms.limit ≡ None
  pub first : ℕ
  pub history : List (Entry ℕ)
  pub stands : Stands m terms core first history
  pub fits : DoneFits m.means terms (past_of history) done
  pub other_fits : DoneFits m.means terms (past_of history) other
  pub differ : done.event ≢ other.event
  pub two_open : length (summary (past_of history)).opens ≤ 2

-- it stands so while the second is out, and with the first alone if there is no second
abbrev pub AreOutOrOne : {M V : Type 0} → Meaning Steady M Content NoWatch V ℕ PlayEnd → RowsOf M V
    → Done Steady ℕ PlayEnd → Option (Done Steady ℕ PlayEnd) → Type 0
AreOutOrOne m core done (Some other) = AreOut m core done other
AreOutOrOne m core done None = IsOut m core done
