-- What a refusal leaves: all as it was; for want of memory all as it was but that there may be more
-- room; and if the net failed that too, and a net that failed once.
use Rattle.std.specs.Prelude.{◌≡◌, List, Option, Some, None, Result, Ok, Err}
use Rattle.reactor_summary.specs.ev_types.specs.declared.upcall.Handle.{Handle}
use Rattle.ev_base.specs.Terms.{Terms}
use Rattle.ev_base.specs.Net.{NetFacts, FailsToWait, FailsToAttach}
use Rattle.reactor_model.specs.reactor_journal.specs.Event.{Item, Origin}
use Rattle.reactor_core.specs.Stands.{Meaning, Keeps}
use Rattle.reactor_core.specs.declared.reactor.Core.{Core}
use Rattle.reactor_core.specs.declared.job.Job.{Job}
use Rattle.reactor_core.specs.declared.polling.Polled.{Polled}
use Rattle.reactor_core.specs.declared.polling.PollRefused.{PollRefused}
use Rattle.reactor_core.specs.declared.polling.PollRefused.TheVariants as poll
use Rattle.reactor_core.specs.declared.postings.PostRefused.{PostRefused}
use Rattle.reactor_core.specs.declared.postings.PostRefused.TheVariants as post
use Rattle.reactor_core.specs.declared.registering.RegisterRefused.{RegisterRefused}
use Rattle.reactor_core.specs.declared.registering.RegisterRefused.TheVariants as register
use Rattle.reactor_core.specs.declared.requests.StateRefused.{StateRefused}
use Rattle.reactor_core.specs.declared.requests.StateRefused.TheVariants as state
use Rattle.reactor_core.specs.declared.requests.LiveRefused.{LiveRefused}
use Rattle.reactor_core.specs.declared.requests.LiveRefused.TheVariants as live
use Rattle.reactor_core.specs.declared.timers.CancelRefused.{CancelRefused}
use Rattle.reactor_core.specs.declared.timers.CancelRefused.TheVariants as cancel
use Rattle.reactor_core.specs.declared.upcalls.StartRefused.{StartRefused}
use Rattle.reactor_core.specs.declared.upcalls.StartRefused.TheVariants as start

-- `suspend` and `resume`
abbrev pub LeavesState : {H M Q W V N E : Type 0} → Meaning H M Q W V N E → Core H M Q W V N E
    → Result (Unit {0}) StateRefused → Core H M Q W V N E → Type 0
LeavesState m old (Ok done) new = Unit {0}
LeavesState m old (Err state.NotLive) new = new ≡ old
LeavesState m old (Err state.Same) new = new ≡ old
LeavesState m old (Err state.NoMemory) new = Keeps m old new

-- `set_mask` and `schedule`
abbrev pub LeavesLive : {A H M Q W V N E : Type 0} → Meaning H M Q W V N E → Core H M Q W V N E
    → Result A LiveRefused → Core H M Q W V N E → Type 0
LeavesLive m old (Ok done) new = Unit {0}
LeavesLive m old (Err live.NotLive) new = new ≡ old
LeavesLive m old (Err live.NoMemory) new = Keeps m old new

-- `cancel`
abbrev pub LeavesTimer : {H M Q W V N E : Type 0} → Meaning H M Q W V N E → Core H M Q W V N E
    → Result (Unit {0}) CancelRefused → Core H M Q W V N E → Type 0
LeavesTimer m old (Ok done) new = Unit {0}
LeavesTimer m old (Err cancel.NotArmed) new = new ≡ old
LeavesTimer m old (Err cancel.NoMemory) new = Keeps m old new

-- `post`
abbrev pub LeavesPosting : {H M Q W V N E : Type 0} → Meaning H M Q W V N E → Core H M Q W V N E
    → Result (Unit {0}) PostRefused → Core H M Q W V N E → Type 0
LeavesPosting m old (Ok done) new = Unit {0}
LeavesPosting m old (Err post.Stopped) new = new ≡ old
LeavesPosting m old (Err post.NoMemory) new = Keeps m old new

-- `start`, which leaves all as it was too if there is nothing to start
abbrev pub LeavesStart : {H M Q W V N E : Type 0} → Meaning H M Q W V N E → Core H M Q W V N E
    → Result (Option (Job H N E)) StartRefused → Core H M Q W V N E → Type 0
LeavesStart m old (Ok (Some job)) new = Unit {0}
LeavesStart m old (Ok None) new = new ≡ old
LeavesStart m old (Err start.NoMemory) new = Keeps m old new

-- a call of the net failed, once, as P says, and nothing else changed; there may have been more
-- room before
abbrev pub NetFails : {H M Q W V N E : Type 0} → Meaning H M Q W V N E
    → (NetFacts E → NetFacts E → Type 0) → Core H M Q W V N E → Core H M Q W V N E → Type 0
NetFails m P old new = P (m.facts old.net) (m.facts new.net) × (new ≡ record old { net = new.net })

pub record FailsOnce {H M Q W V N E : Type 0} (m : Meaning H M Q W V N E)
    (P : NetFacts E → NetFacts E → Type 0) (old new : Core H M Q W V N E) : Type 0 where
  pub between : Core H M Q W V N E
  pub kept : Keeps m old between
  pub fails : NetFails m P between new

-- `poll`
abbrev pub LeavesPoll : {H M Q W V N E : Type 0} → Meaning H M Q W V N E → Core H M Q W V N E
    → Result Polled PollRefused → Core H M Q W V N E → Type 0
LeavesPoll m old (Ok found) new = Unit {0}
LeavesPoll m old (Err poll.Stopped) new = new ≡ old
LeavesPoll m old (Err poll.NoMemory) new = Keeps m old new
LeavesPoll m old (Err poll.NetFailed) new = FailsOnce m FailsToWait old new

-- a handler whose end was shown to a net fits all that it fitted before, whatever terms the net
-- keeps
abbrev pub FitsStill : {H M Q W V N E : Type 0} → Meaning H M Q W V N E → M → H → H → Type 0
FitsStill {N = N} m net handler back =
    (t : Terms) (origin : Option (Origin N)) (had : List (Item N)) → m.keeps t net
    → m.means.fits t origin handler had → m.means.fits t origin back had

-- the count of failed attaches stands
abbrev pub AttachesStand : {H M Q W V N E : Type 0} → Meaning H M Q W V N E → Core H M Q W V N E
    → Core H M Q W V N E → Type 0
AttachesStand m old new = (m.facts new.net).failed_attaches ≡ (m.facts old.net).failed_attaches

-- The admission of a handler for which there is room: its end was attached at once, or that failed,
-- once.
abbrev pub LeavesAdmission : {H M Q W V N E : Type 0} → Meaning H M Q W V N E → H
    → Core H M Q W V N E → Result Handle H → Core H M Q W V N E → Type 0
LeavesAdmission m handler old (Ok handle) new = AttachesStand m old new
LeavesAdmission m handler old (Err back) new =
    FitsStill m old.net handler back × NetFails m FailsToAttach old new

-- `register`: the handler that was offered comes back, as it was unless its end was shown to
-- the net
abbrev pub LeavesOffer : {H M Q W V N E : Type 0} → Meaning H M Q W V N E → H → Core H M Q W V N E
    → Result Handle (H × RegisterRefused) → Core H M Q W V N E → Type 0
LeavesOffer m handler old (Ok handle) new = AttachesStand m old new
LeavesOffer m handler old (Err (back, register.Stopped)) new = (back ≡ handler) × (new ≡ old)
LeavesOffer m handler old (Err (back, register.Full live_now opened_now)) new =
    (back ≡ handler) × (new ≡ old)
LeavesOffer m handler old (Err (back, register.NoMemory)) new = (back ≡ handler) × Keeps m old new
LeavesOffer m handler old (Err (back, register.NetFailed)) new =
    FitsStill m old.net handler back × FailsOnce m FailsToAttach old new

-- a reactor that has no handler and was not stopped refuses one for these reasons alone
abbrev pub MayRefuseFirst : RegisterRefused → Type 0
MayRefuseFirst register.NetFailed = Unit {0}
MayRefuseFirst register.NoMemory = Unit {0}
MayRefuseFirst register.Stopped = ⊥
MayRefuseFirst (register.Full live opened) = ⊥
