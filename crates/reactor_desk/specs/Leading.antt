-- What the lead of a desk does (POSA2, Leader/Followers: the leader waits for an event, promotes a
-- follower and processes its event).
use Rattle.std.specs.Prelude.{ℕ, ◌≡◌, ◌⊎◌, ◌≤◌, ◌+◌, true, false, List, [], ◌∷◌, ◌++◌, length, drop}
use Rattle.std.specs.Prelude.{map, filter, Option, Some, None, IsTrue}
use Rattle.std.specs.List.{list_all}
use Rattle.ev_base.specs.Counts.{Rose}
use Rattle.ev_base.specs.Net.{NetFacts, NetWaits, Reserves, FailsToWait}
use Rattle.ev_base.specs.declared.net.Waited.{Waited}
use Rattle.reactor_model.specs.reactor_journal.specs.declared.entry.Entry.{Entry}
use Rattle.reactor_model.specs.reactor_journal.specs.declared.entry.Entry.TheVariants as entry
use Rattle.reactor_model.specs.reactor_journal.specs.Past.{past_of, is_pick, count}
use Rattle.reactor_core.specs.reactor_summary.specs.Summary.{summary}
use Rattle.reactor_core.specs.reactor_state.specs.State.{after}
use Rattle.reactor_core.specs.Calls.{time_left, least_limit, is_taken}
use Rattle.reactor_model.specs.Entries.{IsAnsweredAt, is_notice}
use Rattle.reactor_core.specs.HandingOver.{is_due}
use Rattle.reactor_core.specs.Marks.{is_polled}
use Rattle.reactor_core.specs.Polling.{name_of, AreDue, due_of, ready_of}
use Rattle.reactor_core.specs.Stands.{Meaning}
use Rattle.reactor_core.specs.Upcalls.{HasNoPick, JobFits}
use Rattle.reactor_core.specs.Views.{net_of, watch_of, volumes_of, over_of, job_event}
use Rattle.reactor_core.specs.declared.job.Job.{Job}
use Rattle.reactor_core.specs.declared.polling.Polled.{Polled}
use Rattle.reactor_core.specs.declared.polling.Polled.TheVariants as polled
use Rattle.reactor_desk.specs.Desks.{DeskStands, FromDesk, core_of, looks_of, is_started}
use Rattle.reactor_desk.specs.Draining.{IsRunning, FoundEmpty}
use Rattle.reactor_desk.specs.declared.terms.DeskTerms.{DeskTerms}
use Rattle.reactor_desk.specs.declared.desk.Desk.{Desk}
use Rattle.reactor_desk.specs.declared.leading.Led.{Led}
use Rattle.reactor_desk.specs.declared.leading.Led.TheVariants as led

-- One wait of the net, which has more places than before and is else as it was, for the lesser of
-- the limit and the time to the first deadline. Its entries: `Polled`, the timers that come due,
-- and the reports that are taken.
pub record WaitsOnNet {E N : Type 0} (most : Option ℕ) (h : List (Entry N)) (before : NetFacts E)
    (polled : Polled) (entries : List (Entry N)) (now : NetFacts E) : Type 0 where
  pub net : NetFacts E
  pub answer : Waited
  pub moment : ℕ
  pub timers : List ℕ
  pub reserves : Reserves before net
  pub waits : NetWaits net (least_limit most (time_left (summary (past_of h)))) answer now
  pub named : name_of answer ≡ Some polled
  pub answered : IsAnsweredAt moment answer
  pub due : AreDue (after (summary (past_of h)) (entry.Polled moment)) timers
  pub are : entries ≡ entry.Polled moment
      ∷ (map due_of timers ++ map ready_of (filter (is_taken (summary (past_of h))) now.reports))

-- No event could be started, so there was one wait, which found this. It left the net as it is
-- left, but for more places.
pub record WaitedFor {E N : Type 0} (most : Option ℕ) (h : List (Entry N)) (before : NetFacts E)
    (entries : List (Entry N)) (left : NetFacts E) (P : Polled → Type 0) : Type 0 where
  pub none : HasNoPick (past_of h)
  pub polled : Polled
  pub now : NetFacts E
  pub waits : WaitsOnNet most h before polled entries now
  pub stays : Reserves now left
  pub found : P polled

-- One wait of the net was made, which failed.
pub record WaitFails {E : Type 0} (before left : NetFacts E) : Type 0 where
  pub net : NetFacts E
  pub reserves : Reserves before net
  pub fails : FailsToWait net left

-- the wait found that nothing can be reported any more, or something else
abbrev pub IsOver : Polled → Type 0
IsOver polled.Over = Unit {0}
IsOver polled.Events = ⊥
IsOver polled.Quiet = ⊥

abbrev pub IsNotOver : Polled → Type 0
IsNotOver polled.Over = ⊥
IsNotOver polled.Events = Unit {0}
IsNotOver polled.Quiet = Unit {0}

-- the entries of a wait, if there was one: exactly if no event could be started before
abbrev pub MayHaveWaited : {E N : Type 0} → Option ℕ → List (Entry N) → NetFacts E → List (Entry N)
    → NetFacts E → Type 0
MayHaveWaited most h before entries left =
    ((entries ≡ []) × Reserves before left)
    ⊎ WaitedFor most h before entries left (λ polled. Unit {0})

-- this holds of some list of entries
abbrev pub SomeList : {N : Type 0} → (List (Entry N) → Type 0) → Type 0
SomeList {N} P = (list : List (Entry N)) × P list

-- The event of the job is the next of the history, or of the history with the entries of one wait,
-- if it had none. Its start is the last entry of the list that is left.
pub record Dispatches {H M Q W V N E : Type 0} (m : Meaning H M Q W V N E) (q : DeskTerms) (F : ℕ)
    (h : List (Entry N)) (most : Option ℕ) (before : NetFacts E) (job : Job H N E)
    (new : Desk H M Q W V N E) (list : List (Entry N)) : Type 0 where
  pub waited : List (Entry N)
  pub may : MayHaveWaited most h before waited (m.facts (net_of (core_of new)))
  pub pick : IsTrue (is_pick (past_of (h ++ waited)) (job_event job))
  pub fits : JobFits m.means q.run (entry.Started (job_event job) ∷ past_of (h ++ waited)) job
  pub leaves : list ≡ (h ++ waited) ++ entry.Started (job_event job) ∷ []
  pub stands : DeskStands m q F new list

-- After a wait no event could be started. The list that is left is the history with its entries.
pub record Idles {H M Q W V N E : Type 0} (m : Meaning H M Q W V N E) (q : DeskTerms) (F : ℕ)
    (h : List (Entry N)) (most : Option ℕ) (before : NetFacts E) (P : Polled → Type 0)
    (new : Desk H M Q W V N E) (list : List (Entry N)) : Type 0 where
  pub entries : List (Entry N)
  pub waited : WaitedFor most h before entries (m.facts (net_of (core_of new))) P
  pub leaves : list ≡ h ++ entries
  pub none : HasNoPick (past_of list)
  pub stands : DeskStands m q F new list

-- The wait failed, so the list that is left is the history.
pub record FailsWait {H M Q W V N E : Type 0} (m : Meaning H M Q W V N E) (q : DeskTerms) (F : ℕ)
    (h : List (Entry N)) (before : NetFacts E) (new : Desk H M Q W V N E) (list : List (Entry N))
    : Type 0 where
  pub none : HasNoPick (past_of h)
  pub fails : WaitFails before (m.facts (net_of (core_of new)))
  pub leaves : list ≡ h
  pub stands : DeskStands m q F new h

-- what is left if there was no memory: what was recorded
pub record Leaves {H M Q W V N E : Type 0} (m : Meaning H M Q W V N E) (q : DeskTerms) (F : ℕ)
    (h : List (Entry N)) (most : Option ℕ) (before : NetFacts E) (new : Desk H M Q W V N E)
    (list : List (Entry N)) : Type 0 where
  pub entries : List (Entry N)
  pub may : MayHaveWaited most h before entries (m.facts (net_of (core_of new)))
  pub leaves : list ≡ h ++ entries
  pub stands : DeskStands m q F new list

-- the desk stands, but that its drainer may have looked only once more than there were starts
pub record StandsForStart {H M Q W V N E : Type 0} (m : Meaning H M Q W V N E) (q : DeskTerms)
    (F : ℕ) (desk : Desk H M Q W V N E) (h : List (Entry N)) : Type 0 where
  pub stands : DeskStands m q F desk h
  pub looked : count is_started (drop q.found h) + 1 ≤ looks_of desk

-- the start after a wait is right if it stands so for a history; and P holds of each
abbrev pub StartsFrom : {H M Q W V N E : Type 0} → Meaning H M Q W V N E → Desk H M Q W V N E
    → Type 0
StartsFrom {N = N} m desk = (q : DeskTerms) × (F : ℕ) × (h : List (Entry N))
    × StandsForStart m q F desk h

abbrev pub FromStart : {H M Q W V N E : Type 0} → Meaning H M Q W V N E → Desk H M Q W V N E
    → (DeskTerms → ℕ → List (Entry N) → Type 0) → Type 0
FromStart {N = N} m desk P = (q : DeskTerms) (F : ℕ) (h : List (Entry N))
    → StandsForStart m q F desk h → P q F h

-- what the start after a wait that found this gives
abbrev pub GivesBehind : {H M Q W V N E : Type 0} → Meaning H M Q W V N E → DeskTerms → ℕ
    → List (Entry N) → Polled → Led H N E → Desk H M Q W V N E → Type 0
GivesBehind m q F h polled (led.Job job) new =
    IsTrue (is_pick (past_of h) (job_event job))
    × JobFits m.means q.run (entry.Started (job_event job) ∷ past_of h) job
    × DeskStands m q F new (h ++ entry.Started (job_event job) ∷ [])
GivesBehind m q F h polled led.Quiet new =
    IsNotOver polled × HasNoPick (past_of h) × DeskStands m q F new h
GivesBehind m q F h polled led.Over new =
    IsOver polled × HasNoPick (past_of h) × DeskStands m q F new h
GivesBehind m q F h polled led.NoMemory new = DeskStands m q F new h
GivesBehind m q F h polled led.NetFault new = ⊥
GivesBehind m q F h polled led.Stopped new = ⊥
GivesBehind m q F h polled led.Broken new = ⊥
GivesBehind m q F h polled led.VolumeFault new = ⊥

-- What the lead of a desk gives once the postings were drained, and the list that it leaves.
abbrev pub DispatchGives : {H M Q W V N E : Type 0} → Meaning H M Q W V N E → DeskTerms → ℕ
    → List (Entry N) → Option ℕ → NetFacts E → Led H N E → Desk H M Q W V N E → List (Entry N)
    → Type 0
DispatchGives m q F h most before (led.Job job) new list =
    Dispatches m q F h most before job new list
DispatchGives m q F h most before led.Quiet new list = Idles m q F h most before IsNotOver new list
DispatchGives m q F h most before led.Over new list = Idles m q F h most before IsOver new list
DispatchGives m q F h most before led.NetFault new list = FailsWait m q F h before new list
DispatchGives m q F h most before led.NoMemory new list = Leaves m q F h most before new list
DispatchGives m q F h most before led.Stopped new list = ⊥
DispatchGives m q F h most before led.Broken new list = ⊥
DispatchGives m q F h most before led.VolumeFault new list = ⊥

-- Unless there was no memory, 256 postings were drained, or the ring was found empty.
abbrev pub HasDrained : {H M Q W V N E : Type 0} → Led H N E → List (Entry N) → Desk H M Q W V N E
    → Type 0
HasDrained led.NoMemory notices new = Unit {0}
HasDrained led notices new = (length notices ≡ 256) ⊎ FoundEmpty new

-- a volume was handed over if one was due, and postings were drained, at most 256
pub record LeadsOn {H M Q W V N E : Type 0} (m : Meaning H M Q W V N E) (q : DeskTerms) (F : ℕ)
    (h : List (Entry N)) (most : Option ℕ) (old : Desk H M Q W V N E) (led : Led H N E)
    (new : Desk H M Q W V N E) (list : List (Entry N)) : Type 0 where
  pub first : ℕ
  pub within : first ≤ length h
  pub notices : List (Entry N)
  pub are : list_all is_notice notices ≡ true
  pub few : length notices ≤ 256
  pub drained : HasDrained led notices new
  pub net : NetFacts E
  pub reserves : Reserves (m.facts (net_of (core_of old))) net
  pub gives : DispatchGives m q first (h ++ notices) most net led new list

-- it was not stopped, and its watch is whole
pub record MayLead {H M Q W V N E : Type 0} (m : Meaning H M Q W V N E) (h : List (Entry N))
    (old : Desk H M Q W V N E) : Type 0 where
  pub running : IsRunning h
  pub whole : m.is_broken (watch_of (core_of old)) ≡ false

-- a desk does not lead if entries were appended in the same hold: a volume is due, it was
-- stopped, or its watch failed
abbrev pub MayNotLeadOn : {H M Q W V N E : Type 0} → Meaning H M Q W V N E → ℕ → List (Entry N)
    → Desk H M Q W V N E → Type 0
MayNotLeadOn m F h old = ((summary (past_of h)).ended ≡ true)
    ⊎ ((m.is_broken (watch_of (core_of old)) ≡ true) ⊎ (is_due (core_of old) F h ≡ true))

-- What the lead of a desk gives, and the list that it leaves.
abbrev pub LeadGives : {H M Q W V N E : Type 0} → Meaning H M Q W V N E → DeskTerms → ℕ
    → List (Entry N) → Option ℕ → Desk H M Q W V N E → Led H N E → Desk H M Q W V N E
    → List (Entry N) → Type 0
LeadGives m q F h most old led.Stopped new list =
    ((summary (past_of h)).ended ≡ true) × (new ≡ old) × (list ≡ h)
LeadGives m q F h most old led.Broken new list =
    IsRunning h × (m.is_broken (watch_of (core_of old)) ≡ true) × (new ≡ old) × (list ≡ h)
LeadGives m q F h most old led.VolumeFault new list =
    MayLead m h old × DeskStands m q F new h × (list ≡ h)
LeadGives m q F h most old led new list = MayLead m h old × LeadsOn m q F h most old led new list

-- What a lead tells by the counts of the desk: with a fault that of its cause rose in this call, or
-- for the watch above what the terms had at the start; with Over the last wait that was answered so
-- is the last of all, and with Quiet it is that of before this call.
abbrev pub LeadTells : {H M Q W V N E : Type 0} → Meaning H M Q W V N E → Desk H M Q W V N E
    → Led H N E → Desk H M Q W V N E → Type 0
LeadTells m old led.NetFault new =
    Rose (m.facts (net_of (core_of old))).failed_waits (m.facts (net_of (core_of new))).failed_waits
LeadTells m old led.VolumeFault new =
    Rose (m.volumes (volumes_of (core_of old))).faults (m.volumes (volumes_of (core_of new))).faults
LeadTells m old led.Broken new = FromDesk m new
    (λ q F h. (before : ℕ) → q.run.output_faults ≡ Some before
    → Rose before (m.faults (watch_of (core_of new))))
LeadTells m old led.Quiet new = over_of (core_of new) ≡ over_of (core_of old)
LeadTells m old led.Over new = FromDesk m new
    (λ q F h. over_of (core_of new) ≡ count is_polled (past_of h))
LeadTells m old _ new = Unit {0}

-- With every other answer than VolumeFault the count of faults of the volumes is what it was: so a
-- volume that was not taken is told.
abbrev pub TellsVolumeFault : {H M Q W V N E : Type 0} → Meaning H M Q W V N E → Desk H M Q W V N E
    → Led H N E → Desk H M Q W V N E → Type 0
TellsVolumeFault m old answer new = (answer ≡ led.VolumeFault → ⊥)
    → (m.volumes (volumes_of (core_of new))).faults ≡ (m.volumes (volumes_of (core_of old))).faults

-- the event of the job, if there is one
abbrev pub event_of : {H N E : Type 0} → Led H N E → Option ℕ
event_of (led.Job job) = Some (job_event job)
event_of _ = None
