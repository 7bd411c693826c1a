-- When a one-thread reactor stands for a history: the entries that it handed over, then those that
-- it holds (POSA2, Reactor: Initiation Dispatcher; C++NPv2 chapter 3, `ACE_Reactor`).
use Rattle.std.specs.Prelude.{ℕ, ◌≡◌, ◌≤◌, ◌+◌, ◌^◌, Bool, true, false, List, [], ◌++◌, length}
use Rattle.std.specs.Prelude.{take, drop, Option, Some, None}
use Rattle.std.specs.List.{list_any}
use Rattle.ev_base.specs.Terms.{Terms}
use Rattle.ev_base.specs.Net.{NetFacts, Reserves}
use Rattle.ev_base.specs.declared.net.Report.{Report}
use Rattle.reactor_model.specs.reactor_journal.specs.declared.entry.Entry.{Entry}
use Rattle.reactor_model.specs.reactor_journal.specs.Past.{past_of, count}
use Rattle.reactor_model.specs.reactor_journal.specs.Follow.{Legal}
use Rattle.reactor_summary.specs.Summary.{Summary, summary, some_wait, is_overdue}
use Rattle.reactor_model.specs.Handling.{Handling}
use Rattle.reactor_model.specs.Volumes.{VolumesFacts, IsNext}
use Rattle.reactor_state.specs.State.{owed, no_places}
use Rattle.reactor_state.specs.declared.places.Places.{Places}
use Rattle.reactor_state.specs.declared.places.Pick.{Pick}
use Rattle.reactor_state.specs.declared.state.ReactorState.{ReactorState}
use Rattle.reactor_core.specs.Handlers.{RepositoryStands}
use Rattle.reactor_core.specs.Ends.{WhereTold, ThereIs, live_numbers, live_masks, AreRetired}
use Rattle.reactor_core.specs.Ends.{AreTurnedAway}
use Rattle.reactor_model.specs.Entries.{is_fault}
use Rattle.reactor_core.specs.Calls.{AreCalls}
use Rattle.reactor_core.specs.Marks.{MarksStand, told_answers}
use Rattle.reactor_core.specs.declared.reactor.Core.{Core}

-- What the things outside mean and tell: the handlers' relations, what a net tells and keeps, the
-- list and the spare places of a timer queue, what a watch stands for, and what volumes tell.
pub record Meaning (H M Q W V N E : Type 0) : Type 1 where
  pub means : Handling H E N
  pub facts : M → NetFacts E
  pub keeps : Terms → M → Type 0
  pub shows : ReactorState Q → Summary → Type 0
  pub places : Places → ReactorState Q → Type 0
  pub placed : ReactorState Q → Pick → Type 0
  pub watched : Terms → W → List (Entry N) → Type 0
  pub faults : W → ℕ
  pub is_broken : W → Bool
  pub whole : W → ℕ
  pub volumes : V → VolumesFacts N

abbrev pub meaning : {H M Q W V N E : Type 0} → Handling H E N → (M → NetFacts E)
    → (Terms → M → Type 0) → (ReactorState Q → Summary → Type 0)
    → (Places → ReactorState Q → Type 0) → (ReactorState Q → Pick → Type 0)
    → (Terms → W → List (Entry N) → Type 0) → (W → ℕ) → (W → Bool) → (W → ℕ) → (V → VolumesFacts N)
    → Meaning H M Q W V N E
meaning means facts keeps shows places placed watched faults is_broken whole volumes =
    record {
      means = means;
      facts = facts;
      keeps = keeps;
      shows = shows;
      places = places;
      placed = placed;
      watched = watched;
      faults = faults;
      is_broken = is_broken;
      whole = whole;
      volumes = volumes;
    }

-- the entries held are those of the history from number F on
pub record JournalStands {H M Q W V N E : Type 0} (core : Core H M Q W V N E) (F : ℕ)
    (h : List (Entry N)) : Type 0 where
  pub first : core.first ≡ F
  pub within : F ≤ length h
  pub entries : core.journal.entries ≡ drop F h

-- the net: its attached handles and their masks are the live ones, the ends that it was given back
-- are gone as the journal says, and its calls are those that the journal tells
pub record NetStands {H E N : Type 0} (means : Handling H E N) (t : Terms) (past : List (Entry N))
    (pending : List Report) (net : NetFacts E) : Type 0 where
  pub retired : ThereIs (λ ends. AreRetired means t past ends) net.retired
  pub turned_away : ThereIs (λ ends. AreTurnedAway means t past ends) net.turned_away
  pub attached : net.attached ≡ live_numbers (summary past)
  pub masks : WhereTold (λ masks. masks ≡ live_masks (summary past)) net.masks
  pub faults : count is_fault past ≤ net.failed_attaches
  pub steady : t.steady ≡ Some true → net.steady ≡ true
  pub calls : WhereTold (λ calls. AreCalls means t past pending calls) net.calls
  pub moment : (summary past).moment ≤ net.now

-- the volumes tell as many entries as the terms name for the start, followed by the first F of the
-- history
abbrev pub HasTaken : {N : Type 0} → Terms → ℕ → List (Entry N) → List (Entry N) → Type 0
HasTaken t F h taken = (before : List _) × (taken ≡ before ++ take F h)
    × ((n : ℕ) → t.volumes_taken ≡ Some n → length before ≡ n)

-- and the next entry that they are to take is number F of the history, if they keep count
pub record VolumesStand {N : Type 0} (t : Terms) (F : ℕ) (h : List (Entry N))
    (volumes : VolumesFacts N) : Type 0 where
  pub taken : WhereTold (HasTaken t F h) volumes.taken
  pub next : IsNext volumes.next F

-- What holds between any two steps of a call: the core tracks the history, with the handler of one
-- handle in hand, or none, and with reports of the last wait still to be taken, or none.
pub record Tracks {H M Q W V N E : Type 0} (m : Meaning H M Q W V N E) (t : Terms)
    (core : Core H M Q W V N E) (F : ℕ) (h : List (Entry N))
    (hand : Option ℕ) (pending : List Report) : Type 0 where
  pub most : core.most ≡ t.most
  pub few : core.most ≤ 4097
  pub legal : Legal h t.most
  pub journal : JournalStands core F h
  pub state : m.shows core.state (summary (past_of h))
  pub repository : RepositoryStands m.means t (past_of h) hand core.repo.entries
  pub net : NetStands m.means t (past_of h) pending (m.facts core.net)
  pub keeps : m.keeps t core.net
  pub watch : m.watched t core.watch h
  pub volumes : VolumesStand t F h (m.volumes core.volumes)
  pub marks : MarksStand core.marks (past_of h) (told_answers (m.facts core.net).calls)

-- no handle waits for its `Closed`, no armed deadline is reached, and once the reactor was stopped
-- no handle is alive
pub record IsSettled (s : Summary) : Type 0 where
  pub none_waits : some_wait s ≡ false
  pub none_due : is_overdue s ≡ false
  pub none_alive : s.ended ≡ true → list_any (λ h. h.alive) s.handles ≡ false

-- for each open event there are places for a registration, its timer and an event, and so many
-- places more
abbrev pub places_for : ℕ → Places → Places
places_for open_events more = record {
  handles = open_events + more.handles;
  timers = open_events + more.timers;
  timeouts = open_events + more.timeouts;
  events = open_events + more.events;
  opens = more.opens;
}

-- There is room for what is owed, and for so many entries and places more. Five entries are owed
-- for each open event, two for each alive handle, one for each other live one, and one while the
-- reactor was not stopped; so no handler is lost for want of memory.
pub record HasRoom {H M Q W V N E : Type 0} (m : Meaning H M Q W V N E) (entries : ℕ)
    (more : Places) (core : Core H M Q W V N E) (s : Summary) : Type 0 where
  pub journal : owed s + entries ≤ core.journal.spare
  pub numbers : s.entries + (owed s + entries) ≤ 2 ^ 62
  pub state : m.places (places_for (length s.opens) more) core.state
  pub repository : length s.opens + more.handles ≤ core.repo.spare
  pub net : length s.opens + more.handles ≤ (m.facts core.net).spare

-- The core stands for the history h, of which it handed the first F entries over.
pub record Stands {H M Q W V N E : Type 0} (m : Meaning H M Q W V N E) (t : Terms)
    (core : Core H M Q W V N E) (F : ℕ) (h : List (Entry N)) : Type 0 where
  pub tracks : Tracks m t core F h None []
  pub settled : IsSettled (summary (past_of h))
  pub room : HasRoom m 0 no_places core (summary (past_of h))

abbrev pub IsStanding : {H M Q W V N E : Type 0} → Meaning H M Q W V N E → Core H M Q W V N E
    → Type 0
IsStanding {N = N} m core = (t : Terms) × (F : ℕ) × (h : List (Entry N)) × Stands m t core F h

-- a call is right if the core stands for a history with P
abbrev pub StandsWith : {H M Q W V N E : Type 0} → Meaning H M Q W V N E
    → (Terms → List (Entry N) → Type 0) → Core H M Q W V N E → Type 0
StandsWith {N = N} m P core = (t : Terms) × (F : ℕ) × (h : List (Entry N)) × Stands m t core F h
    × P t h

-- whatever history the old core stood for, the new one stands for it too
abbrev pub StandsAsBefore : {H M Q W V N E : Type 0} → Meaning H M Q W V N E → Core H M Q W V N E
    → Core H M Q W V N E → Type 0
StandsAsBefore {N = N} m old new =
    (t : Terms) (F : ℕ) (h : List (Entry N)) → Stands m t old F h → Stands m t new F h

-- nothing was changed but that there is more room
pub record Keeps {H M Q W V N E : Type 0} (m : Meaning H M Q W V N E)
    (old new : Core H M Q W V N E) : Type 0 where
  pub most : new.most ≡ old.most
  pub volume : new.volume ≡ old.volume
  pub first : new.first ≡ old.first
  pub entries : new.journal.entries ≡ old.journal.entries
  pub spare : old.journal.spare ≤ new.journal.spare
  pub shows : (s : Summary) → m.shows old.state s → m.shows new.state s
  pub places : (p : Places) → m.places p old.state → m.places p new.state
  pub placed : (p : Pick) → m.placed old.state p → m.placed new.state p
  pub handlers : new.repo.entries ≡ old.repo.entries
  pub seats : old.repo.spare ≤ new.repo.spare
  pub net : Reserves (m.facts old.net) (m.facts new.net)
  pub net_keeps : (t : Terms) → m.keeps t old.net → m.keeps t new.net
  pub watch : new.watch ≡ old.watch
  pub volumes : new.volumes ≡ old.volumes
  pub marks : new.marks ≡ old.marks

-- the room that the start of an upcall takes: its own entry and five for its settling; and a
-- registration with its timer, the timer that is armed again, and the event that an Again makes
abbrev pub upcall_entries : ℕ
upcall_entries = 6

abbrev pub upcall_places : Places
upcall_places = record { handles = 1; timers = 2; timeouts = 1; events = 1; opens = 1 }

-- a step may be made: the core tracks some history with P, with a handler in hand or none
abbrev pub TracksWith : {H M Q W V N E : Type 0} → Meaning H M Q W V N E → Option ℕ → List Report
    → (Terms → List (Entry N) → Type 0) → Core H M Q W V N E → Type 0
TracksWith {N = N} m hand pending P core =
    (t : Terms) × (F : ℕ) × (h : List (Entry N)) × Tracks m t core F h hand pending × P t h

-- so many entries were appended, and no other room was lost
pub record SpendsRoom {H M Q W V N E : Type 0} (m : Meaning H M Q W V N E) (entries : ℕ)
    (old new : Core H M Q W V N E) : Type 0 where
  pub journal : old.journal.spare ≤ new.journal.spare + entries
  pub places : (p : Places) → m.places p old.state → m.places p new.state
  pub seats : old.repo.spare ≤ new.repo.spare
  pub net : (m.facts old.net).spare ≤ (m.facts new.net).spare

-- the core stands for the history, with room for so many entries and places more
pub record StandsWithRoom {H M Q W V N E : Type 0} (m : Meaning H M Q W V N E) (entries : ℕ)
    (more : Places) (t : Terms) (core : Core H M Q W V N E) (F : ℕ) (h : List (Entry N)) : Type 0
  where
    pub tracks : Tracks m t core F h None []
    pub settled : IsSettled (summary (past_of h))
    pub room : HasRoom m entries more core (summary (past_of h))

-- no handle waits for its `Closed`, and no armed deadline is reached
pub record IsQuiet (s : Summary) : Type 0 where
  pub none_waits : some_wait s ≡ false
  pub none_due : is_overdue s ≡ false

-- the core stands for the history but that handles may be alive once it was stopped, as they are
-- while `stop` removes them
pub record StandsQuiet {H M Q W V N E : Type 0} (m : Meaning H M Q W V N E) (t : Terms)
    (core : Core H M Q W V N E) (F : ℕ) (h : List (Entry N)) : Type 0 where
  pub tracks : Tracks m t core F h None []
  pub quiet : IsQuiet (summary (past_of h))
  pub room : HasRoom m 0 no_places core (summary (past_of h))

abbrev pub QuietWith : {H M Q W V N E : Type 0} → Meaning H M Q W V N E
    → (Terms → List (Entry N) → Type 0) → Core H M Q W V N E → Type 0
QuietWith {N = N} m P core = (t : Terms) × (F : ℕ) × (h : List (Entry N)) × StandsQuiet m t core F h
    × P t h

-- P holds of each history that the core stands for, of which it handed the first F entries over
abbrev pub From : {H M Q W V N E : Type 0} → Meaning H M Q W V N E → Core H M Q W V N E
    → (Terms → ℕ → List (Entry N) → Type 0) → Type 0
From {N = N} m core P = (t : Terms) (F : ℕ) (h : List (Entry N)) → Stands m t core F h → P t F h

-- the same of each that it stands for with so much room, of each that it stands for but that
-- handles may be alive once it was stopped, and of each that it tracks
abbrev pub FromRoom : {H M Q W V N E : Type 0} → Meaning H M Q W V N E → ℕ → Places
    → Core H M Q W V N E → (Terms → ℕ → List (Entry N) → Type 0) → Type 0
FromRoom {N = N} m entries more core P =
    (t : Terms) (F : ℕ) (h : List (Entry N)) → StandsWithRoom m entries more t core F h → P t F h

abbrev pub FromQuiet : {H M Q W V N E : Type 0} → Meaning H M Q W V N E → Core H M Q W V N E
    → (Terms → ℕ → List (Entry N) → Type 0) → Type 0
FromQuiet {N = N} m core P = (t : Terms) (F : ℕ) (h : List (Entry N)) → StandsQuiet m t core F h
    → P t F h

abbrev pub FromTracks : {H M Q W V N E : Type 0} → Meaning H M Q W V N E → Option ℕ → List Report
    → Core H M Q W V N E → (Terms → ℕ → List (Entry N) → Type 0) → Type 0
FromTracks {N = N} m hand pending core P =
    (t : Terms) (F : ℕ) (h : List (Entry N)) → Tracks m t core F h hand pending → P t F h

-- a step may be made: the core stands with so much room for some history with P
abbrev pub RoomWith : {H M Q W V N E : Type 0} → Meaning H M Q W V N E → ℕ → Places
    → (Terms → List (Entry N) → Type 0) → Core H M Q W V N E → Type 0
RoomWith {N = N} m entries more P core =
    (t : Terms) × (F : ℕ) × (h : List (Entry N)) × StandsWithRoom m entries more t core F h × P t h

-- what a step asks for holds of some history; and R holds of each history of which it does
abbrev pub Somewhere : {H M Q W V N E : Type 0}
    → (Terms → Core H M Q W V N E → ℕ → List (Entry N) → Type 0) → Core H M Q W V N E → Type 0
Somewhere {N = N} P core = (t : Terms) × (F : ℕ) × (h : List (Entry N)) × P t core F h

abbrev pub Each : {H M Q W V N E : Type 0}
    → (Terms → Core H M Q W V N E → ℕ → List (Entry N) → Type 0) → Core H M Q W V N E
    → (Terms → ℕ → List (Entry N) → Type 0) → Type 0
Each {N = N} P core R = (t : Terms) (F : ℕ) (h : List (Entry N)) → P t core F h → R t F h
