-- What a drain appends: one entry for each posting taken.
use Rattle.std.specs.Prelude.{ℕ, ◌≡◌, ◌⊎◌, ◌≤◌, ◌+◌, Bool, true, false, List, [], ◌∷◌, ◌++◌, length}
use Rattle.std.specs.Prelude.{drop, Result, Ok, Err}
use Rattle.std.specs.List.{list_all}
use Rattle.ev_base.specs.Net.{Reserves}
use Rattle.ev_base.specs.ev_types.specs.declared.refusal.NoMemory.{NoMemory}
use Rattle.notify_ring.specs.Words.{drainer_view}
use Rattle.reactor_model.specs.reactor_journal.specs.declared.entry.Entry.{Entry}
use Rattle.reactor_model.specs.reactor_journal.specs.Past.{past_of, count}
use Rattle.reactor_core.specs.reactor_summary.specs.Summary.{summary}
use Rattle.reactor_core.specs.Marks.{is_polled}
use Rattle.reactor_core.specs.Rest.{LeavesRest}
use Rattle.reactor_core.specs.Stands.{Meaning}
use Rattle.reactor_core.specs.Views.{net_of}
use Rattle.reactor_model.specs.Entries.{is_notice}
use Rattle.reactor_desk.specs.Desks.{DeskStands, core_of, drainer_of, looks_of, is_started}
use Rattle.reactor_desk.specs.declared.terms.DeskTerms.{DeskTerms}
use Rattle.reactor_desk.specs.declared.desk.Desk.{Desk}

-- the reactor was not stopped
abbrev pub IsRunning : {N : Type 0} → List (Entry N) → Type 0
IsRunning h = (summary (past_of h)).ended ≡ false

-- the drainer looked once more than there were waits, and than there were starts
pub record HasLooked {H M Q W V N E : Type 0} (q : DeskTerms) (desk : Desk H M Q W V N E)
    (h : List (Entry N)) : Type 0 where
  pub waits : count is_polled (drop q.found h) + 1 ≤ looks_of desk
  pub starts : count is_started (drop q.found h) + 1 ≤ looks_of desk

-- so many postings were taken, and each is recorded
pub record DrainsSome {H M Q W V N E : Type 0} (m : Meaning H M Q W V N E) (q : DeskTerms) (F : ℕ)
    (h : List (Entry N)) (taken : ℕ) (old new : Desk H M Q W V N E) : Type 0 where
  pub notices : List (Entry N)
  pub are : list_all is_notice notices ≡ true
  pub many : length notices ≡ taken
  pub stands : DeskStands m q F new (h ++ notices)
  pub looks : looks_of old + taken ≤ looks_of new

-- One posting was taken and is recorded; or the ring was found empty. Either is a look, or several.
pub record RecordsOne {H M Q W V N E : Type 0} (m : Meaning H M Q W V N E) (q : DeskTerms) (F : ℕ)
    (h : List (Entry N)) (new : Desk H M Q W V N E) : Type 0 where
  pub notice : Entry N
  pub is : is_notice notice ≡ true
  pub stands : DeskStands m q F new (h ++ notice ∷ [])

abbrev pub Looks : {H M Q W V N E : Type 0} → Desk H M Q W V N E → Desk H M Q W V N E → Type 0
Looks old new = looks_of old + 1 ≤ looks_of new

-- the last look found the ring empty
abbrev pub FoundEmpty : {H M Q W V N E : Type 0} → Desk H M Q W V N E → Type 0
FoundEmpty desk = (drainer_view (drainer_of desk)).gate ≡ 0

abbrev pub DrainsOne : {H M Q W V N E : Type 0} → Meaning H M Q W V N E → DeskTerms → ℕ
    → List (Entry N) → Result Bool NoMemory → Desk H M Q W V N E → Desk H M Q W V N E → Type 0
DrainsOne m q F h (Ok true) old new = Looks old new × RecordsOne m q F h new
DrainsOne m q F h (Ok false) old new = Looks old new × FoundEmpty new × DeskStands m q F new h
DrainsOne m q F h (Err refused) old new = (looks_of old ≤ looks_of new) × DeskStands m q F new h

-- The answer tells how many were taken, of which there are 256, or the last look found the ring
-- empty. Want of memory leaves what was recorded.
abbrev pub IsDrained : {H M Q W V N E : Type 0} → DeskTerms → List (Entry N) → Result ℕ NoMemory → ℕ
    → Desk H M Q W V N E → Type 0
IsDrained q h (Ok n) many new = (n ≡ many) × ((n ≡ 256) ⊎ FoundEmpty new) × HasLooked q new h
IsDrained q h (Err refused) many new = Unit {0}

pub record Drains {H M Q W V N E : Type 0} (m : Meaning H M Q W V N E) (q : DeskTerms) (F : ℕ)
    (h : List (Entry N)) (result : Result ℕ NoMemory) (old new : Desk H M Q W V N E) : Type 0 where
  pub taken : ℕ
  pub few : taken ≤ 256
  pub some : DrainsSome m q F h taken old new
  pub answer : IsDrained q (h ++ some.notices) result taken new

-- What a drain leaves of the reactor: its net has more places and is else as it was, and so is the
-- rest.
pub record LeavesDrained {H M Q W V N E : Type 0} (m : Meaning H M Q W V N E)
    (old new : Desk H M Q W V N E) : Type 0 where
  pub net : Reserves (m.facts (net_of (core_of old))) (m.facts (net_of (core_of new)))
  pub rest : LeavesRest m (core_of old) (core_of new)
