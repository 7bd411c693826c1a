-- What a desk stands for: the history of its reactor, in which each drained notification is
-- recorded (POSA2, Leader/Followers: the shared handle set).
use Rattle.std.specs.Prelude.{ℕ, ◌≡◌, ◌≤◌, ◌-◌, ◌^◌, min, Bool, true, false, List, [], ◌∷◌, drop}
use Rattle.std.specs.Prelude.{filter, Some}
use Rattle.atomic_table.specs.Seated.{TableId}
use Rattle.ev_base.specs.Terms.{open_terms}
use Rattle.leader_token.specs.Lists.{NoneAbove}
use Rattle.notify_ring.specs.Words.{drainer_ring, drainer_view}
use Rattle.notify_ring.specs.declared.parts.Drainer.{Drainer}
use Rattle.reactor_model.specs.reactor_journal.specs.declared.entry.Entry.{Entry}
use Rattle.reactor_model.specs.reactor_journal.specs.declared.entry.Entry.TheVariants.{Started}
use Rattle.reactor_model.specs.reactor_journal.specs.Past.{count}
use Rattle.laws_by_turns.specs.ByTurns.{GoesByTurns}
use Rattle.reactor_core.specs.Marks.{is_polled}
use Rattle.reactor_core.specs.Stands.{Meaning, Stands}
use Rattle.reactor_core.specs.Views.{net_of, watch_of, volume_of, volumes_of, over_of}
use Rattle.reactor_core.specs.declared.reactor.Core.{Core}
use Rattle.reactor_desk.specs.Notices.{AreRecorded}
use Rattle.reactor_model.specs.Entries.{is_notice}
use Rattle.reactor_desk.specs.declared.terms.DeskTerms.{DeskTerms}
use Rattle.reactor_desk.specs.declared.desk.Desk.{Desk}

-- its reactor and its drainer
abbrev pub core_of : {H M Q W V N E : Type 0} → Desk H M Q W V N E → Core H M Q W V N E
core_of desk = desk.core

abbrev pub drainer_of : {H M Q W V N E : Type 0} → Desk H M Q W V N E → Drainer
drainer_of desk = desk.drainer

-- how many entries its reactor handed over
abbrev pub first_of : {H M Q W V N E : Type 0} → Desk H M Q W V N E → ℕ
first_of desk = desk.core.first

-- terms that leave all open, for views that say nothing
abbrev pub no_ring : TableId
no_ring = record {
  words = 0;
  slots = 0;
  views_name = 0;
  atom = 0;
  block = 0;
  offset = 0;
  slot_names = [];
}

abbrev pub no_terms : DeskTerms
no_terms = record { found = 0; volume = 0; run = open_terms 0; ring = no_ring }

-- the entry of the start of an upcall
abbrev pub is_started : {N : Type 0} → Entry N → Bool
is_started (Started event) = true
is_started _ = false

-- how often the drainer looked at a gate
abbrev pub looks_of : {H M Q W V N E : Type 0} → Desk H M Q W V N E → ℕ
looks_of desk = (drainer_view (drainer_of desk)).loads

-- if entries were handed over, they are at least as many as a volume has
abbrev pub FillsVolume : ℕ → ℕ → Type 0
FillsVolume volume first = 1 ≤ first → volume ≤ first

-- Under the terms the desk stands for the history h, of which its reactor handed the first F
-- entries over: none, or at least as many as a volume has. If the terms name the entry from
-- which on the history goes by turns, it does. The drainer belongs to the ring of the terms, what
-- it took is recorded in the history, in order, and it looked at least as often as there were
-- waits, and as there were starts, since the desk was made.
pub record DeskStands {H M Q W V N E : Type 0} (m : Meaning H M Q W V N E) (q : DeskTerms) (F : ℕ)
    (desk : Desk H M Q W V N E) (h : List (Entry N)) : Type 0 where
  pub core : Stands m q.run (core_of desk) F h
  pub by_turn : (b : ℕ) → q.run.by_turn ≡ Some b → GoesByTurns m.means q.run b h
  pub volume : volume_of (core_of desk) ≡ q.volume
  pub filled : FillsVolume q.volume F
  pub ring : drainer_ring (drainer_of desk) ≡ q.ring
  pub recorded : AreRecorded (filter is_notice h) (drainer_view (drainer_of desk)).got
  pub waits : count is_polled (drop q.found h) ≤ looks_of desk
  pub starts : count is_started (drop q.found h) ≤ looks_of desk

-- a call is right if the desk stands for a history with P
abbrev pub DeskWith : {H M Q W V N E : Type 0} → Meaning H M Q W V N E
    → (DeskTerms → List (Entry N) → Type 0) → Desk H M Q W V N E → Type 0
DeskWith {N = N} m P desk = (q : DeskTerms) × (F : ℕ) × (h : List (Entry N))
    × DeskStands m q F desk h × P q h

-- P holds of each history that the desk stands for
abbrev pub FromDesk : {H M Q W V N E : Type 0} → Meaning H M Q W V N E → Desk H M Q W V N E
    → (DeskTerms → ℕ → List (Entry N) → Type 0) → Type 0
FromDesk {N = N} m desk P = (q : DeskTerms) (F : ℕ) (h : List (Entry N)) → DeskStands m q F desk h
    → P q F h

-- a count of faults, up to the end at which counts stand still
abbrev pub capped : ℕ → ℕ
capped n = min n (2 ^ 64 - 1)

-- The numbers of a desk that never fall, which are those of its reactor: the counts of faults of
-- the watch, of waits, of attaches and of the volumes, and the number of the last wait that was
-- answered Over.
abbrev pub core_marks : {H M Q W V N E : Type 0} → Meaning H M Q W V N E → Core H M Q W V N E
    → List ℕ
core_marks m core =
    m.faults (watch_of core) ∷ capped (m.facts (net_of core)).failed_waits
    ∷ capped (m.facts (net_of core)).failed_attaches
    ∷ capped (m.volumes (volumes_of core)).faults ∷ over_of core ∷ []

abbrev pub marks_of : {H M Q W V N E : Type 0} → Meaning H M Q W V N E → Desk H M Q W V N E → List ℕ
marks_of m desk = core_marks m (core_of desk)

-- none of them fell
pub record KeepsMarks {H M Q W V N E : Type 0} (m : Meaning H M Q W V N E)
    (old new : Desk H M Q W V N E) : Type 0 where
  pub above : NoneAbove (marks_of m old) (marks_of m new)
