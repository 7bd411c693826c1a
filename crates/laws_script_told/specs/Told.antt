-- What a script tells a reactor in the waits of its journal (POSA2, Reactor: Synchronous Event
-- Demultiplexer; scripts are this project's own).
use Rattle.std.specs.Prelude.{◌≡◌, ℕ, ◌-◌, Bool, true, false, ◌&&◌, List, [], ◌∷◌, filter, Option}
use Rattle.std.specs.Prelude.{Some, None, option_map, option_and_then}
use Rattle.event_script.specs.ev_base.specs.Terms.{StepEnd, Group}
use Rattle.event_script.specs.ev_base.specs.declared.net.Report.{Report}
use Rattle.event_script.specs.ev_base.specs.declared.net.Waited.{Waited}
use Rattle.event_script.specs.ev_base.specs.declared.net.Waited.TheVariants as waited_by
use Rattle.log_handler.specs.reactor_journal.specs.Event.{Origin}
use Rattle.log_handler.specs.reactor_journal.specs.declared.entry.Entry.{Entry}
use Rattle.log_handler.specs.reactor_journal.specs.declared.entry.Entry.TheVariants.{Opened, Polled}
use Rattle.log_handler.specs.reactor_journal.specs.declared.entry.Entry.TheVariants.{Masked}
use Rattle.log_handler.specs.reactor_journal.specs.declared.entry.Entry.TheVariants.{Refused}
use Rattle.log_handler.specs.reactor_journal.specs.declared.entry.Entry.TheVariants.{Closed}
use Rattle.log_handler.specs.reactor_journal.specs.Past.{past_of, now, armed, is_alive, mask_of}
use Rattle.log_handler.specs.reactor_journal.specs.Past.{has_kind, offered_here}
use Rattle.log_handler.specs.reactor_model.specs.Entries.{IsAnsweredAt, taken_before}
use Rattle.log_handler.specs.declared.note.ServerNote.{ServerNote}
use Rattle.log_handler.specs.Connections.{accepted_in}
use Rattle.event_script.specs.ev_base.specs.Playing.{Playing, at_start, waited, attached, mask_set}
use Rattle.event_script.specs.ev_base.specs.Playing.{retired, turned_away, end_of_serial}

-- the time from the moment to the first deadline, if a timer is armed
abbrev pub first_deadline_in : List (ℕ × ℕ) → Option ℕ
first_deadline_in [] = None
first_deadline_in (a ∷ rest) = Some a.0

abbrev pub time_left_in : {N : Type 0} → List (Entry N) → Option ℕ
time_left_in past = option_map (λ deadline. deadline - now past) (first_deadline_in (armed past))

-- the end of the handler that is offered here: that of the connection which the turn just settled
-- has accepted, else the listener
abbrev pub number_accepted : Option (Origin ServerNote) → Option ℕ
number_accepted origin = option_and_then (λ o. accepted_in o.note) origin

abbrev pub end_offered : List (Entry ServerNote) → StepEnd
end_offered past = end_of_serial (number_accepted (offered_here past))

-- How far the script was played in a past: by its waits, which last to the first deadline, and by
-- the ends that were attached, retired and turned away.
abbrev pub told_after : List (Entry ServerNote) → Entry ServerNote → Playing → Playing
told_after past (Opened handle mask) p = attached handle.0 mask (end_offered past) p
told_after past (Polled moment) p = (waited (time_left_in past) p).next
told_after past (Masked handle mask) p = mask_set handle.0 mask p
told_after past (Refused live fault note) p = turned_away (end_offered past) p
told_after past (Closed handle note) p = retired handle.0 p
told_after past _ p = p

abbrev pub told : List Group → List (Entry ServerNote) → Playing
told groups [] = at_start groups
told groups (e ∷ past) = told_after past e (told groups past)

-- a report that becomes a `Ready`: its handle is alive and its kind in the mask
abbrev pub is_taken_in : {N : Type 0} → List (Entry N) → Report → Bool
is_taken_in past report = is_alive past report.handle.0
    && has_kind (mask_of past report.handle.0) report.kind

-- A wait was answered at the moment that the script tells, and these are its reports that are
-- taken.
pub record IsTold (groups : List Group) (past : List (Entry ServerNote)) (moment : ℕ)
    (taken : List Report) : Type 0 where
  pub moment_is : IsAnsweredAt moment (waited (time_left_in past) (told groups past)).answer
  pub are_taken : taken ≡ filter (is_taken_in past)
      (waited (time_left_in past) (told groups past)).reports

abbrev pub IsToldEntry : List Group → List (Entry ServerNote) → List Report → Entry ServerNote
    → Type 0
IsToldEntry groups past taken (Polled moment) = IsTold groups past moment taken
IsToldEntry groups past taken _ = Unit {0}

-- each wait of the past was as the script tells, if these reports were taken after it
abbrev pub FollowsBefore : List Group → List (Entry ServerNote) → List Report → Type 0
FollowsBefore groups [] taken = Unit {0}
FollowsBefore groups (e ∷ past) taken =
    IsToldEntry groups past taken e × FollowsBefore groups past (taken_before e taken)

-- the journal follows the script
abbrev pub Follows : List Group → List (Entry ServerNote) → Type 0
Follows groups journal = FollowsBefore groups (past_of journal) []

-- the wait of the last `Polled` as the script answers it, if there was one
abbrev pub last_wait : List Group → List (Entry ServerNote) → Option Waited
last_wait groups [] = None
last_wait groups (Polled moment ∷ past) =
    Some (waited (time_left_in past) (told groups past)).answer
last_wait groups (e ∷ past) = last_wait groups past

abbrev pub is_over : Option Waited → Bool
is_over (Some (waited_by.Over now)) = true
is_over _ = false
