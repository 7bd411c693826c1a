-- What the act of a turn appends once the turn is settled (C++NPv2 chapter 3, the calls that an
-- upcall makes of its reactor).
use Rattle.std.specs.Prelude.{ℕ, ◌≡◌, ◌==◌, ◌⊎◌, ◌<◌, Bool, true, false, not, ◌||◌, ◌+◌, List, []}
use Rattle.std.specs.Prelude.{◌∷◌, ◌++◌, length, find, Option, Some, None, option_map}
use Rattle.reactor_summary.specs.ev_types.specs.declared.upcall.Handle.{Handle}
use Rattle.reactor_summary.specs.ev_types.specs.declared.upcall.Mask.{Mask}
use Rattle.ev_base.specs.Counts.{Rose}
use Rattle.ev_base.specs.Terms.{Terms}
use Rattle.reactor_model.specs.reactor_journal.specs.declared.entry.Entry.{Entry}
use Rattle.reactor_model.specs.reactor_journal.specs.declared.entry.Entry.TheVariants.{Masked}
use Rattle.reactor_model.specs.reactor_journal.specs.declared.entry.Entry.TheVariants.{Cancelled}
use Rattle.reactor_model.specs.reactor_journal.specs.declared.entry.Entry.TheVariants.{Refused}
use Rattle.reactor_model.specs.reactor_journal.specs.declared.entry.Entry.TheVariants.{Ended}
use Rattle.reactor_model.specs.reactor_journal.specs.Past as P
use Rattle.reactor_model.specs.reactor_journal.specs.Past.{past_of, count}
use Rattle.reactor_summary.specs.Summary.{Summary, summary, is_alive, is_busy, armed_timer}
use Rattle.reactor_summary.specs.Rules.{live}
use Rattle.reactor_model.specs.Handling.{Handling}
use Rattle.reactor_model.specs.Turns.{IsTimer}
use Rattle.reactor_model.specs.declared.handler.Act.{Act}
use Rattle.reactor_model.specs.declared.handler.Act.TheVariants.{Install, MaskMine, CancelMine}
use Rattle.reactor_model.specs.declared.handler.Act.TheVariants.{Stop}
use Rattle.std.specs.List.{list_any}
use Rattle.reactor_model.specs.Entries.{is_fault}
use Rattle.reactor_core.specs.Stands.{Meaning, Stands}
use Rattle.reactor_core.specs.Registering.{HasPlaceFor, IsFull, IsOffered, registered}
use Rattle.reactor_core.specs.Removing.{AreRemovals, alive_handles}
use Rattle.reactor_core.specs.Settling.{IsClosing, returned}
use Rattle.reactor_core.specs.declared.reactor.Core.{Core}
use Rattle.reactor_core.specs.declared.job.Done.{Done}
use Rattle.reactor_core.specs.declared.acting.Settled.{Settled}

-- an act that is given to the reactor: a handler that is offered fits no turns, and its timer is
-- within the limits
abbrev pub FitsAct : {H E N : Type 0} → Handling H E N → Terms → List (Entry N) → Option (Act H N E)
    → Type 0
FitsAct means t past None = Unit {0}
FitsAct means t past (Some (Install handler mask timer)) =
    IsOffered means t past handler × IsTimer timer
FitsAct means t past (Some (MaskMine mask)) = Unit {0}
FitsAct means t past (Some (CancelMine timer)) = Unit {0}
FitsAct means t past (Some Stop) = Unit {0}

-- whether a timer is one of the handle, and is armed or has an event that waits to be started
abbrev pub is_of : ℕ → Option Handle → Bool
is_of x None = false
is_of x (Some handle) = handle.0 == x

abbrev pub is_mine : Summary → ℕ → ℕ → Bool
is_mine s x timer =
    is_of x (option_map (λ a. a.handle) (armed_timer s timer))
    || is_of x (option_map (λ w. w.handle) (find (λ w. P.is_timeout_of timer w.upcall) s.waiting))

-- The refusal of an offered handler: for a fault exactly if there was a place for it and the
-- net's count of failed attaches rose, and else because the reactor was stopped or is full.
abbrev pub IsRefusalCause : ℕ → Summary → ℕ → ℕ → Bool → Type 0
IsRefusalCause most s before after true = HasPlaceFor most s × Rose before after
IsRefusalCause most s before after false = (s.ended ≡ true) ⊎ IsFull most s

-- whether an offered handler may be registered, for all that the reactor knows
abbrev pub CanInstall : ℕ → Summary → Bool → Type 0
CanInstall most s true = HasPlaceFor most s
CanInstall most s false = (s.ended ≡ true) ⊎ IsFull most s

pub record IsRefusal {N : Type 0} (most : ℕ) (s : Summary) (before after : ℕ)
    (entries : List (Entry N)) : Type 0 where
  pub fault : Bool
  pub note : N
  pub cause : IsRefusalCause most s before after fault
  pub is : entries ≡ Refused (live s) fault note ∷ []

pub record IsRegistration {N : Type 0} (most : ℕ) (s : Summary) (mask : Mask)
    (timer : Option (ℕ × ℕ)) (entries : List (Entry N)) : Type 0 where
  pub handle : Handle
  pub number : handle.0 ≡ s.opened
  pub place : HasPlaceFor most s
  pub is : entries ≡ registered s handle mask timer

abbrev pub InstallAppends : {N : Type 0} → ℕ → Summary → Mask → Option (ℕ × ℕ) → ℕ → ℕ
    → List (Entry N) → Type 0
InstallAppends most s mask timer before after entries =
    IsRegistration most s mask timer entries ⊎ IsRefusal most s before after entries

-- the mask of the handle if it is alive, the timer if it is one of the handle, and else
-- nothing
abbrev pub mask_mine : {N : Type 0} → Bool → Handle → Mask → List (Entry N)
mask_mine true handle mask = Masked handle mask ∷ []
mask_mine false handle mask = []

abbrev pub cancel_mine : {N : Type 0} → Bool → ℕ → List (Entry N)
cancel_mine true timer = Cancelled timer ∷ []
cancel_mine false timer = []

-- the end, if the reactor was not stopped before
abbrev pub StopAppends : {N : Type 0} → Summary → Bool → List (Entry N) → Type 0
StopAppends s true entries = entries ≡ []
StopAppends {N} s false entries = (removals : List (Entry N))
    × AreRemovals (is_busy s) (alive_handles s) removals × (entries ≡ Ended ∷ removals)

-- what the act of a turn appends; `before` and `after` are the net's counts of failed attaches
abbrev pub ActAppends : {H N E : Type 0} → ℕ → Summary → Handle → Option (Act H N E) → ℕ → ℕ
    → List (Entry N) → Type 0
ActAppends most s handle None before after entries = entries ≡ []
ActAppends most s handle (Some (Install handler mask timer)) before after entries =
    InstallAppends most s mask timer before after entries
ActAppends most s handle (Some (MaskMine mask)) before after entries =
    entries ≡ mask_mine (is_alive s handle.0) handle mask
ActAppends most s handle (Some (CancelMine timer)) before after entries =
    entries ≡ cancel_mine (is_mine s handle.0 timer) timer
ActAppends most s handle (Some Stop) before after entries = StopAppends s s.ended entries

-- the count of failed attaches stands, unless a handler was refused for a fault of the net
abbrev pub CountsFaults : {N : Type 0} → List (Entry N) → ℕ → ℕ → Type 0
CountsFaults entries before after = list_any is_fault entries ≡ false → after ≡ before

-- the act was done
pub record Acts {H M Q W V N E : Type 0} (m : Meaning H M Q W V N E) (t : Terms) (F : ℕ)
    (h : List (Entry N)) (handle : Handle) (act : Option (Act H N E))
    (old new : Core H M Q W V N E) : Type 0 where
  pub entries : List (Entry N)
  pub appends : ActAppends t.most (summary (past_of h)) handle act (m.facts old.net).failed_attaches
      (m.facts new.net).failed_attaches entries
  pub faults : CountsFaults entries (m.facts old.net).failed_attaches
      (m.facts new.net).failed_attaches
  pub stands : Stands m t new F (h ++ entries)

-- an offered handler was registered or refused
pub record Installs {H M Q W V N E : Type 0} (m : Meaning H M Q W V N E) (t : Terms) (F : ℕ)
    (h : List (Entry N)) (mask : Mask) (timer : Option (ℕ × ℕ))
    (old new : Core H M Q W V N E) : Type 0 where
  pub entries : List (Entry N)
  pub appends : InstallAppends t.most (summary (past_of h)) mask timer
      (m.facts old.net).failed_attaches (m.facts new.net).failed_attaches entries
  pub faults : CountsFaults entries (m.facts old.net).failed_attaches
      (m.facts new.net).failed_attaches
  pub stands : Stands m t new F (h ++ entries)

-- a handler may be refused: the reactor was stopped or is full, or the net's count of faults has
-- room for one more
abbrev pub MayRefuseHandler : {H M Q W V N E : Type 0} → Meaning H M Q W V N E → ℕ
    → Core H M Q W V N E
    → List (Entry N) → Bool → Type 0
MayRefuseHandler m most core past true = count is_fault past < (m.facts core.net).failed_attaches
MayRefuseHandler m most core past false = ((summary past).ended ≡ true) ⊎ IsFull most (summary past)

-- What `settle` leaves: the `Returned` of the upcall; the `Closed` of its handler if its handle
-- is not alive any more; and what its act appends. The answer has the length of the history, how
-- many handlers it closed or refused, and whether it was stopped.
pub record Settles {H M Q W V N E : Type 0} (m : Meaning H M Q W V N E) (t : Terms) (F : ℕ)
    (h : List (Entry N)) (done : Done H N E) (old new : Core H M Q W V N E)
    (settled : Settled) : Type 0 where
  pub closing : List (Entry N)
  pub is_closing : IsClosing (not (is_alive (summary (returned done ∷ past_of h)) done.handle.0))
      done.handle closing
  pub acted : List (Entry N)
  pub is_acted : ActAppends t.most (summary (past_of ((h ++ returned done ∷ []) ++ closing)))
      done.handle done.turn.act (m.facts old.net).failed_attaches (m.facts new.net).failed_attaches
      acted
  pub faults : CountsFaults acted (m.facts old.net).failed_attaches
      (m.facts new.net).failed_attaches
  pub stands : Stands m t new F (((h ++ returned done ∷ []) ++ closing) ++ acted)
  pub entries : settled.entries ≡ length (((h ++ returned done ∷ []) ++ closing) ++ acted)
  pub closed : settled.closed ≡ (summary
      (past_of (((h ++ returned done ∷ []) ++ closing) ++ acted))).closed
      + (summary (past_of (((h ++ returned done ∷ []) ++ closing) ++ acted))).refused
  pub ended : settled.ended ≡ (summary
      (past_of (((h ++ returned done ∷ []) ++ closing) ++ acted))).ended
