-- What a call leaves of a desk, as a token's holder needs it: one history, which begins with the
-- one found, and the open events.
use Rattle.std.specs.Prelude.{ℕ, ◌≡◌, ◌≤◌, ◌+◌, List, [], ◌∷◌, ◌++◌, length, Option, Some}
use Rattle.leader_token.specs.Lists.{is_event, Begins}
use Rattle.leader_token.specs.list_lemmas.specs.Times.{times}
use Rattle.reactor_model.specs.reactor_journal.specs.declared.entry.Entry.{Entry}
use Rattle.reactor_model.specs.reactor_journal.specs.Past.{past_of}
use Rattle.reactor_core.specs.laws_turns.specs.Opens.{opens_of}
use Rattle.reactor_core.specs.Stands.{Meaning}
use Rattle.reactor_core.specs.Upcalls.{DoneFits}
use Rattle.reactor_core.specs.Views.{done_event}
use Rattle.reactor_core.specs.Settling.{returned}
use Rattle.reactor_core.specs.declared.acting.Settled.{Settled}
use Rattle.reactor_core.specs.declared.job.Done.{Done}
use Rattle.reactor_desk.specs.Desks.{DeskStands}
use Rattle.reactor_desk.specs.Leading.{LeadGives, event_of}
use Rattle.reactor_desk.specs.Settling.{SettlesDesk}
use Rattle.reactor_desk.specs.declared.terms.DeskTerms.{DeskTerms}
use Rattle.reactor_desk.specs.declared.desk.Desk.{Desk}
use Rattle.reactor_desk.specs.declared.leading.Led.{Led}

-- The desk stands for the list, which begins with the history found, and of which no more was
-- handed over than that had. Its open events are those of the history and one more, or none.
pub record HistoryLeft {H M Q W V N E : Type 0} (m : Meaning H M Q W V N E) (q : DeskTerms)
    (h : List (Entry N)) (new : Desk H M Q W V N E) (list : List (Entry N)) (mine : Option ℕ) : Type
    0 where
  pub first : ℕ
  pub within : first ≤ length h
  pub stands : DeskStands m q first new list
  pub begins : Begins h list
  pub opens : (e : ℕ) → times e (opens_of list) ≡ times e (opens_of h) + is_event e mine

-- a lead leaves the event of its job open
abbrev pub LeadLeaves : {H M Q W V N E : Type 0} → Meaning H M Q W V N E → Type 0
LeadLeaves {H} {M} {Q} {W} {V} {N} {E} m =
    (q : DeskTerms) (F : ℕ) (h : List (Entry N)) (most : Option ℕ) (old : Desk H M Q W V N E)
    (led : Led H N E) (new : Desk H M Q W V N E) (list : List (Entry N)) → DeskStands m q F old h
    → LeadGives m q F h most old led new list → HistoryLeft m q h new list (event_of led)

-- the history that a settling leaves
abbrev pub history_settled : {H N E : Type 0} → List (Entry N) → Done H N E → List (Entry N)
    → List (Entry N) → List (Entry N)
history_settled h done closing acted = ((h ++ returned done ∷ []) ++ closing) ++ acted

-- It begins with the one found, and the event that was settled is open no more, which was open
-- once.
pub record SettledLeft {N : Type 0} (h list : List (Entry N)) (event : ℕ) : Type 0 where
  pub begins : Begins h list
  pub own : times event (opens_of h) ≡ 1
  pub opens : (e : ℕ) → times e (opens_of list) + is_event e (Some event) ≡ times e (opens_of h)

abbrev pub SettleLeaves : {H M Q W V N E : Type 0} → Meaning H M Q W V N E → Type 0
SettleLeaves {H} {M} {Q} {W} {V} {N} {E} m =
    (q : DeskTerms) (F : ℕ) (h : List (Entry N)) (done : Done H N E) (old new : Desk H M Q W V N E)
    (settled : Settled) → DeskStands m q F old h → DoneFits m.means q.run (past_of h) done
    → (settles : SettlesDesk m q F h done old new settled)
    → SettledLeft h (history_settled h done settles.settles.closing settles.settles.acted)
    (done_event done)

-- a desk stands for one history at most among those that begin with a list of which no more was
-- handed over than it has
abbrev pub StandsForOne : {H M Q W V N E : Type 0} → Meaning H M Q W V N E → Type 0
StandsForOne {H} {M} {Q} {W} {V} {N} {E} m =
    (q : DeskTerms) (base one other : List (Entry N)) (n F : ℕ) (desk : Desk H M Q W V N E)
    → F ≤ length base → Begins base one → Begins base other
    → DeskStands m q n desk one → DeskStands m q F desk other → one ≡ other
