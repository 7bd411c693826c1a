-- What a caller's requests leave of a desk: they are those of its reactor, and it stands for the
-- history with their entries.
use Rattle.std.specs.Prelude.{ℕ, ◌≡◌, not, List, [], ◌∷◌, ◌++◌, Option, None, Result, Ok, Err}
use Rattle.ev_base.specs.ev_types.specs.declared.upcall.Handle.{Handle}
use Rattle.ev_base.specs.ev_types.specs.declared.upcall.Mask.{Mask}
use Rattle.reactor_model.specs.reactor_journal.specs.declared.entry.Entry.{Entry}
use Rattle.reactor_model.specs.reactor_journal.specs.declared.entry.Entry.TheVariants.{Removed}
use Rattle.reactor_model.specs.reactor_journal.specs.Past.{past_of}
use Rattle.reactor_core.specs.reactor_summary.specs.Summary.{Summary, summary, is_busy}
use Rattle.reactor_core.specs.Acting.{StopAppends}
use Rattle.reactor_core.specs.Offering.{RegisterGives}
use Rattle.reactor_core.specs.Registering.{registered}
use Rattle.reactor_core.specs.Settling.{IsClosing}
use Rattle.reactor_core.specs.Stands.{Meaning}
use Rattle.reactor_core.specs.declared.registering.RegisterRefused.{RegisterRefused}
use Rattle.reactor_desk.specs.Desks.{DeskStands, DeskWith, FromDesk, core_of}
use Rattle.reactor_desk.specs.declared.terms.DeskTerms.{DeskTerms}
use Rattle.reactor_desk.specs.declared.desk.Desk.{Desk}

-- callers may ask: the terms name no entry from which on the history goes by turns
abbrev pub MayAsk : DeskTerms → Type 0
MayAsk q = q.run.by_turn ≡ None

-- a request is right if the desk stands for a history and callers may ask
abbrev pub IsAskable : {H M Q W V N E : Type 0} → Meaning H M Q W V N E → Desk H M Q W V N E
    → Type 0
IsAskable m desk = DeskWith m (λ q h. MayAsk q) desk

-- P holds of each history that the desk stands for, if callers may ask
abbrev pub WhereAsked : {H M Q W V N E : Type 0} → Meaning H M Q W V N E → Desk H M Q W V N E
    → (DeskTerms → ℕ → List (Entry N) → Type 0) → Type 0
WhereAsked m desk P = FromDesk m desk (λ q F h. MayAsk q → P q F h)

-- P holds of what each history sums up to that the desk stands for
abbrev pub WhereDesk : {H M Q W V N E : Type 0} → Meaning H M Q W V N E → Desk H M Q W V N E
    → (Summary → Type 0) → Type 0
WhereDesk m desk P = FromDesk m desk (λ q F h. P (summary (past_of h)))

-- whatever history the old desk stood for, the new one stands for it with this entry after it
abbrev pub DeskGoesOnBy : {H M Q W V N E : Type 0} → Meaning H M Q W V N E → Desk H M Q W V N E
    → (Summary → Entry N) → Desk H M Q W V N E → Type 0
DeskGoesOnBy m old e new = WhereAsked m old
    (λ q F h. DeskStands m q F new (h ++ e (summary (past_of h)) ∷ []))

-- or for it as before
abbrev pub DeskAsBefore : {H M Q W V N E : Type 0} → Meaning H M Q W V N E → Desk H M Q W V N E
    → Desk H M Q W V N E → Type 0
DeskAsBefore m old new = FromDesk m old (λ q F h. DeskStands m q F new h)

-- the history that a registration leaves
abbrev pub history_offered : {H N : Type 0} → List (Entry N) → Mask → Option (ℕ × ℕ)
    → Result Handle (H × RegisterRefused) → List (Entry N)
history_offered h mask timer (Ok handle) = h ++ registered (summary (past_of h)) handle mask timer
history_offered h mask timer (Err refused) = h

-- its reactor registered the handler or gave it back
pub record DeskRegisters {H M Q W V N E : Type 0} (m : Meaning H M Q W V N E) (q : DeskTerms)
    (F : ℕ) (h : List (Entry N)) (mask : Mask) (timer : Option (ℕ × ℕ)) (old : Desk H M Q W V N E)
    (result : Result Handle (H × RegisterRefused)) (new : Desk H M Q W V N E) : Type 0 where
  pub gives : RegisterGives m q.run F h mask timer (core_of old) result (core_of new)
  pub stands : DeskStands m q F new (history_offered h mask timer result)

-- a handle that was alive was removed, and its handler closed if it was at home
pub record DeskRemoves {H M Q W V N E : Type 0} (m : Meaning H M Q W V N E) (q : DeskTerms) (F : ℕ)
    (h : List (Entry N)) (handle : Handle) (new : Desk H M Q W V N E) : Type 0 where
  pub entries : List (Entry N)
  pub closing : IsClosing (not (is_busy (summary (past_of h)) handle.0)) handle entries
  pub stands : DeskStands m q F new ((h ++ Removed handle ∷ []) ++ entries)

-- it was stopped, and each handle that was alive removed, or it had been stopped before
pub record DeskStops {H M Q W V N E : Type 0} (m : Meaning H M Q W V N E) (q : DeskTerms) (F : ℕ)
    (h : List (Entry N)) (new : Desk H M Q W V N E) : Type 0 where
  pub entries : List (Entry N)
  pub appends : StopAppends (summary (past_of h)) (summary (past_of h)).ended entries
  pub stands : DeskStands m q F new (h ++ entries)
