-- What a type of event handlers means by the turns that its handlers had (C++NPv2 chapter 3:
-- `ACE_Event_Handler`).
use Rattle.std.specs.Prelude.{◌≡◌, ℕ, Bool, List, [], ◌∷◌, Option, Some, None}
use Rattle.reactor_journal.specs.ev_types.specs.declared.upcall.Answer.{Answer}
use Rattle.reactor_journal.specs.ev_types.specs.declared.upcall.Answer.TheVariants.{Keep, Again}
use Rattle.reactor_journal.specs.ev_types.specs.declared.upcall.Answer.TheVariants.{Close}
use Rattle.reactor_journal.specs.ev_types.specs.declared.upcall.Mask.{Mask}
use Rattle.reactor_journal.specs.ev_types.specs.declared.upcall.Upcall.{Upcall}
use Rattle.reactor_journal.specs.ev_types.specs.declared.upcall.Why.{Why}
use Rattle.ev_base.specs.Terms.{Terms}
use Rattle.reactor_journal.specs.Event.{Item, Origin}

-- What an act asks for: of an `Install` the mask and the timer, as first delay and period in
-- milliseconds; of every other act its kind alone.
pub data Deed : Type 0 where
  Installing : (mask : Mask) (timer : Option (ℕ × ℕ)) → Deed
  Masking : Deed
  Cancelling : Deed
  Stopping : Deed

-- The relations of a type of handlers H, with ends E and notes N. Each has the terms that a run
-- starts with, and the origin of the handler: the turn that offered it, or none.
pub record Handling (H E N : Type 0) : Type 1 where
  -- the handler has had exactly these turns
  pub fits : Terms → Option (Origin N) → H → List (Item N) → Type 0
  -- what it leaves when it is closed for the reason: its end and a note
  pub gone : Terms → Option (Origin N) → E → List (Item N) → Why → N → Type 0
  -- which acts a turn of the upcall may carry
  pub may : Terms → Upcall → Deed → Type 0
  -- the notes whose turn always carries an `Install`
  pub installs : N → Bool
  -- what an origin says of the serial number of the handler's end: nothing, or exactly which it is,
  -- if the end has one at all
  pub serial : Terms → Option (Origin N) → Option (Option ℕ)

-- no answer is Close
abbrev pub GoesOn : Answer → Type 0
GoesOn Keep = Unit {0}
GoesOn Again = Unit {0}
GoesOn Close = ⊥

abbrev pub NoClose : {N : Type 0} → List (Item N) → Type 0
NoClose [] = Unit {0}
NoClose (item ∷ items) = GoesOn item.answer × NoClose items

-- the last answer is Close
abbrev pub IsClose : Answer → Type 0
IsClose Keep = ⊥
IsClose Again = ⊥
IsClose Close = Unit {0}

abbrev pub EndsInClose : {N : Type 0} → List (Item N) → Type 0
EndsInClose [] = ⊥
EndsInClose (item ∷ []) = IsClose item.answer
EndsInClose (item ∷ next ∷ items) = EndsInClose (next ∷ items)

-- if something is said of a serial number, it is as said
abbrev pub Names : Option (Option ℕ) → Option ℕ → Type 0
Names None serial = Unit {0}
Names (Some named) serial = serial ≡ named
