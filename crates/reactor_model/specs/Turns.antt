-- Turns of a handler, and what their acts promise.
use Rattle.std.specs.Prelude.{◌≡◌, ◌≢◌, ◌≤◌, ℕ, true, List, [], ◌∷◌, ◌++◌, Option, Some, None}
use Rattle.reactor_journal.specs.ev_types.specs.declared.upcall.Answer.TheVariants.{Again, Close}
use Rattle.reactor_journal.specs.ev_types.specs.declared.upcall.Upcall.{Upcall}
use Rattle.reactor_journal.specs.ev_types.specs.declared.upcall.Upcall.TheVariants.{Input, Output}
use Rattle.reactor_journal.specs.ev_types.specs.declared.upcall.Upcall.TheVariants.{Except, Timeout}
use Rattle.reactor_journal.specs.ev_types.specs.declared.upcall.Upcall.TheVariants.{Notice}
use Rattle.ev_base.specs.Terms.{Terms}
use Rattle.reactor_journal.specs.Event.{Item, Origin}
use Rattle.reactor_model.specs.Handling.{Installing, Masking, Cancelling, Stopping, Handling}
use Rattle.reactor_model.specs.declared.handler.Turn.{Turn}
use Rattle.reactor_model.specs.declared.handler.Act.{Act}
use Rattle.reactor_model.specs.declared.handler.Act.TheVariants.{Install, MaskMine, CancelMine}
use Rattle.reactor_model.specs.declared.handler.Act.TheVariants.{Stop}

-- the greatest delay and period of a timer, in milliseconds
abbrev pub most_milliseconds : ℕ
most_milliseconds = 4294967295

-- a timer's first delay is from 1 and its period from 0 to that
abbrev pub IsTimer : Option (ℕ × ℕ) → Type 0
IsTimer None = Unit {0}
IsTimer (Some timer) = (1 ≤ timer.0) × (timer.0 ≤ most_milliseconds) × (timer.1 ≤ most_milliseconds)

-- An act may be done: a turn of this upcall may carry it, and an offered handler fits no turns,
-- with the turn that offers it as its origin.
abbrev pub MayAct : {H E N : Type 0} → Handling H E N → Terms → Upcall → Origin N
    → Option (Act H N E) → Type 0
MayAct means t up origin None = Unit {0}
MayAct means t up origin (Some (Install handler mask timer)) =
    means.may t up (Installing mask timer) × means.fits t (Some origin) handler []
MayAct means t up origin (Some (MaskMine mask)) = means.may t up Masking
MayAct means t up origin (Some (CancelMine timer)) = means.may t up Cancelling
MayAct means t up origin (Some Stop) = means.may t up Stopping

-- a turn: what was had and the item of this turn are fitted, and its act may be done
pub record TakesTurn {H E N : Type 0} (means : Handling H E N) (t : Terms)
    (origin : Option (Origin N)) (up : Upcall) (now : ℕ)
    (had : List (Item N)) (handler : H) (turn : Turn H N E) : Type 0 where
  pub fits : means.fits t origin handler
      (had ++ record { upcall = up; moment = now; answer = turn.answer; note = turn.note } ∷ [])
  pub act : MayAct means t up (record { note = turn.note; moment = now }) turn.act

abbrev pub IsTimeout : Upcall → Type 0
IsTimeout Input = ⊥
IsTimeout Output = ⊥
IsTimeout Except = ⊥
IsTimeout (Timeout timer) = Unit {0}
IsTimeout (Notice kind) = ⊥

-- an act that a turn with the answer Close may carry: none of the handler's own registration
abbrev pub IsNotOfMine : {H N E : Type 0} → Option (Act H N E) → Type 0
IsNotOfMine None = Unit {0}
IsNotOfMine (Some (Install handler mask timer)) = Unit {0}
IsNotOfMine (Some (MaskMine mask)) = ⊥
IsNotOfMine (Some (CancelMine timer)) = ⊥
IsNotOfMine (Some Stop) = Unit {0}

abbrev pub IsInstall : {H N E : Type 0} → Option (Act H N E) → Type 0
IsInstall None = ⊥
IsInstall (Some (Install handler mask timer)) = Unit {0}
IsInstall (Some (MaskMine mask)) = ⊥
IsInstall (Some (CancelMine timer)) = ⊥
IsInstall (Some Stop) = ⊥

abbrev pub HasTimer : {H N E : Type 0} → Option (Act H N E) → Type 0
HasTimer None = Unit {0}
HasTimer (Some (Install handler mask timer)) = IsTimer timer
HasTimer (Some (MaskMine mask)) = Unit {0}
HasTimer (Some (CancelMine timer)) = Unit {0}
HasTimer (Some Stop) = Unit {0}

-- what every handler promises of a turn
pub record KeepsPromises {H E N : Type 0} (means : Handling H E N) (up : Upcall)
    (turn : Turn H N E) : Type 0 where
  pub close : turn.answer ≡ Close → IsNotOfMine turn.act
  pub timeout : IsTimeout up → turn.answer ≢ Again
  pub timer : HasTimer turn.act
  pub installs : means.installs turn.note ≡ true → IsInstall turn.act
