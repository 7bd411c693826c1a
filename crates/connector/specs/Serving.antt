-- What a service promises of a turn.
use Rattle.std.specs.Prelude.{◌≡◌, ℕ, List, [], ◌∷◌, ◌++◌}
use Rattle.ev_base.specs.ev_types.specs.declared.upcall.Answer.{Answer}
use Rattle.ev_base.specs.ev_types.specs.declared.upcall.Upcall.{Upcall}
use Rattle.ev_base.specs.End.{EndFacts}
use Rattle.reactor_model.specs.reactor_journal.specs.Event.{Item}
use Rattle.reactor_model.specs.Handling.{NoClose}

-- it is the same kind of end, under its own number, and was not asked whether its connection is
-- made
pub record IsSameDial (old new : EndFacts) : Type 0 where
  pub listener : new.listener ≡ old.listener
  pub finishes : new.finishes ≡ old.finishes
  pub last_finish : new.last_finish ≡ old.last_finish
  pub serial : new.serial ≡ old.serial

-- one turn more: what stood for turns none of which answered Close stands for these and this one
abbrev pub AddsTurn : {N : Type 0} → (List (Item N) → Type 0) → Type 0 → Upcall → ℕ → Answer × N
    → (List (Item N) → Type 0) → Type 0
AddsTurn {N} before keeps up now turn after =
    (had : List (Item N)) → NoClose had → keeps → before had
    → after (had ++ record { upcall = up; moment = now; answer = turn.0; note = turn.1 } ∷ [])
