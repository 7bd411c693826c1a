-- What a worker knows once its upcall was settled.
use Rattle.std.specs.Prelude.{ℕ, List, [], ◌∷◌, ◌++◌, Option, None, Some}
use Rattle.leader_token.specs.declared.kept.View.{View}
use Rattle.reactor_model.specs.reactor_journal.specs.declared.entry.Entry.{Entry}
use Rattle.reactor_core.specs.Settling.{returned}
use Rattle.reactor_core.specs.Stands.{Meaning}
use Rattle.reactor_core.specs.declared.acting.Settled.{Settled}
use Rattle.reactor_core.specs.declared.job.Done.{Done}
use Rattle.reactor_desk.specs.Settling.{SettlesDesk}
use Rattle.reactor_desk.specs.declared.terms.DeskTerms.{DeskTerms}
use Rattle.reactor_desk.specs.declared.desk.Desk.{Desk}
use Rattle.reactor_desk.specs.declared.leading.Led.{Led}
use Rattle.tp_reactor.specs.Led.{Finds, LeavesDesk, IsLed}

-- The upcall of a caller that knew v and knows w from then on was settled: its `Returned`, the
-- closing of its handler or nothing, and what its act appends.
pub record HasSettled {H M Q W V N E : Type 0} (m : Meaning H M Q W V N E)
    (v : View (Entry N) DeskTerms) (done : Done H N E) (settled : Settled)
    (w : View (Entry N) DeskTerms) : Type 0 where
  pub found : Desk H M Q W V N E
  pub left : Desk H M Q W V N E
  pub first : ℕ
  pub history : List (Entry N)
  pub finds : Finds m v first history found
  pub settles : SettlesDesk m v.terms first history done found left settled
  pub leaves : LeavesDesk m v found left
      (((history ++ returned done ∷ []) ++ settles.settles.closing) ++ settles.settles.acted) None w

-- In one hold of the token the upcall was settled, and then led: as if the caller had put the token
-- back in between, and got it before any other.
pub record SettlesAndLeads {H M Q W V N E : Type 0} (m : Meaning H M Q W V N E)
    (v : View (Entry N) DeskTerms) (done : Done H N E) (settled : Settled) (most : Option ℕ)
    (led : Led H N E) (w : View (Entry N) DeskTerms) : Type 0 where
  pub between : View (Entry N) DeskTerms
  pub settles : HasSettled m v done settled between
  pub leads : IsLed m between most led w

-- It was settled, and a lead that is told was made in the same hold.
abbrev pub SettlesOn : {H M Q W V N E : Type 0} → Meaning H M Q W V N E → View (Entry N) DeskTerms
    → Done H N E → Settled → Option ℕ → Option (Led H N E) → View (Entry N) DeskTerms → Type 0
SettlesOn m v done settled most None w = HasSettled m v done settled w
SettlesOn m v done settled most (Some led) w = SettlesAndLeads m v done settled most led w
