-- The loop of a worker that is alone with its reactor, entry by entry: nothing stands between what
-- one call left and what the next finds.
use Rattle.std.specs.Prelude.{ℕ, zero, suc, ◌≡◌, ◌⊎◌, List, Option, Some}
use Rattle.reactor_model.specs.reactor_journal.specs.declared.entry.Entry.{Entry}
use Rattle.reactor_core.specs.Stands.{Meaning}
use Rattle.reactor_core.specs.Upcalls.{IsRunOf}
use Rattle.reactor_core.specs.declared.acting.Settled.{Settled}
use Rattle.reactor_core.specs.declared.job.Done.{Done}
use Rattle.reactor_core.specs.declared.job.Job.{Job}
use Rattle.reactor_desk.specs.Desks.{DeskStands}
use Rattle.reactor_desk.specs.Laws.{history_settled}
use Rattle.reactor_desk.specs.Leading.{LeadGives, TellsVolumeFault}
use Rattle.reactor_desk.specs.Settling.{SettlesDesk}
use Rattle.reactor_desk.specs.declared.terms.DeskTerms.{DeskTerms}
use Rattle.reactor_desk.specs.declared.desk.Desk.{Desk}
use Rattle.reactor_desk.specs.declared.leading.Led.{Led}
use Rattle.reactor_desk.specs.declared.leading.Led.TheVariants as led
use Rattle.tp_reactor.specs.Working.{ran_of}
use Rattle.tp_reactor.specs.declared.working.Ran.{Ran}

-- A lead found the history, and left this list. With every other answer than VolumeFault no volume
-- failed in it.
pub record LeadsTo {H M Q W V N E : Type 0} (m : Meaning H M Q W V N E) (q : DeskTerms)
    (most : Option ℕ) (history : List (Entry N)) (led : Led H N E) (list : List (Entry N)) : Type 0
  where
    pub first : ℕ
    pub found : Desk H M Q W V N E
    pub left : Desk H M Q W V N E
    pub stood : DeskStands m q first found history
    pub gives : LeadGives m q first history most found led left list
    pub volumes : TellsVolumeFault m found led left

-- A settling found the history, and left this list.
pub record SettlesTo {H M Q W V N E : Type 0} (m : Meaning H M Q W V N E) (q : DeskTerms)
    (history : List (Entry N)) (done : Done H N E) (settled : Settled)
    (list : List (Entry N)) : Type 0 where
  pub first : ℕ
  pub found : Desk H M Q W V N E
  pub left : Desk H M Q W V N E
  pub stood : DeskStands m q first found history
  pub settles : SettlesDesk m q first history done found left settled
  pub leaves : list ≡ history_settled history done settles.settles.closing settles.settles.acted

-- A lead gave a job, which was run and settled.
pub record ServesTo {H M Q W V N E : Type 0} (m : Meaning H M Q W V N E) (q : DeskTerms)
    (most : Option ℕ) (history list : List (Entry N)) : Type 0 where
  pub job : Job H N E
  pub between : List (Entry N)
  pub done : Done H N E
  pub settled : Settled
  pub leads : LeadsTo m q most history (led.Job job) between
  pub run : IsRunOf job done
  pub settles : SettlesTo m q between done settled list

-- One round of the loop.
abbrev pub GoesTo : {H M Q W V N E : Type 0} → Meaning H M Q W V N E → DeskTerms → Option ℕ
    → List (Entry N) → List (Entry N) → Type 0
GoesTo m q most history list = LeadsTo m q most history led.Quiet list
    ⊎ ServesTo m q most history list

-- so many rounds, one directly after another
abbrev pub RoundsTo : {H M Q W V N E : Type 0} → Meaning H M Q W V N E → DeskTerms → Option ℕ → ℕ
    → List (Entry N) → List (Entry N) → Type 0
RoundsTo m q most zero history list = list ≡ history
RoundsTo {N = N} m q most (suc n) history list =
    (between : List (Entry N)) × RoundsTo m q most n history between × GoesTo m q most between list

-- A whole loop, from the history to this list: rounds, of which each lead answered a job or Quiet,
-- and a last lead, whose answer is that of the loop.
pub record RunsTo {H M Q W V N E : Type 0} (m : Meaning H M Q W V N E) (q : DeskTerms)
    (most : Option ℕ) (history : List (Entry N)) (answer : Ran) (list : List (Entry N)) : Type 0
  where
    pub rounds : ℕ
    pub last : List (Entry N)
    pub were : RoundsTo m q most rounds history last
    pub led : Led H N E
    pub leads : LeadsTo m q most last led list
    pub answers : ran_of led ≡ Some answer
