-- What is left of the operations when a connection is closed, as the code does it.
use Rattle.std.specs.Prelude.{◌≡◌, ℕ, List}
use Rattle.ev_base.specs.Counts.{Counts}
use Rattle.proactor.specs.declared.operation.Op.{Op}
use Rattle.proactor.specs.declared.operation.Outcome.TheVariants as outcome
use Rattle.proactor.specs.declared.sums.Sums.{Sums}
use Rattle.proactor.specs.Operations.{Told}
use Rattle.proactor.specs.Events.{Event, Reply, completion, count_done, told, told_in}
use Rattle.proactor.specs.Parts.{CountsMore, FollowsTold}
use Rattle.proactor.specs.Standing.{Stands}
use Rattle.proactor.specs.Turns.{Cancels, TakesNothingUp, count_standing}

-- the handler was told that one operation is cancelled
pub record CancelsOne {C : Type 0} (follows : C → Op → List Told → Type 0) (id : ℕ)
    (old new : C) : Type 0 where
  pub reply : Reply
  pub nothing : TakesNothingUp reply
  pub told_so : FollowsTold follows (told_in (completion id outcome.Cancelled) reply) old new

-- it was told so of all that stand
pub record CancelsSo {C : Type 0} (follows : C → Op → List Told → Type 0) (standing : Stands)
    (old new : C) (before after : Sums) (cancelled : ℕ) : Type 0 where
  pub events : List Event
  pub cancels : Cancels standing.reads standing.writes events
  pub told_so : FollowsTold follows (told events) old new
  pub completed : CountsMore before.completed (count_done events) after.completed
  pub read : after.read ≡ before.read
  pub wrote : after.wrote ≡ before.wrote
  pub starved : after.starved ≡ before.starved
  pub counts : Counts cancelled (count_standing standing)
