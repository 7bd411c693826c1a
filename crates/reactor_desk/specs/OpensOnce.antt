-- A history that a desk stands for has no event open twice.
use Rattle.std.proofs.Common.{ℕ, ◌≤◌, Bool, true, false, List, arith}
use Rattle.std.proofs.Common.{cond}
use Rattle.leader_token.specs.list_lemmas.specs.Times.{times}
use Rattle.reactor_model.specs.reactor_journal.specs.declared.entry.Entry.{Entry}
use Rattle.reactor_model.specs.reactor_journal.specs.Past.{past_of, is_open}
use Rattle.reactor_model.specs.reactor_journal.specs.Follow.{Legal}
use Rattle.reactor_core.specs.laws_turns.specs.Opens.{opens_of}
use Rattle.reactor_core.specs.laws_turns.proofs.Opens.{opens_are}

below_one : (b : Bool) → cond {A = ℕ} b 1 0 ≤ 1
below_one true = omega arith
below_one false = omega arith

pub opens_once : {N : Type 0} (most : ℕ) (h : List (Entry N)) → Legal h most → (event : ℕ)
    → times event (opens_of h) ≤ 1
opens_once most h legal event = omega (
  arith,
  opens_are most (past_of h) event legal,
  below_one (is_open (past_of h) event),
)
