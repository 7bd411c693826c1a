-- What the calls of a reactor's user that append one entry ask for, and why they are refused
-- (C++NPv2 chapter 3, `suspend_handler`, `resume_handler`, `mask_ops` and `schedule_timer` of
-- `ACE_Reactor`).
use Rattle.std.specs.Prelude.{ℕ, ◌≡◌, ◌↔◌, Bool, false, if◌then◌else◌, List, [], ◌∷◌, ◌++◌, Option}
use Rattle.std.specs.Prelude.{Some, None, Result, IsErrOf}
use Rattle.ev_base.specs.Terms.{Terms}
use Rattle.reactor_model.specs.reactor_journal.specs.declared.entry.Entry.{Entry}
use Rattle.reactor_model.specs.reactor_journal.specs.Past.{past_of}
use Rattle.reactor_summary.specs.Summary.{Summary, summary, is_alive, is_suspended}
use Rattle.reactor_core.specs.Stands.{Meaning, Stands}
use Rattle.reactor_core.specs.declared.reactor.Core.{Core}
use Rattle.reactor_core.specs.declared.requests.StateRefused.{StateRefused}
use Rattle.reactor_core.specs.declared.requests.StateRefused.TheVariants as state
use Rattle.reactor_core.specs.declared.requests.LiveRefused.{LiveRefused}
use Rattle.reactor_core.specs.declared.requests.LiveRefused.TheVariants as live

-- The histories of a call: whatever history the old core stood for, the new one stands for it with
-- this entry after it, which may be told by what the history sums up to.
abbrev pub GoesOnBy : {H M Q W V N E : Type 0} → Meaning H M Q W V N E → Core H M Q W V N E
    → (Summary → Entry N) → Core H M Q W V N E → Type 0
GoesOnBy {N = N} m old e new = (t : Terms) (F : ℕ) (h : List (Entry N)) → Stands m t old F h
    → Stands m t new F (h ++ e (summary (past_of h)) ∷ [])

-- P holds of what each history sums up to that the core stands for
abbrev pub WhereStanding : {H M Q W V N E : Type 0} → Meaning H M Q W V N E → Core H M Q W V N E
    → (Summary → Type 0) → Type 0
WhereStanding {N = N} m core P = (t : Terms) (F : ℕ) (h : List (Entry N)) → Stands m t core F h
    → P (summary (past_of h))

-- whether an alive handle is suspended, or none if it is not alive
abbrev pub suspension : Summary → ℕ → Option Bool
suspension s x = if is_alive s x then Some (is_suspended s x) else None

-- Why a handle is not suspended, or not resumed: `NotLive` exactly if it is not alive, and
-- `Same` exactly if it is alive and suspended, or not, as was asked for.
pub record IsStateAnswer (s : Summary) (x : ℕ) (asked : Bool)
    (result : Result (Unit {0}) StateRefused) : Type 0 where
  pub not_live : IsErrOf result state.NotLive ↔ (is_alive s x ≡ false)
  pub same : IsErrOf result state.Same ↔ (suspension s x ≡ Some asked)

-- Why what is for alive handles alone is refused: `NotLive` exactly if the handle is not alive.
abbrev pub IsLiveAnswer : {A : Type 0} → Summary → ℕ → Result A LiveRefused → Type 0
IsLiveAnswer s x result = IsErrOf result live.NotLive ↔ (is_alive s x ≡ false)
