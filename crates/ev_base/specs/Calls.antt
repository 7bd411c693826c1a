-- A call of a net as the code names it, and as contracts see it.
use Rattle.std.specs.Prelude.{◌≡◌, ℕ, List, Option, Some, None, map, option_to_list}
use Rattle.std.proofs.Common.{sym, subst}
use Rattle.ev_base.specs.declared.net.Report.{Report}
use Rattle.ev_base.specs.Net.{Call, Waits, Attaches, SetsMask, Retires, TurnsAway}
use Rattle.ev_base.specs.Terms.{Group}
use Rattle.ev_base.specs.Playing.{FollowsGroups}
use Rattle.ev_base.specs.declared.calls.Made.{Made}
use Rattle.ev_base.specs.declared.calls.Made.TheVariants as made

-- the reports alone, of a list that has the number of a wait beside each
abbrev pub reports_of : List (ℕ × Report) → List Report
reports_of planned = map (λ p. p.1) planned

-- the call that a net made
abbrev pub call_of : Made → Call
call_of (made.Wait most answer planned) = Waits most answer (reports_of planned.now)
call_of (made.WaitForMany most answer reports) = Waits most answer reports.now
call_of (made.WaitForOne most answer report) = Waits most answer (option_to_list report)
call_of (made.Attach handle mask serial) = Attaches handle.0 mask serial
call_of (made.Mask handle mask) = SetsMask handle.0 mask
call_of (made.Retire handle) = Retires handle.0
call_of (made.TurnAway serial) = TurnsAway serial

-- a net that follows no script keeps what terms without groups ask
pub follows_none : (calls : Option (List Call)) (groups : Option (List Group)) → groups ≡ None
    → FollowsGroups calls groups
follows_none None groups none = tt
follows_none (Some calls) groups none = subst (FollowsGroups (Some calls)) (sym none) tt
