-- How many connections an acceptor takes that has its turns over the listener's story.
use Rattle.std.proofs.Common.{◌≡◌, ◌≤◌, ◌+◌, ℕ, zero, suc, List, [], ◌∷◌, ◌++◌, length, Option}
use Rattle.std.proofs.Common.{Some, None, refl, ap, arith}
use Rattle.reactor_model.specs.ev_base.specs.Story.{Offer, Connection, NoneThere, OneFailure}
use Rattle.reactor_model.specs.ev_base.specs.Story.{Offering}
use Rattle.laws_script_turns.specs.acceptor.specs.Laws.{numbers_from, serials_of, TakesOffers}
use Rattle.laws_script_turns.specs.event_script.specs.Script.{ScriptStep, Opens, Brings, Shuts}
use Rattle.laws_script_turns.specs.event_script.specs.Script.{Fails, ListenerFails, opened}
use Rattle.laws_script_turns.specs.event_script.specs.Stories.{offers}
use Rattle.laws_script_turns.specs.Laws.{unoffered}

pub length_numbers : (first many : ℕ) → length (numbers_from first many) ≡ many
length_numbers first zero = refl
length_numbers first (suc many) = ap suc (length_numbers (suc first) many)

serials_append : (a b : List Offer)
    → length (serials_of (a ++ b)) ≡ length (serials_of a) + length (serials_of b)
serials_append [] b = omega arith
serials_append (Connection serial ∷ a) b = omega (arith, serials_append a b)
serials_append (NoneThere ∷ a) b = serials_append a b
serials_append (OneFailure ∷ a) b = serials_append a b

serials_offered : (steps : List ScriptStep) → length (serials_of (offers steps)) ≡ opened steps
serials_offered [] = refl
serials_offered (Opens conn ∷ steps) = omega (arith, serials_offered steps)
serials_offered (Brings conn bytes ∷ steps) = serials_offered steps
serials_offered (Shuts conn ∷ steps) = serials_offered steps
serials_offered (Fails conn ∷ steps) = serials_offered steps
serials_offered (ListenerFails ∷ steps) = serials_offered steps

-- no more than there are
pub few_taken : (steps : List ScriptStep) (now : Option Offering) (many : ℕ)
    → TakesOffers (Some (unoffered (offers steps))) now 0 many → many ≤ opened steps
few_taken steps None many takes = absurd takes
few_taken steps (Some now) many takes =
    let whole = serials_append takes.front now.left in
    let same : length (serials_of (offers steps)) ≡ length (serials_of (takes.front ++ now.left)) =
    ap (λ (o : List Offer). length (serials_of o)) takes.left in
    let all = serials_offered steps in
    let ends = takes.ends in
    omega (arith, whole, same, all, ends)
