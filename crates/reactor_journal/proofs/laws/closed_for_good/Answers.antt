use Rattle.std.proofs.Common.{◌≡◌, ◌≤◌, ◌++◌, ◌∷◌, ℕ, true, subst}
use Rattle.std.proofs.lemmas.Bool.{and_parts}
use Rattle.reactor_journal.specs.Past.{past_of, closes}
use Rattle.reactor_journal.specs.Follow.{is_legal, may_follow}
use Rattle.reactor_journal.proofs.Turning.{count-past, is_legal-front, past_split}
use Rattle.reactor_journal.proofs.Closing.{closed_once, only_stale}
use Rattle.reactor_journal.proofs.laws.closed_for_good.Goals as goal

pub returns-clause-once : goal.returns-clause-once
returns-clause-once g c journal most x legal =
    subst (λ (n : ℕ). n ≤ 1) (count-past (closes x) journal)
    (closed_once most (past_of journal) x legal)

pub returns-clause-stale : goal.returns-clause-stale
returns-clause-stale g c before after e most x legal closed named =
    let turned : past_of (before ++ e ∷ after) ≡ past_of after ++ (e ∷ past_of before) =
    past_split before after e in
    let front : is_legal most (e ∷ past_of before) ≡ true =
    is_legal-front most (past_of after) (e ∷ past_of before)
    (subst (λ p. is_legal most p ≡ true) turned legal) in
    let parts : (may_follow most (past_of before) e ≡ true)
    × (is_legal most (past_of before) ≡ true) = and_parts _ _ front in
    only_stale most (past_of before) e x parts.1 parts.0 closed named
