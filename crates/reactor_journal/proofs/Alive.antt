-- What one more entry does to a handle that is alive, or no longer is.
use Rattle.std.proofs.Common.{ℕ, ◌≡◌, ◌<◌, ◌==◌, true, false, not, ◌||◌, List, [], ◌∷◌, ap, arith}
use Rattle.std.proofs.Common.{⊎_elim}
use Rattle.std.proofs.lemmas.Bool.{false≢true, and_parts, or_cases, and_from, or_from, or_right}
use Rattle.std.proofs.lemmas.Bool.{not-true, both_ways, cases_Bool, eqb-true}
use Rattle.reactor_journal.specs.declared.entry.Entry.{Entry}
use Rattle.reactor_journal.specs.declared.entry.Entry.TheVariants.{Opened}
use Rattle.reactor_journal.specs.Past.{event_at, ends, opens, opened, was_opened, was_removed}
use Rattle.reactor_journal.specs.Past.{is_alive}
use Rattle.reactor_journal.specs.Follow.{may_follow, is_legal}
use Rattle.reactor_journal.proofs.Basics.{may_fits}

pub alive_was_opened : {N : Type 0} (past : List (Entry N)) (x : ℕ) → is_alive past x ≡ true
    → was_opened past x ≡ true
alive_was_opened past x h = (and_parts _ _ h).0

pub alive_not_removed : {N : Type 0} (past : List (Entry N)) (x : ℕ) → is_alive past x ≡ true
    → was_removed past x ≡ false
alive_not_removed past x h = not-true _ (and_parts _ _ h).1

pub not_both : {N : Type 0} {P : Type 0} (past : List (Entry N)) (x : ℕ) → is_alive past x ≡ true
    → was_removed past x ≡ true → P
not_both past x h r = absurd (both_ways (was_removed past x) (alive_not_removed past x h) r)

-- an entry that does not end the life of x leaves it alive
pub alive_after : {N : Type 0} (e : Entry N) (past : List (Entry N)) (x : ℕ)
    → is_alive past x ≡ true → ends x (event_at past) e ≡ false → is_alive (e ∷ past) x ≡ true
alive_after e past x h q =
    and_from (opens x e || was_opened past x) (not (ends x (event_at past) e || was_removed past x))
    (or_right (opens x e) (was_opened past x) (alive_was_opened past x h))
    (ap not (or_from (ends x (event_at past) e) (was_removed past x) q
    (alive_not_removed past x h)))

-- what was opened and is not alive was removed
pub dead_was_removed : {N : Type 0} (past : List (Entry N)) (x : ℕ) → was_opened past x ≡ true
    → is_alive past x ≡ false → was_removed past x ≡ true
dead_was_removed past x o a =
    ⊎_elim
    (λ (t : was_removed past x ≡ true). t)
    (λ (f : was_removed past x ≡ false).
    absurd (both_ways (is_alive past x) a (and_from _ _ o (ap not f))))
    (cases_Bool (was_removed past x))

-- the handles are numbered in the order in which they were opened
pub opened_below : {N : Type 0} (most : ℕ) (past : List (Entry N)) (x : ℕ)
    → is_legal most past ≡ true → was_opened past x ≡ true → x < opened past
opened_below most [] x legal h = absurd (false≢true h)
opened_below most (Opened handle mask ∷ past) x legal h =
    let parts : (may_follow most past (Opened handle mask) ≡ true) × (is_legal most past ≡ true) =
    and_parts _ _ legal in
    let is : handle.0 ≡ opened past = eqb-true _ _
    (and_parts _ _ (may_fits most past (Opened handle mask) parts.0)).0 in
    ⊎_elim
    (λ (t : (handle.0 == x) ≡ true). let q : handle.0 ≡ x = eqb-true _ _ t in omega arith)
    (λ (t : was_opened past x ≡ true). let q : x < opened past =
    opened_below most past x parts.1 t in omega arith)
    (or_cases (handle.0 == x) (was_opened past x) h)
opened_below most (_ ∷ past) x legal h = opened_below most past x (and_parts _ _ legal).1 h
