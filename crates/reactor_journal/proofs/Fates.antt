-- What becomes of each event.
use Rattle.std.proofs.Common.{ℕ, suc, ◌≡◌, ◌≤◌, Bool, true, false, not, ◌&&◌, List, [], ◌∷◌, refl}
use Rattle.std.proofs.Common.{◌∙◌, arith, ⊎_elim}
use Rattle.std.proofs.lemmas.Bool.{false≢true, and_parts, or_parts, not-true, cases_Bool, cond-true}
use Rattle.std.proofs.lemmas.Bool.{cond-false}
use Rattle.std.specs.List.{list_any}
use Rattle.reactor_journal.specs.declared.entry.Entry.{Entry}
use Rattle.reactor_journal.specs.Past.{count, starts, was_started, was_taken, is_event, is_able}
use Rattle.reactor_journal.specs.Past.{is_dropped, is_waiting, exactly_one}
use Rattle.reactor_journal.specs.Follow.{may_follow, is_legal}
use Rattle.reactor_journal.proofs.OneOpen.{started_is_able}

pub count_none : {A : Type 0} (p : A → Bool) (xs : List A) → list_any p xs ≡ false → count p xs ≡ 0
count_none p [] h = refl
count_none p (x ∷ xs) h =
    let parts : (p x ≡ false) × (list_any p xs ≡ false) = or_parts _ _ h in
    cond-false (p x) (suc (count p xs)) (count p xs) parts.0 ∙ count_none p xs parts.1

-- what is able was not started
pub able_not_started : {N : Type 0} (past : List (Entry N)) (i : ℕ) → is_able past i ≡ true
    → was_started past i ≡ false
unfolding is_able
able_not_started past i h = not-true _ (and_parts _ _ (and_parts _ _ (and_parts _ _ h).0).1).0

pub started_once : {N : Type 0} (most : ℕ) (past : List (Entry N)) → is_legal most past ≡ true
    → (i : ℕ) → count (starts i) past ≤ 1
started_once most [] legal i = omega arith
started_once most (e ∷ past) legal i =
    let parts : (may_follow most past e ≡ true) × (is_legal most past ≡ true) =
    and_parts _ _ legal in
    let before : count (starts i) past ≤ 1 = started_once most past parts.1 i in
    ⊎_elim
    (λ (h : starts i e ≡ true).
    let none : count (starts i) past ≡ 0 =
    count_none (starts i) past (able_not_started past i
    (started_is_able most past e i parts.0 h)) in
    let one : count (starts i) (e ∷ past) ≡ suc (count (starts i) past) = cond-true _ _ _ h in
    omega arith)
    (λ (h : starts i e ≡ false).
    let one : count (starts i) (e ∷ past) ≡ count (starts i) past = cond-false _ _ _ h in
    omega arith)
    (cases_Bool (starts i e))

pub one_of : (e s t : Bool) → e ≡ true
    → exactly_one s (e && (not s && t)) (e && (not s && not t)) ≡ true
one_of true true t h = refl
one_of true false true h = refl
one_of true false false h = refl
one_of false s t h = absurd (false≢true h)

pub one_fate : {N : Type 0} (past : List (Entry N)) (i : ℕ) → is_event past i ≡ true
    → exactly_one (was_started past i) (is_dropped past i) (is_waiting past i) ≡ true
one_fate past i h = one_of (is_event past i) (was_started past i) (was_taken past i) h
