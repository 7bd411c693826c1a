-- How many handles are open, and what one more entry does to an event that waits.
use Rattle.std.proofs.Common.{ℕ, zero, suc, ◌≡◌, ◌≢◌, ◌+◌, ◌<◌, ◌==◌, Bool, true, false, not, ◌&&◌}
use Rattle.std.proofs.Common.{◌||◌, List, [], ◌∷◌, length, refl, sym, ap, ◌∙◌, arith, cond, is_some}
use Rattle.std.proofs.Common.{⊎_elim}
use Rattle.std.proofs.lemmas.Bool.{false≢true, and_parts, or_left, cases_Bool, cases_eq, eq-eqb}
use Rattle.std.proofs.lemmas.Bool.{ne_eqb, cond-true, cond-false}
use Rattle.reactor_journal.specs.declared.entry.Entry.{Entry}
use Rattle.reactor_journal.specs.declared.entry.Entry.TheVariants.{Opened, Closed}
use Rattle.reactor_journal.specs.Past.{count, count_below, is_closed, opened, live, was_opened}
use Rattle.reactor_journal.specs.Past.{was_closed, event_at, is_event, is_waiting, starts, drops_it}
use Rattle.reactor_journal.specs.Past.{was_started, was_taken}
use Rattle.reactor_journal.specs.Follow.{may_follow, is_legal}
use Rattle.reactor_journal.proofs.Basics.{may_fits, event_at-other}
use Rattle.reactor_journal.proofs.Alive.{opened_below}
use Rattle.reactor_journal.proofs.Closing.{closing, closed_gone}

pub shuffle : (event s started d taken : Bool)
    → (event && (not (s || started) && not (d || taken)))
    ≡ ((event && (not started && not taken)) && (not s && not d))
shuffle false s started d taken = refl
shuffle true true true true true = refl
shuffle true true true true false = refl
shuffle true true true false true = refl
shuffle true true true false false = refl
shuffle true true false true true = refl
shuffle true true false true false = refl
shuffle true true false false true = refl
shuffle true true false false false = refl
shuffle true false true true true = refl
shuffle true false true true false = refl
shuffle true false true false true = refl
shuffle true false true false false = refl
shuffle true false false true true = refl
shuffle true false false true false = refl
shuffle true false false false true = refl
shuffle true false false false false = refl

-- an event that stands already waits on unless the entry starts or drops it
pub waiting-step : {N : Type 0} (e : Entry N) (past : List (Entry N)) (i : ℕ) → i < length past
    → is_waiting (e ∷ past) i ≡ (is_waiting past i
    && (not (starts i e) && not (drops_it (event_at past i) (event_at past) e)))
waiting-step e past i lt =
    ap (λ b. b && (not (starts i e || was_started past i)
    && not (drops_it (event_at past i) (event_at past) e || was_taken past i)))
    (ap is_some (event_at-other e past i (omega arith)))
    ∙ shuffle (is_event past i) (starts i e) (was_started past i)
    (drops_it (event_at past i) (event_at past) e) (was_taken past i)

pub same_below : (n : ℕ) (p q : ℕ → Bool) → ((x : ℕ) → x < n → p x ≡ q x)
    → count_below n p ≡ count_below n q
same_below zero p q h = refl
same_below (suc n) p q h =
    let rest : count_below n p ≡ count_below n q = same_below n p q (λ x lt. h x (omega arith)) in
    ap (λ b. cond b (suc (count_below n p)) (count_below n p)) (h n (omega arith))
    ∙ ap (λ k. cond (q n) (suc k) k) rest

pub one_fewer : (n x : ℕ) (p q : ℕ → Bool) → x < n → p x ≡ true → q x ≡ false
    → ((y : ℕ) → y ≢ x → p y ≡ q y) → count_below n p ≡ suc (count_below n q)
one_fewer zero x p q lt px qx h = absurd (omega arith)
one_fewer (suc n) x p q lt px qx h =
    ⊎_elim
    (λ (k : x ≡ n).
    let rest : count_below n p ≡ count_below n q = same_below n p q (λ y l. h y (omega arith)) in
    cond-true _ _ _ (ap p (sym k) ∙ px)
    ∙ (ap suc rest ∙ ap suc (sym (cond-false _ _ _ (ap q (sym k) ∙ qx)))))
    (λ (k : x ≢ n).
    let rest : count_below n p ≡ suc (count_below n q) = one_fewer n x p q (omega arith) px qx h in
    ap (λ b. cond b (suc (count_below n p)) (count_below n p)) (h n (λ e. k (sym e)))
    ∙ (ap (λ k. cond (q n) (suc k) k) rest ∙ push (q n) (count_below n q)))
    (cases_eq x n)
  where
    push : (b : Bool) (k : ℕ) → cond b (suc (suc k)) (suc k) ≡ suc (cond b (suc k) k)
    push true k = refl
    push false k = refl

-- the handles that were opened are those that were closed and those that were not
pub closed_and_open : {N : Type 0} (most : ℕ) (past : List (Entry N)) → is_legal most past ≡ true
    → count is_closed past + count_below (opened past) (λ x. not (was_closed past x)) ≡ opened past
closed_and_open most [] legal = refl
closed_and_open {N} most (Opened handle mask ∷ past) legal =
    let parts : (may_follow most past (Opened handle mask) ≡ true) × (is_legal most past ≡ true) =
    and_parts _ _ legal in
    let before : count is_closed past + count_below (opened past) (λ x. not (was_closed past x))
    ≡ opened past = closed_and_open most past parts.1 in
    let fresh : was_closed past (opened past) ≡ false =
    ⊎_elim
    (λ (t : was_closed past (opened past) ≡ true). let k : opened past < opened past =
    opened_below most past (opened past) parts.1
    (closed_gone most past (opened past) parts.1 t).opened in absurd (omega arith))
    (λ (f : was_closed past (opened past) ≡ false). f)
    (cases_Bool (was_closed past (opened past)))
    in
    let more : count_below (suc (opened past)) (λ x. not (was_closed past x))
    ≡ suc (count_below (opened past) (λ x. not (was_closed past x))) =
    cond-true _ _ _ (ap not fresh) in
    let all : count is_closed past + count_below (suc (opened past)) (λ x. not (was_closed past x))
    ≡ suc (opened past) = omega arith in
    all
closed_and_open {N} most (Closed handle note ∷ past) legal =
    let e : Entry N = Closed handle note in
    let parts : (may_follow most past e ≡ true) × (is_legal most past ≡ true) =
    and_parts _ _ legal in
    let before : count is_closed past + count_below (opened past) (λ x. not (was_closed past x))
    ≡ opened past = closed_and_open most past parts.1 in
    let c : (was_opened past handle.0 ≡ true) × _ × _ × (was_closed past handle.0 ≡ false) =
    closing past handle.0 (may_fits most past e parts.0) in
    let fewer : count_below (opened past) (λ x. not (was_closed past x))
    ≡ suc (count_below (opened past) (λ x. not (was_closed (e ∷ past) x))) =
    one_fewer (opened past) handle.0 (λ x. not (was_closed past x))
    (λ x. not (was_closed (e ∷ past) x)) (opened_below most past handle.0 parts.1 c.0)
    (ap not c.3)
    (ap not (or_left (handle.0 == handle.0) (was_closed past handle.0)
    (eq-eqb handle.0 handle.0 refl)))
    (λ y ne. ap not (other y (handle.0 == y) (was_closed past y)
    (ne_eqb handle.0 y (λ q. ne (sym q)))))
    in
    let all : suc (count is_closed past)
    + count_below (opened past) (λ x. not (was_closed (e ∷ past) x)) ≡ opened past =
    omega arith in
    all
  where
    other : (y : ℕ) (b c : Bool) → b ≡ false → c ≡ (b || c)
    other y true c h = absurd (false≢true (sym h))
    other y false c h = refl
closed_and_open most (_ ∷ past) legal = closed_and_open most past (and_parts _ _ legal).1

-- the live number counts the handles that were opened and not closed
pub live_is : {N : Type 0} (most : ℕ) (past : List (Entry N)) → is_legal most past ≡ true
    → live past ≡ count_below (opened past) (λ x. not (was_closed past x))
live_is most past legal =
    let all : count is_closed past + count_below (opened past) (λ x. not (was_closed past x))
    ≡ opened past = closed_and_open most past legal in
    omega arith
