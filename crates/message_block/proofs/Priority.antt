-- Messages that are put by priority.
use Rattle.std.proofs.Common.{◌≡◌, ℕ, zero, suc, ◌<◌, ◌≤◌, ◌==◌, Bool, true, false, cond, List, []}
use Rattle.std.proofs.Common.{◌∷◌, ◌++◌, length, drop, refl, sym, ap, ◌∙◌, subst, ⊎_elim, arith}
use Rattle.std.proofs.Common.{append-nil, append_assoc}
use Rattle.std.proofs.lemmas.Bool.{true≢false, and_parts, and_from, and_cases, and_right, ltb-true}
use Rattle.std.proofs.lemmas.Bool.{ltb-false, leb-true, le-leb, ne_eqb, eqb-true, cond-true}
use Rattle.std.proofs.lemmas.Bool.{cond-false}
use Rattle.std.specs.Prelude.{nat_le, fold, filter, insert}
use Rattle.std.specs.List.{list_all}
use Rattle.message_block.specs.Messages.{MessageState, is_below, put_by_priority}
use Rattle.message_block.specs.Laws.{FallsByPriority}

abbrev of_priority : ℕ → MessageState → Bool
of_priority q m = m.priority == q

abbrev at_most : ℕ → MessageState → Bool
at_most q m = nat_le m.priority q

-- all messages that are below a priority are of another
none_of : (q : ℕ) (xs : List MessageState) → list_all (is_below q) xs ≡ true
    → filter (of_priority q) xs ≡ []
none_of q [] h = refl
none_of q (x ∷ xs) h =
    let both : (is_below q x ≡ true) × (list_all (is_below q) xs ≡ true) =
    and_parts (is_below q x) (list_all (is_below q) xs) h in
    let below : x.priority < q = ltb-true x.priority q both.0 in
    cond-false (of_priority q x) (x ∷ filter (of_priority q) xs) (filter (of_priority q) xs)
    (ne_eqb x.priority q (λ e. omega arith))
    ∙ none_of q xs both.1

-- put before messages that are all below it
filter_first : (q : ℕ) (m : MessageState) (xs : List MessageState)
    → list_all (is_below m.priority) xs ≡ true
    → filter (of_priority q) (m ∷ xs) ≡ filter (of_priority q) xs ++ filter (of_priority q) (m ∷ [])
filter_first q m xs h = by_cases (of_priority q m) refl
  where
    by_cases : (b : Bool) → of_priority q m ≡ b
        → cond b (m ∷ filter (of_priority q) xs) (filter (of_priority q) xs)
        ≡ filter (of_priority q) xs ++ cond b (m ∷ []) []
    by_cases true e =
        let same : m.priority ≡ q = eqb-true m.priority q e in
        let none : filter (of_priority q) xs ≡ [] =
        none_of q xs (subst (λ (n : ℕ). list_all (is_below n) xs ≡ true) same h) in
        ap (λ (l : List MessageState). m ∷ l) none
        ∙ sym (ap (λ (l : List MessageState). l ++ m ∷ []) none)
    by_cases false e = sym (append-nil (filter (of_priority q) xs))

filter-put : (q : ℕ) (m : MessageState) (xs : List MessageState)
    → filter (of_priority q) (put_by_priority m xs)
    ≡ filter (of_priority q) xs ++ filter (of_priority q) (m ∷ [])
filter-put q m [] = refl
filter-put q m (x ∷ xs) = by_cases (list_all (is_below m.priority) (x ∷ xs)) refl
    (filter-put q m xs)
  where
    behind_first : (b : Bool) → filter (of_priority q) (put_by_priority m xs)
        ≡ filter (of_priority q) xs ++ filter (of_priority q) (m ∷ [])
        → cond b (x ∷ filter (of_priority q) (put_by_priority m xs))
        (filter (of_priority q) (put_by_priority m xs))
        ≡ cond b (x ∷ filter (of_priority q) xs) (filter (of_priority q) xs)
        ++ filter (of_priority q) (m ∷ [])
    behind_first true rest = ap (λ (l : List MessageState). x ∷ l) rest
    behind_first false rest = rest

    by_cases : (b : Bool) → list_all (is_below m.priority) (x ∷ xs) ≡ b
        → filter (of_priority q) (put_by_priority m xs)
        ≡ filter (of_priority q) xs ++ filter (of_priority q) (m ∷ [])
        → filter (of_priority q) (cond b (m ∷ x ∷ xs) (x ∷ put_by_priority m xs))
        ≡ filter (of_priority q) (x ∷ xs) ++ filter (of_priority q) (m ∷ [])
    by_cases true e rest = filter_first q m (x ∷ xs) e
    by_cases false e rest = behind_first (of_priority q x) rest

filter_one : (q : ℕ) (m : MessageState) (xs : List MessageState)
    → filter (of_priority q) (m ∷ []) ++ filter (of_priority q) xs ≡ filter (of_priority q) (m ∷ xs)
filter_one q m xs = by_cases (of_priority q m)
  where
    by_cases : (b : Bool) → cond b (m ∷ []) [] ++ filter (of_priority q) xs
        ≡ cond b (m ∷ filter (of_priority q) xs) (filter (of_priority q) xs)
    by_cases true = refl
    by_cases false = refl

abbrev step : List MessageState → MessageState → List MessageState
step xs m = put_by_priority m xs

pub filter-filled : (q : ℕ) (held arrivals : List MessageState)
    → filter (of_priority q) (fold step held arrivals)
    ≡ filter (of_priority q) held ++ filter (of_priority q) arrivals
filter-filled q held [] = sym (append-nil (filter (of_priority q) held))
filter-filled q held (m ∷ ms) =
    filter-filled q (put_by_priority m held) ms
    ∙ (ap (λ (l : List MessageState). l ++ filter (of_priority q) ms) (filter-put q m held)
    ∙ (append_assoc (filter (of_priority q) held) (filter (of_priority q) (m ∷ []))
    (filter (of_priority q) ms)
    ∙ ap (λ (l : List MessageState). filter (of_priority q) held ++ l) (filter_one q m ms)))

-- what is below a priority is at most of it
below_at_most : (q : ℕ) (xs : List MessageState) → list_all (is_below q) xs ≡ true
    → list_all (at_most q) xs ≡ true
below_at_most q [] h = refl
below_at_most q (x ∷ xs) h =
    let both : (is_below q x ≡ true) × (list_all (is_below q) xs ≡ true) =
    and_parts (is_below q x) (list_all (is_below q) xs) h in
    let below : x.priority < q = ltb-true x.priority q both.0 in
    and_from (at_most q x) (list_all (at_most q) xs) (le-leb x.priority q (omega arith))
    (below_at_most q xs both.1)

-- one that is not below a priority is above what is below it
not_all_below : (q most : ℕ) (xs : List MessageState) → list_all (is_below q) xs ≡ false
    → list_all (at_most most) xs ≡ true → q ≤ most
not_all_below q most [] h g = absurd (true≢false h)
not_all_below q most (x ∷ xs) h g =
    let both : (at_most most x ≡ true) × (list_all (at_most most) xs ≡ true) =
    and_parts (at_most most x) (list_all (at_most most) xs) g in
    let within : x.priority ≤ most = leb-true x.priority most both.0 in
    ⊎_elim (λ (e : is_below q x ≡ false). let above : q ≤ x.priority = ltb-false x.priority q e in
    omega arith)
    (λ (e : list_all (is_below q) xs ≡ false). not_all_below q most xs e both.1)
    (and_cases (is_below q x) (list_all (is_below q) xs) h)

at_most-put : (most : ℕ) (m : MessageState) (xs : List MessageState) → m.priority ≤ most
    → list_all (at_most most) xs ≡ true
    → list_all (at_most most) (put_by_priority m xs) ≡ true
at_most-put most m [] h g = and_from (at_most most m) true (le-leb m.priority most h) refl
at_most-put most m (x ∷ xs) h g =
    let both : (at_most most x ≡ true) × (list_all (at_most most) xs ≡ true) =
    and_parts (at_most most x) (list_all (at_most most) xs) g in
    by_cases (list_all (is_below m.priority) (x ∷ xs)) both.0 (at_most-put most m xs h both.1)
  where
    by_cases : (b : Bool) → at_most most x ≡ true
        → list_all (at_most most) (put_by_priority m xs) ≡ true
        → list_all (at_most most) (cond b (m ∷ x ∷ xs) (x ∷ put_by_priority m xs)) ≡ true
    by_cases true first rest = and_from (at_most most m) (list_all (at_most most) (x ∷ xs))
        (le-leb m.priority most h) g
    by_cases false first rest = and_from (at_most most x)
        (list_all (at_most most) (put_by_priority m xs)) first rest

falls-put : (m : MessageState) (xs : List MessageState) → FallsByPriority xs
    → FallsByPriority (put_by_priority m xs)
falls-put m [] f = (refl, tt)
falls-put m (x ∷ xs) f = by_cases (list_all (is_below m.priority) (x ∷ xs)) refl
    (falls-put m xs f.1)
  where
    within : list_all (is_below m.priority) (x ∷ xs) ≡ false → m.priority ≤ x.priority
    within e = ⊎_elim (λ (d : is_below m.priority x ≡ false). ltb-false x.priority m.priority d)
        (λ (d : list_all (is_below m.priority) xs ≡ false).
        not_all_below m.priority x.priority xs d f.0)
        (and_cases (is_below m.priority x) (list_all (is_below m.priority) xs) e)

    by_cases : (b : Bool) → list_all (is_below m.priority) (x ∷ xs) ≡ b
        → FallsByPriority (put_by_priority m xs)
        → FallsByPriority (cond b (m ∷ x ∷ xs) (x ∷ put_by_priority m xs))
    by_cases true e rest = (below_at_most m.priority (x ∷ xs) e, f)
    by_cases false e rest = (at_most-put x.priority m xs (within e) f.0, rest)

pub falls-filled : (held arrivals : List MessageState) → FallsByPriority held
    → FallsByPriority (fold step held arrivals)
falls-filled held [] f = f
falls-filled held (m ∷ ms) f = falls-filled (put_by_priority m held) ms (falls-put m held f)

-- if not all are of lower priority from a place on, not all are at all
not_all_from : (q : ℕ) (xs : List MessageState) (k : ℕ) → list_all (is_below q) (drop k xs) ≡ false
    → list_all (is_below q) xs ≡ false
not_all_from q [] zero h = h
not_all_from q [] (suc k) h = h
not_all_from q (x ∷ xs) zero h = h
not_all_from q (x ∷ xs) (suc k) h =
    and_right (is_below q x) (list_all (is_below q) xs) (not_all_from q xs k h)

-- the place of a message by priority
pub put-insert : (m : MessageState) (xs : List MessageState) (place : ℕ) → place ≤ length xs
    → list_all (is_below m.priority) (drop place xs) ≡ true
    → ((before : ℕ) → place ≡ suc before → list_all (is_below m.priority) (drop before xs) ≡ false)
    → put_by_priority m xs ≡ insert xs place m
put-insert m [] zero h all least = refl
put-insert m [] (suc place) h all least = absurd (omega arith)
put-insert m (x ∷ xs) zero h all least =
    cond-true (list_all (is_below m.priority) (x ∷ xs)) (m ∷ x ∷ xs) (x ∷ put_by_priority m xs) all
put-insert m (x ∷ xs) (suc place) h all least =
    cond-false (list_all (is_below m.priority) (x ∷ xs)) (m ∷ x ∷ xs) (x ∷ put_by_priority m xs)
    (not_all_from m.priority (x ∷ xs) place (least place refl))
    ∙ ap (λ (l : List MessageState). x ∷ l)
    (put-insert m xs place (omega arith) all
    (λ before e. subst (λ (n : ℕ). list_all (is_below m.priority) (drop n (x ∷ xs)) ≡ false) e
    (least place refl)))
