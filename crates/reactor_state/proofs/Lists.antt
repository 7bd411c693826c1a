-- Searches, counts and edits of lists.
use Rattle.std.proofs.Common.{ℕ, zero, suc, ◌≡◌, ◌≢◌, ◌+◌, ◌<◌, ◌≤◌, Bool, true, false, not, ◌&&◌}
use Rattle.std.proofs.Common.{◌||◌, List, [], ◌∷◌, ◌++◌, length, get_or, set, drop, map, refl, sym}
use Rattle.std.proofs.Common.{ap, ◌∙◌, subst, drop-cons, add-one, cond, Option, Some, None, arith}
use Rattle.std.proofs.lemmas.Bool.{and_parts, cond-true, cond-false, or_parts}
use Rattle.std.proofs.lemmas.List.Sums.{list_all-from_AllPass}
use Rattle.std.specs.List.{find, list_any, list_all, filter, insert, remove, AllWithin}
use Rattle.reactor_summary.specs.reactor_journal.specs.Past.{count}
use Rattle.reactor_summary.specs.Tells.{Each}

-- a search goes on after what does not pass, and ends at what passes
pub find_step : {A : Type 0} (p : A → Bool) (xs : List A) (i : ℕ) (d : A) → i < length xs
    → find p (drop i xs) ≡ cond (p (get_or xs i d)) (Some (get_or xs i d))
    (find p (drop (i + 1) xs))
find_step p xs i d lt =
    let cut : drop i xs ≡ get_or xs i d ∷ drop (i + 1) xs = rw add-one (drop-cons xs i d lt) in
    ap (find p) cut

pub find_none : {A : Type 0} (p : A → Bool) (xs : List A) (i : ℕ) → length xs ≤ i
    → find p (drop i xs) ≡ None
find_none p [] zero h = refl
find_none p [] (suc i) h = refl
find_none p (x ∷ xs) zero h = absurd (omega arith)
find_none p (x ∷ xs) (suc i) h = find_none p xs i (omega arith)

pub ruleset find_more = (find_step, find_none)

-- what no element passes is not found
pub find_absent : {A : Type 0} (p : A → Bool) (xs : List A) → list_any p xs ≡ false
    → find p xs ≡ None
find_absent p [] h = refl
find_absent p (x ∷ xs) h =
    let both : (p x ≡ false) × (list_any p xs ≡ false) = or_parts (p x) (list_any p xs) h in
    cond-false (p x) (Some x) (find p xs) both.0 ∙ find_absent p xs both.1

-- no more than pass pass both
pub any_and : {A : Type 0} (p q : A → Bool) (xs : List A) → list_any p xs ≡ false
    → list_any (λ x. p x && q x) xs ≡ false
any_and p q [] h = refl
any_and p q (x ∷ xs) h =
    let both : (p x ≡ false) × (list_any p xs ≡ false) = or_parts (p x) (list_any p xs) h in
    ap (λ b. (b && q x) || list_any (λ y. p y && q y) xs) both.0 ∙ any_and p q xs both.1

-- ---- counts

abbrev pub one : Bool → ℕ
one b = cond b 1 0

-- one element more
pub count_cons : {A : Type 0} (p : A → Bool) (x : A) (xs : List A)
    → count p (x ∷ xs) ≡ one (p x) + count p xs
count_cons p x xs = step (p x)
  where
    step : (b : Bool) → cond b (suc (count p xs)) (count p xs) ≡ one b + count p xs
    step true = omega arith
    step false = omega arith

pub count-append : {A : Type 0} (p : A → Bool) (xs ys : List A)
    → count p (xs ++ ys) ≡ count p xs + count p ys
count-append p [] ys = omega arith
count-append p (x ∷ xs) ys = omega
    (arith, count_cons p x (xs ++ ys), count_cons p x xs, count-append p xs ys)

-- another element at a place
pub count-set : {A : Type 0} (p : A → Bool) (xs : List A) (i : ℕ) (y d : A) → i < length xs
    → count p (set xs i y) + one (p (get_or xs i d)) ≡ count p xs + one (p y)
count-set p [] i y d l = absurd (omega arith)
count-set p (x ∷ xs) zero y d l = omega (arith, count_cons p x xs, count_cons p y xs)
count-set p (x ∷ xs) (suc i) y d l =
    let rest : count p (set xs i y) + one (p (get_or xs i d)) ≡ count p xs + one (p y) =
    count-set p xs i y d (omega arith) in
    omega (arith, count_cons p x xs, count_cons p x (set xs i y), rest)

-- one element less
pub count-remove : {A : Type 0} (p : A → Bool) (xs : List A) (i : ℕ) (d : A) → i < length xs
    → count p (remove xs i) + one (p (get_or xs i d)) ≡ count p xs
count-remove p [] i d l = absurd (omega arith)
count-remove p (x ∷ xs) zero d l = omega (arith, count_cons p x xs)
count-remove p (x ∷ xs) (suc i) d l =
    let rest : count p (remove xs i) + one (p (get_or xs i d)) ≡ count p xs =
    count-remove p xs i d (omega arith) in
    omega (arith, count_cons p x xs, count_cons p x (remove xs i), rest)

pub count-insert : {A : Type 0} (p : A → Bool) (xs : List A) (i : ℕ) (y : A) → i ≤ length xs
    → count p (insert xs i y) ≡ count p xs + one (p y)
count-insert p xs zero y l = omega (arith, count_cons p y xs)
count-insert p [] (suc i) y l = absurd (omega arith)
count-insert p (x ∷ xs) (suc i) y l =
    let rest : count p (insert xs i y) ≡ count p xs + one (p y) =
    count-insert p xs i y (omega arith) in
    omega (arith, count_cons p x xs, count_cons p x (insert xs i y), rest)

-- two tests that agree
pub count_agree : {A : Type 0} (p q : A → Bool) (xs : List A) → ((a : A) → p a ≡ q a)
    → count p xs ≡ count q xs
count_agree p q [] h = refl
count_agree p q (x ∷ xs) h = ap (λ b. cond b (suc (count p xs)) (count p xs)) (h x)
    ∙ ap (λ n. cond (q x) (suc n) n) (count_agree p q xs h)

-- those that pass both
pub count-filter : {A : Type 0} (p q : A → Bool) (xs : List A)
    → count p (filter q xs) ≡ count (λ x. q x && p x) xs
count-filter p q [] = refl
count-filter p q (x ∷ xs) = step (q x) (count-filter p q xs)
  where
    step : (b : Bool) → count p (filter q xs) ≡ count (λ y. q y && p y) xs
        → count p (cond b (x ∷ filter q xs) (filter q xs))
        ≡ cond (b && p x) (suc (count (λ y. q y && p y) xs)) (count (λ y. q y && p y) xs)
    step true rest = ap (λ n. cond (p x) (suc n) n) rest
    step false rest = rest

-- no more than there were
pub count-filter_le : {A : Type 0} (p q : A → Bool) (xs : List A)
    → count p (filter q xs) ≤ count p xs
count-filter_le p q [] = omega arith
count-filter_le p q (x ∷ xs) = step (q x) (count-filter_le p q xs)
  where
    step : (b : Bool) → count p (filter q xs) ≤ count p xs
        → count p (cond b (x ∷ filter q xs) (filter q xs)) ≤ count p (x ∷ xs)
    step true rest = omega (arith, count_cons p x (filter q xs), count_cons p x xs, rest)
    step false rest = omega (arith, count_cons p x xs, rest)

-- all are counted
pub count_all : {A : Type 0} (xs : List A) → count (λ x. true) xs ≡ length xs
count_all [] = refl
count_all (x ∷ xs) = omega (arith, count_all xs)

-- what none passes counts nothing, and the other way round
pub count_none : {A : Type 0} (p : A → Bool) (xs : List A) → count p xs ≡ 0 → list_any p xs ≡ false
count_none p [] h = refl
count_none p (x ∷ xs) h = step (p x) (λ e. count_none p xs e) h
  where
    step : (b : Bool) → (count p xs ≡ 0 → list_any p xs ≡ false)
        → cond b (suc (count p xs)) (count p xs) ≡ 0 → (b || list_any p xs) ≡ false
    step true rest e = absurd (omega arith)
    step false rest e = rest e

pub none_counted : {A : Type 0} (p : A → Bool) (xs : List A) → list_any p xs ≡ false
    → count p xs ≡ 0
none_counted p [] h = refl
none_counted p (x ∷ xs) h =
    let both : (p x ≡ false) × (list_any p xs ≡ false) = or_parts (p x) (list_any p xs) h in
    cond-false (p x) (suc (count p xs)) (count p xs) both.0 ∙ none_counted p xs both.1

-- what is found is counted
pub count_found : {A : Type 0} (p q : A → Bool) (xs : List A) (a : A) → find q xs ≡ Some a
    → p a ≡ true → 1 ≤ count p xs
count_found p q [] a h t = absurd (cc)
count_found p q (x ∷ xs) a h t = step (q x) (λ e. count_found p q xs a e t) h
  where
    step : (b : Bool) → (find q xs ≡ Some a → 1 ≤ count p xs) → cond b (Some x) (find q xs) ≡ Some a
        → 1 ≤ count p (x ∷ xs)
    step true rest e = let same : x ≡ a = cc in let here : one (p x) ≡ 1 = ap one (ap p same ∙ t) in
        omega (arith, count_cons p x xs, here)
    step false rest e = omega (arith, count_cons p x xs, rest e)

-- whether what was found passes
abbrev pub passes : {A : Type 0} → (A → Bool) → Option A → Bool
passes q None = false
passes q (Some a) = q a

-- no more pass both tests
pub count_both : {A : Type 0} (q r : A → Bool) (xs : List A)
    → count (λ x. q x && r x) xs ≤ count q xs
count_both q r [] = omega arith
count_both q r (x ∷ xs) = step (q x) (r x) (count_both q r xs)
  where
    step : (b d : Bool) → count (λ y. q y && r y) xs ≤ count q xs
        → cond (b && d) (suc (count (λ y. q y && r y) xs)) (count (λ y. q y && r y) xs)
        ≤ cond b (suc (count q xs)) (count q xs)
    step true true rest = omega arith
    step true false rest = omega arith
    step false d rest = rest

-- ---- edits

-- a filter that all pass takes nothing
filter_all : {A : Type 0} (q : A → Bool) (xs : List A) → list_all q xs ≡ true → filter q xs ≡ xs
filter_all q [] h = refl
filter_all q (x ∷ xs) h =
    let k : (q x ≡ true) × (list_all q xs ≡ true) = and_parts (q x) (list_all q xs) h in
    cond-true (q x) (x ∷ filter q xs) (filter q xs) k.0 ∙ ap (λ ys. x ∷ ys) (filter_all q xs k.1)

-- a filter that one place alone does not pass takes that place out
pub filter_place : {A : Type 0} (q : A → Bool) (xs : List A) (p : ℕ)
    → ((d : A) → q (get_or xs p d) ≡ false)
    → ((k : ℕ) (d : A) → k < length xs → k ≢ p → q (get_or xs k d) ≡ true) → p < length xs
    → filter q xs ≡ remove xs p
filter_place q [] p out others l = absurd (omega arith)
filter_place q (x ∷ xs) zero out others l =
    cond-false (q x) (x ∷ filter q xs) (filter q xs) (out x)
    ∙ filter_all q xs (list_all-from_AllPass q xs
    (λ k d h. others (suc k) d (omega arith) (omega arith)))
filter_place q (x ∷ xs) (suc p) out others l =
    cond-true (q x) (x ∷ filter q xs) (filter q xs) (others zero x (omega arith) (omega arith))
    ∙ ap (λ ys. x ∷ ys) (filter_place q xs p out
    (λ k d h ne. others (suc k) d (omega arith) (omega arith)) (omega arith))

-- ---- searches from a place on

pub find_agree : {A : Type 0} (p q : A → Bool) (xs : List A) → ((x : A) → p x ≡ q x)
    → find p xs ≡ find q xs
find_agree p q [] h = refl
find_agree p q (x ∷ xs) h = ap (λ b. cond b (Some x) (find p xs)) (h x)
    ∙ ap (λ o. cond (q x) (Some x) o) (find_agree p q xs h)

find_same : {A : Type 0} (p q : A → Bool) (xs : List A)
    → AllWithin (λ x. p x ≡ q x) xs 0 (length xs) → find p xs ≡ find q xs
find_same p q [] h = refl
find_same p q (x ∷ xs) h =
    ap (λ b. cond b (Some x) (find p xs)) (h zero x (omega arith) (omega arith))
    ∙ ap (λ o. cond (q x) (Some x) o) (find_same p q xs
    (λ k d l m. h (suc k) d (omega arith) (omega arith)))

-- if none before the place passes, and after it the tests agree
pub find_from : {A : Type 0} (p q : A → Bool) (xs : List A) (place : ℕ) → place ≤ length xs
    → AllWithin (λ x. p x ≡ false) xs 0 place → AllWithin (λ x. p x ≡ q x) xs place (length xs)
    → find p xs ≡ find q (drop place xs)
find_from p q xs zero l before behind = find_same p q xs behind
find_from p q [] (suc place) l before behind = absurd (omega arith)
find_from p q (x ∷ xs) (suc place) l before behind =
    cond-false (p x) (Some x) (find p xs) (before zero x (omega arith) (omega arith))
    ∙ find_from p q xs place (omega arith) (λ k d m n. before (suc k) d (omega arith) (omega arith))
    (λ k d m n. behind (suc k) d (omega arith) (omega arith))

-- no more are counted than there are
pub count_le : {A : Type 0} (p : A → Bool) (xs : List A) → count p xs ≤ length xs
count_le p [] = omega arith
count_le p (x ∷ xs) = step (p x) (count_le p xs)
  where
    step : (b : Bool) → count p xs ≤ length xs
        → cond b (suc (count p xs)) (count p xs) ≤ length (x ∷ xs)
    step true rest = omega arith
    step false rest = omega arith

-- what a search finds passes, and what holds of each holds of it
pub found_each : {A : Type 0} (P : A → Type 0) (q : A → Bool) (xs : List A) (a : A) → Each P xs
    → find q xs ≡ Some a → P a × (q a ≡ true)
found_each P q [] a each h = absurd (cc)
found_each P q (x ∷ xs) a each h = step (q x) refl (λ e. found_each P q xs a each.1 e) h
  where
    step : (b : Bool) → q x ≡ b → (find q xs ≡ Some a → P a × (q a ≡ true))
        → cond b (Some x) (find q xs) ≡ Some a → P a × (q a ≡ true)
    step true t rest e = let same : x ≡ a = cc in (subst P same each.0, sym (ap q same) ∙ t)
    step false f rest e = rest e

-- what is found is one of those that are dropped
pub count_dropped : {A : Type 0} (p q keeps : A → Bool) (xs : List A) (a : A)
    → ((x : A) → keeps x ≡ not (q x)) → find q xs ≡ Some a
    → count p (filter keeps xs) + one (p a) ≤ count p xs
count_dropped p q keeps [] a turned h = absurd (cc)
count_dropped p q keeps (x ∷ xs) a turned h =
    step (q x) (keeps x) (turned x) (λ e. count_dropped p q keeps xs a turned e) h
  where
    step : (b k : Bool) → k ≡ not b → (find q xs ≡ Some a
        → count p (filter keeps xs) + one (p a) ≤ count p xs) → cond b (Some x) (find q xs) ≡ Some a
        → count p (cond k (x ∷ filter keeps xs) (filter keeps xs)) + one (p a) ≤ count p (x ∷ xs)
    step true true t rest e = absurd (cc)
    step true false t rest e =
        let same : x ≡ a = cc in
        let here : one (p x) ≡ one (p a) = ap (λ y. one (p y)) same in
        omega (arith, count_cons p x xs, count-filter_le p keeps xs, here)
    step false true t rest e = omega (
      arith,
      count_cons p x xs,
      count_cons p x (filter keeps xs),
      rest e,
    )
    step false false t rest e = absurd (cc)

-- a filter keeps no more than there are
pub length-filter_le : {A : Type 0} (p : A → Bool) (xs : List A) → length (filter p xs) ≤ length xs
length-filter_le p [] = omega arith
length-filter_le p (x ∷ xs) = step (p x) (length-filter_le p xs)
  where
    step : (b : Bool) → length (filter p xs) ≤ length xs
        → length (cond b (x ∷ filter p xs) (filter p xs)) ≤ length (x ∷ xs)
    step true rest = omega arith
    step false rest = omega arith

-- what passes among those that are kept
pub any-filter : {A : Type 0} (p q : A → Bool) (xs : List A)
    → list_any q (filter p xs) ≡ list_any (λ x. q x && p x) xs
any-filter p q [] = refl
any-filter p q (x ∷ xs) = step (p x) (q x) (any-filter p q xs)
  where
    step : (b c : Bool) → list_any q (filter p xs) ≡ list_any (λ y. q y && p y) xs
        → list_any q (cond b (x ∷ filter p xs) (filter p xs))
        ≡ ((q x && b) || list_any (λ y. q y && p y) xs)
    step b c rest = both b
      where
        and_false : (d : Bool) → (d && false) ≡ false
        and_false true = refl
        and_false false = refl

        and_true : (d : Bool) → (d && true) ≡ d
        and_true true = refl
        and_true false = refl

        both : (b : Bool) → list_any q (cond b (x ∷ filter p xs) (filter p xs))
            ≡ ((q x && b) || list_any (λ y. q y && p y) xs)
        both true = ap (λ d. q x || d) rest
            ∙ ap (λ d. d || list_any (λ y. q y && p y) xs) (sym (and_true (q x)))
        both false = rest ∙ ap (λ d. d || list_any (λ y. q y && p y) xs) (sym (and_false (q x)))

-- two filters in either order
pub filter_turned : {A : Type 0} (p q : A → Bool) (xs : List A)
    → filter p (filter q xs) ≡ filter q (filter p xs)
filter_turned p q [] = refl
filter_turned p q (x ∷ xs) = step (p x) (q x) refl refl (filter_turned p q xs)
  where
    step : (b c : Bool) → p x ≡ b → q x ≡ c → filter p (filter q xs) ≡ filter q (filter p xs)
        → filter p (cond c (x ∷ filter q xs) (filter q xs))
        ≡ filter q (cond b (x ∷ filter p xs) (filter p xs))
    step true true hp hq rest = cond-true (p x) (x ∷ filter p (filter q xs))
        (filter p (filter q xs)) hp ∙ ap (λ ys. x ∷ ys) rest
        ∙ sym (cond-true (q x) (x ∷ filter q (filter p xs)) (filter q (filter p xs)) hq)
    step true false hp hq rest = rest ∙ sym
        (cond-false (q x) (x ∷ filter q (filter p xs)) (filter q (filter p xs)) hq)
    step false true hp hq rest = cond-false (p x) (x ∷ filter p (filter q xs))
        (filter p (filter q xs)) hp ∙ rest
    step false false hp hq rest = rest

-- a filter of what passes all of it
pub filter_every : {A : Type 0} (xs : List A) → filter (λ x. true) xs ≡ xs
filter_every [] = refl
filter_every (x ∷ xs) = ap (λ ys. x ∷ ys) (filter_every xs)

-- a filter of what is kept asks what is kept alone
pub filter_on : {A : Type 0} (p q r : A → Bool) (xs : List A) → ((x : A) → r x ≡ true → p x ≡ q x)
    → filter p (filter r xs) ≡ filter q (filter r xs)
filter_on p q r [] h = refl
filter_on p q r (x ∷ xs) h = step (r x) refl (filter_on p q r xs h)
  where
    step : (b : Bool) → r x ≡ b → filter p (filter r xs) ≡ filter q (filter r xs)
        → filter p (cond b (x ∷ filter r xs) (filter r xs))
        ≡ filter q (cond b (x ∷ filter r xs) (filter r xs))
    step true t rest = ap (λ b. cond b (x ∷ filter p (filter r xs)) (filter p (filter r xs)))
        (h x t) ∙ ap (λ ys. cond (q x) (x ∷ ys) ys) rest
    step false f rest = rest

pub filter_passed : {A : Type 0} (p r : A → Bool) (xs : List A)
    → ((x : A) → r x ≡ true → p x ≡ true) → filter p (filter r xs) ≡ filter r xs
filter_passed p r xs h = filter_on p (λ x. true) r xs h ∙ filter_every (filter r xs)

-- a filter of what none is takes nothing
pub filter_none_of : {A : Type 0} (q : A → Bool) (xs : List A) → list_any q xs ≡ false
    → filter (λ x. not (q x)) xs ≡ xs
filter_none_of q [] h = refl
filter_none_of q (x ∷ xs) h =
    let both : (q x ≡ false) × (list_any q xs ≡ false) = or_parts (q x) (list_any q xs) h in
    cond-true (not (q x)) (x ∷ filter (λ y. not (q y)) xs) (filter (λ y. not (q y)) xs)
    (ap not both.0) ∙ ap (λ ys. x ∷ ys) (filter_none_of q xs both.1)

-- an edit that the test does not see
pub count_map : {A : Type 0} (p : A → Bool) (f : A → A) (xs : List A) → ((x : A) → p (f x) ≡ p x)
    → count p (map f xs) ≡ count p xs
count_map p f [] h = refl
count_map p f (x ∷ xs) h = ap (λ b. cond b (suc (count p (map f xs))) (count p (map f xs))) (h x)
    ∙ ap (λ n. cond (p x) (suc n) n) (count_map p f xs h)

-- the one that is counted passes what is counted of both
pub found_both : {A : Type 0} (q r : A → Bool) (xs : List A) → 1 ≤ count (λ x. q x && r x) xs
    → count q xs ≤ 1 → passes r (find q xs) ≡ true
found_both q r [] h once = absurd (omega arith)
found_both q r (x ∷ xs) h once = step (q x) refl (r x) refl (λ a b. found_both q r xs a b) h once
  where
    fewer : count (λ y. q y && r y) xs ≤ count q xs
    fewer = count_both q r xs

    step : (b : Bool) → q x ≡ b → (d : Bool) → r x ≡ d
        → (1 ≤ count (λ y. q y && r y) xs → count q xs ≤ 1 → passes r (find q xs) ≡ true)
        → 1 ≤ cond (b && d) (suc (count (λ y. q y && r y) xs)) (count (λ y. q y && r y) xs)
        → cond b (suc (count q xs)) (count q xs) ≤ 1
        → passes r (cond b (Some x) (find q xs)) ≡ true
    step true t true u rest a c = u
    step true t false u rest a c = absurd (omega (arith, fewer))
    step false f d u rest a c = rest a c
