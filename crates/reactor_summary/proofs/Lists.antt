-- Lists of what a function gives at the numbers below a bound, and facts of each element.
use Rattle.std.proofs.Common.{ℕ, zero, suc, ◌≡◌, ◌≢◌, ◌<◌, Bool, true, false, ◌||◌, List, [], ◌∷◌}
use Rattle.std.proofs.Common.{◌++◌, map, refl, sym, ap, ◌∙◌, subst, arith, cond, Option, Some, None}
use Rattle.std.proofs.Common.{option_map, ⊎_elim}
use Rattle.std.proofs.lemmas.Bool.{false≢true, or_cases, or_left, or_right, both_ways, cases_Bool}
use Rattle.std.proofs.lemmas.Bool.{cases_eq, cond-true, cond-false}
use Rattle.std.proofs.lemmas.List.Elements.{filter-append}
use Rattle.std.proofs.lemmas.List.Folds.{list_any-append}
use Rattle.std.specs.List.{list_any, filter, find}
use Rattle.std.specs.Option.{option_to_list}
use Rattle.reactor_summary.specs.Tells.{listed, Each}

pub map-append : {A B : Type 0} (g : A → B) (xs ys : List A)
    → map g (xs ++ ys) ≡ map g xs ++ map g ys
map-append g [] ys = refl
map-append g (x ∷ xs) ys = ap (λ zs. g x ∷ zs) (map-append g xs ys)

pub some_is : {A : Type 0} (a b : A) → ◌≡◌ {A = Option A} (Some a) (Some b) → a ≡ b
some_is a b h = cc

pub none_some : {A P : Type 0} (a : A) → ◌≡◌ {A = Option A} None (Some a) → P
none_some {A} a h = absurd (none h)
  where
    none : ◌≡◌ {A = Option A} None (Some a) → ⊥
    none q = cc

-- two functions that agree below n list the same
pub listed_same : {A : Type 0} (f g : ℕ → Option A) (n : ℕ) → ((k : ℕ) → k < n → f k ≡ g k)
    → listed f n ≡ listed g n
listed_same f g zero h = refl
listed_same f g (suc n) h =
    ap (λ xs. xs ++ option_to_list (f n)) (listed_same f g n (λ k lt. h k (omega arith)))
    ∙ ap (λ o. listed g n ++ option_to_list o) (h n (omega arith))

map-option : {A B : Type 0} (g : A → B) (o : Option A)
    → map g (option_to_list o) ≡ option_to_list (option_map g o)
map-option g None = refl
map-option g (Some a) = refl

pub map-listed : {A B : Type 0} (g : A → B) (f : ℕ → Option A) (n : ℕ)
    → map g (listed f n) ≡ listed (λ k. option_map g (f k)) n
map-listed g f zero = refl
map-listed g f (suc n) =
    map-append g (listed f n) (option_to_list (f n))
    ∙ (ap (λ xs. xs ++ map g (option_to_list (f n))) (map-listed g f n)
    ∙ ap (λ ys. listed (λ k. option_map g (f k)) n ++ ys) (map-option g (f n)))

-- the value, if it passes
abbrev pub kept : {A : Type 0} → (A → Bool) → Option A → Option A
kept p None = None
kept p (Some a) = cond (p a) (Some a) None

filter-option : {A : Type 0} (p : A → Bool) (o : Option A)
    → filter p (option_to_list o) ≡ option_to_list (kept p o)
filter-option p None = refl
filter-option {A} p (Some a) = by_cases (p a)
  where
    by_cases : (b : Bool) → cond b (a ∷ []) [] ≡ option_to_list (cond b (Some a) None)
    by_cases true = refl
    by_cases false = refl

pub filter-listed : {A : Type 0} (p : A → Bool) (f : ℕ → Option A) (n : ℕ)
    → filter p (listed f n) ≡ listed (λ k. kept p (f k)) n
filter-listed p f zero = refl
filter-listed p f (suc n) =
    filter-append p (listed f n) (option_to_list (f n))
    ∙ (ap (λ xs. xs ++ filter p (option_to_list (f n))) (filter-listed p f n)
    ∙ ap (λ ys. listed (λ k. kept p (f k)) n ++ ys) (filter-option p (f n)))

any-option : {A : Type 0} (p : A → Bool) (o : Option A) → list_any p (option_to_list o) ≡ true
    → (a : A) × (o ≡ Some a) × (p a ≡ true)
any-option p None h = absurd (false≢true h)
any-option p (Some a) h = (
  a,
  refl,
  ⊎_elim (λ (t : p a ≡ true). t) (λ (t : false ≡ true). absurd (false≢true t))
      (or_cases (p a) false h),
)

-- what passes stands at some number
pub any_listed-some : {A : Type 0} (p : A → Bool) (f : ℕ → Option A) (n : ℕ)
    → list_any p (listed f n) ≡ true → (k : ℕ) × (a : A) × (k < n) × (f k ≡ Some a) × (p a ≡ true)
any_listed-some p f zero h = absurd (false≢true h)
any_listed-some {A} p f (suc n) h =
    ⊎_elim
    (λ (t : list_any p (listed f n) ≡ true). let r : (k : ℕ) × (a : A) × (k < n) × (f k ≡ Some a)
    × (p a ≡ true) = any_listed-some p f n t in (r.0, r.1, omega arith, r.3, r.4))
    (λ (t : list_any p (option_to_list (f n)) ≡ true). let r : (a : A) × (f n ≡ Some a)
    × (p a ≡ true) = any-option p (f n) t in (n, r.0, omega arith, r.1, r.2))
    (or_cases (list_any p (listed f n)) (list_any p (option_to_list (f n)))
    (sym (list_any-append p (listed f n) (option_to_list (f n))) ∙ h))

pub any_listed-from : {A : Type 0} (p : A → Bool) (f : ℕ → Option A) (n k : ℕ) (a : A) → k < n
    → f k ≡ Some a → p a ≡ true → list_any p (listed f n) ≡ true
any_listed-from p f zero k a lt is h = absurd (omega arith)
any_listed-from p f (suc n) k a lt is h =
    list_any-append p (listed f n) (option_to_list (f n))
    ∙ ⊎_elim
    (λ (q : k ≡ n).
    let at : f n ≡ Some a = sym (ap f q) ∙ is in
    or_right (list_any p (listed f n)) _
    (ap (λ o. list_any p (option_to_list o)) at ∙ or_left (p a) false h))
    (λ (q : k ≢ n). or_left (list_any p (listed f n)) _
    (any_listed-from p f n k a (omega arith) is h))
    (cases_eq k n)

-- ---- facts of each element

pub each_any : {A : Type 0} (P : A → Type 0) (p : A → Bool) (xs : List A) → Each P xs
    → list_any p xs ≡ true → (a : A) × P a × (p a ≡ true)
each_any P p [] e h = absurd (false≢true h)
each_any {A} P p (x ∷ xs) e h =
    ⊎_elim
    (λ (t : p x ≡ true). (x, e.0, t))
    (λ (t : list_any p xs ≡ true). each_any P p xs e.1 t)
    (or_cases (p x) (list_any p xs) h)

-- the first that passes
pub each_find : {A : Type 0} (P : A → Type 0) (p : A → Bool) (xs : List A) → Each P xs
    → list_any p xs ≡ true → (a : A) × (find p xs ≡ Some a) × P a × (p a ≡ true)
each_find P p [] e h = absurd (false≢true h)
each_find {A} P p (x ∷ xs) e h =
    ⊎_elim
    (λ (t : p x ≡ true). (x, cond-true (p x) (Some x) (find p xs) t, e.0, t))
    (λ (f : p x ≡ false).
    let rest : list_any p xs ≡ true = ⊎_elim (λ (t : p x ≡ true). absurd (both_ways (p x) f t))
    (λ (t : list_any p xs ≡ true). t) (or_cases (p x) (list_any p xs) h) in
    let r : (a : A) × (find p xs ≡ Some a) × P a × (p a ≡ true) = each_find P p xs e.1 rest in
    (r.0, cond-false (p x) (Some x) (find p xs) f ∙ r.1, r.2, r.3))
    (cases_Bool (p x))

-- if an element passes one test, one passes the other
pub each_any_other : {A : Type 0} (P : A → Type 0) (p q : A → Bool) (xs : List A) → Each P xs
    → ((a : A) → P a → p a ≡ true → q a ≡ true) → list_any p xs ≡ true → list_any q xs ≡ true
each_any_other P p q [] e f h = absurd (false≢true h)
each_any_other P p q (x ∷ xs) e f h =
    ⊎_elim
    (λ (t : p x ≡ true). or_left (q x) (list_any q xs) (f x e.0 t))
    (λ (t : list_any p xs ≡ true). or_right (q x) (list_any q xs) (each_any_other P p q xs e.1 f t))
    (or_cases (p x) (list_any p xs) h)

pub each_same : {A : Type 0} (P Q : A → Type 0) (xs : List A) → ((a : A) → P a → Q a) → Each P xs
    → Each Q xs
each_same P Q [] f e = tt
each_same P Q (x ∷ xs) f e = (f x e.0, each_same P Q xs f e.1)

pub each_append : {A : Type 0} (P : A → Type 0) (xs ys : List A) → Each P xs → Each P ys
    → Each P (xs ++ ys)
each_append P [] ys e d = d
each_append P (x ∷ xs) ys e d = (e.0, each_append P xs ys e.1 d)

-- those that pass have what they have, and passed
pub each_filter : {A : Type 0} (P Q : A → Type 0) (p : A → Bool) (xs : List A)
    → ((a : A) → P a → p a ≡ true → Q a) → Each P xs → Each Q (filter p xs)
each_filter P Q p [] f e = tt
each_filter P Q p (x ∷ xs) f e =
    ⊎_elim
    (λ (t : p x ≡ true). subst (Each Q) (sym (cond-true (p x) (x ∷ filter p xs) (filter p xs) t))
    (f x e.0 t, each_filter P Q p xs f e.1))
    (λ (n : p x ≡ false). subst (Each Q) (sym (cond-false (p x) (x ∷ filter p xs) (filter p xs) n))
    (each_filter P Q p xs f e.1))
    (cases_Bool (p x))

pub any_filter-from : {A : Type 0} (p q : A → Bool) (xs : List A)
    → ((a : A) → q a ≡ true → p a ≡ true) → list_any q xs ≡ true → list_any q (filter p xs) ≡ true
any_filter-from p q [] f h = h
any_filter-from {A} p q (x ∷ xs) f h =
    ⊎_elim
    (λ (t : p x ≡ true).
    ap (list_any q) (cond-true (p x) (x ∷ filter p xs) (filter p xs) t)
    ∙ ⊎_elim
    (λ (u : q x ≡ true). or_left (q x) (list_any q (filter p xs)) u)
    (λ (u : list_any q xs ≡ true). or_right (q x) (list_any q (filter p xs))
    (any_filter-from p q xs f u))
    (or_cases (q x) (list_any q xs) h))
    (λ (n : p x ≡ false).
    ap (list_any q) (cond-false (p x) (x ∷ filter p xs) (filter p xs) n)
    ∙ ⊎_elim
    (λ (u : q x ≡ true). absurd (both_ways (p x) n (f x u)))
    (λ (u : list_any q xs ≡ true). any_filter-from p q xs f u)
    (or_cases (q x) (list_any q xs) h))
    (cases_Bool (p x))

-- ---- maps and filters

pub map_same : {A B : Type 0} (f g : A → B) (xs : List A) → Each (λ a. f a ≡ g a) xs
    → map f xs ≡ map g xs
map_same f g [] e = refl
map_same f g (x ∷ xs) e = ap (λ y. y ∷ map f xs) e.0 ∙ ap (λ ys. g x ∷ ys) (map_same f g xs e.1)

pub filter_each : {A : Type 0} (p q : A → Bool) (xs : List A) → Each (λ a. p a ≡ q a) xs
    → filter p xs ≡ filter q xs
filter_each p q [] e = refl
filter_each p q (x ∷ xs) e = ap (λ b. cond b (x ∷ filter p xs) (filter p xs)) e.0
    ∙ ap (λ ys. cond (q x) (x ∷ ys) ys) (filter_each p q xs e.1)

pub filter-map : {A B : Type 0} (p : B → Bool) (f : A → B) (xs : List A)
    → filter p (map f xs) ≡ map f (filter (λ a. p (f a)) xs)
filter-map p f [] = refl
filter-map {A} {B} p f (x ∷ xs) = ap (λ ys. cond (p (f x)) (f x ∷ ys) ys) (filter-map p f xs)
    ∙ by_cases (p (f x)) (filter (λ a. p (f a)) xs)
  where
    by_cases : (b : Bool) (ys : List A)
        → cond b (f x ∷ map f ys) (map f ys) ≡ map f (cond b (x ∷ ys) ys)
    by_cases true ys = refl
    by_cases false ys = refl

pub any-map : {A B : Type 0} (p : B → Bool) (f : A → B) (xs : List A)
    → list_any p (map f xs) ≡ list_any (λ a. p (f a)) xs
any-map p f [] = refl
any-map p f (x ∷ xs) = ap (λ b. p (f x) || b) (any-map p f xs)

pub each_from_any : {A : Type 0} (key : A → ℕ) (test : ℕ → A → Bool) (Q : A → Type 0) (xs : List A)
    → ((a : A) → test (key a) a ≡ true) → ((a : A) → list_any (test (key a)) xs ≡ true → Q a)
    → Each Q xs
each_from_any key test Q [] own h = tt
each_from_any key test Q (x ∷ xs) own h = (
  h x (or_left (test (key x) x) (list_any (test (key x)) xs) (own x)),
  each_from_any key test Q xs own (λ a t.
      h a (or_right (test (key a) x) (list_any (test (key a)) xs) t)),
)
