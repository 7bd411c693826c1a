-- A map of std as the list of its values, if a test of the values tells a key.
use Rattle.std.proofs.Common.{◌<◌, length, arith, ◌≡◌, Bool, true, false, not, ◌||◌, List, [], ◌∷◌}
use Rattle.std.proofs.Common.{refl, sym, ap, ◌∙◌, subst, cond, Option, Some, None, is_some, ⊎_elim}
use Rattle.std.proofs.lemmas.Bool.{false≢true, both_ways, cases_Bool, cond-true, cond-false}
use Rattle.std.proofs.lemmas.Bool.{or_cases, or_left, or_right, or_parts, or_from}
use Rattle.std.specs.BTreeMap.{insert_entry}
use Rattle.std.specs.List.{filter, find, list_any}
use Rattle.std.specs.Map.{values_of, lookup, remove_entry}
use Rattle.std.specs.Ordering.{match_ordering}
use Rattle.std.specs.declared.cmp.Ordering.{Ordering}
use Rattle.std.specs.declared.cmp.Ordering.TheVariants.{Less, Equal, Greater}
use Rattle.std.specs.Prelude.{Ok, Err, OnOk, IfSome}
use Rattle.std.specs.declared.result.Result.{Result}
use Rattle.reactor_summary.specs.Tells.{Each}

-- the test of the values passes when the test of the keys does
abbrev pub Agrees : {K X : Type 0} → (K → Bool) → (X → Bool) → List (K × X) → Type 0
Agrees {K} {X} test p es = Each (λ (e : K × X). p e.1 ≡ test e.0) es

abbrev pub NonePasses : {K X : Type 0} → (K → Bool) → List (K × X) → Type 0
NonePasses {K} {X} test es = Each (λ (e : K × X). test e.0 ≡ false) es

-- a key that a look-up does not find is no entry's
pub none_from_lookup : {K X : Type 0} (test : K → Bool) (es : List (K × X)) → lookup test es ≡ None
    → NonePasses test es
none_from_lookup test [] h = tt
none_from_lookup {K} {X} test (e ∷ es) h =
    ⊎_elim
    (λ (t : test e.0 ≡ true). absurd (some
    (sym (cond-true (test e.0) (Some e.1) (lookup test es) t) ∙ h)))
    (λ (f : test e.0 ≡ false). (
      f,
      none_from_lookup test es
          (sym (cond-false (test e.0) (Some e.1) (lookup test es) f) ∙ h),
    ))
    (cases_Bool (test e.0))
  where
    some : ◌≡◌ {A = Option X} (Some e.1) None → ⊥
    some q = cc

pub filter_none : {K X : Type 0} (test : K → Bool) (p : X → Bool) (es : List (K × X))
    → Agrees test p es → NonePasses test es → filter (λ x. not (p x)) (values_of es) ≡ values_of es
filter_none test p [] a n = refl
filter_none test p (e ∷ es) a n =
    cond-true (not (p e.1)) _ _ (ap not (a.0 ∙ n.0))
    ∙ ap (λ xs. e.1 ∷ xs) (filter_none test p es a.1 n.1)

-- the one entry at a key leaves
pub values_removed : {K X : Type 0} (test : K → Bool) (p : X → Bool) (es : List (K × X))
    → Agrees test p es → lookup test (remove_entry test es) ≡ None
    → values_of (remove_entry test es) ≡ filter (λ x. not (p x)) (values_of es)
values_removed test p [] a n = refl
values_removed {K} {X} test p (e ∷ es) a n =
    ⊎_elim
    (λ (t : test e.0 ≡ true).
    let left : remove_entry test (e ∷ es) ≡ es =
    cond-true (test e.0) es (e ∷ remove_entry test es) t in
    ap values_of left
    ∙ (sym (filter_none test p es a.1 (none_from_lookup test es (ap (lookup test) (sym left) ∙ n)))
    ∙ sym (cond-false (not (p e.1)) _ _ (ap not (a.0 ∙ t)))))
    (λ (f : test e.0 ≡ false).
    let left : remove_entry test (e ∷ es) ≡ e ∷ remove_entry test es =
    cond-false (test e.0) es (e ∷ remove_entry test es) f in
    let none : lookup test (remove_entry test es) ≡ None =
    sym (cond-false (test e.0) (Some e.1) (lookup test (remove_entry test es)) f)
    ∙ (ap (lookup test) (sym left) ∙ n) in
    ap values_of left
    ∙ (ap (λ xs. e.1 ∷ xs) (values_removed test p es a.1 none)
    ∙ sym (cond-true (not (p e.1)) _ _ (ap not (a.0 ∙ f)))))
    (cases_Bool (test e.0))

-- what a test finds among the values
pub any_looked_up : {K X : Type 0} (test : K → Bool) (p : X → Bool) (es : List (K × X))
    → Agrees test p es → list_any p (values_of es) ≡ is_some (lookup test es)
any_looked_up test p [] a = refl
any_looked_up {K} {X} test p (e ∷ es) a =
    ap (λ b. b || list_any p (values_of es)) a.0
    ∙ (ap (λ b. test e.0 || b) (any_looked_up test p es a.1) ∙ by_cases (test e.0))
  where
    by_cases : (b : Bool) → (b || is_some (lookup test es))
        ≡ is_some (cond b (Some e.1) (lookup test es))
    by_cases true = refl
    by_cases false = refl

pub find_looked_up : {K X : Type 0} (test : K → Bool) (p : X → Bool) (es : List (K × X))
    → Agrees test p es → find p (values_of es) ≡ lookup test es
find_looked_up test p [] a = refl
find_looked_up test p (e ∷ es) a =
    ap (λ b. cond b (Some e.1) (find p (values_of es))) a.0
    ∙ ap (λ o. cond (test e.0) (Some e.1) o) (find_looked_up test p es a.1)

-- what holds of each entry holds of those that are left
pub each_removed : {K X : Type 0} (P : K × X → Type 0) (test : K → Bool) (es : List (K × X))
    → Each P es → Each P (remove_entry test es)
each_removed P test [] h = tt
each_removed P test (e ∷ es) h =
    ⊎_elim
    (λ (t : test e.0 ≡ true). subst (Each P)
    (sym (cond-true (test e.0) es (e ∷ remove_entry test es) t)) h.1)
    (λ (t : test e.0 ≡ false). subst (Each P)
    (sym (cond-false (test e.0) es (e ∷ remove_entry test es) t))
    (h.0, each_removed P test es h.1))
    (cases_Bool (test e.0))

-- what holds of each entry and of one more holds after an insertion, if an equal key changes
-- nothing of it
pub each_inserted : {K X : Type 0} (P : K × X → Type 0) (R : K → K → Ordering) (es : List (K × X))
    (k : K) (v : X) → ((x : K) → R k x ≡ Equal → k ≡ x) → Each P es → P (k, v)
    → Each P (insert_entry R es k v)
each_inserted P R [] k v exact h n = (n, tt)
each_inserted {K} {X} P R (e ∷ es) k v exact h n =
    by_cases (each_inserted P R es k v exact h.1 n) (R k e.0) refl
  where
    by_cases : Each P (insert_entry R es k v) → (o : Ordering) → R k e.0 ≡ o
        → Each P (match_ordering o ((k, v) ∷ e ∷ es) ((e.0, v) ∷ es) (e ∷ insert_entry R es k v))
    by_cases rest Less q = (n, h)
    by_cases rest Equal q = (subst (λ (x : K). P (x, v)) (exact e.0 q) n, h.1)
    by_cases rest Greater q = (h.0, rest)

-- what follows from an answer
pub on_ok : {E P Q : Type 0} (r : Result (Unit {0}) E) → OnOk r P → (P → Q) → OnOk r Q
on_ok (Ok u) p f = f p
on_ok (Err e) p f = p

-- what holds of each entry holds of the one that a look-up finds
pub looked_up : {K X : Type 0} (P : K × X → Type 0) (test : K → Bool) (es : List (K × X)) (x : X)
    → Each P es → lookup test es ≡ Some x → (k : K) × P (k, x) × (test k ≡ true)
looked_up {K} {X} P test [] x h is = absurd (none is)
  where
    none : ◌≡◌ {A = Option X} None (Some x) → ⊥
    none q = cc
looked_up {K} {X} P test (e ∷ es) x h is =
    ⊎_elim
    (λ (t : test e.0 ≡ true).
    let same : e.1 ≡ x = some (sym (cond-true (test e.0) (Some e.1) (lookup test es) t) ∙ is) in
    (e.0, subst (λ (y : X). P (e.0, y)) same h.0, t))
    (λ (f : test e.0 ≡ false). looked_up P test es x h.1
    (sym (cond-false (test e.0) (Some e.1) (lookup test es) f) ∙ is))
    (cases_Bool (test e.0))
  where
    some : ◌≡◌ {A = Option X} (Some e.1) (Some x) → e.1 ≡ x
    some q = cc

pub value_looked_up : {K X : Type 0} (P : X → Type 0) (test : K → Bool) (es : List (K × X)) (x : X)
    → Each P (values_of es) → lookup test es ≡ Some x → P x
value_looked_up {K} {X} P test [] x h is = absurd (none is)
  where
    none : ◌≡◌ {A = Option X} None (Some x) → ⊥
    none q = cc
value_looked_up {K} {X} P test (e ∷ es) x h is =
    ⊎_elim
    (λ (t : test e.0 ≡ true). subst P (some
    (sym (cond-true (test e.0) (Some e.1) (lookup test es) t) ∙ is)) h.0)
    (λ (f : test e.0 ≡ false). value_looked_up P test es x h.1
    (sym (cond-false (test e.0) (Some e.1) (lookup test es) f) ∙ is))
    (cases_Bool (test e.0))
  where
    some : ◌≡◌ {A = Option X} (Some e.1) (Some x) → e.1 ≡ x
    some q = cc

-- ---- members of a list, by the tests that find them

pub any_member : {A : Type 0} (p : A → Bool) (xs : List A) → list_any p xs ≡ true → (a : A)
    × (p a ≡ true) × ((q : A → Bool) → q a ≡ true → list_any q xs ≡ true)
any_member p [] h = absurd (false≢true h)
any_member {A} p (x ∷ xs) h =
    ⊎_elim
    (λ (t : p x ≡ true). (x, t, λ q c. or_left (q x) (list_any q xs) c))
    (λ (t : list_any p xs ≡ true).
    let r : (a : A) × (p a ≡ true) × ((q : A → Bool) → q a ≡ true → list_any q xs ≡ true) =
    any_member p xs t in
    (r.0, r.1, λ q c. or_right (q x) (list_any q xs) (r.2 q c)))
    (or_cases (p x) (list_any p xs) h)

pub each_member : {A : Type 0} (P : A → Type 0) (xs : List A)
    → ((a : A) → ((q : A → Bool) → q a ≡ true → list_any q xs ≡ true) → P a) → Each P xs
each_member P [] h = tt
each_member P (x ∷ xs) h = (
  h x (λ q c. or_left (q x) (list_any q xs) c),
  each_member P xs (λ a m. h a (λ q c. or_right (q x) (list_any q xs) (m q c))),
)

-- ---- filters

-- one that takes nothing away
pub filter_all : {A : Type 0} (p : A → Bool) (xs : List A) → list_any p xs ≡ false
    → filter (λ a. not (p a)) xs ≡ xs
filter_all p [] h = refl
filter_all p (x ∷ xs) h =
    let both : (p x ≡ false) × (list_any p xs ≡ false) = or_parts (p x) (list_any p xs) h in
    cond-true (not (p x)) _ _ (ap not both.0) ∙ ap (λ ys. x ∷ ys) (filter_all p xs both.1)

pub none_left : {A : Type 0} (p : A → Bool) (xs : List A)
    → list_any p (filter (λ a. not (p a)) xs) ≡ false
none_left p [] = refl
none_left p (x ∷ xs) =
    ⊎_elim
    (λ (t : p x ≡ true). ap (list_any p)
    (cond-false (not (p x)) (x ∷ filter (λ a. not (p a)) xs) _ (ap not t)) ∙ none_left p xs)
    (λ (f : p x ≡ false). ap (list_any p)
    (cond-true (not (p x)) (x ∷ filter (λ a. not (p a)) xs) _ (ap not f))
    ∙ or_from (p x) _ f (none_left p xs))
    (cases_Bool (p x))

pub if_some : {A : Type 0} {P Q : A → Type 0} (o : Option A) → IfSome o P → ((a : A) → P a → Q a)
    → IfSome o Q
if_some None h f = h
if_some (Some a) h f = f a h

pub any_none : {A : Type 0} (p : A → Bool) (xs : List A) → ((a : A) → p a ≡ false)
    → list_any p xs ≡ false
any_none p [] h = refl
any_none p (x ∷ xs) h = or_from (p x) (list_any p xs) (h x) (any_none p xs h)

pub find_none : {A : Type 0} (p : A → Bool) (xs : List A) → list_any p xs ≡ false → find p xs ≡ None
find_none p [] h = refl
find_none p (x ∷ xs) h =
    let both : (p x ≡ false) × (list_any p xs ≡ false) = or_parts (p x) (list_any p xs) h in
    cond-false (p x) (Some x) (find p xs) both.0 ∙ find_none p xs both.1

pub find_some : {A : Type 0} (p : A → Bool) (xs : List A) → list_any p xs ≡ true → (a : A)
    × (find p xs ≡ Some a)
find_some p [] h = absurd (false≢true h)
find_some {A} p (x ∷ xs) h =
    ⊎_elim
    (λ (t : p x ≡ true). (x, cond-true (p x) (Some x) (find p xs) t))
    (λ (f : p x ≡ false).
    let r : (a : A) × (find p xs ≡ Some a) =
    find_some p xs (⊎_elim (λ (t : p x ≡ true). absurd (both_ways (p x) f t))
    (λ (t : list_any p xs ≡ true). t) (or_cases (p x) (list_any p xs) h)) in
    (r.0, cond-false (p x) (Some x) (find p xs) f ∙ r.1))
    (cases_Bool (p x))

-- no element passes a test
pub each_none : {A : Type 0} (p : A → Bool) (xs : List A) → list_any p xs ≡ false
    → Each (λ a. p a ≡ false) xs
each_none p [] h = tt
each_none p (x ∷ xs) h =
    let both : (p x ≡ false) × (list_any p xs ≡ false) = or_parts (p x) (list_any p xs) h in
    (both.0, each_none p xs both.1)

pub empty_none : {A : Type 0} (p : A → Bool) (xs : List A) → (0 < length xs → ⊥)
    → list_any p xs ≡ false
empty_none p [] h = refl
empty_none p (x ∷ xs) h = absurd (h (omega arith))
