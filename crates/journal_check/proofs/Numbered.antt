-- A map of std from a number to what has that number.
use Rattle.std.proofs.Common.{ℕ, ◌≡◌, ◌<◌, ◌==◌, Bool, true, false, ◌&&◌, ◌||◌, List, [], ◌∷◌, ◌++◌}
use Rattle.std.proofs.Common.{map, refl, sym, ap, ◌∙◌, subst, arith, cond, Option, Some, None}
use Rattle.std.proofs.Common.{is_some, ⊎_elim}
use Rattle.std.proofs.lemmas.Bool.{false≢true, both_ways, and_left, or_from, or_parts, cases_Bool}
use Rattle.std.proofs.lemmas.Bool.{cases_order, eq-eqb, ne_eqb, eqb-true, cond-true, cond-false}
use Rattle.std.proofs.lemmas.Map.Keys.{sorted_head, sorted_tail}
use Rattle.std.specs.BTreeMap.{is_at, insert_entry}
use Rattle.std.specs.List.{AllByRecursion, list_any}
use Rattle.std.specs.List.Sorted.{IsStrictlySortedBy}
use Rattle.std.specs.Map.{keys_of, values_of, lookup}
use Rattle.std.specs.Ordering.{nat_cmp, is_eq, match_ordering}
use Rattle.std.specs.Prelude.{Ok, Err, OnOk, OnErr, IfSome}
use Rattle.std.specs.declared.result.Result.{Result}
use Rattle.std.specs.declared.cmp.Ordering.{Ordering}
use Rattle.std.specs.declared.cmp.Ordering.TheVariants.{Less, Equal, Greater}
use Rattle.reactor_summary.specs.declared.parts.LiveHandle.{LiveHandle}
use Rattle.reactor_summary.specs.Tells.{Each}
use Rattle.reactor_summary.proofs.Lists.{each_same}
use Rattle.journal_check.specs.Numbered.{handle_number, IsNumbered, IsTheOne, passes}
use Rattle.journal_check.proofs.Keyed.{Agrees, NonePasses, looked_up, any_looked_up}
use Rattle.journal_check.proofs.Timed.{cmp_equal, cmp_greater}
use Rattle.journal_check.proofs.Lanes.{num_test, num_back}

pub number_agrees : {X : Type 0} (num : X → ℕ) (i : ℕ) (es : List (ℕ × X))
    → Each (λ e. e.0 ≡ num e.1) es → Agrees (is_at (nat_cmp i)) (λ x. i == num x) es
number_agrees {X} num i es h = each_same (λ (e : ℕ × X). e.0 ≡ num e.1)
    (λ (e : ℕ × X). (i == num e.1) ≡ is_at (nat_cmp i) e.0) es
    (λ e q. num_test i (num e.1) ∙ ap (λ (n : ℕ). is_eq (nat_cmp i n)) (sym q)) h

behind_none : {X : Type 0} (k : ℕ) (es : List (ℕ × X))
    → AllByRecursion (λ y. nat_cmp k y ≡ Less) (keys_of es) → NonePasses (is_at (nat_cmp k)) es
behind_none k [] h = tt
behind_none k (e ∷ es) h = (ap is_eq h.0, behind_none k es h.1)

none_of_number : {X : Type 0} (num : X → ℕ) (i : ℕ) (q : X → Bool) (es : List (ℕ × X))
    → Each (λ e. e.0 ≡ num e.1) es → NonePasses (is_at (nat_cmp i)) es
    → list_any (λ x. num x == i && q x) (values_of es) ≡ false
none_of_number num i q [] own n = refl
none_of_number num i q (e ∷ es) own n =
    or_from (num e.1 == i && q e.1) _ (and_left _ (q e.1)
    (num_back i (num e.1) ∙ (ap (λ (k : ℕ). is_eq (nat_cmp i k)) (sym own.0) ∙ n.0)))
    (none_of_number num i q es own.1 n.1)

none_each : {X : Type 0} (num : X → ℕ) (i : ℕ) (P : X → Type 0) (es : List (ℕ × X))
    → Each (λ e. e.0 ≡ num e.1) es → NonePasses (is_at (nat_cmp i)) es
    → Each (λ x. num x ≡ i → P x) (values_of es)
none_each num i P [] own n = tt
none_each num i P (e ∷ es) own n = (
  λ q. absurd (both_ways _ n.0 (ap (λ (k : ℕ). is_eq (nat_cmp i k)) own.0
      ∙ (sym (num_back i (num e.1)) ∙ eq-eqb (num e.1) i q))),
  none_each num i P es own.1 n.1,
)

-- what is asked of the one of a number
pub asked_of : {X : Type 0} (num : X → ℕ) (i : ℕ) (q : X → Bool) (es : List (ℕ × X))
    → IsStrictlySortedBy nat_cmp (keys_of es) → Each (λ e. e.0 ≡ num e.1) es
    → list_any (λ x. num x == i && q x) (values_of es) ≡ passes q (lookup (is_at (nat_cmp i)) es)
asked_of num i q [] s own = refl
asked_of {X} num i q (e ∷ es) s own =
    ⊎_elim
    (λ (t : is_at (nat_cmp i) e.0 ≡ true).
    let here : (num e.1 == i) ≡ true =
    num_back i (num e.1) ∙ (ap (λ (k : ℕ). is_eq (nat_cmp i k)) (sym own.0) ∙ t) in
    let key : e.0 ≡ i = own.0 ∙ eqb-true (num e.1) i here in
    let rest : list_any (λ x. num x == i && q x) (values_of es) ≡ false =
    none_of_number num i q es own.1 (subst (λ (k : ℕ). NonePasses (is_at (nat_cmp k)) es) key
    (behind_none e.0 es (sorted_head nat_cmp e.0 (keys_of es) s)))
    in
    ap (λ b. (b && q e.1) || list_any (λ x. num x == i && q x) (values_of es)) here
    ∙ (ap (λ b. q e.1 || b) rest
    ∙ (or_false (q e.1) ∙ sym (ap (passes q)
    (cond-true (is_at (nat_cmp i) e.0) (Some e.1) (lookup (is_at (nat_cmp i)) es) t)))))
    (λ (f : is_at (nat_cmp i) e.0 ≡ false).
    let other : (num e.1 == i) ≡ false =
    num_back i (num e.1) ∙ (ap (λ (k : ℕ). is_eq (nat_cmp i k)) (sym own.0) ∙ f) in
    ap (λ b. (b && q e.1) || list_any (λ x. num x == i && q x) (values_of es)) other
    ∙ (asked_of num i q es (sorted_tail nat_cmp e.0 (keys_of es) s) own.1
    ∙ sym (ap (passes q) (cond-false (is_at (nat_cmp i) e.0) (Some e.1)
    (lookup (is_at (nat_cmp i)) es) f))))
    (cases_Bool (is_at (nat_cmp i) e.0))
  where
    or_false : (b : Bool) → (b || false) ≡ b
    or_false true = refl
    or_false false = refl

-- there is one of a number
pub the_one : {X : Type 0} (num : X → ℕ) (i : ℕ) (es : List (ℕ × X)) (x : X)
    → IsStrictlySortedBy nat_cmp (keys_of es) → Each (λ e. e.0 ≡ num e.1) es
    → lookup (is_at (nat_cmp i)) es ≡ Some x → Each (λ y. num y ≡ i → y ≡ x) (values_of es)
the_one {X} num i [] x s own is = tt
the_one {X} num i (e ∷ es) x s own is =
    ⊎_elim
    (λ (t : is_at (nat_cmp i) e.0 ≡ true).
    let same : e.1 ≡ x = some (sym (cond-true (is_at (nat_cmp i) e.0) (Some e.1)
    (lookup (is_at (nat_cmp i)) es) t) ∙ is) in
    let key : e.0 ≡ i = own.0 ∙ eqb-true (num e.1) i
    (num_back i (num e.1) ∙ (ap (λ (k : ℕ). is_eq (nat_cmp i k)) (sym own.0) ∙ t)) in (
      λ q. same,
      none_each num i (λ y. y ≡ x) es own.1
          (subst (λ (k : ℕ). NonePasses (is_at (nat_cmp k)) es) key
          (behind_none e.0 es (sorted_head nat_cmp e.0 (keys_of es) s))),
    ))
    (λ (f : is_at (nat_cmp i) e.0 ≡ false). (
      λ q. absurd (both_ways _ f (ap (λ (k : ℕ). is_eq (nat_cmp i k)) own.0
          ∙ (sym (num_back i (num e.1)) ∙ eq-eqb (num e.1) i q))),
      the_one num i es x (sorted_tail nat_cmp e.0 (keys_of es) s) own.1
          (sym (cond-false (is_at (nat_cmp i) e.0) (Some e.1) (lookup (is_at (nat_cmp i)) es) f)
          ∙ is),
    ))
    (cases_Bool (is_at (nat_cmp i) e.0))
  where
    some : ◌≡◌ {A = Option X} (Some e.1) (Some x) → e.1 ≡ x
    some q = cc

-- one is put at the end, or in the place of the one of its number
pub put_last : {X : Type 0} (num : X → ℕ) (x : X) (es : List (ℕ × X)) → Each (λ e. e.0 ≡ num e.1) es
    → Each (λ y. num y < num x) (values_of es)
    → values_of (insert_entry nat_cmp es (num x) x) ≡ values_of es ++ x ∷ []
put_last num x [] own below = refl
put_last num x (e ∷ es) own below =
    ap (λ (o : Ordering). values_of (match_ordering o ((num x, x) ∷ e ∷ es) ((e.0, x) ∷ es)
    (e ∷ insert_entry nat_cmp es (num x) x)))
    (ap (nat_cmp (num x)) own.0 ∙ cmp_greater (num x) (num e.1) below.0)
    ∙ ap (λ ys. e.1 ∷ ys) (put_last num x es own.1 below.1)

map_same : {X : Type 0} (i : ℕ) (num : X → ℕ) (x : X) (es : List (ℕ × X))
    → Each (λ e. e.0 ≡ num e.1) es → NonePasses (is_at (nat_cmp i)) es
    → map (λ y. cond (i == num y) x y) (values_of es) ≡ values_of es
map_same i num x [] own n = refl
map_same i num x (e ∷ es) own n =
    ap (λ y. y ∷ map (λ y. cond (i == num y) x y) (values_of es))
    (cond-false (i == num e.1) x e.1 (num_test i (num e.1)
    ∙ (ap (λ (k : ℕ). is_eq (nat_cmp i k)) (sym own.0) ∙ n.0)))
    ∙ ap (λ ys. e.1 ∷ ys) (map_same i num x es own.1 n.1)

pub put_over : {X : Type 0} (num : X → ℕ) (x : X) (es : List (ℕ × X))
    → IsStrictlySortedBy nat_cmp (keys_of es) → Each (λ e. e.0 ≡ num e.1) es
    → list_any (λ y. num x == num y) (values_of es) ≡ true
    → values_of (insert_entry nat_cmp es (num x) x)
    ≡ map (λ y. cond (num x == num y) x y) (values_of es)
put_over num x [] s own h = absurd (false≢true h)
put_over {X} num x (e ∷ es) s own h =
    ap (λ (k : ℕ). values_of (match_ordering (nat_cmp (num x) k) ((num x, x) ∷ e ∷ es)
    ((e.0, x) ∷ es) (e ∷ insert_entry nat_cmp es (num x) x))) own.0
    ∙ ⊎_elim
    (λ (q : num x ≡ num e.1).
    let none : NonePasses (is_at (nat_cmp (num x))) es =
    subst (λ (k : ℕ). NonePasses (is_at (nat_cmp k)) es) (own.0 ∙ sym q)
    (behind_none e.0 es (sorted_head nat_cmp e.0 (keys_of es) s)) in
    ap (λ (o : Ordering). values_of (match_ordering o ((num x, x) ∷ e ∷ es) ((e.0, x) ∷ es)
    (e ∷ insert_entry nat_cmp es (num x) x))) (cmp_equal (num x) (num e.1) q)
    ∙ (ap (λ ys. x ∷ ys) (sym (map_same (num x) num x es own.1 none))
    ∙ sym (ap (λ y. y ∷ map (λ y. cond (num x == num y) x y) (values_of es))
    (cond-true (num x == num e.1) x e.1 (eq-eqb (num x) (num e.1) q)))))
    (⊎_elim
    (λ (q : num x < num e.1). absurd (both_ways _
    (or_from (num x == num e.1) _ (ne_eqb (num x) (num e.1) (λ d. absurd (omega arith)))
    (above es own.1 (sorted_head nat_cmp e.0 (keys_of es) s) q)) h))
    (λ (q : num e.1 < num x).
    let other : (num x == num e.1) ≡ false = ne_eqb (num x) (num e.1) (λ d. absurd (omega arith)) in
    ap (λ (o : Ordering). values_of (match_ordering o ((num x, x) ∷ e ∷ es) ((e.0, x) ∷ es)
    (e ∷ insert_entry nat_cmp es (num x) x))) (cmp_greater (num x) (num e.1) q)
    ∙ (ap (λ ys. e.1 ∷ ys) (put_over num x es (sorted_tail nat_cmp e.0 (keys_of es) s) own.1
    (sym (ap (λ b. b || list_any (λ y. num x == num y) (values_of es)) other) ∙ h))
    ∙ sym (ap (λ y. y ∷ map (λ y. cond (num x == num y) x y) (values_of es))
    (cond-false (num x == num e.1) x e.1 other)))))
    (cases_order (num x) (num e.1))
  where
    less : (a b : ℕ) → nat_cmp a b ≡ Less → a < b
    less a b h =
        ⊎_elim
        (λ (q : a ≡ b). absurd (equal (sym (cmp_equal a b q) ∙ h)))
        (⊎_elim
        (λ (q : a < b). q)
        (λ (q : b < a). absurd (greater (sym (cmp_greater a b q) ∙ h))))
        (cases_order a b)
      where
        equal : Equal ≡ Less → ⊥
        equal q = cc

        greater : Greater ≡ Less → ⊥
        greater q = cc

    above : (fs : List (ℕ × X)) → Each (λ f. f.0 ≡ num f.1) fs
        → AllByRecursion (λ y. nat_cmp e.0 y ≡ Less) (keys_of fs) → num x < num e.1
        → list_any (λ y. num x == num y) (values_of fs) ≡ false
    above [] o a lt = refl
    above (f ∷ fs) o a lt =
        let first : e.0 < f.0 = less e.0 f.0 a.0 in
        let key : e.0 ≡ num e.1 = own.0 in
        let here : f.0 ≡ num f.1 = o.0 in
        or_from (num x == num f.1) _ (ne_eqb (num x) (num f.1) (λ d. absurd (omega arith)))
        (above fs o.1 a.1 lt)

-- the change of one is the change of each of that number
pub changed : {X : Type 0} (num : X → ℕ) (i : ℕ) (f : X → X) (x y : X) (xs : List X)
    → Each (λ z. num z ≡ i → z ≡ x) xs → y ≡ f x
    → map (λ z. cond (i == num z) y z) xs ≡ map (λ z. cond (i == num z) (f z) z) xs
changed num i f x y [] one q = refl
changed {X} num i f x y (z ∷ xs) one q =
    ap (λ (ys : List X). cond (i == num z) y z ∷ ys) (changed num i f x y xs one.1 q)
    ∙ ap (λ (a : X). a ∷ map (λ z. cond (i == num z) (f z) z) xs)
    (⊎_elim
    (λ (t : (i == num z) ≡ true). cond-true (i == num z) y z t
    ∙ (q ∙ (ap f (sym (one.0 (sym (eqb-true i (num z) t))))
    ∙ sym (cond-true (i == num z) (f z) z t))))
    (λ (n : (i == num z) ≡ false). cond-false (i == num z) y z n
    ∙ sym (cond-false (i == num z) (f z) z n))
    (cases_Bool (i == num z)))

pub unchanged : {X : Type 0} (num : X → ℕ) (i : ℕ) (f : X → X) (xs : List X)
    → list_any (λ z. i == num z) xs ≡ false → xs ≡ map (λ z. cond (i == num z) (f z) z) xs
unchanged num i f [] n = refl
unchanged {X} num i f (z ∷ xs) n =
    let both : ((i == num z) ≡ false) × (list_any (λ z. i == num z) xs ≡ false) =
    or_parts (i == num z) _ n in
    ap (λ (ys : List X). z ∷ ys) (unchanged num i f xs both.1)
    ∙ ap (λ (a : X). a ∷ map (λ z. cond (i == num z) (f z) z) xs)
    (sym (cond-false (i == num z) (f z) z both.0))

-- an answer that cannot be a refusal
pub must_be_ok : {T E P Q : Type 0} (r : Result T E) → OnErr r P → (P → ⊥) → OnOk r Q → Q
must_be_ok (Ok v) e n q = q
must_be_ok (Err x) e n q = absurd (n e)

pub one_or_none : (x : ℕ) (es : List (ℕ × LiveHandle)) → IsNumbered handle_number es
    → (o : Option LiveHandle) → lookup (is_at (nat_cmp x)) es ≡ o
    → IfSome o (IsTheOne x (values_of es))
one_or_none x es n None is = tt
one_or_none x es n (Some h) is =
    let r : (k : ℕ) × (k ≡ h.handle.0) × (is_at (nat_cmp x) k ≡ true) =
    looked_up (λ (e : ℕ × LiveHandle). e.0 ≡ e.1.handle.0) (is_at (nat_cmp x)) es h n.own is in
    record {
      number = sym (eqb-true x h.handle.0
          (num_test x h.handle.0 ∙ (ap (is_at (nat_cmp x)) (sym r.1) ∙ r.2)));
      there = any_looked_up (is_at (nat_cmp x)) (λ (g : LiveHandle). x == g.handle.0) es
          (number_agrees handle_number x es n.own) ∙ ap is_some is;
      one = the_one handle_number x es h n.ordered n.own is;
    }
