-- A map from numbers as the entries of its places.
use Rattle.std.proofs.Common.{ℕ, zero, suc, ◌≡◌, ◌+◌, ◌<◌, ◌≤◌, List, [], ◌∷◌, ◌++◌, length, get_or}
use Rattle.std.proofs.Common.{set, replicate, Option, Some, None, cond, true, false, refl, sym, ap}
use Rattle.std.proofs.Common.{◌∙◌, subst, arith, ⊎_elim}
use Rattle.std.proofs.lemmas.Bool.{cases_Bool, cases_eq, cases_lt, eq-eqb, ne_eqb, lt-ltb, le-ltb}
use Rattle.std.proofs.lemmas.Bool.{cond-true, cond-false}
use Rattle.std.proofs.lemmas.List.{get_or-set_same, get_or-set_other, get_or_past}
use Rattle.std.specs.BTreeMap.{is_at, insert_entry}
use Rattle.std.specs.List.{AllByRecursion}
use Rattle.std.specs.List.Sorted.{IsStrictlySortedBy}
use Rattle.std.specs.Map.{keys_of, lookup, remove_entry}
use Rattle.std.specs.Prelude.{Ok, Err, OnErr, IsSome}
use Rattle.std.specs.declared.result.Result.{Result}
use Rattle.std.specs.Ordering.{nat_cmp, is_eq, match_ordering}
use Rattle.std.specs.declared.cmp.Ordering.{Ordering}
use Rattle.std.specs.declared.cmp.Ordering.TheVariants.{Less, Equal, Greater}
use Rattle.number_map.specs.Content.{entries_from, Updates}

-- ---- numbers in order

cmp_less : (x y : ℕ) → x < y → nat_cmp x y ≡ Less
cmp_less x y h = cond-true _ Less _ (lt-ltb x y h)

cmp_equal : (x y : ℕ) → x ≡ y → nat_cmp x y ≡ Equal
cmp_equal x y h = cond-false _ Less _ (le-ltb x y (omega arith))
    ∙ cond-true _ Equal Greater (eq-eqb x y h)

cmp_greater : (x y : ℕ) → y < x → nat_cmp x y ≡ Greater
cmp_greater x y h = cond-false _ Less _ (le-ltb x y (omega arith))
    ∙ cond-false _ Equal Greater (ne_eqb x y (λ q. absurd (omega arith)))

not_equal : (x y : ℕ) → (x ≡ y → ⊥) → is_eq (nat_cmp x y) ≡ false
not_equal x y n =
    ⊎_elim
    (λ (l : x < y). ap is_eq (cmp_less x y l))
    (λ (l : y ≤ x). let above : y < x = omega arith in ap is_eq (cmp_greater x y above))
    (cases_lt x y)

module _ {V : Type 0} where
  above : (x a : ℕ) (places : List (Option V)) → x < a
      → AllByRecursion (λ y. nat_cmp x y ≡ Less) (keys_of (entries_from a places))
  above x a [] lt = tt
  above x a (None ∷ rest) lt = above x (a + 1) rest (omega arith)
  above x a (Some v ∷ rest) lt = (cmp_less x a lt, above x (a + 1) rest (omega arith))

  pub in_order : (a : ℕ) (places : List (Option V))
      → IsStrictlySortedBy nat_cmp (keys_of (entries_from a places))
  unfolding IsStrictlySortedBy
  in_order a [] = tt
  in_order a (None ∷ rest) = in_order (a + 1) rest
  in_order a (Some v ∷ rest) = (above a (a + 1) rest (omega arith), in_order (a + 1) rest)

  -- ---- what stands in a place

  none_below : (i a : ℕ) (places : List (Option V)) → i < a
      → lookup (is_at (nat_cmp i)) (entries_from a places) ≡ None
  none_below i a [] lt = refl
  none_below i a (None ∷ rest) lt = none_below i (a + 1) rest (omega arith)
  none_below i a (Some v ∷ rest) lt =
      cond-false (is_eq (nat_cmp i a)) (Some v)
      (lookup (is_at (nat_cmp i)) (entries_from (a + 1) rest)) (ap is_eq (cmp_less i a lt))
      ∙ none_below i (a + 1) rest (omega arith)

  looked_up_from : (a k i : ℕ) (places : List (Option V)) → i ≡ a + k
      → lookup (is_at (nat_cmp i)) (entries_from a places) ≡ get_or places k None
  looked_up_from a k i [] is = refl
  looked_up_from a zero i (None ∷ rest) is = none_below i (a + 1) rest (omega arith)
  looked_up_from a (suc k) i (None ∷ rest) is = looked_up_from (a + 1) k i rest (omega arith)
  looked_up_from a zero i (Some v ∷ rest) is =
      cond-true (is_eq (nat_cmp i a)) (Some v)
      (lookup (is_at (nat_cmp i)) (entries_from (a + 1) rest))
      (ap is_eq (cmp_equal i a (omega arith)))
  looked_up_from a (suc k) i (Some v ∷ rest) is =
      cond-false (is_eq (nat_cmp i a)) (Some v)
      (lookup (is_at (nat_cmp i)) (entries_from (a + 1) rest))
      (ap is_eq (cmp_greater i a (omega arith)))
      ∙ looked_up_from (a + 1) k i rest (omega arith)

  pub looked_up : (places : List (Option V)) (i : ℕ)
      → lookup (is_at (nat_cmp i)) (entries_from 0 places) ≡ get_or places i None
  looked_up places i = looked_up_from 0 i i places (omega arith)

  -- ---- a place is filled

  first_in : (i a : ℕ) (v : V) (places : List (Option V)) → i < a
      → insert_entry nat_cmp (entries_from a places) i v ≡ (i, v) ∷ entries_from a places
  first_in i a v [] lt = refl
  first_in i a v (None ∷ rest) lt = first_in i (a + 1) v rest (omega arith)
  first_in i a v (Some w ∷ rest) lt =
      ap
      (λ (o : Ordering). match_ordering o ((i, v) ∷ (a, w) ∷ entries_from (a + 1) rest)
      ((a, v) ∷ entries_from (a + 1) rest)
      ((a, w) ∷ insert_entry nat_cmp (entries_from (a + 1) rest) i v))
      (cmp_less i a lt)

  inserted_from : (a k i : ℕ) (v : V) (places : List (Option V)) → i ≡ a + k → k < length places
      → entries_from a (set places k (Some v)) ≡ insert_entry nat_cmp (entries_from a places) i v
  inserted_from a k i v [] is lt = absurd (omega arith)
  inserted_from a zero i v (None ∷ rest) is lt =
      let same : a ≡ i = omega arith in
      ap (λ (n : ℕ). (n, v) ∷ entries_from (a + 1) rest) same
      ∙ sym (first_in i (a + 1) v rest (omega arith))
  inserted_from a (suc k) i v (None ∷ rest) is lt =
      inserted_from (a + 1) k i v rest (omega arith) (omega arith)
  inserted_from a zero i v (Some w ∷ rest) is lt =
      sym (ap
      (λ (o : Ordering). match_ordering o ((i, v) ∷ (a, w) ∷ entries_from (a + 1) rest)
      ((a, v) ∷ entries_from (a + 1) rest)
      ((a, w) ∷ insert_entry nat_cmp (entries_from (a + 1) rest) i v))
      (cmp_equal i a (omega arith)))
  inserted_from a (suc k) i v (Some w ∷ rest) is lt =
      ap (λ (es : List (ℕ × V)). (a, w) ∷ es)
      (inserted_from (a + 1) k i v rest (omega arith) (omega arith))
      ∙ sym (ap
      (λ (o : Ordering). match_ordering o ((i, v) ∷ (a, w) ∷ entries_from (a + 1) rest)
      ((a, v) ∷ entries_from (a + 1) rest)
      ((a, w) ∷ insert_entry nat_cmp (entries_from (a + 1) rest) i v))
      (cmp_greater i a (omega arith)))

  pub inserted : (places : List (Option V)) (i : ℕ) (v : V) → i < length places
      → entries_from 0 (set places i (Some v)) ≡ insert_entry nat_cmp (entries_from 0 places) i v
  inserted places i v lt = inserted_from 0 i i v places (omega arith) lt

  -- ---- a place is cleared

  none_out : (i a : ℕ) (places : List (Option V)) → i < a
      → remove_entry (is_at (nat_cmp i)) (entries_from a places) ≡ entries_from a places
  none_out i a [] lt = refl
  none_out i a (None ∷ rest) lt = none_out i (a + 1) rest (omega arith)
  none_out i a (Some v ∷ rest) lt =
      cond-false (is_eq (nat_cmp i a)) (entries_from (a + 1) rest)
      ((a, v) ∷ remove_entry (is_at (nat_cmp i)) (entries_from (a + 1) rest))
      (ap is_eq (cmp_less i a lt))
      ∙ ap (λ (es : List (ℕ × V)). (a, v) ∷ es) (none_out i (a + 1) rest (omega arith))

  removed_from : (a k i : ℕ) (places : List (Option V)) → i ≡ a + k → k < length places
      → entries_from a (set places k None)
      ≡ remove_entry (is_at (nat_cmp i)) (entries_from a places)
  removed_from a k i [] is lt = absurd (omega arith)
  removed_from a zero i (None ∷ rest) is lt = sym (none_out i (a + 1) rest (omega arith))
  removed_from a (suc k) i (None ∷ rest) is lt =
      removed_from (a + 1) k i rest (omega arith) (omega arith)
  removed_from a zero i (Some v ∷ rest) is lt =
      sym (cond-true (is_eq (nat_cmp i a)) (entries_from (a + 1) rest)
      ((a, v) ∷ remove_entry (is_at (nat_cmp i)) (entries_from (a + 1) rest))
      (ap is_eq (cmp_equal i a (omega arith))))
  removed_from a (suc k) i (Some v ∷ rest) is lt =
      ap (λ (es : List (ℕ × V)). (a, v) ∷ es)
      (removed_from (a + 1) k i rest (omega arith) (omega arith))
      ∙ sym (cond-false (is_eq (nat_cmp i a)) (entries_from (a + 1) rest)
      ((a, v) ∷ remove_entry (is_at (nat_cmp i)) (entries_from (a + 1) rest))
      (ap is_eq (cmp_greater i a (omega arith))))

  pub removed : (places : List (Option V)) (i : ℕ) → i < length places
      → entries_from 0 (set places i None)
      ≡ remove_entry (is_at (nat_cmp i)) (entries_from 0 places)
  removed places i lt = removed_from 0 i i places (omega arith) lt

  -- nothing is there to be taken away
  pub unmoved : (i : ℕ) (es : List (ℕ × V)) → lookup (is_at (nat_cmp i)) es ≡ None
      → es ≡ remove_entry (is_at (nat_cmp i)) es
  unmoved i [] none = refl
  unmoved i (e ∷ es) none =
      ⊎_elim
      (λ (t : is_eq (nat_cmp i e.0) ≡ true).
      absurd (some (sym (cond-true (is_eq (nat_cmp i e.0)) (Some e.1)
      (lookup (is_at (nat_cmp i)) es) t) ∙ none)))
      (λ (f : is_eq (nat_cmp i e.0) ≡ false).
      ap (λ (rest : List (ℕ × V)). e ∷ rest)
      (unmoved i es (sym (cond-false (is_eq (nat_cmp i e.0)) (Some e.1)
      (lookup (is_at (nat_cmp i)) es) f) ∙ none))
      ∙ sym (cond-false (is_eq (nat_cmp i e.0)) es (e ∷ remove_entry (is_at (nat_cmp i)) es) f))
      (cases_Bool (is_eq (nat_cmp i e.0)))
    where
      some : ◌≡◌ {A = Option V} (Some e.1) None → ⊥
      some q = cc

  -- ---- what a change of one place changes

  pub updates : (places : List (Option V)) (i : ℕ) (value : Option V) → i < length places
      → Updates (record { entries = entries_from 0 places })
      (record { entries = entries_from 0 (set places i value) }) i value
  updates places i value lt = (
    each,
    looked_up (set places i value) i
        ∙ get_or-set_same places i value None lt,
  )
    where
      each : (q : ℕ) → lookup (is_at (nat_cmp q)) (entries_from 0 (set places i value))
          ≡ cond (is_eq (nat_cmp i q)) value (lookup (is_at (nat_cmp q)) (entries_from 0 places))
      each q =
          looked_up (set places i value) q
          ∙ (⊎_elim
          (λ (same : i ≡ q).
          ap (λ (n : ℕ). get_or (set places i value) n None) (sym same)
          ∙ (get_or-set_same places i value None lt
          ∙ sym (cond-true (is_eq (nat_cmp i q)) value
          (lookup (is_at (nat_cmp q)) (entries_from 0 places))
          (ap is_eq (cmp_equal i q same)))))
          (λ (other : i ≡ q → ⊥).
          get_or-set_other places i q value None (λ (s : q ≡ i). other (sym s))
          ∙ (sym (looked_up places q)
          ∙ sym (cond-false (is_eq (nat_cmp i q)) value
          (lookup (is_at (nat_cmp q)) (entries_from 0 places)) (not_equal i q other))))
          (cases_eq i q))

  -- the same, if the entries are known under another name
  pub updates_same : (places : List (Option V)) (i : ℕ) (value : Option V) (es : List (ℕ × V))
      → i < length places → entries_from 0 places ≡ es
      → Updates (record { entries = es }) (record { entries = entries_from 0 (set places i value) })
      i value
  updates_same places i value es lt is =
      subst (λ (fs : List (ℕ × V)). Updates (record { entries = fs })
      (record { entries = entries_from 0 (set places i value) }) i value) is
      (updates places i value lt)

  -- what is found stands in a place
  pub within : (places : List (Option V)) (i : ℕ) (v : V)
      → lookup (is_at (nat_cmp i)) (entries_from 0 places) ≡ Some v → i < length places
  within places i v is =
      ⊎_elim
      (λ (lt : i < length places). lt)
      (λ (past : length places ≤ i). absurd
      (none (sym (get_or_past places i None past) ∙ (sym (looked_up places i) ∙ is))))
      (cases_lt i (length places))
    where
      none : ◌≡◌ {A = Option V} None (Some v) → ⊥
      none q = cc

  -- and that place has a value
  pub some_there : (places : List (Option V)) (i : ℕ) (v : V)
      → lookup (is_at (nat_cmp i)) (entries_from 0 places) ≡ Some v → IsSome (get_or places i None)
  some_there places i v is = some (get_or places i None) (sym (looked_up places i) ∙ is)
    where
      some : (o : Option V) → o ≡ Some v → IsSome o
      some None q = absurd (none q)
        where
          none : ◌≡◌ {A = Option V} None (Some v) → ⊥
          none r = cc
      some (Some w) q = refl

  -- nothing stands after the last place
  pub nothing_past : (places : List (Option V)) (i : ℕ) (es : List (ℕ × V)) → length places ≤ i
      → entries_from 0 places ≡ es → lookup (is_at (nat_cmp i)) es ≡ None
  nothing_past places i es past is =
      ap (lookup (is_at (nat_cmp i))) (sym is)
      ∙ (looked_up places i ∙ get_or_past places i None past)

  -- ---- more places

  no_entries : (a n : ℕ) → entries_from {V = V} a (replicate n None) ≡ []
  no_entries a zero = refl
  no_entries a (suc n) = no_entries (a + 1) n

  longer_from : (a n : ℕ) (places : List (Option V))
      → entries_from a (places ++ replicate n None) ≡ entries_from a places
  longer_from a n [] = no_entries a n
  longer_from a n (None ∷ rest) = longer_from (a + 1) n rest
  longer_from a n (Some v ∷ rest) = ap (λ (es : List (ℕ × V)). (a, v) ∷ es)
      (longer_from (a + 1) n rest)

  pub longer : (n : ℕ) (places : List (Option V))
      → entries_from 0 (places ++ replicate n None) ≡ entries_from 0 places
  longer n places = longer_from 0 n places

-- what holds whatever the answer
pub refused : {T E P : Type 0} (r : Result T E) → P → OnErr r P
refused (Ok v) p = tt
refused (Err e) p = p
