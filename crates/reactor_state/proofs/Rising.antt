-- Lists in rising order of a number: what is found at a number, and what an edit there is.
use Rattle.std.proofs.Common.{ℕ, zero, suc, ◌≡◌, ◌≢◌, ◌<◌, ◌≤◌, ◌==◌, Bool, true, false, not, ◌&&◌}
use Rattle.std.proofs.Common.{◌||◌, List, [], ◌∷◌, ◌++◌, length, get_or, set, map, refl, sym, ap}
use Rattle.std.proofs.Common.{◌∙◌, subst, cond, Some, arith, inl, inr}
use Rattle.std.proofs.lemmas.Bool.{cond-true, cond-false, or_parts, eqb-true, eqb-false, eq-eqb}
use Rattle.std.proofs.lemmas.Bool.{ne_eqb, ltb-true, lt-ltb, cases_lt, cases_eq}
use Rattle.std.proofs.lemmas.List.Folds.{list_any_none}
use Rattle.std.specs.Prelude.{nat_lt}
use Rattle.std.specs.List.{find, list_any, filter, insert, remove, All, AllWithin, HoldsAt}
use Rattle.std.specs.List.Sorted.{IsPartitionedBy}
use Rattle.handle_search.specs.Rising.{IsRising}
use Rattle.reactor_state.specs.Rises.{RisesIn}
use Rattle.reactor_state.proofs.Lists.{passes, any_and, filter_place}

module _ {A : Type 0} (key : A → ℕ) where
  -- each number is at least the least
  rises_least : (lo hi : ℕ) (xs : List A) (k : ℕ) (d : A) → RisesIn key lo hi xs → k < length xs
      → lo ≤ key (get_or xs k d)
  rises_least lo hi [] k d h l = absurd (omega arith)
  rises_least lo hi (x ∷ xs) zero d h l = h.0
  rises_least lo hi (x ∷ xs) (suc k) d h l =
      let rest : suc (key x) ≤ key (get_or xs k d) =
      rises_least (suc (key x)) hi xs k d h.2 (omega arith) in
      let least : lo ≤ key x = h.0 in
      omega arith

  pub rises_apart : (lo hi : ℕ) (xs : List A) (i j : ℕ) (d : A) → RisesIn key lo hi xs → i < j
      → j < length xs → key (get_or xs i d) < key (get_or xs j d)
  rises_apart lo hi [] i j d h l m = absurd (omega arith)
  rises_apart lo hi (x ∷ xs) i zero d h l m = absurd (omega arith)
  rises_apart lo hi (x ∷ xs) zero (suc j) d h l m =
      let rest : suc (key x) ≤ key (get_or xs j d) =
      rises_least (suc (key x)) hi xs j d h.2 (omega arith) in
      omega arith
  rises_apart lo hi (x ∷ xs) (suc i) (suc j) d h l m =
      rises_apart (suc (key x)) hi xs i j d h.2 (omega arith) (omega arith)

  -- what rises between two bounds rises
  pub rises : (hi : ℕ) (xs : List A) → RisesIn key 0 hi xs → IsRising key xs
  rises hi xs rising i j d l m = rises_apart 0 hi xs i j d rising l m

  -- a number that no element has is not found
  pub absent_from : (n : ℕ) (xs : List A) → (IsRising key xs → All (λ x. key x ≢ n) xs) → (hi : ℕ)
      → RisesIn key 0 hi xs → list_any (λ x. key x == n) xs ≡ false
  absent_from n xs none hi rising = list_any_none (λ x. key x == n) xs
      (λ k d l. ne_eqb (key (get_or xs k d)) n (none (rises hi xs rising) k d l))

  -- other places have other numbers
  pub other_place : (lo hi : ℕ) (xs : List A) (i j : ℕ) (d : A) → RisesIn key lo hi xs → i ≢ j
      → i < length xs → j < length xs → key (get_or xs i d) ≢ key (get_or xs j d)
  other_place lo hi xs i j d h ne l m e =
      elim (cases_lt i j) [
        | inl less ↦ let r : key (get_or xs i d) < key (get_or xs j d) =
            rises_apart lo hi xs i j d h less m in omega arith
        | inr more ↦ let r : key (get_or xs j d) < key (get_or xs i d) =
            rises_apart lo hi xs j i d h (omega arith) l in omega arith
      ]

  -- those below a number stand in front
  pub rises_parted : (lo hi n : ℕ) (xs : List A) → RisesIn key lo hi xs
      → IsPartitionedBy (λ x. nat_lt (key x) n) xs
  rises_parted lo hi n xs rising i j d l m less =
      elim (cases_lt i j) [
        | inl before ↦
            let r : key (get_or xs i d) < key (get_or xs j d) =
            rises_apart lo hi xs i j d rising before m in
            let b : key (get_or xs j d) < n = ltb-true _ _ less in
            lt-ltb _ _ (omega arith)
        | inr other ↦
            let e : j ≡ i = omega arith in
            subst (λ k. nat_lt (key (get_or xs k d)) n ≡ true) e less
      ]

  -- a number that is not at its place is nowhere
  pub not_there : (hi n place : ℕ) (xs : List A) → RisesIn key 0 hi xs
      → AllWithin (λ x. key x < n) xs 0 place → AllWithin (λ x. n ≤ key x) xs place (length xs)
      → (place < length xs → HoldsAt (λ x. key x ≢ n) xs place)
      → list_any (λ x. key x == n) xs ≡ false
  not_there hi n place xs rising below above other =
      list_any_none (λ x. key x == n) xs (λ k d l. ne_eqb (key (get_or xs k d)) n (apart k d l))
    where
      apart : (k : ℕ) (d : A) → k < length xs → key (get_or xs k d) ≢ n
      apart k d l e =
          elim (cases_lt k place) [
            | inl before ↦ let b : key (get_or xs k d) < n = below k d (omega arith) before in
                omega arith
            | inr after ↦ elim (cases_eq k place) [
              | inl same ↦ other (omega arith) d (subst (λ i. key (get_or xs i d) ≡ n) same e)
              | inr differs ↦
                  let r : key (get_or xs place d) < key (get_or xs k d) =
                  rises_apart 0 hi xs place k d rising (omega arith) l in
                  let b : n ≤ key (get_or xs place d) = above place d (omega arith) (omega arith) in
                  omega arith
            ]
          ]

  -- what stands at a place is found by its number
  pub find_at : (lo hi n p : ℕ) (xs : List A) (d : A) → RisesIn key lo hi xs → p < length xs
      → key (get_or xs p d) ≡ n → find (λ x. key x == n) xs ≡ Some (get_or xs p d)
  find_at lo hi n p [] d h l e = absurd (omega arith)
  find_at lo hi n zero (x ∷ xs) d h l e =
      cond-true (key x == n) (Some x) (find (λ y. key y == n) xs) (eq-eqb (key x) n e)
  find_at lo hi n (suc p) (x ∷ xs) d h l e =
      let less : suc (key x) ≤ key (get_or xs p d) =
      rises_least (suc (key x)) hi xs p d h.2 (omega arith) in
      cond-false (key x == n) (Some x) (find (λ y. key y == n) xs)
      (ne_eqb (key x) n (λ q. let no : ⊥ = omega arith in no))
      ∙ find_at (suc (key x)) hi n p xs d h.2 (omega arith) e

  -- none has a number below the least
  pub none_below : (lo hi n : ℕ) (xs : List A) → RisesIn key lo hi xs → n < lo
      → list_any (λ x. key x == n) xs ≡ false
  none_below lo hi n [] h l = refl
  none_below lo hi n (x ∷ xs) h l =
      let least : lo ≤ key x = h.0 in
      ap (λ b. b || list_any (λ y. key y == n) xs)
      (ne_eqb (key x) n (λ q. let no : ⊥ = omega arith in no))
      ∙ none_below (suc (key x)) hi n xs h.2 (omega arith)

  -- and none one at or past the greatest
  pub none_above : (lo hi n : ℕ) (xs : List A) → RisesIn key lo hi xs → hi ≤ n
      → list_any (λ x. key x == n) xs ≡ false
  none_above lo hi n [] h l = refl
  none_above lo hi n (x ∷ xs) h l =
      let most : key x < hi = h.1 in
      ap (λ b. b || list_any (λ y. key y == n) xs)
      (ne_eqb (key x) n (λ q. let no : ⊥ = omega arith in no))
      ∙ none_above (suc (key x)) hi n xs h.2 l

  -- a test of what has a number is one of what is found at it
  pub any_found : (lo hi n : ℕ) (q : A → Bool) (xs : List A) → RisesIn key lo hi xs
      → list_any (λ x. key x == n && q x) xs ≡ passes q (find (λ x. key x == n) xs)
  any_found lo hi n q [] h = refl
  any_found lo hi n q (x ∷ xs) h = step (key x == n) (any_found (suc (key x)) hi n q xs h.2) refl
    where
      or_false : (b : Bool) → (b || false) ≡ b
      or_false true = refl
      or_false false = refl

      step : (b : Bool) → list_any (λ y. key y == n && q y) xs
          ≡ passes q (find (λ y. key y == n) xs) → (key x == n) ≡ b
          → ((b && q x) || list_any (λ y. key y == n && q y) xs)
          ≡ passes q (cond b (Some x) (find (λ y. key y == n) xs))
      step true rest e =
          let same : key x ≡ n = eqb-true (key x) n e in
          ap (λ b. q x || b) (any_and (λ y. key y == n) q xs
          (none_below (suc (key x)) hi n xs h.2 (omega arith))) ∙ or_false (q x)
      step false rest e = rest

  -- ---- edits at a number

  pub map_absent : (f : A → A) (n : ℕ) (xs : List A) → ((y : A) → (key y ≡ n → ⊥) → f y ≡ y)
      → list_any (λ x. key x == n) xs ≡ false → map f xs ≡ xs
  map_absent f n [] same h = refl
  map_absent f n (x ∷ xs) same h =
      let both : ((key x == n) ≡ false) × (list_any (λ y. key y == n) xs ≡ false) =
      or_parts (key x == n) (list_any (λ y. key y == n) xs) h in
      ap (λ y. y ∷ map f xs) (same x (λ e. let no : ⊥ =
      both_false (key x == n) (eq-eqb (key x) n e) both.0 in no))
      ∙ ap (λ ys. x ∷ ys) (map_absent f n xs same both.1)
    where
      both_false : (b : Bool) → b ≡ true → b ≡ false → ⊥
      both_false b t f = cc

  pub map_at : (f : A → A) (lo hi n p : ℕ) (xs : List A) (d : A) → RisesIn key lo hi xs
      → p < length xs → key (get_or xs p d) ≡ n → ((y : A) → (key y ≡ n → ⊥) → f y ≡ y)
      → map f xs ≡ set xs p (f (get_or xs p d))
  map_at f lo hi n p [] d h l e same = absurd (omega arith)
  map_at f lo hi n zero (x ∷ xs) d h l e same =
      ap (λ ys. f x ∷ ys) (map_absent f n xs same
      (none_below (suc (key x)) hi n xs h.2 (omega arith)))
  map_at f lo hi n (suc p) (x ∷ xs) d h l e same =
      let less : suc (key x) ≤ key (get_or xs p d) =
      rises_least (suc (key x)) hi xs p d h.2 (omega arith) in
      ap (λ y. y ∷ map f xs) (same x (λ q. let no : ⊥ = omega arith in no))
      ∙ ap (λ ys. x ∷ ys) (map_at f (suc (key x)) hi n p xs d h.2 (omega arith) e same)

  pub filter_absent : (n : ℕ) (xs : List A) → list_any (λ x. key x == n) xs ≡ false
      → filter (λ x. not (n == key x)) xs ≡ xs
  filter_absent n [] h = refl
  filter_absent n (x ∷ xs) h =
      let both : ((key x == n) ≡ false) × (list_any (λ y. key y == n) xs ≡ false) =
      or_parts (key x == n) (list_any (λ y. key y == n) xs) h in
      cond-true (not (n == key x)) (x ∷ filter (λ y. not (n == key y)) xs)
      (filter (λ y. not (n == key y)) xs)
      (ap not (ne_eqb n (key x) (λ e. let no : ⊥ =
      both_false (key x == n) (eq-eqb (key x) n (sym e)) both.0 in no)))
      ∙ ap (λ ys. x ∷ ys) (filter_absent n xs both.1)
    where
      both_false : (b : Bool) → b ≡ true → b ≡ false → ⊥
      both_false b t f = cc

  pub filter_at : (lo hi n p : ℕ) (xs : List A) → RisesIn key lo hi xs → p < length xs
      → HoldsAt (λ x. key x ≡ n) xs p → filter (λ x. not (n == key x)) xs ≡ remove xs p
  filter_at lo hi n p xs h l here =
      filter_place (λ x. not (n == key x)) xs p
      (λ d. ap not (eq-eqb n (key (get_or xs p d)) (sym (here d))))
      (λ k d within ne. ap not (ne_eqb n (key (get_or xs k d))
      (λ e. other_place lo hi xs k p d h ne within l (sym e ∙ sym (here d)))))
      l

  -- a place of the number, in a list
  abbrev pub IsPlaceIn : ℕ → List A → ℕ → Type 0
  IsPlaceIn n xs p = (p < length xs) × HoldsAt (λ x. key x ≡ n) xs p

  -- what has the number is taken out of a list that was lent for the search
  pub removed_at : (hi n p : ℕ) (xs ys zs : List A) → ys ≡ xs → RisesIn key 0 hi xs
      → IsPlaceIn n ys p → zs ≡ remove xs p → zs ≡ filter (λ x. not (n == key x)) xs
  removed_at hi n p xs ys zs lent rising place removed =
      let at : IsPlaceIn n xs p = subst (λ vs. IsPlaceIn n vs p) lent place in
      removed ∙ sym (filter_at 0 hi n p xs rising at.0 at.1)

  pub removed_same : (hi n : ℕ) (xs ys : List A) → ys ≡ xs → RisesIn key 0 hi xs
      → ((hi : ℕ) → RisesIn key 0 hi ys → list_any (λ x. key x == n) ys ≡ false)
      → xs ≡ filter (λ x. not (n == key x)) xs
  removed_same hi n xs ys lent rising absent =
      let none : list_any (λ x. key x == n) ys ≡ false =
      absent hi (subst (RisesIn key 0 hi) (sym lent) rising) in
      sym (filter_absent n xs (subst (λ zs. list_any (λ x. key x == n) zs ≡ false) lent none))

  -- ---- what keeps the order

  pub rises-insert : (lo hi place : ℕ) (xs : List A) (y : A) → lo ≤ key y → key y < hi
      → place ≤ length xs → RisesIn key lo hi xs → AllWithin (λ x. key x < key y) xs 0 place
      → AllWithin (λ x. key y ≤ key x) xs place (length xs)
      → list_any (λ x. key x == key y) xs ≡ false → RisesIn key lo hi (insert xs place y)
  rises-insert lo hi zero [] y l u within h below above absent = (l, u, tt)
  rises-insert lo hi (suc place) [] y l u within h below above absent = absurd (omega arith)
  rises-insert lo hi zero (x ∷ xs) y l u within h below above absent =
      let least : key y ≤ key x = above zero x (omega arith) (omega arith) in
      let other : (key x == key y) ≡ false =
      (or_parts (key x == key y) (list_any (λ z. key z == key y) xs) absent).0 in
      let apart : key x ≢ key y = eqb-false (key x) (key y) other in
      (l, u, (omega arith, h.1, h.2))
  rises-insert lo hi (suc place) (x ∷ xs) y l u within h below above absent =
      let less : key x < key y = below zero x (omega arith) (omega arith) in (
        h.0,
        h.1,
        rises-insert (suc (key x)) hi place xs y (omega arith) u (omega arith) h.2
            (λ k d m n. below (suc k) d (omega arith) (omega arith))
            (λ k d m n. above (suc k) d (omega arith) (omega arith))
            (or_parts (key x == key y) (list_any (λ z. key z == key y) xs) absent).1,
      )

  pub rises_from : (low lo hi : ℕ) (xs : List A) → low ≤ lo → RisesIn key lo hi xs
      → RisesIn key low hi xs
  rises_from low lo hi [] l h = tt
  rises_from low lo hi (x ∷ xs) l h = let least : lo ≤ key x = h.0 in (omega arith, h.1, h.2)

  pub rises_to : (lo hi high : ℕ) (xs : List A) → hi ≤ high → RisesIn key lo hi xs
      → RisesIn key lo high xs
  rises_to lo hi high [] l h = tt
  rises_to lo hi high (x ∷ xs) l h = let most : key x < hi = h.1 in
      (h.0, omega arith, rises_to (suc (key x)) hi high xs l h.2)

  pub rises-filter : (lo hi : ℕ) (p : A → Bool) (xs : List A) → RisesIn key lo hi xs
      → RisesIn key lo hi (filter p xs)
  rises-filter lo hi p [] h = tt
  rises-filter lo hi p (x ∷ xs) h = step (p x) (rises-filter (suc (key x)) hi p xs h.2)
    where
      step : (b : Bool) → RisesIn key (suc (key x)) hi (filter p xs)
          → RisesIn key lo hi (cond b (x ∷ filter p xs) (filter p xs))
      step true rest = (h.0, h.1, rest)
      step false rest = let least : lo ≤ key x = h.0 in
          rises_from lo (suc (key x)) hi (filter p xs) (omega arith) rest

  pub rises-append : (lo hi high : ℕ) (xs : List A) (y : A) → lo ≤ hi → hi ≤ key y → key y < high
      → RisesIn key lo hi xs → RisesIn key lo high (xs ++ y ∷ [])
  rises-append lo hi high [] y l a b h = (omega arith, b, tt)
  rises-append lo hi high (x ∷ xs) y l a b h =
      let most : key x < hi = h.1 in
      (h.0, omega arith, rises-append (suc (key x)) hi high xs y (omega arith) a b h.2)

  pub rises-map : (lo hi : ℕ) (f : A → A) (xs : List A) → ((x : A) → key (f x) ≡ key x)
      → RisesIn key lo hi xs → RisesIn key lo hi (map f xs)
  rises-map lo hi f [] same h = tt
  rises-map lo hi f (x ∷ xs) same h =
      let e : key (f x) ≡ key x = same x in
      let least : lo ≤ key x = h.0 in
      let most : key x < hi = h.1 in (
        omega arith,
        omega arith,
        subst (λ (k : ℕ). RisesIn key (suc k) hi (map f xs)) (sym e)
            (rises-map (suc (key x)) hi f xs same h.2),
      )
