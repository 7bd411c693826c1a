-- Logs that grow, what they weigh, and that a list is told by its parts.
use Rattle.std.proofs.Common.{◌≡◌, ℕ, zero, suc, ◌+◌, ◌≤◌, ◌<◌, ◌==◌, cond, Bool, true, false, List}
use Rattle.std.proofs.Common.{[], ◌∷◌, ◌++◌, length, refl, sym, ap, ◌∙◌, arith, ⊎_elim}
use Rattle.std.proofs.lemmas.Bool.{eqb-true, cases_Bool}
use mathlib.Core.Option.{some, some-injective, some-ne-none}
use lib.ListN.{get_elem?}
use Rattle.crossbeam_queue.proofs.Lists.{at_longer, at_last}
use Rattle.list_lemmas.specs.Sums.{total}
use Rattle.list_lemmas.proofs.Sums.{total-append, term_le, none_there}
use Rattle.task_server.specs.declared.rule.Numbered.{Numbered}
use Rattle.task_server.specs.declared.rule.Log.{Log}
use Rattle.task_server.specs.Logs.{AreParts, IsLogOf, IsPartOf, joined, numbered, weight}
use Rattle.task_server.specs.Logs.{weight_from, weight_of, with_own}

module _ {A : Type 0} where
  pub at_within : (l : List A) (k : ℕ) (a : A) → get_elem? l k ≡ some a → k < length l
  at_within [] k a e = absurd (some-ne-none a (sym e))
  at_within (x ∷ xs) zero a e = omega arith
  at_within (x ∷ xs) (suc k) a e = omega (arith, at_within xs k a e)

  -- lists of one length that have the same at each place are one list
  pub same_list : (l m : List A) → length l ≡ length m
      → ((k : ℕ) → k < length l → get_elem? l k ≡ get_elem? m k) → l ≡ m
  same_list [] [] len same = refl
  same_list [] (y ∷ ys) len same = absurd (omega arith)
  same_list (x ∷ xs) [] len same = absurd (omega arith)
  same_list (x ∷ xs) (y ∷ ys) len same =
      let head : x ≡ y = some-injective x y (same 0 (omega arith)) in
      let tail : xs ≡ ys = same_list xs ys (omega arith) (λ k h. same (suc k) (omega arith)) in
      ap (λ (z : A). z ∷ xs) head ∙ ap (λ (zs : List A). y ∷ zs) tail

  pub same_end : (l m n : List A) → l ++ m ≡ l ++ n → m ≡ n
  same_end [] m n e = e
  same_end (x ∷ xs) m n e = same_end xs m n (tails x (xs ++ m) (xs ++ n) e)
    where
      tails : (y : A) (a b : List A) → y ∷ a ≡ y ∷ b → a ≡ b
      tails y a b h = ap rest h
        where
          rest : List A → List A
          rest [] = []
          rest (z ∷ zs) = zs

  -- if one alone has g, the sum of f is its own
  pub whole : (g f : A → ℕ) (l : List A) (j : ℕ) (v : A)
      → ((k : ℕ) (x : A) → get_elem? l k ≡ some x → g x ≡ 0 → f x ≡ 0) → total g l ≡ g v
      → get_elem? l j ≡ some v → total f l ≡ f v
  whole g f [] j v under e at = absurd (some-ne-none v (sym at))
  whole g f (x ∷ xs) zero v under e at = let same : x ≡ v = some-injective x v at in
      let none : total g xs ≡ 0 = omega (arith, ap g same) in
      omega (arith, ap f same, none_there g f xs (λ k. under (suc k)) none)
  whole g f (x ∷ xs) (suc j) v under e at = let none : g x ≡ 0 =
      omega (arith, term_le g xs j v at) in
      omega (arith, under 0 x refl none, whole g f xs j v (λ k. under (suc k)) (omega arith) at)

module _ {T : Type 0} where
  pub part_longer : (all more : List T) (n : ℕ) (es : List (Numbered T)) → IsPartOf all n es
      → IsPartOf (all ++ more) n es
  part_longer all more n [] p = tt
  part_longer all more n (e ∷ es) p =
      (p.0, at_longer all more e.number e.item p.1, part_longer all more (e.number + 1) es p.2)

  pub parts_longer : (all more : List T) (ess : List (List (Numbered T))) → AreParts all ess
      → AreParts (all ++ more) ess
  parts_longer all more [] p = tt
  parts_longer all more (es ∷ ess) p =
      (part_longer all more 0 es p.0, parts_longer all more ess p.1)

  pub log_longer : (all more : List T) (l : Log T) → IsLogOf all l → IsLogOf (all ++ more) l
  log_longer all more l p = record {
    own = part_longer all more 0 l.own p.own;
    joined = parts_longer all more l.joined p.joined;
    none = p.none;
  }

  part_grows : (all : List T) (x : T) (n : ℕ) (es : List (Numbered T)) → n ≤ length all
      → IsPartOf all n es → IsPartOf (all ++ x ∷ []) n (es ++ numbered (length all) x ∷ [])
  part_grows all x n [] low p = (low, at_last all x (length all) refl, tt)
  part_grows all x n (e ∷ es) low p = (
    p.0,
    at_longer all (x ∷ []) e.number e.item p.1,
    part_grows all x (e.number + 1) es (omega (arith, at_within all e.number e.item p.1)) p.2,
  )

  -- what is moved next goes to the end of its log
  pub log_grows : (all : List T) (x : T) (l : Log T) → 0 < l.shares → IsLogOf all l
      → IsLogOf (all ++ x ∷ []) (with_own (length all) x l)
  log_grows all x l share p = record {
    own = part_grows all x 0 l.own (omega arith) p.own;
    joined = parts_longer all (x ∷ []) l.joined p.joined;
    none = λ none. absurd (omega arith);
  }

  -- ---- weights

  pub weight_grows : (h : ℕ → T → ℕ) (n : ℕ) (x : T) (l : Log T)
      → weight h (with_own n x l) ≡ weight h l + h n x
  weight_grows h n x l =
      omega (arith, total-append (weight_of h) l.own (numbered n x ∷ []))

  pub weight_joins : (h : ℕ → T → ℕ) (l m : Log T)
      → weight h (joined l m) ≡ weight h l + weight h m
  weight_joins h l m =
      omega (arith, total-append (total (weight_of h)) l.joined (m.own ∷ m.joined))

  pub weight_none : (h : ℕ → T → ℕ) (l : Log T) → (l.own ≡ []) × (l.joined ≡ []) → weight h l ≡ 0
  weight_none h l p =
      omega (arith, ap (total (weight_of h)) p.0, ap (total (total (weight_of h))) p.1)

  pub from_append : (h : ℕ → T → ℕ) (n : ℕ) (xs ys : List T)
      → weight_from h n (xs ++ ys) ≡ weight_from h n xs + weight_from h (n + length xs) ys
  from_append h n [] ys =
      let e : weight_from h n ys ≡ weight_from h (n + length {A = T} []) ys =
      ap (λ (k : ℕ). weight_from h k ys) (omega arith) in
      omega (arith, e)
  from_append h n (x ∷ xs) ys =
      let e : weight_from h (n + 1 + length xs) ys ≡ weight_from h (n + suc (length xs)) ys =
      ap (λ (k : ℕ). weight_from h k ys) (omega arith) in
      omega (arith, from_append h (n + 1) xs ys, e)

  pub from_snoc : (h : ℕ → T → ℕ) (xs : List T) (x : T)
      → weight_from h 0 (xs ++ x ∷ []) ≡ weight_from h 0 xs + h (length xs) x
  from_snoc h xs x =
      let e : weight_from h (0 + length xs) (x ∷ []) ≡ h (length xs) x + 0 =
      ap (λ (k : ℕ). weight_from h k (x ∷ [])) (omega arith) in
      omega (arith, from_append h 0 xs (x ∷ []), e)

  pub from_items : (h : T → ℕ) (n : ℕ) (xs : List T) → weight_from (λ k x. h x) n xs ≡ total h xs
  from_items h n [] = refl
  from_items h n (x ∷ xs) = omega (arith, from_items h (n + 1) xs)

  pub from_ones : (n : ℕ) (xs : List T) → weight_from (λ k x. 1) n xs ≡ length xs
  from_ones n [] = refl
  from_ones n (x ∷ xs) = omega (arith, from_ones (n + 1) xs)

  -- ---- a list is told by a log that has each of its items

  abbrev pub flag : ℕ → ℕ → T → ℕ
  flag k n x = cond (k == n) 1 0

  at_flag : (k n : ℕ) (x : T) → k ≡ n → flag k n x ≡ 1
  at_flag k n x e = by_cases (k == n) refl
    where
      by_cases : (b : Bool) → (k == n) ≡ b → cond {A = ℕ} b 1 0 ≡ 1
      by_cases true is = refl
      by_cases false is = grind (arith, e)

  pub flag_there : (k n : ℕ) (xs : List T) → n ≤ k → k < n + length xs
      → 0 < weight_from (flag k) n xs
  flag_there k n [] low high = absurd (omega arith)
  flag_there k n (x ∷ xs) low high = ⊎_elim
      (λ (is : (k == n) ≡ true). omega (arith, ap (λ (b : Bool). cond {A = ℕ} b 1 0) is))
      (λ (is : (k == n) ≡ false).
      omega (arith, flag_there k (n + 1) xs (grind (arith, is)) (omega arith)))
      (cases_Bool (k == n))

  told : (all other : List T) (k n m : ℕ) (es : List (Numbered T)) → IsPartOf all n es
      → IsPartOf other m es → 0 < total (weight_of (flag k)) es
      → get_elem? all k ≡ get_elem? other k
  told all other k n m [] p q some_there = absurd (omega arith)
  told all other k n m (e ∷ es) p q some_there = ⊎_elim
      (λ (is : (k == e.number) ≡ true).
      let same : k ≡ e.number = eqb-true k e.number is in
      ap (get_elem? all) same ∙ p.1 ∙ sym q.1 ∙ ap (get_elem? other) (sym same))
      (λ (is : (k == e.number) ≡ false).
      told all other k (e.number + 1) (e.number + 1) es p.2 q.2
      (omega (arith, ap (λ (b : Bool). cond {A = ℕ} b 1 0) is)))
      (cases_Bool (k == e.number))

  told_by_parts : (all other : List T) (k : ℕ) (ess : List (List (Numbered T))) → AreParts all ess
      → AreParts other ess → 0 < total (total (weight_of (flag k))) ess
      → get_elem? all k ≡ get_elem? other k
  told_by_parts all other k [] p q some_there = absurd (omega arith)
  told_by_parts all other k (es ∷ ess) p q some_there =
      by_cases (total (weight_of (flag k)) es) refl (told_by_parts all other k ess p.1 q.1)
    where
      by_cases : (n : ℕ) → total (weight_of (flag k)) es ≡ n
          → (0 < total (total (weight_of (flag k))) ess → get_elem? all k ≡ get_elem? other k)
          → get_elem? all k ≡ get_elem? other k
      by_cases zero is rest = rest (omega (arith, is))
      by_cases (suc n) is rest = told all other k 0 0 es p.0 q.0 (omega (arith, is))

  told_by_log : (all other : List T) (k : ℕ) (l : Log T) → IsLogOf all l → IsLogOf other l
      → 0 < weight (flag k) l → get_elem? all k ≡ get_elem? other k
  told_by_log all other k l p q some_there = by_cases (total (weight_of (flag k)) l.own) refl
    where
      by_cases : (n : ℕ) → total (weight_of (flag k)) l.own ≡ n
          → get_elem? all k ≡ get_elem? other k
      by_cases zero is = told_by_parts all other k l.joined p.joined q.joined (omega (arith, is))
      by_cases (suc n) is = told all other k 0 0 l.own p.own q.own (omega (arith, is))

  pub same_all : (l : Log T) (all other : List T) → IsLogOf all l → IsLogOf other l
      → ((h : ℕ → T → ℕ) → weight h l ≡ weight_from h 0 all)
      → ((h : ℕ → T → ℕ) → weight h l ≡ weight_from h 0 other) → all ≡ other
  same_all l all other p q once once' = same_list all other
      (omega (
        arith,
        once (λ k x. 1),
        once' (λ k x. 1),
        from_ones 0 all,
        from_ones 0 other,
      ))
      (λ k h. told_by_log all other k l p q
      (omega (arith, once (flag k), flag_there k 0 all (omega arith) (omega arith))))
