-- What holds of each poster's postings holds of what was drained.
use Rattle.std.proofs.Common.{ℕ, zero, suc, ◌≡◌, ◌==◌, ◌≤◌, ◌+◌, Bool, true, false, List, [], ◌∷◌}
use Rattle.std.proofs.Common.{◌++◌, length, refl, sym, ap, ◌∙◌, subst, arith, cond, lt-ltb}
use Rattle.std.proofs.lemmas.Bool.{and_from, and_parts, eq-eqb, eqb-true, false≢true}
use Rattle.std.proofs.lemmas.List.Folds.{list_all-append}
use Rattle.std.specs.List.{list_all}
use mathlib.Core.Option.{some, some-injective, some-ne-none}
use lib.ListN.{get_elem?}
use Rattle.leader_token.specs.list_lemmas.specs.Sums.{total}
use Rattle.notify_ring.specs.Passes.{IsMerged, owns}
use Rattle.notify_ring.specs.Postings.{by_poster, flag, from_is, with_if}
use Rattle.notify_ring.specs.declared.posting.Posting.{Posting}
use Rattle.notify_ring.specs.declared.view.Ended.{Ended}
use Rattle.notify_ring.specs.declared.view.View.{View}
use Rattle.tp_reactor.specs.Pool.{known_postings}

all_of_places : {A : Type 0} (p : A → Bool) (xs : List A)
    → ((k : ℕ) (x : A) → get_elem? xs k ≡ some x → p x ≡ true) → list_all p xs ≡ true
all_of_places p [] each = refl
all_of_places p (x ∷ xs) each = and_from (p x) (list_all p xs) (each 0 x refl)
    (all_of_places p xs (λ k y is. each (suc k) y is))

all_front : {A : Type 0} (p : A → Bool) (xs ys all : List A) → xs ++ ys ≡ all
    → list_all p all ≡ true → list_all p xs ≡ true
all_front p xs ys all is q = (and_parts (list_all p xs) (list_all p ys)
    (sym (list_all-append p xs ys) ∙ (ap (list_all p) is ∙ q))).0

-- the postings of a root, and of the posters that it joined, pass the test
pub record AllPosted (p : Posting → Bool) (v : View) : Type 0 where
  pub own : list_all p v.posted ≡ true
  pub ended : list_all (λ (e : Ended). list_all p e.posted) v.ended ≡ true

module _ (p : Posting → Bool) where
  with_rest : (n : ℕ) (y : Posting) (ys : List Posting) → list_all p (with_if n y ys) ≡ true
      → list_all p ys ≡ true
  with_rest zero y ys all = all
  with_rest (suc n) y ys all = (and_parts (p y) (list_all p ys) all).1

  with_first : (b : Bool) (y : Posting) (ys : List Posting) → b ≡ true
      → list_all p (with_if (flag b) y ys) ≡ true → p y ≡ true
  with_first true y ys is all = (and_parts (p y) (list_all p ys) all).0
  with_first false y ys is all = absurd cc

  -- a posting stands among those of its poster
  in_own : (f : ℕ) (all : List Posting) (k : ℕ) (x : Posting) → get_elem? all k ≡ some x
      → f ≡ x.from → list_all p (by_poster f all) ≡ true → p x ≡ true
  in_own f [] k x at own q = absurd (some-ne-none x (sym at))
  in_own f (y ∷ ys) zero x at own q =
      let is : y ≡ x = some-injective y x at in
      subst (λ (z : Posting). p z ≡ true) is
      (with_first (f == y.from) y (by_poster f ys)
      (eq-eqb f y.from (own ∙ ap (λ (z : Posting). z.from) (sym is))) q)
  in_own f (y ∷ ys) (suc k) x at own q =
      in_own f ys k x at own (with_rest (from_is f y) y (by_poster f ys) q)

  module _ (all : List Posting) (k : ℕ) (x : Posting) (at : get_elem? all k ≡ some x) where
    by_number : (e : Ended) (es : List Ended) → e.posted ≡ by_poster e.number all
        → list_all p e.posted ≡ true → (1 ≤ total (λ (e : Ended). flag (x.from == e.number)) es
        → p x ≡ true)
        → (b : Bool) → (x.from == e.number) ≡ b
        → 1 ≤ flag b + total (λ (e : Ended). flag (x.from == e.number)) es → p x ≡ true
    by_number e es are q rest true is many =
        in_own e.number all k x at (sym (eqb-true x.from e.number is))
        (ap (list_all p) (sym are) ∙ q)
    by_number e es are q rest false is many = rest (omega (arith, many))

    owner : (ended : List Ended) → ((j : ℕ) (e : Ended) → get_elem? ended j ≡ some e
        → e.posted ≡ by_poster e.number all)
        → list_all (λ (e : Ended). list_all p e.posted) ended ≡ true
        → 1 ≤ total (λ (e : Ended). flag (x.from == e.number)) ended → p x ≡ true
    owner [] are q many = absurd (omega (arith, many))
    owner (e ∷ es) are q many =
        let parts = and_parts (list_all p e.posted)
        (list_all (λ (e : Ended). list_all p e.posted) es) q in
        by_number e es (are 0 e refl) parts.0
        (λ more. owner es (λ j f is. are (suc j) f is) parts.1 more) (x.from == e.number) refl
        many

    -- it is the root's own, or that of a poster that was joined
    owned : (root : View) → root.posted ≡ by_poster root.number all
        → ((j : ℕ) (e : Ended) → get_elem? root.ended j ≡ some e
        → e.posted ≡ by_poster e.number all) → AllPosted p root
        → (posts own : Bool) → (x.from == root.number) ≡ own
        → 1 ≤ cond {A = ℕ} posts (flag own) 0
        + total (λ (e : Ended). flag (x.from == e.number)) root.ended → p x ≡ true
    owned root own ended q true true is many =
        in_own root.number all k x at (sym (eqb-true x.from root.number is))
        (ap (list_all p) (sym own) ∙ q.own)
    owned root own ended q true false is many = owner root.ended ended q.ended (omega (arith, many))
    owned root own ended q false mine is many = owner root.ended ended q.ended (omega (arith, many))

  -- what was drained passes it
  pub all_drained : (root drainer : View) (n : ℕ) → IsMerged root drainer n → AllPosted p root
      → list_all p drainer.got ≡ true
  all_drained root drainer n m q =
      let each : (k : ℕ) (x : Posting) → get_elem? m.all k ≡ some x → p x ≡ true =
      λ k x at.
      let made : owns x.from root ≡ 1 = m.each x.from
      ∙ ap flag (lt-ltb x.from root.posters (m.numbered k x at).from) in
      owned m.all k x at root m.own m.ended q root.posts (x.from == root.number) refl
      (omega (arith, made)) in
      all_front p drainer.got m.got.0 m.all m.got.1 (all_of_places p m.all each)

-- ---- if no posting was made

none_posted : (xs : List Posting) → length xs ≤ 0 → list_all (λ (x : Posting). false) xs ≡ true
none_posted [] le = refl
none_posted (x ∷ xs) le = absurd (omega (arith, le))

none_ended : (es : List Ended) → total (λ (e : Ended). length e.posted) es ≤ 0
    → list_all (λ (e : Ended). list_all (λ (x : Posting). false) e.posted) es ≡ true
none_ended [] le = refl
none_ended (e ∷ es) le = and_from _ _ (none_posted e.posted (omega (arith, le)))
    (none_ended es (omega (arith, le)))

none_there : (xs : List Posting) → list_all (λ (x : Posting). false) xs ≡ true → xs ≡ []
none_there [] all = refl
none_there (x ∷ xs) all = absurd (false≢true all)

-- nothing was drained
pub none_drained : (root drainer : View) (n : ℕ) → IsMerged root drainer n
    → known_postings root ≤ 0 → drainer.got ≡ []
none_drained root drainer n merged none =
    none_there drainer.got (all_drained (λ x. false) root drainer n merged (record {
      own = none_posted root.posted (omega (arith, none));
      ended = none_ended root.ended (omega (arith, none));
    }))
