-- The pick is one event, and there is one if an event is able.
use Rattle.std.proofs.Common.{ℕ, zero, suc, ◌≡◌, ◌≢◌, ◌+◌, ◌-◌, ◌*◌, ◌/◌, ◌<◌, ◌≤◌, ◌==◌, Bool}
use Rattle.std.proofs.Common.{true, false, not, ◌&&◌, ◌||◌, List, length, refl, sym, ap, ◌∙◌, subst}
use Rattle.std.proofs.Common.{arith, ◌⊎◌, inl, inr, ⊎_elim}
use Rattle.std.proofs.lemmas.Bool.{and_parts, or_cases, and_from, or_right, or_left, not-true}
use Rattle.std.proofs.lemmas.Bool.{both_ways, cases_Bool, cases_eq, cases_lt}
use Rattle.std.proofs.lemmas.Bool.Decides.{nat_tests}
use Rattle.std.proofs.Math.Nat.{div-lt_iff_lt-mul, lt-div-mul-add, mul-le-mul_right}
use Rattle.std.specs.Prelude.{nat_lt, nat_le}
use Rattle.reactor_journal.specs.declared.entry.Entry.{Entry}
use Rattle.reactor_journal.specs.Past.{all_below, is_pick, is_able, goes_first, class_at, event_at}
use Rattle.reactor_journal.specs.Past.{next_deadline}
use Rattle.reactor_journal.proofs.Basics.{event_at-within}
use Rattle.reactor_journal.proofs.OneOpen.{able_is_event}

pub all_below-at : (n : ℕ) (test : ℕ → Bool) (i : ℕ) → i < n → all_below n test ≡ true
    → test i ≡ true
all_below-at zero test i lt h = absurd (omega arith)
all_below-at (suc n) test i lt h =
    let p : (test n ≡ true) × (all_below n test ≡ true) = and_parts _ _ h in
    ⊎_elim (λ (q : i ≡ n). ap test q ∙ p.0) (λ (q : i ≢ n). all_below-at n test i (omega arith) p.1)
    (cases_eq i n)

pub all_below-from : (n : ℕ) (test : ℕ → Bool) → ((i : ℕ) → i < n → test i ≡ true)
    → all_below n test ≡ true
all_below-from zero test h = refl
all_below-from (suc n) test h = and_from (test n) (all_below n test) (h n (omega arith))
    (all_below-from n test (λ i lt. h i (omega arith)))

-- the order of (class, number)
abbrev pub first : ℕ → ℕ → ℕ → ℕ → Bool
first a i b j = nat_lt a b || (a == b && nat_le i j)

pub first_same : (a i b j : ℕ) → first a i b j ≡ true → first b j a i ≡ true → i ≡ j
first_same a i b j h k = grind (arith, nat_tests)

pub first_self : (a i : ℕ) → first a i a i ≡ true
first_self a i = grind (arith, nat_tests)

pub first_total : (a i b j : ℕ) → (first a i b j ≡ true) ⊎ (first b j a i ≡ true)
first_total a i b j = ⊎_elim (λ (t : first a i b j ≡ true). inl t)
    (λ (f : first a i b j ≡ false). inr (other a i b j f)) (cases_Bool (first a i b j))
  where
    other : (a i b j : ℕ) → first a i b j ≡ false → first b j a i ≡ true
    other a i b j f = grind (arith, nat_tests)

pub first_trans : (a i b j c k : ℕ) → first a i b j ≡ true → first b j c k ≡ true
    → first a i c k ≡ true
first_trans a i b j c k h g = grind (arith, nat_tests)

pub able_within : {N : Type 0} (past : List (Entry N)) (i : ℕ) → is_able past i ≡ true
    → i < length past
able_within past i h = event_at-within past i (able_is_event past i h)

pub pick_parts : {N : Type 0} (past : List (Entry N)) (i : ℕ) → is_pick past i ≡ true
    → (is_able past i ≡ true) × ((j : ℕ) → is_able past j ≡ true → goes_first past i j ≡ true)
unfolding is_pick
pick_parts past i h =
    let p : (is_able past i ≡ true) × (all_below (length past)
    (λ j. not (is_able past j) || goes_first past i j) ≡ true) = and_parts _ _ h in (
      p.0,
      λ j a.
          ⊎_elim
          (λ (t : not (is_able past j) ≡ true). absurd (both_ways _ (not-true _ t) a))
          (λ (t : goes_first past i j ≡ true). t)
          (or_cases _ _ (all_below-at (length past)
          (λ j. not (is_able past j) || goes_first past i j) j (able_within past j a) p.1)),
    )

pub pick_from : {N : Type 0} (past : List (Entry N)) (i : ℕ) → is_able past i ≡ true
    → ((j : ℕ) → j < length past → is_able past j ≡ true → goes_first past i j ≡ true)
    → is_pick past i ≡ true
unfolding is_pick
pick_from past i a h =
    and_from (is_able past i) _ a
    (all_below-from (length past) _ (λ j lt.
    ⊎_elim (λ (t : is_able past j ≡ true).
    or_right (not (is_able past j)) (goes_first past i j) (h j lt t))
    (λ (f : is_able past j ≡ false). or_left (not (is_able past j)) (goes_first past i j)
    (ap not f)) (cases_Bool (is_able past j))))

pub pick_one : {N : Type 0} (past : List (Entry N)) (i j : ℕ) → is_pick past i ≡ true
    → is_pick past j ≡ true → i ≡ j
pick_one past i j h k =
    let p : (is_able past i ≡ true) × ((j : ℕ) → is_able past j ≡ true
    → goes_first past i j ≡ true) = pick_parts past i h in
    let q : (is_able past j ≡ true) × ((i : ℕ) → is_able past i ≡ true
    → goes_first past j i ≡ true) = pick_parts past j k in
    first_same (class_at (event_at past i)) i (class_at (event_at past j)) j (p.1 j q.0) (q.1 i p.0)

-- the first of those that pass among the numbers below n
pub best : (class : ℕ → ℕ) (able : ℕ → Bool) (n : ℕ) → ((i : ℕ) → i < n → able i ≡ false)
    ⊎ ((b : ℕ) × (able b ≡ true) × ((j : ℕ) → j < n → able j ≡ true
    → first (class b) b (class j) j ≡ true))
best class able zero = inl (λ i lt. absurd (omega arith))
best class able (suc n) =
    ⊎_elim
    (λ (t : able n ≡ true).
    ⊎_elim
    (λ (none : (i : ℕ) → i < n → able i ≡ false).
    inr (
      n,
      t,
      λ j lt a. ⊎_elim (λ (q : j ≡ n).
          subst (λ (k : ℕ). first (class n) n (class k) k ≡ true) (sym q) (first_self (class n) n))
          (λ (q : j ≢ n). absurd (both_ways _ (none j (omega arith)) a)) (cases_eq j n),
    ))
    (λ (some : (b : ℕ) × (able b ≡ true)
    × ((j : ℕ) → j < n → able j ≡ true → first (class b) b (class j) j ≡ true)).
    ⊎_elim
    (λ (old : first (class some.0) some.0 (class n) n ≡ true).
    inr (
      some.0,
      some.1,
      λ j lt a. ⊎_elim
          (λ (q : j ≡ n). subst (λ (k : ℕ). first (class some.0) some.0 (class k) k ≡ true) (sym q)
          old) (λ (q : j ≢ n). some.2 j (omega arith) a) (cases_eq j n),
    ))
    (λ (new : first (class n) n (class some.0) some.0 ≡ true).
    inr (
      n,
      t,
      λ j lt a.
          ⊎_elim
          (λ (q : j ≡ n). subst (λ (k : ℕ). first (class n) n (class k) k ≡ true) (sym q)
          (first_self (class n) n))
          (λ (q : j ≢ n). first_trans (class n) n (class some.0) some.0 (class j) j new
          (some.2 j (omega arith) a))
          (cases_eq j n),
    ))
    (first_total (class some.0) some.0 (class n) n))
    (best class able n))
    (λ (f : able n ≡ false).
    ⊎_elim
    (λ (none : (i : ℕ) → i < n → able i ≡ false).
    inl (λ j lt. ⊎_elim (λ (q : j ≡ n). ap able q ∙ f) (λ (q : j ≢ n). none j (omega arith))
    (cases_eq j n)))
    (λ (some : (b : ℕ) × (able b ≡ true)
    × ((j : ℕ) → j < n → able j ≡ true → first (class b) b (class j) j ≡ true)).
    inr (
      some.0,
      some.1,
      λ j lt a. ⊎_elim
          (λ (q : j ≡ n). absurd (both_ways _ f (sym (ap able q) ∙ a)))
          (λ (q : j ≢ n). some.2 j (omega arith) a) (cases_eq j n),
    ))
    (best class able n))
    (cases_Bool (able n))

pub pick_some : {N : Type 0} (past : List (Entry N)) (i : ℕ) → is_able past i ≡ true → (j : ℕ)
    × (is_pick past j ≡ true)
pick_some past i a =
    ⊎_elim
    (λ (none : (i : ℕ) → i < length past → is_able past i ≡ false).
    absurd (both_ways _ (none i (able_within past i a)) a))
    (λ (some : (b : ℕ) × (is_able past b ≡ true)
    × ((j : ℕ) → j < length past → is_able past j ≡ true → goes_first past b j ≡ true)).
    (some.0, pick_from past some.0 some.1 some.2))
    (best (λ k. class_at (event_at past k)) (is_able past) (length past))

-- ---- the next deadline

pub next_above : (d every moment : ℕ) → 0 < every → moment < next_deadline d every moment
next_above d every moment h =
    let k : moment - d < (moment - d) / every * every + every = lt-div-mul-add h in
    omega arith

pub next_least : (d every moment k : ℕ) → 0 < every → 1 ≤ k → moment < d + k * every
    → next_deadline d every moment ≤ d + k * every
next_least d every moment k h one lt =
    let below : moment - d < k * every =
    ⊎_elim (λ (q : moment < d). least_one moment d every k h one q)
    (λ (q : d ≤ moment). omega arith) (cases_lt moment d) in
    let fewer : (moment - d) / every < k = (div-lt_iff_lt-mul h).1 below in
    let times : ((moment - d) / every + 1) * every ≤ k * every =
    mul-le-mul_right every (omega arith) in
    omega arith
  where
    least_one : (moment d every k : ℕ) → 0 < every → 1 ≤ k → moment < d → moment - d < k * every
    least_one moment d every k h one q = let p : 1 * every ≤ k * every =
        mul-le-mul_right every one in omega arith
