-- The lanes of a queue, and the order of numbers and of pairs of numbers.
use Rattle.std.proofs.Common.{ℕ, ◌≡◌, ◌+◌, ◌*◌, ◌<◌, ◌≤◌, ◌==◌, Bool, true, false, not}
use Rattle.std.proofs.Common.{◌&&◌, refl, sym, ap, ◌∙◌, subst}
use Rattle.std.proofs.Common.{arith, ⊎_elim}
use Rattle.std.proofs.lemmas.Bool.{both_ways, and_parts, and_from}
use Rattle.std.proofs.lemmas.Bool.{and_left, and_right}
use Rattle.std.proofs.lemmas.Bool.{cases_eq, cases_lt, cases_order, eq-eqb}
use Rattle.std.proofs.lemmas.Bool.{ne_eqb, eqb-true}
use Rattle.std.specs.Ordering.{nat_cmp, is_eq, is_gt}
use Rattle.ev_types.specs.declared.upcall.Upcall.{Upcall}
use Rattle.ev_types.specs.declared.upcall.Upcall.TheVariants.{Input, Output, Except, Timeout}
use Rattle.ev_types.specs.declared.upcall.Upcall.TheVariants.{Notice}
use Rattle.reactor_journal.specs.Past.{class_of, is_without}
use Rattle.reactor_journal.proofs.Steps.{same_tests}
use Rattle.reactor_summary.specs.declared.parts.WaitingEvent.{WaitingEvent}
use Rattle.journal_check.specs.Index.{pair_cmp}
use Rattle.journal_check.specs.Queue.{lane_of}
use Rattle.journal_check.proofs.Timed.{cmp_less, cmp_equal, cmp_greater, pair_same, pair_other}
use Rattle.journal_check.proofs.Timed.{pair_from}

-- ---- lanes

pub class_below : (u : Upcall) → class_of u < 5
class_below (Timeout timer) = omega arith
class_below (Notice kind) = omega arith
class_below Output = omega arith
class_below Except = omega arith
class_below Input = omega arith

-- whether the event stands in the lane
pub lane_test : (w : WaitingEvent) (x c : ℕ) → c < 5
    → (lane_of w == x * 5 + c) ≡ (x == w.handle.0 && (class_of w.upcall == c))
lane_test w x c lt =
    let below : class_of w.upcall < 5 = class_below w.upcall in
    same_tests _ _
    (λ h.
    let same : w.handle.0 * 5 + class_of w.upcall ≡ x * 5 + c =
    eqb-true (lane_of w) (x * 5 + c) h in
    and_from (x == w.handle.0) (class_of w.upcall == c) (eq-eqb x w.handle.0 (omega arith))
    (eq-eqb (class_of w.upcall) c (omega arith)))
    (λ h.
    let both : ((x == w.handle.0) ≡ true) × ((class_of w.upcall == c) ≡ true) = and_parts _ _ h in
    let same : x ≡ w.handle.0 = eqb-true _ _ both.0 in
    let class : class_of w.upcall ≡ c = eqb-true _ _ both.1 in
    eq-eqb (lane_of w) (x * 5 + c) (omega arith))

pub lane_first : (w : WaitingEvent) (x : ℕ)
    → (lane_of w == x * 5) ≡ (x == w.handle.0 && (class_of w.upcall == 0))
lane_first w x = let same : x * 5 ≡ x * 5 + 0 = omega arith in
    ap (λ (k : ℕ). lane_of w == k) same ∙ lane_test w x 0 (omega arith)

one_of_five : (b : Bool) (u : Upcall)
    → ((((not (b && (class_of u == 0)) && not (b && (class_of u == 1)))
    && not (b && (class_of u == 2))) && not (b && (class_of u == 3)))
    && not (b && (class_of u == 4))) ≡ not b
one_of_five false u = refl
one_of_five true (Timeout timer) = refl
one_of_five true (Notice kind) = refl
one_of_five true Output = refl
one_of_five true Except = refl
one_of_five true Input = refl

abbrev pub in_lane : ℕ → ℕ → WaitingEvent → Bool
in_lane x c w = x == w.handle.0 && (class_of w.upcall == c)

pub three_kinds : (b r w e : Bool) (u : Upcall)
    → ((not (not w && (b && (class_of u == 2))) && not (not e && (b && (class_of u == 3))))
    && not (not r && (b && (class_of u == 4))))
    ≡ not (b && is_without (record { read = r; write = w; except = e }) u)
three_kinds false true true true u = refl
three_kinds false true true false u = refl
three_kinds false true false true u = refl
three_kinds false true false false u = refl
three_kinds false false true true u = refl
three_kinds false false true false u = refl
three_kinds false false false true u = refl
three_kinds false false false false u = refl
three_kinds true r w e (Timeout timer) = none r w e
  where
    none : (r w e : Bool) → ((not (not w && false) && not (not e && false)) && not (not r && false))
        ≡ true
    none true true true = refl
    none true true false = refl
    none true false true = refl
    none true false false = refl
    none false true true = refl
    none false true false = refl
    none false false true = refl
    none false false false = refl
three_kinds true r w e (Notice kind) = none r w e
  where
    none : (r w e : Bool) → ((not (not w && false) && not (not e && false)) && not (not r && false))
        ≡ true
    none true true true = refl
    none true true false = refl
    none true false true = refl
    none true false false = refl
    none false true true = refl
    none false true false = refl
    none false false true = refl
    none false false false = refl
three_kinds true r w e Output = output r w e
  where
    output : (r w e : Bool) → ((not (not w && true) && not (not e && false))
        && not (not r && false)) ≡ not (not w)
    output true true true = refl
    output true true false = refl
    output true false true = refl
    output true false false = refl
    output false true true = refl
    output false true false = refl
    output false false true = refl
    output false false false = refl
three_kinds true r w e Except = except r w e
  where
    except : (r w e : Bool) → ((not (not w && false) && not (not e && true))
        && not (not r && false)) ≡ not (not e)
    except true true true = refl
    except true true false = refl
    except true false true = refl
    except true false false = refl
    except false true true = refl
    except false true false = refl
    except false false true = refl
    except false false false = refl
three_kinds true r w e Input = input r w e
  where
    input : (r w e : Bool) → ((not (not w && false) && not (not e && false)) && not (not r && true))
        ≡ not (not r)
    input true true true = refl
    input true true false = refl
    input true false true = refl
    input true false false = refl
    input false true true = refl
    input false true false = refl
    input false false true = refl
    input false false false = refl

-- ---- numbers and pairs

pub num_test : (i j : ℕ) → (i == j) ≡ is_eq (nat_cmp i j)
num_test i j =
    ⊎_elim
    (λ (q : i ≡ j). eq-eqb i j q ∙ sym (ap is_eq (cmp_equal i j q)))
    (⊎_elim
    (λ (l : i < j). ne_eqb i j (λ q. absurd (omega arith)) ∙ sym (ap is_eq (cmp_less i j l)))
    (λ (l : j < i). ne_eqb i j (λ q. absurd (omega arith)) ∙ sym (ap is_eq (cmp_greater i j l))))
    (cases_order i j)

pub num_back : (i j : ℕ) → (j == i) ≡ is_eq (nat_cmp i j)
num_back i j =
    ⊎_elim
    (λ (q : i ≡ j). eq-eqb j i (sym q) ∙ sym (ap is_eq (cmp_equal i j q)))
    (⊎_elim
    (λ (l : i < j). ne_eqb j i (λ q. absurd (omega arith)) ∙ sym (ap is_eq (cmp_less i j l)))
    (λ (l : j < i). ne_eqb j i (λ q. absurd (omega arith)) ∙ sym (ap is_eq (cmp_greater i j l))))
    (cases_order i j)

pub pair_test : (m e n j : ℕ) → is_eq (pair_cmp (m, e) (n, j)) ≡ (m == n && e == j)
pair_test m e n j =
    ⊎_elim
    (λ (q : e ≡ j).
    ⊎_elim
    (λ (p : m ≡ n). pair_same m e n j p q ∙ sym (and_from _ _ (eq-eqb m n p) (eq-eqb e j q)))
    (λ (p : m ≡ n → ⊥). first_other p ∙ sym (and_left _ _ (ne_eqb m n p)))
    (cases_eq m n))
    (λ (q : e ≡ j → ⊥). pair_other m e n j q ∙ sym (and_right _ _ (ne_eqb e j q)))
    (cases_eq e j)
  where
    first_other : (m ≡ n → ⊥) → is_eq (pair_cmp (m, e) (n, j)) ≡ false
    first_other p =
        ⊎_elim
        (λ (l : m ≡ n). absurd (p l))
        (⊎_elim
        (λ (l : m < n). rw (cmp_less m n l) refl)
        (λ (l : n < m). rw (cmp_greater m n l) refl))
        (cases_order m n)

pub record Before (m e n j : ℕ) : Type 0 where
  pub first : m ≤ n
  pub second : m ≡ n → e ≤ j

pub pair_before : (m e n j : ℕ) → is_gt (pair_cmp (m, e) (n, j)) ≡ false → Before m e n j
pair_before m e n j h = record { first = first; second = second }
  where
    first : m ≤ n
    first =
        ⊎_elim
        (λ (l : n < m). let up : is_gt (pair_cmp (m, e) (n, j)) ≡ true =
        rw (cmp_greater m n l) refl in absurd (both_ways _ h up))
        (λ (l : m ≤ n). l)
        (cases_lt n m)

    second : m ≡ n → e ≤ j
    second q =
        ⊎_elim
        (λ (l : j < e). let up : is_gt (pair_cmp (m, e) (n, j)) ≡ true =
        rw (cmp_equal m n q, cmp_greater e j l) refl in absurd (both_ways _ h up))
        (λ (l : e ≤ j). l)
        (cases_lt j e)

-- from a number on
pub pair_reaches : (low n i : ℕ) → low ≤ n → is_gt (pair_cmp (low, 0) (n, i)) ≡ false
pair_reaches low n i le =
    ⊎_elim
    (λ (q : low ≡ n). subst (λ (m : ℕ). is_gt (pair_cmp (low, 0) (m, i)) ≡ false) q
    (pair_from low i))
    (λ (q : low ≡ n → ⊥). rw (cmp_less low n (omega arith)) refl)
    (cases_eq low n)

pub pair_starts : (low : ℕ) (k : ℕ × ℕ) → is_gt (pair_cmp (low, 0) k) ≡ false → low ≤ k.0
pair_starts low k h = (pair_before low 0 k.0 k.1 h).first

pub pair_ends : (k : ℕ × ℕ) (n i : ℕ) → is_gt (pair_cmp k (n, i)) ≡ false → k.0 ≤ n
pair_ends k n i h = (pair_before k.0 k.1 n i h).first
