-- The first slot of a heap is the first of the list of timers that it stands for.
use Rattle.std.proofs.Common.{ℕ, zero, suc, ◌≡◌, ◌≢◌, ◌<◌, ◌≤◌, true, List, [], ◌∷◌, length, get_or}
use Rattle.std.proofs.Common.{refl, sym, ap, ◌∙◌, subst, arith, inl, inr}
use Rattle.std.proofs.lemmas.Bool.{cases_eq}
use Rattle.std.proofs.lemmas.Bool.Decides.{nat_tests}
use Rattle.std.proofs.lemmas.List.{get_or_default}
use Rattle.std.proofs.lemmas.List.Sorted.{IsPermutation-refl}
use Rattle.std.specs.List.{slice_get, All}
use Rattle.std.specs.Option.{option_map}
use Rattle.std.specs.List.Sorted.{IsPermutation}
use Rattle.timer_queue.specs.declared.timer.Timer.{Timer}
use Rattle.timer_queue.specs.Timers.{comes_before, first_deadline, in_order, AreApart}
use Rattle.timer_queue.proofs.Schedules.{before_trans}
use Rattle.timer_queue.proofs.Members.{Among, among_at, among_from, members_permutation}
use Rattle.timer_queue.proofs.Members.{members_in_order}
use Rattle.timer_heap.specs.Heap.{parent, IsHeap}
use Rattle.timer_queue.proofs.Swaps.{apart_permutation}
use Rattle.timer_queue.proofs.Contents.{head_apart, in_order-first}

first_within : (slots : List Timer) → IsHeap slots → (n k : ℕ) (d : Timer) → k ≤ n → 0 < k
    → k < length slots → comes_before (get_or slots 0 d) (get_or slots k d) ≡ true
first_within slots heap zero k d le pos l = absurd (omega arith)
first_within slots heap (suc n) k d le pos l =
    elim (cases_eq (parent k) 0) [
      | inl e ↦ subst (λ i. comes_before (get_or slots i d) (get_or slots k d) ≡ true) e
          (heap k d pos l)
      | inr ne ↦
          before_trans (get_or slots 0 d) (get_or slots (parent k) d) (get_or slots k d)
          (first_within slots heap n (parent k) d (omega arith) (omega arith) (omega arith))
          (heap k d pos l)
    ]

pub first_before : (slots : List Timer) (k : ℕ) (d : Timer) → IsHeap slots → 0 < k
    → k < length slots → comes_before (get_or slots 0 d) (get_or slots k d) ≡ true
first_before slots k d heap pos l = first_within slots heap k k d (omega arith) pos l

-- the first comes before what stays
pub first_of_heap : (t : Timer) (old new : List Timer) → IsHeap old → AreApart old
    → IsPermutation old (t ∷ new) → ((d : Timer) → t ≡ get_or old 0 d) → (u : Timer) → Among u new
    → comes_before t u ≡ true
first_of_heap t old new heap apart p first u a =
    let c = among_at u old ((members_permutation old (t ∷ new) p).back u (inr a)) in
    let other : u.timer ≢ t.timer = head_apart t u new (apart_permutation old (t ∷ new) p apart) a
    in
    elim (cases_eq c.0 0) [
      | inl e ↦ absurd (other (ap (λ v. v.timer)
          (sym c.2 ∙ ap (λ i. get_or old i u) e ∙ sym (first u))))
      | inr ne ↦ subst (λ v. comes_before v u ≡ true) (sym (first u))
          (subst (λ v. comes_before (get_or old 0 u) v ≡ true) c.2
          (first_before old c.0 u heap (omega arith) c.1))
    ]

pub first_deadline-heap : (t : Timer) (rest : List Timer) → IsHeap (t ∷ rest) → AreApart (t ∷ rest)
    → in_order (t ∷ rest) ≡ t ∷ in_order rest
first_deadline-heap t rest heap apart =
    in_order-first t (t ∷ rest) rest apart (IsPermutation-refl (t ∷ rest)) (λ u a.
    let c = among_at u rest a in
    subst (λ v. comes_before t v ≡ true) c.2
    (first_before (t ∷ rest) (suc c.0) u heap (omega arith) (omega (arith, c.1))))

-- if the first is not reached, none is
pub none_reached : (now : ℕ) (slots : List Timer) → IsHeap slots
    → ((d : Timer) → now < (get_or slots 0 d).deadline)
    → All (λ u. now < u.deadline) (in_order slots)
none_reached now slots heap first k d l =
    let u : Timer = get_or (in_order slots) k d in
    let c = among_at u slots ((members_in_order slots).back u
    (among_from u (in_order slots) (k, l, get_or_default (in_order slots) k u d l))) in
    elim (cases_eq c.0 0) [
      | inl e ↦ subst (λ v. now < v.deadline) (sym (ap (λ i. get_or slots i u) e) ∙ c.2) (first u)
      | inr ne ↦
          let b : comes_before (get_or slots 0 u) u ≡ true =
          subst (λ v. comes_before (get_or slots 0 u) v ≡ true) c.2
          (first_before slots c.0 u heap (omega arith) c.1) in
          let e : (get_or slots 0 u).deadline ≤ u.deadline = not_later (get_or slots 0 u) u b in
          let f : now < (get_or slots 0 u).deadline = first u in
          omega arith
    ]
  where
    not_later : (a b : Timer) → comes_before a b ≡ true → a.deadline ≤ b.deadline
    not_later a b h = grind (arith, nat_tests)

pub earliest_is : (slots : List Timer) → IsHeap slots → AreApart slots
    → option_map (λ t. t.deadline) (slice_get slots 0) ≡ first_deadline (in_order slots)
earliest_is [] heap apart = refl
earliest_is (t ∷ rest) heap apart = sym (ap first_deadline (first_deadline-heap t rest heap apart))
