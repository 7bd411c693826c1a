-- What one exchange of a timer with its parent, or with a child, does to the order of a heap.
use Rattle.std.proofs.Common.{ℕ, ◌≡◌, ◌≢◌, ◌<◌, Bool, true, false, List, length, get_or, sym, ap}
use Rattle.std.proofs.Common.{◌∙◌, subst, arith, inl, inr}
use Rattle.std.proofs.lemmas.Bool.{cases_eq, ne_eqb}
use Rattle.std.proofs.lemmas.List.Edits.{length-swap}
use Rattle.std.specs.List.{swap}
use Rattle.timer_queue.specs.declared.timer.Timer.{Timer}
use Rattle.timer_queue.specs.Timers.{comes_before, AreApart}
use Rattle.timer_queue.proofs.Schedules.{before_trans, before_other}
use Rattle.timer_heap.specs.Heap.{parent, IsHeap, OnPath}
use Rattle.timer_heap.specs.Heap.OnPath.{here, above}
use Rattle.timer_heap.specs.Tree.{IsHeapBelow, IsHeapAbove, IsHeapAround}
use Rattle.timer_queue.proofs.Swaps.{brought_here, brought_there, brought_other, get_or-swap}
use Rattle.timer_queue.proofs.Swaps.{apart_at}

parent_below : (k : ℕ) → 0 < k → parent k < k
parent_below k l = omega arith

before_at : (a b x y : Timer) → a ≡ x → b ≡ y → comes_before x y ≡ true → comes_before a b ≡ true
before_at a b x y p q h = subst (λ v. comes_before v b ≡ true) (sym p)
    (subst (λ v. comes_before x v ≡ true) (sym q) h)

-- of two timers at different places one comes before the other
pub other_first : (slots : List Timer) (i j : ℕ) (d : Timer) → AreApart slots → i ≢ j
    → i < length slots → j < length slots
    → comes_before (get_or slots i d) (get_or slots j d) ≡ false
    → comes_before (get_or slots j d) (get_or slots i d) ≡ true
other_first slots i j d apart ne l m h =
    before_other (get_or slots i d) (get_or slots j d) h
    (ne_eqb _ _ (λ e. apart_at slots i j d apart ne l m (sym e)))

module _ (slots : List Timer) (a b : ℕ) (l : a < length slots) (m : b < length slots) where
  first_is : (d : Timer) → get_or (swap slots a b) a d ≡ get_or slots b d
  first_is d = get_or-swap slots a b a d l m ∙ ap (λ n. get_or slots n d) (brought_here a b)

  second_is : (d : Timer) → get_or (swap slots a b) b d ≡ get_or slots a d
  second_is d = get_or-swap slots a b b d l m ∙ ap (λ n. get_or slots n d) (brought_there a b)

  pub other_is : (k : ℕ) (d : Timer) → k ≢ a → k ≢ b
      → get_or (swap slots a b) k d ≡ get_or slots k d
  other_is k d p q = get_or-swap slots a b k d l m
      ∙ ap (λ n. get_or slots n d) (brought_other a b k p q)

-- one step up
pub sifted_up : (slots : List Timer) (at : ℕ) → 0 < at → at < length slots
    → ((d : Timer) → comes_before (get_or slots at d) (get_or slots (parent at) d) ≡ true)
    → IsHeapBelow slots at
    → IsHeapBelow (swap slots at (parent at)) (parent at)
sifted_up slots at pos l first h =
    let m : parent at < length slots = omega arith in
    let n : length (swap slots at (parent at)) ≡ length slots = length-swap slots at (parent at) in
    record {
      others = λ k d a b ne. elim (cases_eq k at) [
        | inl e ↦ before_at _ _ _ _ (ap (λ i. get_or (swap slots at (parent at)) (parent i) d) e
            ∙ second_is slots at (parent at) l m d)
            (ap (λ i. get_or (swap slots at (parent at)) i d) e
            ∙ first_is slots at (parent at) l m d) (first d)
        | inr o ↦
            let same = other_is slots at (parent at) l m k d o ne in
            elim (cases_eq (parent k) at) [
              | inl e ↦ before_at _ _ _ _ (ap (λ i. get_or (swap slots at (parent at)) i d) e
                  ∙ first_is slots at (parent at) l m d) same (h.across k d pos a (omega arith) e)
              | inr p ↦ elim (cases_eq (parent k) (parent at)) [
                | inl e ↦
                    before_at _ _ _ _ (ap (λ i. get_or (swap slots at (parent at)) i d) e
                    ∙ second_is slots at (parent at) l m d) same
                    (before_trans (get_or slots at d) (get_or slots (parent at) d)
                    (get_or slots k d) (first d) (subst
                    (λ i. comes_before (get_or slots i d) (get_or slots k d) ≡ true) e
                    (h.others k d a (omega arith) o)))
                | inr q ↦ before_at _ _ _ _ (other_is slots at (parent at) l m (parent k) d p q)
                    same (h.others k d a (omega arith) o)
              ]
            ]
      ];
      across = λ k d up a b e.
          let top : (get_or (swap slots at (parent at)) (parent (parent at)) d)
          ≡ get_or slots (parent (parent at)) d =
          other_is slots at (parent at) l m (parent (parent at)) d (omega arith) (omega arith)
          in
          let edge : comes_before (get_or slots (parent (parent at)) d) (get_or slots (parent at) d)
          ≡ true = h.others (parent at) d up m (omega arith) in
          elim (cases_eq k at) [
            | inl s ↦ before_at _ _ _ _ top (ap (λ i. get_or (swap slots at (parent at)) i d) s
                ∙ first_is slots at (parent at) l m d) edge
            | inr o ↦
                before_at _ _ _ _ top (other_is slots at (parent at) l m k d o (omega arith))
                (before_trans (get_or slots (parent (parent at)) d) (get_or slots (parent at) d)
                (get_or slots k d) edge (subst (λ i.
                comes_before (get_or slots i d) (get_or slots k d) ≡ true) e
                (h.others k d a (omega arith) o)))
          ];
    }

-- when the way up ends there is a heap
pub settled_up : (slots : List Timer) (at : ℕ) → IsHeapBelow slots at
    → ((d : Timer) → 0 < at → comes_before (get_or slots (parent at) d) (get_or slots at d) ≡ true)
    → IsHeap slots
settled_up slots at h last k d a b = elim (cases_eq k at) [
  | inl e ↦ subst (λ i. comes_before (get_or slots (parent i) d) (get_or slots i d) ≡ true) (sym e)
      (last d (omega arith))
  | inr o ↦ h.others k d a b o
]

-- one step down, with the child that comes before the other
pub sifted_down : (slots : List Timer) (at c : ℕ) → at < length slots → 0 < c → c < length slots
    → parent c ≡ at → ((d : Timer) → comes_before (get_or slots c d) (get_or slots at d) ≡ true)
    → ((k : ℕ) (d : Timer) → 0 < k → k < length slots → parent k ≡ at → k ≢ c
    → comes_before (get_or slots c d) (get_or slots k d) ≡ true) → IsHeapAbove slots at
    → IsHeapAbove (swap slots at c) c
sifted_down slots at c l pos m child first least h =
    let n : length (swap slots at c) ≡ length slots = length-swap slots at c in
    record {
      others = λ k d a b ne. elim (cases_eq k c) [
        | inl e ↦ before_at _ _ _ _ (ap (λ i. get_or (swap slots at c) (parent i) d) e
            ∙ ap (λ i. get_or (swap slots at c) i d) child ∙ first_is slots at c l m d)
            (ap (λ i. get_or (swap slots at c) i d) e ∙ second_is slots at c l m d) (first d)
        | inr o ↦ elim (cases_eq k at) [
          | inl e ↦
              before_at _ _ _ _ (ap (λ i. get_or (swap slots at c) (parent i) d) e
              ∙ other_is slots at c l m (parent at) d (omega arith) (omega arith))
              (ap (λ i. get_or (swap slots at c) i d) e ∙ first_is slots at c l m d)
              (h.across c d (omega arith) pos m child)
          | inr p ↦ elim (cases_eq (parent k) at) [
            | inl e ↦ before_at _ _ _ _ (ap (λ i. get_or (swap slots at c) i d) e
                ∙ first_is slots at c l m d) (other_is slots at c l m k d p o)
                (least k d a (omega arith) e o)
            | inr q ↦ before_at _ _ _ _ (other_is slots at c l m (parent k) d q ne)
                (other_is slots at c l m k d p o) (h.others k d a (omega arith) q)
          ]
        ]
      ];
      across = λ k d up a b e.
          before_at _ _ _ _ (ap (λ i. get_or (swap slots at c) i d) child
          ∙ first_is slots at c l m d) (other_is slots at c l m k d (omega arith) (omega arith))
          (subst (λ i. comes_before (get_or slots i d) (get_or slots k d) ≡ true) e
          (h.others k d a (omega arith) (omega arith)));
    }

-- when the way down ends there is a heap
pub settled_down : (slots : List Timer) (at : ℕ) → IsHeapAbove slots at
    → ((k : ℕ) (d : Timer) → 0 < k → k < length slots → parent k ≡ at
    → comes_before (get_or slots at d) (get_or slots k d) ≡ true) → IsHeap slots
settled_down slots at h last k d a b = elim (cases_eq (parent k) at) [
  | inl e ↦ subst (λ i. comes_before (get_or slots i d) (get_or slots k d) ≡ true) (sym e)
      (last k d a b e)
  | inr o ↦ h.others k d a b o
]

-- ---- a timer in another's place

pub goes_up : (slots : List Timer) (at : ℕ) → 0 < at
    → ((d : Timer) → comes_before (get_or slots at d) (get_or slots (parent at) d) ≡ true)
    → IsHeapAround slots at → IsHeapBelow slots at
goes_up slots at pos first h = record {
  others = λ k d a b ne. elim (cases_eq (parent k) at) [
    | inl e ↦ subst (λ i. comes_before (get_or slots i d) (get_or slots k d) ≡ true) (sym e)
        (before_trans (get_or slots at d) (get_or slots (parent at) d) (get_or slots k d) (first d)
        (h.across k d pos a b e))
    | inr o ↦ h.others k d a b ne o
  ];
  across = h.across;
}

pub goes_down : (slots : List Timer) (at : ℕ)
    → ((d : Timer) → 0 < at → comes_before (get_or slots (parent at) d) (get_or slots at d) ≡ true)
    → IsHeapAround slots at → IsHeapAbove slots at
goes_down slots at last h = record {
  others = λ k d a b ne. elim (cases_eq k at) [
    | inl e ↦ subst (λ i. comes_before (get_or slots (parent i) d) (get_or slots i d) ≡ true)
        (sym e) (last d (omega arith))
    | inr o ↦ h.others k d a b o ne
  ];
  across = h.across;
}

-- ---- the way up

pub path_up : (k n : ℕ) → 0 < k → OnPath k n → OnPath (parent k) n
path_up k n pos here = above pos here
path_up k n pos (above l p) = above l (path_up k (parent n) pos p)

off_path : (k at n : ℕ) → (OnPath k n → ⊥) → OnPath at n → k ≢ at
off_path k at n off on e = off (subst (λ i. OnPath i n) (sym e) on)

-- places off the way keep their timers
pub kept_off_path : (slots : List Timer) (at n k : ℕ) (d : Timer) → 0 < at → at < length slots
    → OnPath at n → (OnPath k n → ⊥) → get_or (swap slots at (parent at)) k d ≡ get_or slots k d
kept_off_path slots at n k d pos l on off =
    other_is slots at (parent at) l (omega arith) k d (off_path k at n off on)
    (off_path k (parent at) n off (path_up at n pos on))

-- the answer of a comparison, at what was read
pub compared : (a b x y : Timer) (r : Bool) → x ≡ a → y ≡ b → r ≡ comes_before x y
    → comes_before a b ≡ r
compared a b x y r p q h = cc
