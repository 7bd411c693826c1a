-- What stands after a place when timers move.
use Rattle.std.proofs.Common.{ℕ, ◌≡◌, ◌+◌, ◌-◌, ◌<◌, ◌≤◌, List, length, get_or, sym, ap, ◌∙◌, subst}
use Rattle.std.proofs.Common.{arith}
use Rattle.std.proofs.lemmas.Bool.Decides.{nat_tests}
use Rattle.std.proofs.lemmas.List.Edits.{length-swap}
use Rattle.std.specs.List.{swap}
use Rattle.timer_queue.specs.declared.timer.Timer.{Timer}
use Rattle.timer_queue.proofs.Swaps.{brought, brought_within, get_or-swap}
use Rattle.timer_heap.specs.Heap.{parent, OnPath}
use Rattle.timer_heap.specs.Heap.OnPath.{here, above}
use Rattle.timer_heap.specs.Tree.{IsClear}
use Rattle.timer_heap.proofs.Removals.{cut, cut_at, length_cut}

brought_least : (i j k n : ℕ) → n ≤ i → n ≤ j → n ≤ k → n ≤ brought i j k
brought_least i j k n a b c = grind (arith, nat_tests)

-- an exchange of two places after one
pub clear_swap : (handle : ℕ) (slots new : List Timer) (i j from : ℕ) → from ≤ i → from ≤ j
    → i < length slots → j < length slots → new ≡ swap slots i j → IsClear handle slots from
    → IsClear handle new from
clear_swap handle slots new i j from a b l m is clear =
    subst (λ s. IsClear handle s from) (sym is) (λ k d least within e.
    let n : length (swap slots i j) ≡ length slots = length-swap slots i j in
    clear (brought i j k) d (brought_least i j k from a b least)
    (brought_within i j k (length slots) l m (omega arith))
    (ap (λ t. t.handle.0) (sym (get_or-swap slots i j k d l m)) ∙ e))

-- an ancestor of a place stands before it
path_before : (k n : ℕ) → OnPath k n → k ≤ n
path_before k n here = omega arith
path_before k n (above pos p) =
    let b : k ≤ parent n = path_before k (parent n) p in
    omega arith

-- a timer that moves up moves nothing after it
pub clear_path : (handle : ℕ) (slots new : List Timer) (from : ℕ) → length new ≡ length slots
    → ((k : ℕ) (d : Timer) → (OnPath k from → ⊥) → get_or new k d ≡ get_or slots k d)
    → IsClear handle slots from → IsClear handle new (from + 1)
clear_path handle slots new from n others clear k d least within e =
    clear k d (omega arith) (omega arith)
    (ap (λ t. t.handle.0) (sym (others k d (λ p. let b : k ≤ from = path_before k from p in
    absurd (omega arith)))) ∙ e)

pub clear_later : (handle : ℕ) (slots : List Timer) (from : ℕ) → IsClear handle slots from
    → IsClear handle slots (from + 1)
clear_later handle slots from clear k d least within = clear k d (omega arith) within

brought_behind : (i j k : ℕ) → i ≤ k → k < j → i + 1 ≤ brought i j k
brought_behind i j k a b = grind (arith, nat_tests)

-- the last comes in the place of a timer that leaves
pub clear_cut : (handle : ℕ) (slots new : List Timer) (place : ℕ) (l : place < length slots)
    → new ≡ cut slots place l → IsClear handle slots (place + 1) → IsClear handle new place
clear_cut handle slots new place l is clear =
    subst (λ s. IsClear handle s place) (sym is) (λ k d least within e.
    let n : length (cut slots place l) + 1 ≡ length slots = length_cut slots place l in
    clear (brought place (length slots - 1) k) d
    (brought_behind place (length slots - 1) k least (omega arith))
    (brought_within place (length slots - 1) k (length slots) l (omega arith) (omega arith))
    (ap (λ t. t.handle.0) (sym (cut_at slots place l k d (omega arith))) ∙ e))
