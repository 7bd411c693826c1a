-- Timers that stand at other places, each with its key.
use Rattle.std.proofs.Common.{ℕ, ◌≡◌, ◌<◌, ◌≤◌, List, length, refl, ◌∙◌, sym, subst, arith}
use Rattle.std.proofs.lemmas.List.Edits.{length-swap}
use Rattle.std.proofs.lemmas.List.Sorted.{IsPermutation-refl, IsPermutation-swap}
use Rattle.std.proofs.lemmas.List.Sorted.{IsPermutation-trans, length_permutation}
use Rattle.std.specs.List.{swap}
use Rattle.timer_queue.specs.declared.timer.Timer.{Timer}
use Rattle.timer_queue.specs.Timers.{AreApart}
use Rattle.timer_heap.specs.declared.tree.Tree.{Tree}
use Rattle.timer_heap.specs.Tree.{AreMoved, KeepsRoom}
use Rattle.timer_queue.proofs.Swaps.{brought, brought_within, get_or-swap, apart_permutation}

pub moved_nowhere : (slots : List Timer) (keys : List ℕ) → AreMoved slots slots keys keys
moved_nowhere slots keys = record {
  slots = IsPermutation-refl slots;
  pairs = λ k l. (k, l, λ d. refl, refl);
  keys = refl;
}

pub moved_then : (a b c : List Timer) (x y z : List ℕ) → AreMoved a b x y → AreMoved b c y z
    → AreMoved a c x z
moved_then a b c x y z h k = record {
  slots = IsPermutation-trans a b c h.slots k.slots;
  pairs = λ i l.
      let second = k.pairs i l in
      let first = h.pairs second.0 second.1 in
      (first.0, first.1, λ d. second.2 d ∙ first.2 d, second.3 ∙ first.3);
  keys = k.keys ∙ h.keys;
}

pub moved_swap : (slots : List Timer) (keys : List ℕ) (i j : ℕ) → i < length slots
    → j < length slots → length slots ≤ length keys
    → AreMoved slots (swap slots i j) keys (swap keys i j)
moved_swap slots keys i j l m fits =
    let n : length (swap slots i j) ≡ length slots = length-swap slots i j in
    record {
      slots = IsPermutation-swap slots (swap slots i j) i j l m refl;
      pairs = λ k within. (
        brought i j k,
        brought_within i j k (length slots) l m (omega arith),
        λ d. get_or-swap slots i j k d l m,
        get_or-swap keys i j k 0 (omega arith) (omega arith),
      );
      keys = length-swap keys i j;
    }

-- one exchange more, as at a step of a loop
pub moved_on : (a b c : List Timer) (x y z : List ℕ) (i j : ℕ) → AreMoved a b x y → i < length b
    → j < length b → length b ≤ length y → c ≡ swap b i j → z ≡ swap y i j → AreMoved a c x z
moved_on a b c x y z i j h l m fits is_slots is_keys =
    moved_then a b c x y z h (subst (λ s. AreMoved b s y z) (sym is_slots)
    (subst (λ s. AreMoved b (swap b i j) y s) (sym is_keys) (moved_swap b y i j l m fits)))

pub room_kept : (a b c : Tree) → KeepsRoom a b → KeepsRoom b c → KeepsRoom a c
room_kept a b c h k = record { places = k.places ∙ h.places; capacity = k.capacity ∙ h.capacity }

pub apart_moved : (a b : List Timer) (x y : List ℕ) → AreMoved a b x y → AreApart a → AreApart b
apart_moved a b x y h apart = apart_permutation a b h.slots apart

pub length_moved : (a b : List Timer) (x y : List ℕ) → AreMoved a b x y → length b ≡ length a
length_moved a b x y h = length_permutation a b h.slots
