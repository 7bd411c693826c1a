-- A timer that is taken out of a heap, and the index beside it.
use Rattle.std.proofs.Common.{ℕ, zero, suc, ◌≡◌, ◌≢◌, ◌+◌, ◌-◌, ◌<◌, ◌≤◌, ◌==◌, Bool, true, false}
use Rattle.std.proofs.Common.{List, [], ◌∷◌, ◌++◌, length, get_or, take, refl, sym, ap, ◌∙◌, subst}
use Rattle.std.proofs.Common.{arith, inl, inr, Option, Some, None, is_some, map, eqb, cond}
use Rattle.std.proofs.Common.{Contains}
use Rattle.std.proofs.lemmas.Bool.{cases_Bool, cond-true, cond-false, eqb-true, eqb-false, eq-eqb}
use Rattle.std.proofs.lemmas.Bool.{ne_eqb, or_cases, cases_lt}
use Rattle.std.proofs.lemmas.List.{length-take, get_or-take, length_push, get_or_push}
use Rattle.std.proofs.lemmas.List.{get_or_append_left}
use Rattle.std.proofs.lemmas.List.Edits.{length-swap}
use Rattle.std.proofs.lemmas.List.Sorted.{IsPermutation-trans, IsPermutation-to_front}
use Rattle.std.proofs.lemmas.List.{length-map}
use Rattle.std.proofs.lemmas.List.Elements.{All-map, recursion_from_All}
use Rattle.std.proofs.lemmas.List.Folds.{list_any_none}
use Rattle.std.proofs.lemmas.List.Kept.{AllPairs-filter}
use Rattle.std.proofs.lemmas.Map.Steps.{length-le_from_distinct_below}
use Rattle.std.proofs.lemmas.Option.{slice_get-get_or, get_or_from_slice_get, slice_get_within}
use Rattle.std.specs.List.{swap, slice_get, filter, list_any, All, IsDistinct}
use Rattle.std.specs.List.Sorted.{IsPermutation}
use Rattle.timer_queue.specs.declared.timer.Timer.{Timer}
use Rattle.timer_queue.specs.Timers.{comes_before, is_scheduled}
use Rattle.timer_queue.proofs.Schedules.{before_trans}
use Rattle.timer_queue.proofs.Places.{none_at}
use Rattle.timer_index.specs.declared.index.Numbered.{Numbered}
use Rattle.timer_heap.specs.Heap.{parent, IsHeap}
use Rattle.timer_index.specs.Index.{IsRising}
use Rattle.timer_heap.specs.Tree.{ArePairs, IsHeapAround, IsIndex, IsKeyed, matched, found_at}
use Rattle.timer_heap.specs.Tree.{place_in, IsSound}
use Rattle.timer_queue.proofs.Swaps.{brought, brought_within, get_or-swap}
use Rattle.timer_heap.proofs.Sifts.{other_is}
use Rattle.timer_queue.proofs.Contents.{apart_removed}

-- the list after the exchange with the last, and that one taken off
module _ (slots : List Timer) (place : ℕ) (l : place < length slots) where
  abbrev pub last_place : ℕ
  last_place = length slots - 1

  abbrev pub cut : List Timer
  cut = take last_place (swap slots place last_place)

  pub length_cut : length cut + 1 ≡ length slots
  length_cut = omega (
    arith,
    length-take last_place (swap slots place last_place),
    length-swap slots place last_place,
  )

  pub cut_at : (k : ℕ) (d : Timer) → k < last_place
      → get_or cut k d ≡ get_or slots (brought place last_place k) d
  cut_at k d m = get_or-take last_place (swap slots place last_place) k d m
      ∙ get_or-swap slots place last_place k d l (omega arith)

  cut_other : (k : ℕ) (d : Timer) → k < last_place → k ≢ place → get_or cut k d ≡ get_or slots k d
  cut_other k d m ne = get_or-take last_place (swap slots place last_place) k d m
      ∙ other_is slots place last_place l (omega arith) k d ne (omega arith)

  pub around_cut : IsHeap slots → IsHeapAround cut place
  around_cut heap =
      let n = length_cut in
      record {
        others = λ k d pos m ne np.
            subst (λ v. comes_before v (get_or cut k d) ≡ true)
            (sym (cut_other (parent k) d (omega arith) np))
            (subst (λ v. comes_before (get_or slots (parent k) d) v ≡ true)
            (sym (cut_other k d (omega arith) ne)) (heap k d pos (omega arith)));
        across = λ k d up pos m e.
            subst (λ v. comes_before v (get_or cut k d) ≡ true)
            (sym (cut_other (parent place) d (omega arith) (omega arith)))
            (subst (λ v. comes_before (get_or slots (parent place) d) v ≡ true)
            (sym (cut_other k d (omega arith) (omega arith)))
            (before_trans (get_or slots (parent place) d) (get_or slots place d) (get_or slots k d)
            (heap place d up l)
            (subst (λ i. comes_before (get_or slots i d) (get_or slots k d) ≡ true) e
            (heap k d pos (omega arith)))));
      }

-- if the place was the last there is a heap
pub heap_from_around : (slots : List Timer) (place : ℕ) → IsHeapAround slots place
    → length slots ≤ place → IsHeap slots
heap_from_around slots place h past k d pos l = h.others k d pos l (omega arith) (omega arith)

-- ---- the index

-- each timer that is there now has its entry still
pub covers_pairs : (index : List Numbered) (old new : List Timer) (x y : List ℕ)
    → IsIndex index old x → ArePairs old new x y → IsIndex index new y
covers_pairs index old new x y h pairs = record {
  rising = h.rising;
  covers = λ k d l.
      let q = pairs k l in
      let e : (let g : Numbered = record { timer = (get_or new k d).timer; key = get_or y k 0 } in
      g) ≡ record { timer = (get_or old q.0 d).timer; key = get_or x q.0 0 } =
      ap (λ t. let g : Numbered = record { timer = t; key = get_or y k 0 } in g)
      (ap (λ t. t.timer) (q.2 d)) ∙ ap (λ i. let g : Numbered =
      record { timer = (get_or old q.0 d).timer; key = i } in g) q.3 in
      subst (Contains index) (sym e) (h.covers q.0 d q.1);
}

-- ---- the place of an entry

matched_is : (q timer p : ℕ) (o : Option Timer) → matched q timer o ≡ Some p → (t : Timer)
    × (o ≡ Some t) × (t.timer ≡ timer) × (q ≡ p)
matched_is q timer p None h = absurd (cc)
matched_is q timer p (Some t) h = elim (cases_Bool (t.timer == timer)) [
  | inl same ↦ let e : Some q ≡ Some p =
      sym (cond-true (t.timer == timer) (Some q) None same) ∙ h in (t, refl, eqb-true _ _ same, cc)
  | inr other ↦ let e : None ≡ Some p =
      sym (cond-false (t.timer == timer) (Some q) None other) ∙ h in absurd (cc)
]

pub found_from : (slots : List Timer) (places : List ℕ) (e : Numbered) (p : ℕ)
    → place_in slots places e ≡ Some p → (p < length slots)
    × ((d : Timer) → (get_or slots p d).timer ≡ e.timer) × (get_or places e.key 0 ≡ p)
found_from slots places e p h = at (slice_get places e.key) refl h
  where
    at : (o : Option ℕ) → slice_get places e.key ≡ o → found_at slots e.timer o ≡ Some p
        → (p < length slots) × ((d : Timer) → (get_or slots p d).timer ≡ e.timer)
        × (get_or places e.key 0 ≡ p)
    at None is h = absurd (cc)
    at (Some q) is h =
        let m = matched_is q e.timer p (slice_get slots q) h in
        let there : slice_get slots p ≡ Some m.0 = ap (slice_get slots) (sym m.3) ∙ m.1 in (
          slice_get_within slots p m.0 there,
          λ d. ap (λ t. t.timer) (get_or_from_slice_get slots p m.0 d there)
              ∙ m.2,
          get_or_from_slice_get places e.key q 0 is ∙ m.3,
        )

-- the entry of each timer leads to its place
pub place_held : (slots : List Timer) (keys places : List ℕ) (k : ℕ) (d : Timer) (e : Numbered)
    → IsKeyed slots keys places → k < length slots → e.timer ≡ (get_or slots k d).timer
    → e.key ≡ get_or keys k 0 → place_in slots places e ≡ Some k
place_held slots keys places k d e keyed l timer key =
    let q = keyed.placed k (omega (arith, keyed.fits)) in
    let at : slice_get places e.key ≡ Some k =
    ap (slice_get places) key ∙ slice_get-get_or places (get_or keys k 0) 0 q.0 ∙ ap Some q.1 in
    ap (found_at slots e.timer) at ∙ ap (matched k e.timer) (slice_get-get_or slots k d l)
    ∙ cond-true ((get_or slots k d).timer == e.timer) (Some k) None (eq-eqb _ _ (sym timer))

-- ---- what the index says of a number

-- a number that the index lacks is not scheduled
pub unlisted : (index : List Numbered) (slots : List Timer) (keys : List ℕ) (number : ℕ)
    → IsIndex index slots keys → All (λ e. e.timer ≢ number) index
    → is_scheduled number slots ≡ false
unlisted index slots keys number h none =
    list_any_none (λ t. t.timer == number) slots (λ k d l. ne_eqb _ _ (λ same.
    let has = h.covers k d l in
    none has.0 (record { timer = (get_or slots k d).timer; key = get_or keys k 0 }) has.1
    (ap (λ e. e.timer) has.2 ∙ same)))

-- and so is one whose entry leads nowhere
pub led_nowhere : (index : List Numbered) (slots : List Timer) (keys places : List ℕ) (e : Numbered)
    → IsIndex index slots keys → IsKeyed slots keys places
    → ((key : ℕ) → Contains index (record { timer = e.timer; key = key }) → key ≡ e.key)
    → place_in slots places e ≡ None → is_scheduled e.timer slots ≡ false
led_nowhere index slots keys places e h keyed only none =
    list_any_none (λ t. t.timer == e.timer) slots (λ k d l. ne_eqb _ _ (λ same.
    let has : Contains index (record { timer = e.timer; key = get_or keys k 0 }) =
    subst (λ n. Contains index (let g : Numbered =
    record { timer = n; key = get_or keys k 0 } in g)) same (h.covers k d l) in
    not_both (sym none ∙ place_held slots keys places k d e keyed l (sym same)
    (sym (only (get_or keys k 0) has)))))
  where
    not_both : {k : ℕ} → (let o : Option ℕ = None in o) ≡ Some k → ⊥
    not_both e = cc

-- ---- entries that lead to timers

pub contains_filter : (q : Numbered → Bool) (xs : List Numbered) (x : Numbered) (k : ℕ)
    → k < length xs → get_or xs k x ≡ x → q x ≡ true → Contains (filter q xs) x
contains_filter q [] x k l e h = absurd (omega arith)
contains_filter q (y ∷ ys) x zero l e h =
    subst (λ zs. Contains zs x) (sym (cond-true (q y) (y ∷ filter q ys) (filter q ys) (ap q e ∙ h)))
    (0, omega arith, e)
contains_filter q (y ∷ ys) x (suc k) l e h = step (q y) (contains_filter q ys x k (omega arith) e h)
  where
    step : (b : Bool) → Contains (filter q ys) x
        → Contains (cond b (y ∷ filter q ys) (filter q ys)) x
    step true r = (suc r.0, omega (arith, r.1), r.2)
    step false r = r

module _ (slots : List Timer) (keys places : List ℕ) where
  abbrev pub leads : Numbered → Bool
  leads e = is_some (place_in slots places e)

  pub index_filtered : (index : List Numbered) → IsIndex index slots keys
      → IsKeyed slots keys places → IsIndex (filter leads index) slots keys
  index_filtered index h keyed = record {
    rising = AllPairs-filter (λ e f. e.timer < f.timer) leads index h.rising;
    covers = λ k d l.
        let has = h.covers k d l in
        contains_filter leads index (record {
          timer = (get_or slots k d).timer;
          key = get_or keys k 0;
        }) has.0 has.1 has.2
        (ap is_some (place_held slots keys places k d
        (record { timer = (get_or slots k d).timer; key = get_or keys k 0 }) keyed l refl
        refl));
  }

  led : (e : Numbered) → leads e ≡ true → (get_or places e.key 0 < length slots)
      × ((d : Timer) → (get_or slots (get_or places e.key 0) d).timer ≡ e.timer)
  led e h = at (place_in slots places e) refl h
    where
      at : (o : Option ℕ) → place_in slots places e ≡ o → is_some o ≡ true
          → (get_or places e.key 0 < length slots)
          × ((d : Timer) → (get_or slots (get_or places e.key 0) d).timer ≡ e.timer)
      at None is h = absurd (cc)
      at (Some p) is h =
          let f = found_from slots places e p is in (
            subst (λ n. n < length slots) (sym f.2) f.0,
            λ d. ap (λ n. (get_or slots n d).timer) f.2
                ∙ f.1 d,
          )

  abbrev led_to : Numbered → ℕ
  led_to e = get_or places e.key 0

  led_within : (es : List Numbered) → All (λ e. leads e ≡ true) es → (q : ℕ)
      → list_any (eqb q) (map led_to es) ≡ true → q < length slots
  led_within [] h q found = absurd (cc)
  led_within (e ∷ es) h q found = elim
      (or_cases (eqb q (led_to e)) (list_any (eqb q) (map led_to es)) found) [
        | inl same ↦ subst (λ x. x < length slots) (sym (eqb-true _ _ same))
            (led e (h zero e (omega arith))).0
        | inr there ↦ led_within es (λ k d l. h (suc k) d (omega arith)) q there
      ]

  led_apart : (e f : Numbered) → leads e ≡ true → leads f ≡ true → e.timer < f.timer
      → eqb (led_to e) (led_to f) ≡ false
  led_apart e f h k less = ne_eqb _ _ (λ same.
      let d : Timer = record { deadline = 0; timer = 0; handle = record { 0 = 0 }; every = 0 } in
      let x : (get_or slots (led_to e) d).timer ≡ e.timer = (led e h).1 d in
      let y : (get_or slots (led_to f) d).timer ≡ f.timer = (led f k).1 d in
      let z : (get_or slots (led_to e) d).timer ≡ (get_or slots (led_to f) d).timer =
      ap (λ i. (get_or slots i d).timer) same in
      omega arith)

  led_distinct : (es : List Numbered) → IsRising es → All (λ e. leads e ≡ true) es
      → IsDistinct eqb (map led_to es)
  unfolding IsDistinct
  led_distinct [] r h = tt
  led_distinct (e ∷ es) r h = (
    recursion_from_All (λ y. eqb (led_to e) y ≡ false) (map led_to es)
        (All-map (λ y. eqb (led_to e) y ≡ false) led_to es (λ k d l.
        led_apart e (get_or es k d) (h zero e (omega arith)) (h (suc k) d (omega arith))
        (r zero (suc k) d (omega arith) (omega arith)))),
    led_distinct es (λ i j d l m. r (suc i) (suc j) d (omega arith) (omega arith))
        (λ k d l. h (suc k) d (omega arith)),
  )

  -- entries that lead to timers are no more than the timers
  pub length-leading : (index : List Numbered) → IsRising index → All (λ e. leads e ≡ true) index
      → length index ≤ length slots
  length-leading index rising all =
      let n : length (map led_to index) ≡ length index = length-map index led_to in
      let m : length (map led_to index) ≤ length slots =
      length-le_from_distinct_below (map led_to index) (length slots)
      (led_distinct index rising all) (led_within index all) in
      omega arith

-- ---- the last in another's place

pub permutation_popped : (slots swapped rest : List Timer) (t : Timer) → IsPermutation slots swapped
    → swapped ≡ rest ++ t ∷ [] → IsPermutation slots (t ∷ rest)
permutation_popped slots swapped rest t p e =
    IsPermutation-trans slots swapped (t ∷ rest) p
    (subst (λ s. IsPermutation s (t ∷ rest)) (sym e) (IsPermutation-to_front rest t))

pub pairs_cut : (slots rest : List Timer) (keys rest_keys : List ℕ) (place : ℕ)
    (l : place < length slots) → rest ≡ cut slots place l
    → rest_keys ≡ swap keys place (length slots - 1) → length slots ≤ length keys
    → ArePairs slots rest keys rest_keys
pairs_cut slots rest keys rest_keys place l is keys_is fits k m =
    let n : length (cut slots place l) + 1 ≡ length slots = length_cut slots place l in
    let e : length rest ≡ length (cut slots place l) = ap length is in (
      brought place (length slots - 1) k,
      brought_within place (length slots - 1) k (length slots) l (omega arith) (omega arith),
      λ d. ap (λ s. get_or s k d) is ∙ cut_at slots place l k d (omega arith),
      ap (λ s. get_or s k 0) keys_is ∙ get_or-swap keys place (length slots - 1) k 0 (omega arith)
          (omega arith),
    )

pub pairs_then : (a b c : List Timer) (x y z : List ℕ) → ArePairs a b x y → ArePairs b c y z
    → ArePairs a c x z
pairs_then a b c x y z h k i l =
    let second = k i l in
    let first = h second.0 second.1 in
    (first.0, first.1, λ d. second.2 d ∙ first.2 d, second.3 ∙ first.3)

-- ---- what a heap keeps

pub sound_taken : (t : Timer) (old new : List Timer) (x y p q : List ℕ) (index : List Numbered)
    (room more index_room : ℕ) → IsSound old x p index room index_room
    → IsPermutation old (t ∷ new) → IsHeap new → ArePairs old new x y → IsKeyed new y q
    → length q ≡ length p → length y ≡ length x → more ≡ room
    → IsSound new y q index more index_room
sound_taken t old new x y p q index room more index_room sound perm heap pairs keyed places keys
    same = record {
      heap = heap;
      apart = apart_removed t old new sound.apart perm;
      keyed = keyed;
      each_key = places ∙ sound.each_key ∙ sym keys;
      indexed = covers_pairs index old new x y sound.indexed pairs;
      slots_fit = omega (arith, sound.slots_fit);
      index_fits = omega (arith, sound.index_fits);
    }

pub index_added : (index more : List Numbered) (slots new : List Timer) (keys new_keys : List ℕ)
    (t : Timer) (key : ℕ) → IsIndex index slots keys → IsRising more
    → Contains more (record { timer = t.timer; key = key })
    → ((e : Numbered) → e.timer ≢ t.timer → Contains index e → Contains more e)
    → key ≡ get_or keys (length slots) 0 → is_scheduled t.timer slots ≡ false
    → ArePairs (slots ++ t ∷ []) new keys new_keys → IsIndex more new new_keys
index_added index more slots new keys new_keys t key h rising there others last fresh pairs =
    record {
      rising = rising;
      covers = λ k d l.
          let q = pairs k l in
          let n : length (slots ++ t ∷ []) ≡ length slots + 1 = length_push slots t in
          elim (cases_lt q.0 (length slots)) [
            | inl before ↦
                let timer : (get_or new k d).timer ≡ (get_or slots q.0 d).timer =
                ap (λ u. u.timer) (q.2 d ∙ get_or_append_left slots (t ∷ []) d q.0 before) in
                let other : (get_or slots q.0 d).timer ≢ t.timer =
                eqb-false _ _ (none_at (λ u. u.timer == t.timer) slots q.0 d before fresh) in
                subst (Contains more) (sym (same_entry _ _ _ _ timer q.3))
                (others (record { timer = (get_or slots q.0 d).timer; key = get_or keys q.0 0 })
                other (h.covers q.0 d before))
            | inr after ↦
                let e : length slots ≡ q.0 = omega (arith, q.1) in
                let timer : (get_or new k d).timer ≡ t.timer =
                ap (λ u. u.timer) (q.2 d ∙ get_or_push slots t d q.0 e) in
                subst (Contains more) (sym (same_entry _ _ _ _ timer
                (q.3 ∙ ap (λ i. get_or keys i 0) (sym e) ∙ sym last))) there
          ];
    }
  where
    same_entry : (a b x y : ℕ) → a ≡ b → x ≡ y
        → (let g : Numbered = record { timer = a; key = x } in g) ≡ record { timer = b; key = y }
    same_entry a b x y p q = ap (λ n. let g : Numbered = record { timer = n; key = x } in g) p
        ∙ ap (λ n. let g : Numbered = record { timer = b; key = n } in g) q

-- more keys, and room for as many timers
pub sound_grown : (slots more : List Timer) (keys more_keys places more_places : List ℕ)
    (index more_index : List Numbered) (room index_room slots_room rest : ℕ)
    → IsSound slots keys places index room index_room
    → more ≡ slots → more_index ≡ index → IsKeyed more more_keys more_places
    → length more_places ≡ length more_keys → length keys ≤ length more_keys
    → ((k : ℕ) → k < length keys → get_or more_keys k 0 ≡ get_or keys k 0)
    → length more_keys ≤ slots_room → length more_keys ≤ rest
    → IsSound more more_keys more_places more_index slots_room rest
sound_grown slots more keys more_keys places more_places index more_index room index_room slots_room
    rest sound is_slots is_index keyed each longer kept fit fits =
    subst (λ s. IsSound s more_keys more_places more_index slots_room rest) (sym is_slots)
    (subst (λ i. IsSound slots more_keys more_places i slots_room rest) (sym is_index) (record {
      heap = sound.heap;
      apart = sound.apart;
      keyed = subst (λ s. IsKeyed s more_keys more_places) is_slots keyed;
      each_key = each;
      indexed = record {
        rising = sound.indexed.rising;
        covers = λ k d l.
            let same : get_or more_keys k 0 ≡ get_or keys k 0 =
            kept k (omega (arith, sound.keyed.fits)) in
            subst (λ key. Contains index (let g : Numbered =
            record { timer = (get_or slots k d).timer; key = key } in g)) (sym same)
            (sound.indexed.covers k d l);
      };
      slots_fit = fit;
      index_fits = fits;
    }))
