-- A wheel with its index.
use Rattle.std.proofs.Common.{ℕ, ◌≡◌, ◌≢◌, ◌+◌, ◌<◌, ◌≤◌, ◌==◌, true, false, List, [], ◌∷◌, ◌++◌}
use Rattle.std.proofs.Common.{length, get_or, take, map, sym, ap, ◌∙◌, subst, arith, Option, Some}
use Rattle.std.proofs.Common.{None, inl, inr, Contains}
use Rattle.std.proofs.lemmas.Bool.{both_ways, eq-eqb, ne_eqb}
use Rattle.std.proofs.lemmas.List.{get_or_default, get_or-map, length-map, length_push, map-append}
use Rattle.std.proofs.lemmas.List.{take_more}
use Rattle.std.proofs.lemmas.List.Elements.{Contains-append_cases, Contains-append_right}
use Rattle.std.proofs.lemmas.List.Folds.{list_any_none}
use Rattle.std.proofs.lemmas.List.Sorted.{Contains-permutation, IsPermutation-sym}
use Rattle.std.specs.List.{All, AllPairs, slice_get}
use Rattle.std.specs.List.Sorted.{IsPermutation}
use Rattle.timer_index.specs.declared.index.Numbered.{Numbered}
use Rattle.timer_index.specs.Index.{IsRising}
use Rattle.timer_queue.specs.declared.timer.Timer.{Timer}
use Rattle.timer_queue.specs.Timers.{is_rising, is_scheduled, in_order, AreApart}
use Rattle.timer_queue.proofs.Members.{Among, among_from, any_among}
use Rattle.timer_wheel.specs.declared.place.Place.{Place}
use Rattle.timer_wheel.specs.Spokes.{spoke_of, timers_of, Follows}
use Rattle.timer_wheel.specs.Chains.{IsGap, IsStart, AreChains, IsWheel}
use Rattle.timer_wheel.specs.Index.{entry_of_timer, Covers, IsKept}
use Rattle.timer_wheel.proofs.Firsts.{fewer_places}
use Rattle.timer_wheel.proofs.Hints.{IsFound, Found, found_by}
use Rattle.timer_wheel.proofs.Steps.{same_place, unscheduled}

-- ---- the timer of an entry

-- what is looked for: only number and deadline count
abbrev pub sought : Numbered → Timer
sought e = record { deadline = e.key; timer = e.timer; handle = record { 0 = 0 }; every = 0 }

same_gap : (places : List Place) (head : Option ℕ) (t : Timer) (ts : List Timer)
    (last at : Option ℕ) → IsGap places head (sought (entry_of_timer t)) ts last at
    → IsGap places head t ts last at
same_gap places head t ts last at g = record {
  way = record {
    front = g.way.front;
    back = g.way.back;
    whole = g.way.whole;
    before = g.way.before;
    is_last = g.way.is_last;
    reaches = g.way.reaches;
    follows = g.way.follows;
  };
  behind = g.behind;
}

abbrev pub LeadsTo : List Place → Option ℕ → Option ℕ → Option ℕ → Option ℕ → Numbered → Type 0
LeadsTo places head start last at e =
    (ts : List Timer) → Follows places head ts → length ts ≤ length places → is_rising ts ≡ true
    → IsStart places ts (sought e) start → IsGap places head (sought e) ts last at

-- the way by an entry leads to its timer
pub sought_found : (spokes resolution : ℕ) (heads : List (Option ℕ)) (places : List Place)
    (e : Numbered) (t : Timer) (s hole : ℕ) (head start last at : Option ℕ)
    → AreApart (timers_of places) → AreChains spokes resolution heads places
    (in_order (timers_of places))
    → spokes ≡ length heads → s ≡ spoke_of spokes resolution e.key → s < spokes
    → head ≡ get_or heads s None → LeadsTo places head start last at e
    → IsFound spokes resolution hole places (sought e) start
    → Contains (timers_of places) t → entry_of_timer t ≡ e
    → Found spokes resolution heads places t s last at
sought_found spokes resolution heads places e t s hole head start last at apart chains n is l h gap
    start_found has same =
    let g : LeadsTo places head start last at (entry_of_timer t) =
    subst (λ x. LeadsTo places head start last at x) (sym same) gap in
    let f : IsFound spokes resolution hole places (sought (entry_of_timer t)) start =
    subst (λ x. IsFound spokes resolution hole places (sought x) start) (sym same) start_found
    in
    found_by spokes resolution heads places t s hole head start last at apart has chains n
    (is ∙ ap (λ (x : Numbered). spoke_of spokes resolution x.key) (sym same)) l h
    (λ ts a b c d. same_gap places head t ts last at (g ts a b c d)) f

module _ (spokes resolution : ℕ) (heads : List (Option ℕ)) (places : List Place) (t : Timer) (s : ℕ)
    (last at : Option ℕ) (f : Found spokes resolution heads places t s last at) where
  pub place_is : (k : ℕ) → at ≡ Some k → slice_get places k ≡ Some f.found
  place_is k is = ap (slice_get places) (same_place k f.place at is f.at_place) ∙ f.stands

  pub not_nowhere : (k : ℕ) → at ≡ Some k → slice_get places k ≡ None → ⊥
  not_nowhere k is none = differ (sym (place_is k is) ∙ none)
    where
      differ : Some f.found ≡ None → ⊥
      differ e = cc

  pub timer_is : (k : ℕ) (p : Place) → at ≡ Some k → slice_get places k ≡ Some p → p.timer ≡ t
  timer_is k p is there = ap (λ (x : Place). x.timer) (same (sym there ∙ place_is k is)) ∙ f.timer
    where
      same : Some p ≡ Some f.found → p ≡ f.found
      same e = cc

-- ---- the index made anew

pub entries_more : (places : List Place) (i : ℕ) (d : Place) → i < length places
    → map entry_of_timer (timers_of (take (i + 1) places))
    ≡ map entry_of_timer (timers_of (take i places)) ++ entry_of_timer (get_or places i d).timer
    ∷ []
entries_more places i d l =
    ap (λ ps. map entry_of_timer (timers_of ps)) (take_more places i d l)
    ∙ ap (map entry_of_timer) (map-append (λ (p : Place). p.timer) (take i places)
    (get_or places i d ∷ []))
    ∙ map-append entry_of_timer (timers_of (take i places)) ((get_or places i d).timer ∷ [])

pub length-entries : (places : List Place)
    → length (map entry_of_timer (timers_of places)) ≡ length places
length-entries places = length-map (timers_of places) entry_of_timer
    ∙ length-map places (λ (p : Place). p.timer)

pub entries_apart : (ts : List Timer) → AreApart ts
    → AllPairs (λ (e f : Numbered). e.timer ≢ f.timer) (map entry_of_timer ts)
entries_apart ts apart i j d less l =
    let none : Timer = record { deadline = 0; timer = 0; handle = record { 0 = 0 }; every = 0 } in
    let n : length (map entry_of_timer ts) ≡ length ts = length-map ts entry_of_timer in
    let m : j < length ts = omega (arith, n, l) in
    λ same. apart i j none less m
    (ap (λ (e : Numbered). e.timer) (sym (get_or-map entry_of_timer ts i none d (omega arith)))
    ∙ same ∙ ap (λ (e : Numbered). e.timer) (get_or-map entry_of_timer ts j none d m))

pub entries_cover : (ts : List Timer) (index : List Numbered)
    → IsPermutation (map entry_of_timer ts) index → Covers index ts
entries_cover ts index moved t has =
    let n : length (map entry_of_timer ts) ≡ length ts = length-map ts entry_of_timer in
    Contains-permutation (map entry_of_timer ts) index (entry_of_timer t) moved (
      has.0,
      omega (arith, n, has.1),
      get_or-map entry_of_timer ts has.0 t (entry_of_timer t) has.1
          ∙ ap entry_of_timer has.2,
    )

-- ---- timers come and leave

pub covers_added : (index : List Numbered) (old new : List Timer) (t : Timer) → new ≡ old ++ t ∷ []
    → Covers index old → Contains index (entry_of_timer t) → Covers index new
covers_added index old new t is covers there u has =
    elim (Contains-append_cases old (t ∷ []) u (subst (λ xs. Contains xs u) is has)) [
      | inl a ↦ covers u a
      | inr b ↦ elim (among_from u (t ∷ []) b) [
        | inl e ↦ subst (λ x. Contains index (entry_of_timer x)) e there
        | inr none ↦ absurd
            none
      ]
    ]

-- the entry of a number that was not there leaves those of the others
pub covers_put : (index new : List Numbered) (timers : List Timer) (t : Timer) (e : Numbered)
    → e ≡ entry_of_timer t → Covers index timers → is_scheduled t.timer timers ≡ false
    → ((f : Numbered) → f.timer ≢ e.timer → Contains index f → Contains new f) → Covers new timers
covers_put index new timers t e is covers fresh others u has =
    others (entry_of_timer u) (λ same.
    scheduled_not timers fresh (among_from u timers has)
    (same ∙ ap (λ (x : Numbered). x.timer) is)) (covers u has)
  where
    scheduled_not : (ts : List Timer) → is_scheduled t.timer ts ≡ false → Among u ts
        → u.timer ≡ t.timer → ⊥
    scheduled_not ts none there same =
        both_ways (is_scheduled t.timer ts) none
        (any_among (λ x. x.timer == t.timer) u ts there (eq-eqb _ _ same))

pub one_place_more : (t : Timer) (places new : List Place)
    → timers_of new ≡ timers_of places ++ t ∷ [] → length new ≡ length places + 1
one_place_more t places new is =
    omega (
      arith,
      ap length is,
      length_push (timers_of places) t,
      length-map places (λ (p : Place). p.timer),
      length-map new (λ (p : Place). p.timer),
    )

pub covers_removed : (index : List Numbered) (old new : List Timer) (t : Timer)
    → IsPermutation old (t ∷ new) → Covers index old → Covers index new
covers_removed index old new t moved covers u has =
    covers u (Contains-permutation (t ∷ new) old u (IsPermutation-sym old (t ∷ new) moved)
    (Contains-append_right (t ∷ []) new u has))

pub kept_removed : (spokes resolution new_resolution : ℕ) (heads new_heads : List (Option ℕ))
    (places new : List Place) (first new_first : Option Timer) (index : List Numbered)
    (room places_room new_room index_room : ℕ) (t : Timer)
    → IsKept spokes resolution heads places first index room places_room index_room
    → IsWheel (length heads) resolution new_heads new new_first
    → IsPermutation (timers_of places) (t ∷ timers_of new) → new_resolution ≡ resolution
    → new_room ≡ places_room
    → IsKept spokes new_resolution new_heads new new_first index room new_room
    index_room
kept_removed spokes resolution new_resolution heads new_heads places new first new_first index room
    places_room new_room index_room t k w moved ticks same = record {
      wheel = subst (λ r. IsWheel spokes r new_heads new new_first) (sym ticks)
          (subst (λ n. IsWheel n resolution new_heads new new_first) k.wheel.each_spoke w);
      rising = k.rising;
      covers = covers_removed index (timers_of places) (timers_of new) t moved k.covers;
      fits = omega (arith, k.fits, fewer_places t places new k.wheel.apart moved);
      places_fit = omega (arith, k.places_fit, same);
      index_fits = k.index_fits;
    }

pub kept_grown : (spokes resolution : ℕ) (heads : List (Option ℕ)) (places new : List Place)
    (first : Option Timer) (index new_index : List Numbered)
    (room new_room places_room new_places_room index_room new_index_room : ℕ)
    → IsKept spokes resolution heads places first index room places_room index_room → new ≡ places
    → new_index ≡ index → length places ≤ new_room → new_room ≤ new_places_room
    → new_room ≤ new_index_room
    → IsKept spokes resolution heads new first new_index new_room new_places_room new_index_room
kept_grown spokes resolution heads places new first index new_index room new_room places_room
    new_places_room index_room new_index_room k same still fits places_fit index_fits = record {
      wheel = subst (λ ps. IsWheel spokes resolution heads ps first) (sym same) k.wheel;
      rising = subst IsRising (sym still) k.rising;
      covers = subst (λ ps. Covers new_index (timers_of ps)) (sym same)
          (subst (λ i. Covers i (timers_of places)) (sym still) k.covers);
      fits = omega (arith, ap length same, fits);
      places_fit = places_fit;
      index_fits = index_fits;
    }

-- ---- a number that is not there

module _ (index : List Numbered) (timers : List Timer) (number : ℕ) (covers : Covers index timers)
  where
    entry_at : (k : ℕ) (d : Timer) → k < length timers
        → Contains index (entry_of_timer (get_or timers k d))
    entry_at k d l = covers (get_or timers k d)
        (k, l, get_or_default timers k (get_or timers k d) d l)

    -- a number that the index lacks
    pub unlisted : All (λ (e : Numbered). e.timer ≢ number) index
        → is_scheduled number (in_order timers) ≡ false
    unlisted none = unscheduled number timers
        (list_any_none (λ t. t.timer == number) timers (λ k d l. ne_eqb _ _ (λ same.
        let has = entry_at k d l in
        none has.0 (entry_of_timer (get_or timers k d)) has.1
        (ap (λ (e : Numbered). e.timer) has.2 ∙ same))))

    -- one whose entry leads to no timer
    pub led_nowhere : (e : Numbered) → e.timer ≡ number
        → ((key : ℕ) → Contains index (record { timer = number; key = key }) → key ≡ e.key)
        → ((t : Timer) → Contains timers t → entry_of_timer t ≡ e → ⊥)
        → is_scheduled number (in_order timers) ≡ false
    led_nowhere e is only none = unscheduled number timers
        (list_any_none (λ t. t.timer == number) timers (λ k d l. ne_eqb _ _ (λ same.
        let t : Timer = get_or timers k d in
        let has : Contains index (record { timer = number; key = t.deadline }) =
        subst (λ n. Contains index (let g : Numbered = record { timer = n; key = t.deadline } in
        g)) same (entry_at k d l) in
        none t (k, l, get_or_default timers k t d l)
        (ap (λ n. let g : Numbered = record { timer = n; key = t.deadline } in g) (same ∙ sym is)
        ∙ ap (λ i. let g : Numbered = record { timer = e.timer; key = i } in g)
        (only t.deadline has)))))
