-- What the calls of the net in memory do to what it tells.
use Rattle.std.proofs.Common.{ℕ, zero, suc, ◌≡◌, ◌+◌, ◌<◌, ◌≤◌, ◌^◌, Bool, true, false, not, ◌==◌}
use Rattle.std.proofs.Common.{◌&&◌, ◌||◌, leb, cond, List, [], ◌∷◌, ◌++◌, take, drop, length}
use Rattle.std.proofs.Common.{get_or, map, refl, sym, ap, ◌∙◌, subst, arith, add-one, Option, Some}
use Rattle.std.proofs.Common.{None}
use Rattle.std.proofs.lemmas.Bool.{leb-true, and_parts, eqb-true, eq-eqb}
use Rattle.std.proofs.lemmas.List.{length-map, take_at, drop_at}
use Rattle.std.proofs.lemmas.List.Filters.{length-filter_both}
use Rattle.std.proofs.lemmas.List.Sums.{AllPass-from_list_all}
use Rattle.std.proofs.lemmas.Option.{get_or_from_slice_get}
use Rattle.std.specs.List.{filter, Contains, list_all, slice_get}
use Rattle.ev_base.specs.ev_types.specs.declared.upcall.Mask.{Mask}
use Rattle.ev_base.specs.ev_types.specs.declared.upcall.Handle.{Handle}
use Rattle.ev_base.specs.declared.net.Report.{Report}
use Rattle.ev_base.specs.declared.net.Waited.{Waited}
use Rattle.ev_base.specs.declared.net.Waited.TheVariants.{Over}
use Rattle.ev_base.specs.Net.{NetWaits, SetsMaskOf, RetiresEnd, Waits, SetsMask, Retires}
use Rattle.ev_base.specs.Net.{changed_mask, is_wanted, mask_has}
use Rattle.ev_base.specs.Calls.{reports_of}
use Rattle.demux.specs.declared.play_end.PlayEnd.{PlayEnd}
use Rattle.demux.specs.declared.watched.Watched.{Watched}
use Rattle.demux.specs.declared.watched.Retired.{Retired}
use Rattle.demux.specs.PlayNet.{PlayContent, play_net_facts, PlaysWait, answer_at, given_by_wait}
use Rattle.demux.specs.PlayNet.{left_by_wait, kept_at, given_at, left_at, is_dropped, is_given}
use Rattle.demux.specs.PlayNet.{wants, reached, do_not_fall, are_bounded, masks_of, mask_of}
use Rattle.demux.specs.PlayNet.{handles_of, with_mask, not_watching}

-- ---- masks

one_mask : (handle : ℕ) (mask : Mask) (w : Watched) (b : Bool) → (w.handle.0 == handle) ≡ b
    → mask_of (cond b (record w { mask = mask }) w) ≡ cond b (handle, mask) (mask_of w)
one_mask handle mask w true e = ap (λ h. (h, mask)) (eqb-true w.handle.0 handle e)
one_mask handle mask w false e = refl

pub masks-with_mask : (handle : ℕ) (mask : Mask) (ws : List Watched)
    → masks_of (with_mask handle mask ws) ≡ changed_mask handle mask (masks_of ws)
masks-with_mask handle mask [] = refl
masks-with_mask handle mask (w ∷ ws) =
    ap (λ e. e ∷ masks_of (with_mask handle mask ws))
    (one_mask handle mask w (w.handle.0 == handle) refl)
    ∙ ap (λ es. cond (w.handle.0 == handle) (handle, mask) (mask_of w) ∷ es)
    (masks-with_mask handle mask ws)

same_handle : (mask : Mask) (w : Watched) (b : Bool)
    → (cond b (record w { mask = mask }) w).handle.0 ≡ w.handle.0
same_handle mask w true = refl
same_handle mask w false = refl

pub handles-with_mask : (handle : ℕ) (mask : Mask) (ws : List Watched)
    → handles_of (with_mask handle mask ws) ≡ handles_of ws
handles-with_mask handle mask [] = refl
handles-with_mask handle mask (w ∷ ws) =
    ap (λ h. h ∷ handles_of (with_mask handle mask ws)) (same_handle mask w (w.handle.0 == handle))
    ∙ ap (λ hs. w.handle.0 ∷ hs) (handles-with_mask handle mask ws)

pub sets_mask : (n : PlayContent) (handle : ℕ) (mask : Mask)
    → SetsMaskOf (play_net_facts n) handle mask
    (play_net_facts (record n {
      watched = with_mask handle mask n.watched;
      calls = SetsMask handle mask ∷ n.calls;
    }))
sets_mask n handle mask = record {
  masks = ap Some (masks-with_mask handle mask n.watched);
  calls = refl;
  attached = handles-with_mask handle mask n.watched;
  spare = omega arith;
  failed_waits = refl;
  failed_attaches = refl;
  now = refl;
  reports = refl;
  steady = refl;
  retired = refl;
  turned_away = refl;
}

-- ---- retired ends

-- a filter by what f reads, before and after f
pub map-filter : {X Y : Type 0} (f : X → Y) (p : Y → Bool) (xs : List X)
    → map f (filter (λ x. p (f x)) xs) ≡ filter p (map f xs)
map-filter f p [] = refl
map-filter f p (x ∷ xs) = step (p (f x))
    ∙ ap (λ ys. cond (p (f x)) (f x ∷ ys) ys) (map-filter f p xs)
  where
    step : (b : Bool) → map f (cond b (x ∷ filter (λ x. p (f x)) xs) (filter (λ x. p (f x)) xs))
        ≡ cond b (f x ∷ map f (filter (λ x. p (f x)) xs)) (map f (filter (λ x. p (f x)) xs))
    step true = refl
    step false = refl

pub retires_end : (n : PlayContent) (handle : Handle) (end : PlayEnd)
    → RetiresEnd (play_net_facts n) handle.0 end
    (play_net_facts (record n {
      watched = not_watching handle.0 n.watched;
      retired = record { handle = handle; end = end; waits = n.waits } ∷ n.retired;
      calls = Retires handle.0 ∷ n.calls;
    }))
retires_end n handle end = record {
  attached = map-filter (λ (w : Watched). w.handle.0) (λ h. not (h == handle.0)) n.watched;
  masks = ap Some (map-filter mask_of (λ e. not (e.0 == handle.0)) n.watched);
  retired = refl;
  calls = refl;
  spare = omega arith;
  failed_waits = refl;
  failed_attaches = refl;
  now = refl;
  reports = refl;
  steady = refl;
  turned_away = refl;
}

-- a filter keeps no more than there was, and fewer if an element does not pass
pub filter_bound : {X : Type 0} (p : X → Bool) (xs : List X) → length (filter p xs) ≤ length xs
filter_bound p xs = let both = length-filter_both p (λ x. not (p x)) (λ x. refl) xs in omega arith

pub fewer_watched : (handle : ℕ) (ws : List Watched) → Contains (handles_of ws) handle
    → length (not_watching handle ws) < length ws
fewer_watched handle [] (k, l, e) = absurd (omega arith)
fewer_watched handle (w ∷ ws) (zero, l, e) =
    let all = filter_bound (λ (v : Watched). not (v.handle.0 == handle)) ws in
    let out : length (not_watching handle (w ∷ ws)) ≡ length (not_watching handle ws) =
    ap (λ b. length (cond (not b) (w ∷ not_watching handle ws) (not_watching handle ws)))
    (eq-eqb w.handle.0 handle e) in
    omega arith
fewer_watched handle (w ∷ ws) (suc k, l, e) =
    let less = fewer_watched handle ws (k, omega arith, e) in step (not (w.handle.0 == handle)) less
  where
    step : (b : Bool) → length (not_watching handle ws) < length ws
        → length (cond b (w ∷ not_watching handle ws) (not_watching handle ws)) < suc (length ws)
    step true less = omega arith
    step false less = omega arith

-- ---- moments

pub never_below : (low : ℕ) (moments : List ℕ) (k : ℕ) → do_not_fall low moments ≡ true
    → k < length moments → get_or (low ∷ moments) k 0 ≤ get_or moments k 0
never_below low [] k rising l = absurd (omega arith)
never_below low (m ∷ moments) zero rising l =
    leb-true low m (and_parts (leb low m) (do_not_fall m moments) rising).0
never_below low (m ∷ moments) (suc k) rising l =
    never_below m moments k (and_parts (leb low m) (do_not_fall m moments) rising).1 (omega arith)

pub below_bound : (moments : List ℕ) (k : ℕ) → are_bounded moments ≡ true → k < length moments
    → get_or moments k 0 ≤ 2 ^ 62
below_bound moments k bounded l = leb-true (get_or moments k 0) (2 ^ 62)
    (AllPass-from_list_all (λ m. leb m (2 ^ 62)) moments bounded k 0 l)

pub reached_next : (moments : List ℕ) (k : ℕ) → reached (k + 1) moments ≡ get_or moments k 0
reached_next moments k = rw (add-one) refl

-- ---- reports

wanted_by : (ws : List Watched) (report : Report) → wants ws report ≡ is_wanted (masks_of ws) report
wanted_by [] report = refl
wanted_by (w ∷ ws) report = ap (λ b. (w.handle.0 == report.handle.0 && mask_has w.mask report.kind)
    || b) (wanted_by ws report)

pub all_wanted : (wait : ℕ) (ws : List Watched) (planned : List (ℕ × Report))
    → list_all (is_wanted (masks_of ws)) (reports_of (given_at wait ws planned)) ≡ true
all_wanted wait ws [] = refl
all_wanted wait ws (p ∷ planned) = step (is_given wait ws p) refl (all_wanted wait ws planned)
  where
    step : (b : Bool) → is_given wait ws p ≡ b
        → list_all (is_wanted (masks_of ws)) (reports_of (given_at wait ws planned)) ≡ true
        → list_all (is_wanted (masks_of ws))
        (reports_of (cond b (p ∷ given_at wait ws planned) (given_at wait ws planned))) ≡ true
    step false e rest = rest
    step true e rest =
        let this : is_wanted (masks_of ws) p.1 ≡ true =
        sym (wanted_by ws p.1) ∙ (and_parts (leb p.0 wait) (wants ws p.1) e).1 in
        ap (λ b. b && list_all (is_wanted (masks_of ws)) (reports_of (given_at wait ws planned)))
        this ∙ rest

few_given : (wait : ℕ) (ws : List Watched) (planned kept : List (ℕ × Report))
    → length kept ≤ length planned → length planned ≤ 256
    → length (reports_of (given_at wait ws kept)) ≤ 256
few_given wait ws planned kept fewer few =
    let bound = filter_bound (is_given wait ws) kept in
    let same = length-map (given_at wait ws kept) (λ (p : ℕ × Report). p.1) in
    omega arith

-- a wait that gives some reports at a moment
gives : (n : PlayContent) (most : Option ℕ) (moment : ℕ) (given : List Report)
    (left : List (ℕ × Report))
    → reached (n.waits + 1) n.moments ≡ moment → reached n.waits n.moments ≤ moment
    → moment ≤ 2 ^ 62
    → length given ≤ 256 → list_all (is_wanted (masks_of n.watched)) given ≡ true
    → NetWaits (play_net_facts n) most (answer_at moment given)
    (play_net_facts (record n {
      waits = n.waits + 1;
      given = given;
      waiting = left;
      calls = Waits most (answer_at moment given) given ∷ n.calls;
    }))
gives n most moment [] left is_now later bounded few wanted = (
  record {
    now = is_now;
    later = later;
    bounded = bounded;
    few = few;
    wanted = wanted;
    calls = refl;
    failed_waits = refl;
    failed_attaches = refl;
    steady = refl;
    attached = refl;
    spare = omega arith;
    masks = refl;
    retired = refl;
    turned_away = refl;
  },
  refl,
)
gives n most moment (report ∷ given) left is_now later bounded few wanted = (
  record {
    now = is_now;
    later = later;
    bounded = bounded;
    few = few;
    wanted = wanted;
    calls = refl;
    failed_waits = refl;
    failed_attaches = refl;
    steady = refl;
    attached = refl;
    spare = omega arith;
    masks = refl;
    retired = refl;
    turned_away = refl;
  },
  refl,
  omega arith,
)

-- what a wait does, as every net tells it
pub net_waits : (n : PlayContent) (most : Option ℕ) (answer : Waited) (new : PlayContent)
    → do_not_fall 0 n.moments ≡ true → are_bounded n.moments ≡ true → length n.waiting ≤ 256
    → (moment : ℕ) → n.waits < length n.moments → slice_get n.moments n.waits ≡ Some moment
    → PlaysWait (slice_get n.moments n.waits) n most answer new
    → NetWaits (play_net_facts n) most answer (play_net_facts new)
net_waits n most answer new rising bounded few moment within found played =
    let plays : PlaysWait (Some moment) n most answer new =
    subst (λ o. PlaysWait o n most answer new) found played in
    let is_moment : moment ≡ get_or n.moments n.waits 0 =
    sym (get_or_from_slice_get n.moments n.waits moment 0 found) in
    let given = given_by_wait n in
    let next = reached_next n.moments n.waits ∙ sym is_moment in
    let later = never_below 0 n.moments n.waits rising within in
    let top = below_bound n.moments n.waits bounded within in
    let kept_bound = filter_bound (λ p. not (is_dropped n.waits n.watched n.retired p)) n.waiting in
    let kept = kept_at n.waits n.watched n.retired n.waiting in
    let done = gives n most moment given (left_by_wait n) next (omega arith) (omega arith)
    (few_given n.waits n.watched n.waiting kept kept_bound few)
    (all_wanted n.waits n.watched kept) in
    subst (λ m. NetWaits (play_net_facts n) most answer (play_net_facts m)) (sym plays.1)
    (subst (λ a. NetWaits (play_net_facts n) most a
    (play_net_facts (record n {
      waits = n.waits + 1;
      given = given;
      waiting = left_by_wait n;
      calls = Waits most a given ∷ n.calls;
    }))) (sym plays.0) done)

-- the two parts of sorted reports
pub sorted_parts : (wait : ℕ) (ws us : List Watched) (rs ts : List Retired)
    (old before new : List (ℕ × Report)) (left : ℕ)
    → us ≡ ws → ts ≡ rs → before ≡ old
    → left ≡ length (left_at wait us (kept_at wait us ts before))
    → new ≡ left_at wait us (kept_at wait us ts before)
    ++ given_at wait us (kept_at wait us ts before)
    → (take left new ≡ left_at wait ws (kept_at wait ws rs old))
    × (drop left new ≡ given_at wait ws (kept_at wait ws rs old))
sorted_parts wait ws us rs ts old before new left same_watched same_retired same_old is_left
    is_new =
    let front = left_at wait us (kept_at wait us ts before) in
    let back = given_at wait us (kept_at wait us ts before) in (
      ap (take left) is_new ∙ take_at front back left (sym is_left)
          ∙ ap (λ vs. left_at wait vs (kept_at wait vs ts before)) same_watched
          ∙ ap (λ vs. left_at wait ws (kept_at wait ws vs before)) same_retired
          ∙ ap (λ ps. left_at wait ws (kept_at wait ws rs ps)) same_old,
      ap (drop left) is_new ∙ drop_at front back left (sym is_left)
          ∙ ap (λ vs. given_at wait vs (kept_at wait vs ts before)) same_watched
          ∙ ap (λ vs. given_at wait ws (kept_at wait ws vs before)) same_retired
          ∙ ap (λ ps. given_at wait ws (kept_at wait ws rs ps)) same_old,
    )

pub none_past : (moments : List ℕ) (k : ℕ) → length moments ≤ k → slice_get moments k ≡ None
none_past [] k h = refl
none_past (m ∷ moments) zero h = absurd (omega arith)
none_past (m ∷ moments) (suc k) h = none_past moments k (omega arith)

pub drop-take_none : {X : Type 0} (k : ℕ) (xs : List X) → drop k (take k xs) ≡ []
drop-take_none zero xs = refl
drop-take_none (suc k) [] = refl
drop-take_none (suc k) (x ∷ xs) = drop-take_none k xs

pub take-take_same : {X : Type 0} (k : ℕ) (xs : List X) → take k (take k xs) ≡ take k xs
take-take_same zero xs = refl
take-take_same (suc k) [] = refl
take-take_same (suc k) (x ∷ xs) = ap (λ ys. x ∷ ys) (take-take_same k xs)

-- ---- a wait, by what it finds

pub plays_over : (n : PlayContent) (most : Option ℕ) (answer : Waited) (new : PlayContent)
    → slice_get n.moments n.waits ≡ None
    → answer ≡ Over (reached n.waits n.moments)
    → new ≡ record n { given = []; calls = Waits most answer [] ∷ n.calls }
    → PlaysWait (slice_get n.moments n.waits) n most answer new
plays_over n most answer new over is_answer is_new =
    subst (λ o. PlaysWait o n most answer new) (sym over) (is_answer, is_new)

pub plays_some : (n : PlayContent) (most : Option ℕ) (answer : Waited) (new : PlayContent)
    (moment : ℕ) → slice_get n.moments n.waits ≡ Some moment
    → answer ≡ answer_at moment (given_by_wait n)
    → new ≡ record n {
      waits = n.waits + 1;
      given = given_by_wait n;
      waiting = left_by_wait n;
      calls = Waits most answer (given_by_wait n) ∷ n.calls;
    }
    → PlaysWait (slice_get n.moments n.waits) n most answer new
plays_some n most answer new moment found is_answer is_new =
    subst (λ o. PlaysWait o n most answer new) (sym found) (is_answer, is_new)
