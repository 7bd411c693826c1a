-- Steps of the index of the waiting events.
use Rattle.std.proofs.Common.{ℕ, suc, ◌≡◌, ◌+◌, ◌*◌, ◌^◌, ◌<◌, ◌≤◌, ◌==◌, Bool, true, false, not}
use Rattle.std.proofs.Common.{◌&&◌, ◌||◌, List, [], ◌∷◌, ◌++◌, length, refl, sym, ap, ◌∙◌, subst}
use Rattle.std.proofs.Common.{arith, cond, Option, Some, None, is_some, ⊎_elim}
use Rattle.std.proofs.lemmas.Bool.{false≢true, both_ways, false_from_ne_true, and_parts, and_from}
use Rattle.std.proofs.lemmas.Bool.{and_left, and_right, or_cases, or_left, or_right, or_parts}
use Rattle.std.proofs.lemmas.Bool.{or_from, cases_Bool, cases_eq, cases_lt, cases_order, eq-eqb}
use Rattle.std.proofs.lemmas.Bool.{ne_eqb, eqb-true, lt-ltb, le-ltb, le-leb, lt-leb, leb-true}
use Rattle.std.proofs.lemmas.Bool.{ltb-true, cond-true, cond-false}
use Rattle.std.proofs.lemmas.List.Elements.{filter_agree}
use Rattle.std.proofs.lemmas.Map.Keys.{sorted_head, sorted_tail}
use Rattle.std.specs.Prelude.{nat_lt, nat_le, IfSome}
use Rattle.std.specs.BTreeMap.{is_at, insert_entry}
use Rattle.std.specs.List.{AllByRecursion, filter, find, list_any}
use Rattle.std.specs.List.Sorted.{IsStrictlySortedBy}
use Rattle.std.specs.Map.{keys_of, values_of, lookup}
use Rattle.std.specs.Ordering.{nat_cmp, is_eq, match_ordering}
use Rattle.std.specs.declared.cmp.Ordering.{Ordering}
use Rattle.std.specs.declared.cmp.Ordering.TheVariants.{Less, Equal, Greater}
use Rattle.ev_types.specs.declared.upcall.Mask.{Mask}
use Rattle.ev_types.specs.declared.upcall.Upcall.{Upcall}
use Rattle.ev_types.specs.declared.upcall.Upcall.TheVariants.{Input, Output, Except, Timeout}
use Rattle.ev_types.specs.declared.upcall.Upcall.TheVariants.{Notice}
use Rattle.reactor_journal.specs.Past.{class_of, is_timeout_of, is_without}
use Rattle.reactor_summary.specs.declared.parts.WaitingEvent.{WaitingEvent}
use Rattle.reactor_summary.specs.Tells.{Each}
use Rattle.reactor_summary.proofs.Lists.{each_same, each_any_other}
use Rattle.journal_check.specs.Queue.{lane_of, IsNarrow, timer_of, is_num, lane_key, timer_key}
use Rattle.journal_check.specs.Queue.{Finds, IsQueued, IsLeast, is_within, IsOne, goes_first}
use Rattle.journal_check.specs.Queue.{IsFront, Gains, Loses}
use Rattle.journal_check.proofs.Keyed.{Agrees, NonePasses, any_looked_up, find_looked_up, looked_up}
use Rattle.journal_check.proofs.Keyed.{value_looked_up, any_member, each_member}
use Rattle.journal_check.proofs.Timed.{cmp_greater, pair_same, pair_other}
use Rattle.journal_check.proofs.Lanes.{class_below, lane_test, in_lane, three_kinds}
use Rattle.journal_check.proofs.Lanes.{num_test, num_back, pair_test, Before, pair_before}

-- ---- filters of filters

pub filter-filter : {A : Type 0} (p q : A → Bool) (xs : List A)
    → filter p (filter q xs) ≡ filter (λ a. q a && p a) xs
filter-filter p q [] = refl
filter-filter p q (x ∷ xs) =
    ⊎_elim
    (λ (t : q x ≡ true).
    ap (filter p) (cond-true (q x) (x ∷ filter q xs) (filter q xs) t)
    ∙ (ap (λ ys. cond (p x) (x ∷ ys) ys) (filter-filter p q xs)
    ∙ ap (λ b. cond b (x ∷ filter (λ a. q a && p a) xs) (filter (λ a. q a && p a) xs))
    (sym (ap (λ b. b && p x) t))))
    (λ (f : q x ≡ false).
    ap (filter p) (cond-false (q x) (x ∷ filter q xs) (filter q xs) f)
    ∙ (filter-filter p q xs
    ∙ ap (λ b. cond b (x ∷ filter (λ a. q a && p a) xs) (filter (λ a. q a && p a) xs))
    (sym (ap (λ b. b && p x) f))))
    (cases_Bool (q x))

-- ---- entries by number

abbrev pub IsOwn : ℕ × WaitingEvent → Type 0
IsOwn e = e.0 ≡ e.1.event

pub own_agrees : (i : ℕ) (es : List (ℕ × WaitingEvent)) → Each IsOwn es
    → Agrees (is_at (nat_cmp i)) (λ (w : WaitingEvent). i == w.event) es
own_agrees i es h = each_same IsOwn
    (λ (e : ℕ × WaitingEvent). (i == e.1.event) ≡ is_at (nat_cmp i) e.0) es
    (λ e q. num_test i e.1.event ∙ ap (λ (n : ℕ). is_eq (nat_cmp i n)) (sym q)) h

pub own_agrees_back : (i : ℕ) (es : List (ℕ × WaitingEvent)) → Each IsOwn es
    → Agrees (is_at (nat_cmp i)) (λ (w : WaitingEvent). w.event == i) es
own_agrees_back i es h = each_same IsOwn
    (λ (e : ℕ × WaitingEvent). (e.1.event == i) ≡ is_at (nat_cmp i) e.0) es
    (λ e q. num_back i e.1.event ∙ ap (λ (n : ℕ). is_eq (nat_cmp i n)) (sym q)) h

sorted_none : (k : ℕ) (es : List (ℕ × WaitingEvent))
    → AllByRecursion (λ y. nat_cmp k y ≡ Less) (keys_of es) → NonePasses (is_at (nat_cmp k)) es
sorted_none k [] h = tt
sorted_none k (e ∷ es) h = (ap is_eq h.0, sorted_none k es h.1)

none_num : (i : ℕ) (q : WaitingEvent → Bool) (es : List (ℕ × WaitingEvent)) → Each IsOwn es
    → NonePasses (is_at (nat_cmp i)) es → list_any (λ w. q w && w.event == i) (values_of es) ≡ false
none_num i q [] own n = refl
none_num i q (e ∷ es) own n =
    or_from (q e.1 && e.1.event == i) _
    (and_right (q e.1) _ (num_back i e.1.event
    ∙ (ap (λ (k : ℕ). is_eq (nat_cmp i k)) (sym own.0) ∙ n.0))) (none_num i q es own.1 n.1)

none_each : (i : ℕ) (P : WaitingEvent → Type 0) (es : List (ℕ × WaitingEvent)) → Each IsOwn es
    → NonePasses (is_at (nat_cmp i)) es → Each (λ w. w.event ≡ i → P w) (values_of es)
none_each i P [] own n = tt
none_each i P (e ∷ es) own n = (
  λ q. absurd (both_ways _ n.0 (ap (λ (k : ℕ). is_eq (nat_cmp i k)) own.0
      ∙ (sym (num_back i e.1.event) ∙ eq-eqb e.1.event i q))),
  none_each i P es own.1 n.1,
)

-- no two events have one number
all_of : (i : ℕ) (q : WaitingEvent → Bool) (es : List (ℕ × WaitingEvent))
    → IsStrictlySortedBy nat_cmp (keys_of es) → Each IsOwn es
    → list_any (λ w. q w && w.event == i) (values_of es) ≡ true
    → Each (λ w. w.event ≡ i → q w ≡ true) (values_of es)
all_of i q [] s own h = tt
all_of i q (e ∷ es) s own h =
    ⊎_elim
    (λ (here : e.1.event ≡ i).
    let none : NonePasses (is_at (nat_cmp i)) es =
    subst (λ (k : ℕ). NonePasses (is_at (nat_cmp k)) es) (own.0 ∙ here)
    (sorted_none e.0 es (sorted_head nat_cmp e.0 (keys_of es) s)) in (
      λ same. ⊎_elim
          (λ (t : (q e.1 && e.1.event == i) ≡ true). (and_parts (q e.1) _ t).0)
          (λ (t : list_any (λ w. q w && w.event == i) (values_of es) ≡ true).
          absurd (both_ways _ (none_num i q es own.1 none) t))
          (or_cases (q e.1 && e.1.event == i) _ h),
      none_each i (λ w. q w ≡ true) es own.1 none,
    ))
    (λ (other : e.1.event ≡ i → ⊥). (
      λ same. absurd (other same),
      all_of i q es (sorted_tail nat_cmp e.0 (keys_of es) s) own.1
          (⊎_elim
          (λ (t : (q e.1 && e.1.event == i) ≡ true).
          absurd (other (eqb-true _ _ (and_parts (q e.1) _ t).1)))
          (λ (t : list_any (λ w. q w && w.event == i) (values_of es) ≡ true). t)
          (or_cases (q e.1 && e.1.event == i) _ h)),
    ))
    (cases_eq e.1.event i)

-- the event that a look-up finds has that number
number_of : (i : ℕ) (es : List (ℕ × WaitingEvent)) (w : WaitingEvent) → Each IsOwn es
    → lookup (is_at (nat_cmp i)) es ≡ Some w → w.event ≡ i
number_of i es w own is =
    let r : (k : ℕ) × (k ≡ w.event) × (is_at (nat_cmp i) k ≡ true) =
    looked_up IsOwn (is_at (nat_cmp i)) es w own is in
    sym (eqb-true i w.event (ap (λ (k : ℕ). i == k) (sym r.1) ∙ (num_test i r.0 ∙ r.2)))

found_passes : (i : ℕ) (q : WaitingEvent → Bool) (es : List (ℕ × WaitingEvent)) (w : WaitingEvent)
    → IsStrictlySortedBy nat_cmp (keys_of es) → Each IsOwn es
    → lookup (is_at (nat_cmp i)) es ≡ Some w
    → list_any (λ v. q v && v.event == i) (values_of es) ≡ true → q w ≡ true
found_passes i q es w s own is h =
    value_looked_up (λ v. v.event ≡ i → q v ≡ true) (is_at (nat_cmp i)) es w (all_of i q es s own h)
    is (number_of i es w own is)

-- ---- an event leaves

none_after : (i : ℕ) (q : WaitingEvent → Bool) (xs : List WaitingEvent)
    → list_any (λ v. q v && v.event == i) (filter (λ v. not (i == v.event)) xs) ≡ false
none_after i q [] = refl
none_after i q (x ∷ xs) =
    ⊎_elim
    (λ (e : i ≡ x.event). ap (list_any (λ v. q v && v.event == i))
    (cond-false (not (i == x.event)) (x ∷ filter (λ v. not (i == v.event)) xs) _
    (ap not (eq-eqb i x.event e))) ∙ none_after i q xs)
    (λ (n : i ≡ x.event → ⊥).
    ap (list_any (λ v. q v && v.event == i))
    (cond-true (not (i == x.event)) (x ∷ filter (λ v. not (i == v.event)) xs) _
    (ap not (ne_eqb i x.event n)))
    ∙ or_from (q x && x.event == i) _ (and_right (q x) _ (ne_eqb x.event i (λ e. n (sym e))))
    (none_after i q xs))
    (cases_eq i x.event)

any_kept : (i j : ℕ) (q : WaitingEvent → Bool) (xs : List WaitingEvent) → (j ≡ i → ⊥)
    → list_any (λ v. q v && v.event == j) (filter (λ v. not (i == v.event)) xs)
    ≡ list_any (λ v. q v && v.event == j) xs
any_kept i j q [] n = refl
any_kept i j q (x ∷ xs) n =
    ⊎_elim
    (λ (e : i ≡ x.event).
    ap (list_any (λ v. q v && v.event == j))
    (cond-false (not (i == x.event)) (x ∷ filter (λ v. not (i == v.event)) xs) _
    (ap not (eq-eqb i x.event e)))
    ∙ (any_kept i j q xs n ∙ sym (ap (λ b. b || list_any (λ v. q v && v.event == j) xs)
    (and_right (q x) _ (ne_eqb x.event j (λ d. n (sym d ∙ sym e)))))))
    (λ (m : i ≡ x.event → ⊥).
    ap (list_any (λ v. q v && v.event == j))
    (cond-true (not (i == x.event)) (x ∷ filter (λ v. not (i == v.event)) xs) _
    (ap not (ne_eqb i x.event m)))
    ∙ ap (λ b. (q x && x.event == j) || b) (any_kept i j q xs n))
    (cases_eq i x.event)

pub finds_less : (key : WaitingEvent → Option ℕ) (has later : ℕ × ℕ → Bool) (i : ℕ)
    (w : WaitingEvent) (es : List (ℕ × WaitingEvent)) → IsStrictlySortedBy nat_cmp (keys_of es)
    → Each IsOwn es → lookup (is_at (nat_cmp i)) es ≡ Some w → Finds key has (values_of es)
    → Loses (key w) w.event has later
    → Finds key later (filter (λ v. not (i == v.event)) (values_of es))
finds_less key has later i w es s own is finds loses =
    record {
      at = λ n j.
          ⊎_elim
          (λ (e : j ≡ i). ap (λ (k : ℕ). later (n, k)) e
          ∙ (gone n (key w) refl loses ∙ (sym
          (none_after i (λ v. is_num n (key v)) (values_of es))
          ∙ ap (λ (k : ℕ). list_any (λ v. is_num n (key v) && v.event == k)
          (filter (λ v. not (i == v.event)) (values_of es))) (sym e))))
          (λ (e : j ≡ i → ⊥). other n j e (key w) loses
          ∙ (finds.at n j ∙ sym (any_kept i j (λ v. is_num n (key v)) (values_of es) e)))
          (cases_eq j i);
    }
  where
    number : w.event ≡ i
    number = number_of i es w own is

    not_there : (n : ℕ) → is_num n (key w) ≡ false → has (n, i) ≡ false
    not_there n f = finds.at n i ∙ false_from_ne_true _
        (λ t. both_ways _ f (found_passes i (λ v. is_num n (key v)) es w s own is t))

    gone : (n : ℕ) (o : Option ℕ) → key w ≡ o → Loses o w.event has later → later (n, i) ≡ false
    gone n None q l = l (n, i) ∙ not_there n (ap (is_num n) q)
    gone n (Some m) q l =
        l (n, i)
        ∙ ⊎_elim
        (λ (c : m ≡ n). cond-true _ false (has (n, i)) (pair_same m w.event n i c number))
        (λ (c : m ≡ n → ⊥). cond-false _ false (has (n, i))
        (pair_test m w.event n i ∙ and_left _ _ (ne_eqb m n c))
        ∙ not_there n (ap (is_num n) q ∙ ne_eqb m n c))
        (cases_eq m n)

    other : (n j : ℕ) → (j ≡ i → ⊥) → (o : Option ℕ) → Loses o w.event has later
        → later (n, j) ≡ has (n, j)
    other n j e None l = l (n, j)
    other n j e (Some m) l = l (n, j) ∙ cond-false _ false (has (n, j))
        (pair_other m w.event n j (λ q. e (sym q ∙ number)))

-- ---- an event is added

any_inserted : (p : WaitingEvent → Bool) (es : List (ℕ × WaitingEvent)) (k : ℕ) (v : WaitingEvent)
    → lookup (is_at (nat_cmp k)) es ≡ None
    → list_any p (values_of (insert_entry nat_cmp es k v)) ≡ (p v || list_any p (values_of es))
any_inserted p [] k v absent = refl
any_inserted p (e ∷ es) k v absent =
    by_cases (λ q. any_inserted p es k v
    (sym (cond-false (is_at (nat_cmp k) e.0) (Some e.1) _ q) ∙ absent)) (nat_cmp k e.0) refl
  where
    swap : (a b c : Bool) → (a || (b || c)) ≡ (b || (a || c))
    swap true true c = refl
    swap true false c = refl
    swap false b c = refl

    none : ◌≡◌ {A = Option WaitingEvent} (Some e.1) None → ⊥
    none q = cc

    by_cases : (is_at (nat_cmp k) e.0 ≡ false
        → list_any p (values_of (insert_entry nat_cmp es k v)) ≡ (p v || list_any p (values_of es)))
        → (o : Ordering) → nat_cmp k e.0 ≡ o
        → list_any p (values_of (match_ordering o ((k, v) ∷ e ∷ es) ((e.0, v) ∷ es)
        (e ∷ insert_entry nat_cmp es k v))) ≡ (p v || (p e.1 || list_any p (values_of es)))
    by_cases rest Less q = refl
    by_cases rest Equal q = absurd (none
        (sym (cond-true (is_at (nat_cmp k) e.0) (Some e.1) (lookup (is_at (nat_cmp k)) es)
        (ap is_eq q)) ∙ absent))
    by_cases rest Greater q = ap (λ b. p e.1 || b) (rest (ap is_eq q))
        ∙ swap (p e.1) (p v) (list_any p (values_of es))

pub finds_more : (key : WaitingEvent → Option ℕ) (has later : ℕ × ℕ → Bool) (w : WaitingEvent)
    (es : List (ℕ × WaitingEvent)) → lookup (is_at (nat_cmp w.event)) es ≡ None
    → Finds key has (values_of es) → Gains (key w) w.event has later
    → Finds key later (values_of (insert_entry nat_cmp es w.event w))
finds_more key has later w es absent finds gains =
    record {
      at = λ n j. with_key n j (key w) refl gains
          ∙ sym (any_inserted (λ v. is_num n (key v) && v.event == j) es w.event w absent);
    }
  where
    either : (b c : Bool) → cond b true c ≡ (b || c)
    either true c = refl
    either false c = refl

    with_key : (n j : ℕ) (o : Option ℕ) → key w ≡ o → Gains o w.event has later
        → later (n, j) ≡ ((is_num n (key w) && w.event == j)
        || list_any (λ v. is_num n (key v) && v.event == j) (values_of es))
    with_key n j None q g = g (n, j) ∙ (finds.at n j
        ∙ sym (ap (λ b. b || list_any (λ v. is_num n (key v) && v.event == j) (values_of es))
        (and_left (is_num n (key w)) (w.event == j) (ap (is_num n) q))))
    with_key n j (Some m) q g =
        g (n, j)
        ∙ (ap (λ b. cond b true (has (n, j))) (pair_test m w.event n j)
        ∙ (either (m == n && w.event == j) (has (n, j))
        ∙ (ap (λ b. (m == n && w.event == j) || b) (finds.at n j)
        ∙ ap (λ b. (b && w.event == j) || list_any (λ v. is_num n (key v) && v.event == j)
        (values_of es)) (sym (ap (is_num n) q)))))

pub inserted_last : (w : WaitingEvent) (es : List (ℕ × WaitingEvent)) → Each IsOwn es
    → Each (λ v. v.event < w.event) (values_of es)
    → values_of (insert_entry nat_cmp es w.event w) ≡ values_of es ++ w ∷ []
inserted_last w [] own below = refl
inserted_last w (e ∷ es) own below =
    ap (λ (o : Ordering). values_of (match_ordering o ((w.event, w) ∷ e ∷ es) ((e.0, w) ∷ es)
    (e ∷ insert_entry nat_cmp es w.event w)))
    (ap (nat_cmp w.event) own.0 ∙ cmp_greater w.event e.1.event below.0)
    ∙ ap (λ xs. e.1 ∷ xs) (inserted_last w es own.1 below.1)

pub absent_from : (i : ℕ) (es : List (ℕ × WaitingEvent)) → Each IsOwn es
    → list_any (λ v. i == v.event) (values_of es) ≡ false → lookup (is_at (nat_cmp i)) es ≡ None
absent_from i es own h = none (lookup (is_at (nat_cmp i)) es)
    (sym (any_looked_up (is_at (nat_cmp i)) (λ (v : WaitingEvent). i == v.event) es
    (own_agrees i es own)) ∙ h)
  where
    none : (o : Option WaitingEvent) → is_some o ≡ false → o ≡ None
    none None h = refl
    none (Some w) h = absurd (both_ways true h refl)

-- ---- what the index finds

waits_at : (i : ℕ) (q : WaitingEvent → Bool) (xs : List WaitingEvent)
    → list_any (λ w. q w && w.event == i) xs ≡ true → list_any (λ w. i == w.event) xs ≡ true
waits_at i q xs h =
    let m : (w : WaitingEvent) × ((q w && w.event == i) ≡ true)
    × ((p : WaitingEvent → Bool) → p w ≡ true → list_any p xs ≡ true) =
    any_member (λ (w : WaitingEvent). q w && w.event == i) xs h in
    m.2 (λ w. i == w.event) (eq-eqb i m.0.event
    (sym (eqb-true m.0.event i (and_parts (q m.0) _ m.1).1)))

pub one_found : (key : WaitingEvent → Option ℕ) (has : ℕ × ℕ → Bool) (p : WaitingEvent → Bool)
    (low high i : ℕ) (es : List (ℕ × WaitingEvent)) → IsStrictlySortedBy nat_cmp (keys_of es)
    → Each IsOwn es → Finds key has (values_of es)
    → ((w : WaitingEvent) (n : ℕ) → low ≤ n → n < high → is_num n (key w) ≡ true → p w ≡ true)
    → IsLeast low high has i → IsOne p i (values_of es)
one_found key has p low high i es s own finds passes least =
    let there : list_any (λ w. is_num least.at (key w) && w.event == i) (values_of es) ≡ true =
    sym (finds.at least.at i) ∙ least.is in
    record {
      waits = waits_at i (λ w. is_num least.at (key w)) (values_of es) there;
      passes = each_same (λ (w : WaitingEvent). w.event ≡ i → is_num least.at (key w) ≡ true)
          (λ (w : WaitingEvent). w.event ≡ i → p w ≡ true) (values_of es)
          (λ w h q. passes w least.at least.from least.below (h q))
          (all_of i (λ w. is_num least.at (key w)) es s own there);
    }

pub none_found : (key : WaitingEvent → Option ℕ) (has : ℕ × ℕ → Bool) (p : WaitingEvent → Bool)
    (low high : ℕ) (xs : List WaitingEvent) → Finds key has xs
    → ((w : WaitingEvent) → p w ≡ true → (n : ℕ) × (low ≤ n) × (n < high)
    × (is_num n (key w) ≡ true))
    → ((n i : ℕ) → low ≤ n → n < high → has (n, i) ≡ false) → list_any p xs ≡ false
none_found key has p low high xs finds named none =
    false_from_ne_true _ (λ h.
    let m : (w : WaitingEvent) × (p w ≡ true)
    × ((q : WaitingEvent → Bool) → q w ≡ true → list_any q xs ≡ true) = any_member p xs h in
    let k : (n : ℕ) × (low ≤ n) × (n < high) × (is_num n (key m.0) ≡ true) = named m.0 m.1 in
    both_ways _ (none k.0 m.0.event k.1 k.2)
    (finds.at k.0 m.0.event ∙ m.2 (λ w. is_num k.0 (key w) && w.event == m.0.event)
    (and_from _ _ k.3 (eq-eqb m.0.event m.0.event refl))))

-- ---- lanes from a number on and below another

within_from : (low high n : ℕ) → low ≤ n → n < high → is_within low high n ≡ true
within_from low high n a b = and_from _ _ (le-leb low n a) (lt-ltb n high b)

pub lane_passes : (low high : ℕ) (w : WaitingEvent) (n : ℕ) → low ≤ n → n < high
    → is_num n (lane_key w) ≡ true → is_within low high (lane_of w) ≡ true
lane_passes low high w n a b h = subst (λ (m : ℕ). is_within low high m ≡ true)
    (sym (eqb-true (lane_of w) n h)) (within_from low high n a b)

pub lane_named : (low high : ℕ) (w : WaitingEvent) → is_within low high (lane_of w) ≡ true → (n : ℕ)
    × (low ≤ n) × (n < high) × (is_num n (lane_key w) ≡ true)
lane_named low high w h =
    let both : (nat_le low (lane_of w) ≡ true) × (nat_lt (lane_of w) high ≡ true) =
    and_parts _ _ h in (
      lane_of w,
      leb-true low (lane_of w) both.0,
      ltb-true (lane_of w) high both.1,
      eq-eqb (lane_of w) (lane_of w) refl,
    )

timer_num : (t : ℕ) (u : Upcall) → is_num t (timer_of u) ≡ is_timeout_of t u
timer_num t (Timeout timer) = refl
timer_num t (Notice kind) = refl
timer_num t Output = refl
timer_num t Except = refl
timer_num t Input = refl

pub timer_passes : (t : ℕ) (w : WaitingEvent) (n : ℕ) → t ≤ n → n < t + 1
    → is_num n (timer_key w) ≡ true → is_timeout_of t w.upcall ≡ true
timer_passes t w n a b h = let same : n ≡ t = omega arith in
    sym (timer_num t w.upcall) ∙ (ap (λ (m : ℕ). is_num m (timer_key w)) (sym same) ∙ h)

pub timer_named : (t : ℕ) (w : WaitingEvent) → is_timeout_of t w.upcall ≡ true → (n : ℕ) × (t ≤ n)
    × (n < t + 1) × (is_num n (timer_key w) ≡ true)
timer_named t w h = (t, omega arith, omega arith, timer_num t w.upcall ∙ h)

pub within_one : (l n : ℕ) → is_within l (l + 1) n ≡ (n == l)
within_one l n =
    ⊎_elim
    (λ (q : n ≡ l). within_from l (l + 1) n (omega arith) (omega arith) ∙ sym (eq-eqb n l q))
    (⊎_elim
    (λ (q : n < l). and_left _ _ (lt-leb l n q) ∙ sym (ne_eqb n l (λ e. absurd (omega arith))))
    (λ (q : l < n). and_right (nat_le l n) _ (le-ltb n (l + 1) (omega arith))
    ∙ sym (ne_eqb n l (λ e. absurd (omega arith)))))
    (cases_order n l)

pub within_five : (x : ℕ) (w : WaitingEvent)
    → is_within (x * 5) (x * 5 + 5) (lane_of w) ≡ (x == w.handle.0)
within_five x w =
    let below : class_of w.upcall < 5 = class_below w.upcall in
    ⊎_elim
    (λ (q : x ≡ w.handle.0). within_from (x * 5) (x * 5 + 5) (lane_of w) (omega arith) (omega arith)
    ∙ sym (eq-eqb x w.handle.0 q))
    (⊎_elim
    (λ (q : x < w.handle.0). and_right (nat_le (x * 5) (lane_of w)) _
    (le-ltb (lane_of w) (x * 5 + 5) (omega arith))
    ∙ sym (ne_eqb x w.handle.0 (λ e. absurd (omega arith))))
    (λ (q : w.handle.0 < x). and_left _ _ (lt-leb (x * 5) (lane_of w) (omega arith))
    ∙ sym (ne_eqb x w.handle.0 (λ e. absurd (omega arith)))))
    (cases_order x w.handle.0)

pub lane_tested : (w : WaitingEvent) (x c : ℕ) → c < 5 → (which : Bool)
    → not (which && lane_of w == x * 5 + c) ≡ not (which && in_lane x c w)
lane_tested w x c lt which = ap (λ b. not (which && b)) (lane_test w x c lt)

-- the reports that the mask lacks
pub masked_out : (x : ℕ) (mask : Mask) (xs : List WaitingEvent)
    → filter (λ w. not (not mask.read && lane_of w == x * 5 + 4))
    (filter (λ w. not (not mask.except && lane_of w == x * 5 + 3))
    (filter (λ w. not (not mask.write && lane_of w == x * 5 + 2)) xs))
    ≡ filter (λ w. not (x == w.handle.0 && is_without mask w.upcall)) xs
masked_out x mask xs =
    let p2 : WaitingEvent → Bool = λ (w : WaitingEvent).
    not (not mask.write && lane_of w == x * 5 + 2) in
    let p3 : WaitingEvent → Bool = λ (w : WaitingEvent).
    not (not mask.except && lane_of w == x * 5 + 3) in
    let p4 : WaitingEvent → Bool = λ (w : WaitingEvent).
    not (not mask.read && lane_of w == x * 5 + 4) in
    ap (filter p4) (filter-filter p3 p2 xs)
    ∙ (filter-filter p4 (λ (w : WaitingEvent). p2 w && p3 w) xs
    ∙ filter_agree (λ (w : WaitingEvent). (p2 w && p3 w) && p4 w)
    (λ (w : WaitingEvent). not (x == w.handle.0 && is_without mask w.upcall))
    (λ w.
    ap (λ b. (b && p3 w) && p4 w) (lane_tested w x 2 (omega arith) (not mask.write))
    ∙ (ap (λ b. (not (not mask.write && in_lane x 2 w) && b) && p4 w)
    (lane_tested w x 3 (omega arith) (not mask.except))
    ∙ (ap (λ b. (not (not mask.write && in_lane x 2 w) && not (not mask.except && in_lane x 3 w))
    && b) (lane_tested w x 4 (omega arith) (not mask.read))
    ∙ three_kinds (x == w.handle.0) mask.read mask.write mask.except w.upcall))) xs)

-- ---- the event of a handle that goes first

goes_from : (a w : WaitingEvent) → class_of a.upcall ≤ class_of w.upcall
    → (class_of a.upcall ≡ class_of w.upcall → a.event ≤ w.event) → goes_first a w ≡ true
goes_from a w le same =
    ⊎_elim
    (λ (lt : class_of a.upcall < class_of w.upcall).
    or_left _ _ (lt-ltb (class_of a.upcall) (class_of w.upcall) lt))
    (λ (ge : class_of w.upcall ≤ class_of a.upcall).
    let eq : class_of a.upcall ≡ class_of w.upcall = omega arith in
    or_right (nat_lt (class_of a.upcall) (class_of w.upcall)) _
    (and_from _ _ (eq-eqb (class_of a.upcall) (class_of w.upcall) eq)
    (le-leb a.event w.event (same eq))))
    (cases_lt (class_of a.upcall) (class_of w.upcall))

pub front_found : (x i : ℕ) (es : List (ℕ × WaitingEvent)) (lanes timers : ℕ × ℕ → Bool)
    → IsQueued es lanes timers → IsLeast (x * 5) (x * 5 + 5) lanes i
    → IsFront x (values_of es) (lookup (is_at (nat_cmp i)) es)
front_found x i es lanes timers q least = by_cases (lookup (is_at (nat_cmp i)) es) refl
  where
    there : list_any (λ w. is_num least.at (lane_key w) && w.event == i) (values_of es) ≡ true
    there = sym (q.by_lane.at least.at i) ∙ least.is

    by_cases : (o : Option WaitingEvent) → lookup (is_at (nat_cmp i)) es ≡ o
        → IsFront x (values_of es) o
    by_cases None none = absurd (both_ways _
        (any_looked_up (is_at (nat_cmp i)) (λ (v : WaitingEvent). i == v.event) es
        (own_agrees i es q.own) ∙ ap is_some none)
        (waits_at i (λ w. is_num least.at (lane_key w)) (values_of es) there))
    by_cases (Some w) is =
        let number : w.event ≡ i = number_of i es w q.own is in
        let lane : lane_of w ≡ least.at = eqb-true (lane_of w) least.at
        (found_passes i (λ v. is_num least.at (lane_key v)) es w q.ordered q.own is there) in
        let from : x * 5 ≤ least.at = least.from in
        let below : least.at < x * 5 + 5 = least.below in
        let class : class_of w.upcall < 5 = class_below w.upcall in
        let mine : w.handle.0 ≡ x = omega arith in
        record {
          is = ap (λ (k : ℕ). find (λ v. v.event == k) (values_of es)) number
              ∙ (find_looked_up (is_at (nat_cmp i)) (λ (v : WaitingEvent). v.event == i) es
              (own_agrees_back i es q.own) ∙ is);
          mine = mine;
          first = each_member (λ v. v.handle.0 ≡ x → goes_first w v ≡ true) (values_of es)
              (λ v member own.
              let has : lanes (lane_of v, v.event) ≡ true =
              q.by_lane.at (lane_of v) v.event ∙ member
              (λ u. is_num (lane_of v) (lane_key u) && u.event == v.event)
              (and_from _ _ (eq-eqb (lane_of v) (lane_of v) refl) (eq-eqb v.event v.event refl))
              in
              let before : Before least.at i (lane_of v) v.event =
              pair_before least.at i (lane_of v) v.event
              (least.least (lane_of v) v.event (omega arith) has) in
              let lanes_le : least.at ≤ lane_of v = before.first in
              goes_from w v (omega arith) (λ c. let numbers : i ≤ v.event =
              before.second (omega arith) in omega arith));
        }

-- ---- handles whose lanes do not all fit a word

abbrev pub IsNarrowAt : ℕ × WaitingEvent → Type 0
IsNarrowAt e = IsNarrow e.1

pub none_wide : (x : ℕ) (es : List (ℕ × WaitingEvent)) → 2 ^ 64 ≤ x * 5 + 4 → Each IsNarrowAt es
    → list_any (λ w. x == w.handle.0) (values_of es) ≡ false
none_wide x [] wide h = refl
none_wide x (e ∷ es) wide h =
    or_from (x == e.1.handle.0) _
    (ne_eqb x e.1.handle.0 (λ q. let lt : e.1.handle.0 * 5 + 4 < 2 ^ 64 = h.0 in
    absurd (omega arith)))
    (none_wide x es wide h.1)

pub narrow_found : (i : ℕ) (es : List (ℕ × WaitingEvent)) (w : WaitingEvent) → Each IsNarrowAt es
    → lookup (is_at (nat_cmp i)) es ≡ Some w → IsNarrow w
narrow_found i es w narrow is = (looked_up IsNarrowAt (is_at (nat_cmp i)) es w narrow is).1

pub narrow_from : (w : WaitingEvent) (o : Option ℕ)
    → IfSome o (λ n. (n ≡ w.handle.0 * 5) × (n + 4 < 2 ^ 64)) → is_some o ≡ true → IsNarrow w
narrow_from w None h n = absurd (false≢true n)
narrow_from w (Some l) h n = let first : l ≡ w.handle.0 * 5 = h.0 in let last : l + 4 < 2 ^ 64 =
    h.1 in omega arith

-- the five lanes of a handle, of which the first is given
pub five_lanes : (l x : ℕ) (w : WaitingEvent) → l ≡ x * 5
    → is_within l (l + 4 + 1) (lane_of w) ≡ (x == w.handle.0)
five_lanes l x w q =
    let high : l + 4 + 1 ≡ x * 5 + 5 = omega arith in
    ap (λ (h : ℕ). is_within l h (lane_of w)) high
    ∙ (ap (λ (m : ℕ). is_within m (x * 5 + 5) (lane_of w)) q ∙ within_five x w)

pub least_of_five : (l x i : ℕ) (has : ℕ × ℕ → Bool) → l ≡ x * 5 → IsLeast l (l + 4 + 1) has i
    → IsLeast (x * 5) (x * 5 + 5) has i
least_of_five l x i has q least =
    let high : l + 4 + 1 ≡ x * 5 + 5 = omega arith in
    subst (λ (m : ℕ). IsLeast m (x * 5 + 5) has i) q
    (subst (λ (h : ℕ). IsLeast l h has i) high least)

pub masked_from : (l x : ℕ) (mask : Mask) (xs : List WaitingEvent) → l ≡ x * 5
    → filter (λ w. not (not mask.read && lane_of w == l + 4))
    (filter (λ w. not (not mask.except && lane_of w == l + 3))
    (filter (λ w. not (not mask.write && lane_of w == l + 2)) xs))
    ≡ filter (λ w. not (x == w.handle.0 && is_without mask w.upcall)) xs
masked_from l x mask xs q =
    subst (λ (m : ℕ). filter (λ w. not (not mask.read && lane_of w == m + 4))
    (filter (λ w. not (not mask.except && lane_of w == m + 3))
    (filter (λ w. not (not mask.write && lane_of w == m + 2)) xs))
    ≡ filter (λ w. not (x == w.handle.0 && is_without mask w.upcall)) xs) (sym q)
    (masked_out x mask xs)

pub none_of_mask : (x : ℕ) (mask : Mask) (xs : List WaitingEvent)
    → list_any (λ w. x == w.handle.0) xs ≡ false
    → list_any (λ w. x == w.handle.0 && is_without mask w.upcall) xs ≡ false
none_of_mask x mask [] h = refl
none_of_mask x mask (w ∷ ws) h =
    let both : ((x == w.handle.0) ≡ false) × (list_any (λ w. x == w.handle.0) ws ≡ false) =
    or_parts (x == w.handle.0) _ h in
    or_from (x == w.handle.0 && is_without mask w.upcall) _ (and_left _ _ both.0)
    (none_of_mask x mask ws both.1)

-- if none has a lane of the handle
pub none_of_five : (l x : ℕ) (lanes : ℕ × ℕ → Bool) (xs : List WaitingEvent) → l ≡ x * 5
    → Finds lane_key lanes xs → ((n i : ℕ) → l ≤ n → n < l + 4 + 1 → lanes (n, i) ≡ false)
    → list_any (λ w. x == w.handle.0) xs ≡ false
none_of_five l x lanes xs q finds none =
    none_found lane_key lanes (λ w. x == w.handle.0) l (l + 4 + 1) xs finds
    (λ w h. lane_named l (l + 4 + 1) w (five_lanes l x w q ∙ h)) none

-- the events whose lanes are those of a handle
pub five_out : (l x : ℕ) (xs : List WaitingEvent) → l ≡ x * 5
    → filter (λ w. not (is_within l (l + 4 + 1) (lane_of w))) xs
    ≡ filter (λ w. not (x == w.handle.0)) xs
five_out l x xs q = filter_agree (λ (w : WaitingEvent). not (is_within l (l + 4 + 1) (lane_of w)))
    (λ (w : WaitingEvent). not (x == w.handle.0)) (λ w. ap not (five_lanes l x w q)) xs

-- ---- events leave one by one

pub one_out : (p : WaitingEvent → Bool) (i : ℕ) (xs : List WaitingEvent)
    → Each (λ w. w.event ≡ i → p w ≡ true) xs
    → filter (λ w. not (p w)) (filter (λ w. not (i == w.event)) xs) ≡ filter (λ w. not (p w)) xs
one_out p i [] h = refl
one_out p i (x ∷ xs) h =
    ⊎_elim
    (λ (e : i ≡ x.event).
    ap (filter (λ w. not (p w))) (cond-false (not (i == x.event))
    (x ∷ filter (λ w. not (i == w.event)) xs) _ (ap not (eq-eqb i x.event e)))
    ∙ (one_out p i xs h.1 ∙ sym (cond-false (not (p x)) (x ∷ filter (λ w. not (p w)) xs) _
    (ap not (h.0 (sym e))))))
    (λ (n : i ≡ x.event → ⊥).
    ap (filter (λ w. not (p w))) (cond-true (not (i == x.event))
    (x ∷ filter (λ w. not (i == w.event)) xs) _ (ap not (ne_eqb i x.event n)))
    ∙ ap (λ ys. cond (not (p x)) (x ∷ ys) ys) (one_out p i xs h.1))
    (cases_eq i x.event)

pub shorter : (i : ℕ) (xs : List WaitingEvent) → list_any (λ w. i == w.event) xs ≡ true
    → length (filter (λ w. not (i == w.event)) xs) < length xs
shorter i [] h = absurd (false≢true h)
shorter i (x ∷ xs) h =
    ⊎_elim
    (λ (t : (i == x.event) ≡ true).
    let out : length (filter (λ w. not (i == w.event)) (x ∷ xs))
    ≡ length (filter (λ w. not (i == w.event)) xs) =
    ap length (cond-false (not (i == x.event)) (x ∷ filter (λ w. not (i == w.event)) xs) _
    (ap not t)) in
    let less : length (filter (λ w. not (i == w.event)) xs) ≤ length xs = no_longer xs in
    omega arith)
    (λ (f : (i == x.event) ≡ false).
    let kept : length (filter (λ w. not (i == w.event)) (x ∷ xs))
    ≡ suc (length (filter (λ w. not (i == w.event)) xs)) =
    ap length (cond-true (not (i == x.event)) (x ∷ filter (λ w. not (i == w.event)) xs) _
    (ap not f)) in
    let rest : list_any (λ w. i == w.event) xs ≡ true =
    ⊎_elim (λ (t : (i == x.event) ≡ true). absurd (both_ways _ f t))
    (λ (t : list_any (λ w. i == w.event) xs ≡ true). t) (or_cases (i == x.event) _ h) in
    let less : length (filter (λ w. not (i == w.event)) xs) < length xs = shorter i xs rest in
    omega arith)
    (cases_Bool (i == x.event))
  where
    no_longer : (ys : List WaitingEvent) → length (filter (λ w. not (i == w.event)) ys) ≤ length ys
    no_longer [] = omega arith
    no_longer (y ∷ ys) =
        let less : length (filter (λ w. not (i == w.event)) ys) ≤ length ys = no_longer ys in
        ⊎_elim
        (λ (t : (i == y.event) ≡ true). let out : length (filter (λ w. not (i == w.event)) (y ∷ ys))
        ≡ length (filter (λ w. not (i == w.event)) ys) =
        ap length (cond-false (not (i == y.event)) (y ∷ filter (λ w. not (i == w.event)) ys) _
        (ap not t)) in omega arith)
        (λ (f : (i == y.event) ≡ false). let kept : length
        (filter (λ w. not (i == w.event)) (y ∷ ys))
        ≡ suc (length (filter (λ w. not (i == w.event)) ys)) =
        ap length (cond-true (not (i == y.event)) (y ∷ filter (λ w. not (i == w.event)) ys) _
        (ap not f)) in omega arith)
        (cases_Bool (i == y.event))

pub below_absent : (n : ℕ) (xs : List WaitingEvent) → Each (λ w. w.event < n) xs
    → list_any (λ w. n == w.event) xs ≡ false
below_absent n [] h = refl
below_absent n (x ∷ xs) h = or_from (n == x.event) _
    (ne_eqb n x.event (λ q. let lt : x.event < n = h.0 in absurd (omega arith)))
    (below_absent n xs h.1)

pub one_is_any : (p : WaitingEvent → Bool) (xs : List WaitingEvent) (o : Option ℕ)
    → IfSome o (λ i. IsOne p i xs) → (o ≡ None → list_any p xs ≡ false) → is_some o ≡ list_any p xs
one_is_any p xs None h n = sym (n refl)
one_is_any p xs (Some i) h n = sym
    (each_any_other (λ (w : WaitingEvent). w.event ≡ i → p w ≡ true)
    (λ (w : WaitingEvent). i == w.event) p xs h.passes (λ w f t. f (sym (eqb-true i w.event t)))
    h.waits)
