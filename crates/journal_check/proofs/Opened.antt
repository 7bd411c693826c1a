-- Steps of the index of the open events.
use Rattle.std.proofs.Common.{ℕ, ◌≡◌, ◌<◌, ◌≤◌, ◌==◌, Bool, true, false, not, ◌||◌, List, [], ◌∷◌}
use Rattle.std.proofs.Common.{◌++◌, refl, sym, ap, ◌∙◌, subst, arith, cond, Option, Some, None}
use Rattle.std.proofs.Common.{is_some, ◌⊎◌, inl, inr, ⊎_elim}
use Rattle.std.proofs.lemmas.Bool.{both_ways, or_from, or_parts, or_left, or_right, cases_Bool}
use Rattle.std.proofs.lemmas.Bool.{cases_eq, eq-eqb, ne_eqb, cond-true, cond-false}
use Rattle.std.proofs.lemmas.Map.Keys.{sorted_head, sorted_tail}
use Rattle.std.proofs.lemmas.Map.Lookups.{exact_unsigned}
use Rattle.std.specs.BTreeMap.{is_at, insert_entry}
use Rattle.std.specs.List.{AllByRecursion, filter, find, list_any}
use Rattle.std.specs.List.Sorted.{IsStrictlySortedBy}
use Rattle.std.specs.Map.{keys_of, values_of, lookup}
use Rattle.std.specs.Ordering.{nat_cmp, is_eq, match_ordering}
use Rattle.std.specs.declared.cmp.Ordering.{Ordering}
use Rattle.std.specs.declared.cmp.Ordering.TheVariants.{Less}
use Rattle.reactor_summary.specs.declared.parts.OpenEvent.{OpenEvent}
use Rattle.reactor_summary.specs.Tells.{Each}
use Rattle.reactor_summary.proofs.Lists.{some_is, each_same}
use Rattle.journal_check.specs.Opened.{IsStartedAt, IsOpenIndex}
use Rattle.journal_check.proofs.Keyed.{Agrees, NonePasses, find_looked_up}
use Rattle.journal_check.proofs.Timed.{cmp_equal, cmp_greater, num_other, is_equal}

no_some : {A : Type 0} (a : A) → ◌≡◌ {A = Option A} None (Some a) → ⊥
no_some a q = cc

-- if the number leads to a start, a test of the number is one of the key
pub led_opens : (starts events : ℕ → Option ℕ) (next i k : ℕ) (es : List (ℕ × OpenEvent))
    → starts i ≡ Some k → Each (IsStartedAt starts events next) es
    → Agrees (is_at (nat_cmp k)) (λ (o : OpenEvent). o.event == i) es
led_opens starts events next i k es led h =
    each_same (IsStartedAt starts events next)
    (λ (e : ℕ × OpenEvent). (e.1.event == i) ≡ is_at (nat_cmp k) e.0) es at h
  where
    at : (e : ℕ × OpenEvent) → IsStartedAt starts events next e
        → (e.1.event == i) ≡ is_at (nat_cmp k) e.0
    at e s =
        ⊎_elim
        (λ (q : e.1.event ≡ i).
        let same : k ≡ e.0 = some_is k e.0 (sym led ∙ (ap starts (sym q) ∙ s.led)) in
        eq-eqb e.1.event i q ∙ sym (ap is_eq (cmp_equal k e.0 same)))
        (λ (n : e.1.event ≡ i → ⊥). ne_eqb e.1.event i n
        ∙ sym (num_other k e.0 (λ q. n (sym
        (s.only i (led ∙ ap (λ (m : ℕ). Some m) (sym q)))))))
        (cases_eq e.1.event i)

pub turned : (i : ℕ) (test : ℕ → Bool) (es : List (ℕ × OpenEvent))
    → Agrees test (λ (o : OpenEvent). o.event == i) es
    → Agrees test (λ (o : OpenEvent). i == o.event) es
turned i test es h = each_same (λ (e : ℕ × OpenEvent). (e.1.event == i) ≡ test e.0)
    (λ (e : ℕ × OpenEvent). (i == e.1.event) ≡ test e.0) es (λ e q. swap i e.1.event ∙ q) h
  where
    swap : (a b : ℕ) → (a == b) ≡ (b == a)
    swap a b =
        ⊎_elim
        (λ (q : a ≡ b). eq-eqb a b q ∙ sym (eq-eqb b a (sym q)))
        (λ (n : a ≡ b → ⊥). ne_eqb a b n ∙ sym (ne_eqb b a (λ q. n (sym q))))
        (cases_eq a b)

pub unled_opens : (starts events : ℕ → Option ℕ) (next i : ℕ) (es : List (ℕ × OpenEvent))
    → starts i ≡ None → Each (IsStartedAt starts events next) es
    → list_any (λ (o : OpenEvent). i == o.event) (values_of es) ≡ false
unled_opens starts events next i [] led h = refl
unled_opens starts events next i (e ∷ es) led h =
    or_from (i == e.1.event) _ (ne_eqb i e.1.event
    (λ q. no_some e.0 (sym led ∙ (ap starts q ∙ h.0.led))))
    (unled_opens starts events next i es led h.1)

pub unled_find : (i : ℕ) (xs : List OpenEvent)
    → list_any (λ (o : OpenEvent). i == o.event) xs ≡ false
    → find (λ (o : OpenEvent). o.event == i) xs ≡ None
unled_find i [] h = refl
unled_find i (x ∷ xs) h =
    let both : ((i == x.event) ≡ false) × (list_any (λ (o : OpenEvent). i == o.event) xs ≡ false) =
    or_parts (i == x.event) _ h in
    cond-false (x.event == i) (Some x) (find (λ (o : OpenEvent). o.event == i) xs)
    (ne_eqb x.event i (λ q. both_ways _ both.0 (eq-eqb i x.event (sym q))))
    ∙ unled_find i xs both.1

pub find_is_any : (i : ℕ) (xs : List OpenEvent)
    → is_some (find (λ (o : OpenEvent). o.event == i) xs)
    ≡ list_any (λ (o : OpenEvent). o.event == i) xs
find_is_any i [] = refl
find_is_any i (x ∷ xs) = by_cases (find_is_any i xs) (x.event == i)
  where
    by_cases : is_some (find (λ (o : OpenEvent). o.event == i) xs)
        ≡ list_any (λ (o : OpenEvent). o.event == i) xs → (b : Bool)
        → is_some (cond b (Some x) (find (λ (o : OpenEvent). o.event == i) xs))
        ≡ (b || list_any (λ (o : OpenEvent). o.event == i) xs)
    by_cases rest true = refl
    by_cases rest false = rest

-- ---- handles

pub unheld_opens : (starts events : ℕ → Option ℕ) (next x : ℕ) (es : List (ℕ × OpenEvent))
    → events x ≡ None → Each (IsStartedAt starts events next) es
    → list_any (λ (o : OpenEvent). o.handle.0 == x) (values_of es) ≡ false
unheld_opens starts events next x [] held h = refl
unheld_opens starts events next x (e ∷ es) held h =
    or_from (e.1.handle.0 == x) _ (ne_eqb e.1.handle.0 x
    (λ q. no_some e.1.event (sym held ∙ (ap events (sym q) ∙ h.0.held))))
    (unheld_opens starts events next x es held h.1)

-- an open event of the handle has the number that the handle leads to
pub held_number : (starts events : ℕ → Option ℕ) (next x i : ℕ) (es : List (ℕ × OpenEvent))
    → events x ≡ Some i → Each (IsStartedAt starts events next) es
    → Each (λ (o : OpenEvent). o.handle.0 ≡ x → o.event ≡ i) (values_of es)
held_number starts events next x i [] held h = tt
held_number starts events next x i (e ∷ es) held h = (
  λ q. sym (some_is i e.1.event (sym held ∙ (ap events (sym q) ∙ h.0.held))),
  held_number starts events next x i es held h.1,
)

none_by_number : (x i : ℕ) (xs : List OpenEvent)
    → Each (λ (o : OpenEvent). o.handle.0 ≡ x → o.event ≡ i) xs
    → find (λ (o : OpenEvent). o.event == i) xs ≡ None
    → list_any (λ (o : OpenEvent). o.handle.0 == x) xs ≡ false
none_by_number x i [] h n = refl
none_by_number x i (a ∷ xs) h n =
    ⊎_elim
    (λ (t : (a.event == i) ≡ true). absurd
    (no_some a (sym (sym (cond-true (a.event == i) (Some a)
    (find (λ (o : OpenEvent). o.event == i) xs) t) ∙ n))))
    (λ (f : (a.event == i) ≡ false).
    or_from (a.handle.0 == x) _ (ne_eqb a.handle.0 x
    (λ q. both_ways _ f (eq-eqb a.event i (h.0 q))))
    (none_by_number x i xs h.1 (sym (cond-false (a.event == i) (Some a)
    (find (λ (o : OpenEvent). o.event == i) xs) f) ∙ n)))
    (cases_Bool (a.event == i))

found_any : (p q : OpenEvent → Bool) (xs : List OpenEvent) (b : OpenEvent) → find p xs ≡ Some b
    → q b ≡ true → list_any q xs ≡ true
found_any p q [] b is h = absurd (no_some b is)
found_any p q (x ∷ xs) b is h =
    ⊎_elim
    (λ (t : p x ≡ true). or_left (q x) (list_any q xs)
    (ap q (some_is x b (sym (cond-true (p x) (Some x) (find p xs) t) ∙ is)) ∙ h))
    (λ (f : p x ≡ false). or_right (q x) (list_any q xs)
    (found_any p q xs b (sym (cond-false (p x) (Some x) (find p xs) f) ∙ is) h))
    (cases_Bool (p x))

behind_none : (k : ℕ) (es : List (ℕ × OpenEvent))
    → AllByRecursion (λ y. nat_cmp k y ≡ Less) (keys_of es) → NonePasses (is_at (nat_cmp k)) es
behind_none k [] h = tt
behind_none k (e ∷ es) h = (ap is_eq h.0, behind_none k es h.1)

-- no two open events have one number
the_one : (i : ℕ) (k : ℕ) (es : List (ℕ × OpenEvent)) (b : OpenEvent)
    → IsStrictlySortedBy nat_cmp (keys_of es)
    → Agrees (is_at (nat_cmp k)) (λ (o : OpenEvent). o.event == i) es
    → lookup (is_at (nat_cmp k)) es ≡ Some b
    → Each (λ (o : OpenEvent). o.event ≡ i → o ≡ b) (values_of es)
the_one i k [] b s a is = tt
the_one i k (e ∷ es) b s a is =
    ⊎_elim
    (λ (t : is_at (nat_cmp k) e.0 ≡ true).
    let same : e.1 ≡ b = some_is e.1 b
    (sym (cond-true (is_at (nat_cmp k) e.0) (Some e.1) (lookup (is_at (nat_cmp k)) es) t) ∙ is)
    in
    let key : k ≡ e.0 = exact_unsigned k e.0 (is_equal (nat_cmp k e.0) t) in (
      λ q. same,
      others es a.1 (subst (λ (c : ℕ). NonePasses (is_at (nat_cmp c)) es) (sym key)
          (behind_none e.0 es (sorted_head nat_cmp e.0 (keys_of es) s))),
    ))
    (λ (f : is_at (nat_cmp k) e.0 ≡ false). (
      λ q. absurd (both_ways _ (a.0 ∙ f) (eq-eqb e.1.event i q)),
      the_one i k es b (sorted_tail nat_cmp e.0 (keys_of es) s) a.1
          (sym (cond-false (is_at (nat_cmp k) e.0) (Some e.1) (lookup (is_at (nat_cmp k)) es) f)
          ∙ is),
    ))
    (cases_Bool (is_at (nat_cmp k) e.0))
  where
    others : (fs : List (ℕ × OpenEvent))
        → Agrees (is_at (nat_cmp k)) (λ (o : OpenEvent). o.event == i) fs
        → NonePasses (is_at (nat_cmp k)) fs
        → Each (λ (o : OpenEvent). o.event ≡ i → o ≡ b) (values_of fs)
    others [] a n = tt
    others (f ∷ fs) a n = (
      λ q. absurd (both_ways _ (a.0 ∙ n.0) (eq-eqb f.1.event i q)),
      others fs a.1 n.1,
    )

none_busy : (x i : ℕ) (b : OpenEvent) (xs : List OpenEvent)
    → Each (λ (o : OpenEvent). o.handle.0 ≡ x → o.event ≡ i) xs
    → Each (λ (o : OpenEvent). o.event ≡ i → o ≡ b) xs → (b.handle.0 == x) ≡ false
    → list_any (λ (o : OpenEvent). o.handle.0 == x) xs ≡ false
none_busy x i b [] h one n = refl
none_busy x i b (a ∷ xs) h one n =
    or_from (a.handle.0 == x) _
    (ne_eqb a.handle.0 x (λ q. both_ways _ n
    (eq-eqb b.handle.0 x (ap (λ (o : OpenEvent). o.handle.0) (sym (one.0 (h.0 q))) ∙ q))))
    (none_busy x i b xs h.1 one.1 n)

pub busy_found : (starts events : ℕ → Option ℕ) (next x i : ℕ) (es : List (ℕ × OpenEvent))
    → events x ≡ Some i → IsOpenIndex es starts events next → (b : OpenEvent)
    → find (λ (o : OpenEvent). o.event == i) (values_of es) ≡ Some b
    → (b.handle.0 == x) ≡ list_any (λ (o : OpenEvent). o.handle.0 == x) (values_of es)
busy_found starts events next x i es held q b is = by_start (starts i) refl
  where
    by_start : (o : Option ℕ) → starts i ≡ o
        → (b.handle.0 == x) ≡ list_any (λ (o : OpenEvent). o.handle.0 == x) (values_of es)
    by_start None s = absurd (no_some b
        (sym (unled_find i (values_of es) (unled_opens starts events next i es s q.each)) ∙ is))
    by_start (Some k) s =
        let agrees : Agrees (is_at (nat_cmp k)) (λ (o : OpenEvent). o.event == i) es =
        led_opens starts events next i k es s q.each in
        let there : lookup (is_at (nat_cmp k)) es ≡ Some b =
        sym (find_looked_up (is_at (nat_cmp k)) (λ (o : OpenEvent). o.event == i) es agrees)
        ∙ is in
        ⊎_elim
        (λ (t : (b.handle.0 == x) ≡ true). t
        ∙ sym (found_any (λ (o : OpenEvent). o.event == i) (λ (o : OpenEvent). o.handle.0 == x)
        (values_of es) b is t))
        (λ (f : (b.handle.0 == x) ≡ false). f
        ∙ sym (none_busy x i b (values_of es)
        (held_number starts events next x i es held q.each)
        (the_one i k es b q.ordered agrees there) f))
        (cases_Bool (b.handle.0 == x))

pub idle_unfound : (starts events : ℕ → Option ℕ) (next x i : ℕ) (es : List (ℕ × OpenEvent))
    → events x ≡ Some i → Each (IsStartedAt starts events next) es
    → find (λ (o : OpenEvent). o.event == i) (values_of es) ≡ None
    → list_any (λ (o : OpenEvent). o.handle.0 == x) (values_of es) ≡ false
idle_unfound starts events next x i es held h n =
    none_by_number x i (values_of es) (held_number starts events next x i es held h) n

-- ---- an event leaves

pub none_held : (x i : ℕ) (xs : List OpenEvent)
    → Each (λ (o : OpenEvent). o.handle.0 ≡ x → o.event ≡ i) xs
    → list_any (λ (o : OpenEvent). o.handle.0 == x)
    (filter (λ (o : OpenEvent). not (i == o.event)) xs) ≡ false
none_held x i [] h = refl
none_held x i (a ∷ xs) h =
    ⊎_elim
    (λ (t : (i == a.event) ≡ true). ap (list_any (λ (o : OpenEvent). o.handle.0 == x))
    (cond-false (not (i == a.event)) (a ∷ filter (λ (o : OpenEvent). not (i == o.event)) xs) _
    (ap not t)) ∙ none_held x i xs h.1)
    (λ (f : (i == a.event) ≡ false).
    ap (list_any (λ (o : OpenEvent). o.handle.0 == x))
    (cond-true (not (i == a.event)) (a ∷ filter (λ (o : OpenEvent). not (i == o.event)) xs) _
    (ap not f))
    ∙ or_from (a.handle.0 == x) _ (ne_eqb a.handle.0 x
    (λ q. both_ways _ f (eq-eqb i a.event (sym (h.0 q))))) (none_held x i xs h.1))
    (cases_Bool (i == a.event))

pub none_still : (p q : OpenEvent → Bool) (xs : List OpenEvent) → list_any p xs ≡ false
    → list_any p (filter q xs) ≡ false
none_still p q [] h = refl
none_still p q (a ∷ xs) h =
    let both : (p a ≡ false) × (list_any p xs ≡ false) = or_parts (p a) (list_any p xs) h in
    ⊎_elim
    (λ (t : q a ≡ true). ap (list_any p) (cond-true (q a) (a ∷ filter q xs) (filter q xs) t)
    ∙ or_from (p a) _ both.0 (none_still p q xs both.1))
    (λ (f : q a ≡ false). ap (list_any p) (cond-false (q a) (a ∷ filter q xs) (filter q xs) f)
    ∙ none_still p q xs both.1)
    (cases_Bool (q a))

-- ---- an event is opened

-- a number that leads to a start now led there before, or it is that of the start to come
abbrev pub IsLedAs : (ℕ → Option ℕ) → (ℕ → Option ℕ) → ℕ → Type 0
IsLedAs starts starts_then next = (i k : ℕ) → starts_then i ≡ Some k → (starts i ≡ Some k)
    ⊎ (k ≡ next)

pub led_now : (starts starts_then : ℕ → Option ℕ) (next i : ℕ)
    → ((q : ℕ) → (q ≡ i → ⊥) → starts_then q ≡ starts q) → starts_then i ≡ Some next
    → IsLedAs starts starts_then next
led_now starts starts_then next i same is q k led =
    ⊎_elim
    (λ (m : q ≡ i). inr (some_is k next (sym led ∙ (ap starts_then m ∙ is))))
    (λ (m : q ≡ i → ⊥). inl (sym (same q m) ∙ led))
    (cases_eq q i)

-- the number of an event alone leads to the start to come
pub led_only : (starts starts_then : ℕ → Option ℕ) (next i : ℕ)
    → ((q : ℕ) → (q ≡ i → ⊥) → starts_then q ≡ starts q)
    → ((j k : ℕ) → starts j ≡ Some k → k < next) → (j : ℕ) → starts_then j ≡ Some next → j ≡ i
led_only starts starts_then next i same past j led =
    ⊎_elim
    (λ (m : j ≡ i). m)
    (λ (m : j ≡ i → ⊥). let before : next < next = past j next (sym (same j m) ∙ led) in
    absurd (omega arith))
    (cases_eq j i)

pub past_opens : (starts starts_then : ℕ → Option ℕ) (next later : ℕ)
    → IsLedAs starts starts_then next → next < later → ((i k : ℕ) → starts i ≡ Some k → k < next)
    → (i k : ℕ) → starts_then i ≡ Some k → k < later
past_opens starts starts_then next later leads lt past i k led =
    ⊎_elim
    (λ (was : starts i ≡ Some k). let before : k < next = past i k was in omega arith)
    (λ (is : k ≡ next). omega arith)
    (leads i k led)

pub kept_opens : (starts starts_then events events_then : ℕ → Option ℕ) (next later i x : ℕ)
    (es : List (ℕ × OpenEvent)) → ((q : ℕ) → (q ≡ i → ⊥) → starts_then q ≡ starts q)
    → IsLedAs starts starts_then next → ((q : ℕ) → (q ≡ x → ⊥) → events_then q ≡ events q)
    → next ≤ later
    → list_any (λ (o : OpenEvent). i == o.event) (values_of es) ≡ false
    → list_any (λ (o : OpenEvent). o.handle.0 == x) (values_of es) ≡ false
    → Each (IsStartedAt starts events next) es
    → Each (IsStartedAt starts_then events_then later) es
kept_opens starts starts_then events events_then next later i x [] s leads e le n m h = tt
kept_opens starts starts_then events events_then next later i x (f ∷ es) s leads e le n m h =
    let no : ((i == f.1.event) ≡ false)
    × (list_any (λ (o : OpenEvent). i == o.event) (values_of es) ≡ false) =
    or_parts (i == f.1.event) _ n in
    let free : ((f.1.handle.0 == x) ≡ false)
    × (list_any (λ (o : OpenEvent). o.handle.0 == x) (values_of es) ≡ false) =
    or_parts (f.1.handle.0 == x) _ m in
    let below : f.0 < next = h.0.below in (
      record {
        led = s f.1.event (λ q. both_ways _ no.0 (eq-eqb i f.1.event (sym q))) ∙ h.0.led;
        only = λ j led. ⊎_elim (λ (was : starts j ≡ Some f.0). h.0.only j was)
            (λ (is : f.0 ≡ next). absurd (omega arith)) (leads j f.0 led);
        held = e f.1.handle.0 (λ q. both_ways _ free.0 (eq-eqb f.1.handle.0 x q)) ∙ h.0.held;
        below = omega arith;
      },
      kept_opens starts starts_then events events_then next later i x es s leads e le no.1 free.1
          h.1,
    )

pub opened_last : (starts events : ℕ → Option ℕ) (next : ℕ) (o : OpenEvent)
    (es : List (ℕ × OpenEvent)) → Each (IsStartedAt starts events next) es
    → values_of (insert_entry nat_cmp es next o) ≡ values_of es ++ o ∷ []
opened_last starts events next o [] h = refl
opened_last starts events next o (e ∷ es) h =
    ap (λ (c : Ordering). values_of (match_ordering c ((next, o) ∷ e ∷ es) ((e.0, o) ∷ es)
    (e ∷ insert_entry nat_cmp es next o))) (cmp_greater next e.0 h.0.below)
    ∙ ap (λ xs. e.1 ∷ xs) (opened_last starts events next o es h.1)
