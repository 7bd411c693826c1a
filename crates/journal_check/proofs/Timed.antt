-- Steps of the index of the armed timers.
use Rattle.std.proofs.Common.{ℕ, ◌≡◌, ◌<◌, ◌==◌, Bool, true, false, not, ◌&&◌, List, [], ◌∷◌, refl}
use Rattle.std.proofs.Common.{sym, ap, ◌∙◌, arith, cond, Option, Some, None, ◌⊎◌, inl, inr, ⊎_elim}
use Rattle.std.proofs.lemmas.Bool.{both_ways, false_from_ne_true, cases_Bool, cases_eq, cases_order}
use Rattle.std.proofs.lemmas.Bool.{cond-true, cond-false, eq-eqb, ne_eqb, lt-ltb, le-ltb, and_from}
use Rattle.std.proofs.lemmas.Bool.{and_right, and_left, or_parts, or_left, or_right, or_from}
use Rattle.std.proofs.lemmas.Map.Lookups.{exact_pairs, exact_unsigned}
use Rattle.std.specs.BTreeMap.{is_at, insert_entry}
use Rattle.std.specs.List.{filter, list_any}
use Rattle.std.specs.Map.{values_of}
use Rattle.std.specs.Ordering.{nat_cmp, is_eq, is_gt, match_ordering}
use Rattle.std.specs.declared.cmp.Ordering.{Ordering}
use Rattle.std.specs.declared.cmp.Ordering.TheVariants.{Less, Equal, Greater}
use Rattle.reactor_summary.specs.declared.parts.ArmedTimer.{ArmedTimer}
use Rattle.reactor_summary.specs.Summary as S
use Rattle.reactor_summary.proofs.Lists.{some_is, each_same}
use Rattle.journal_check.specs.Index.{pair_cmp, IsArmedAt, IsIndexed}
use Rattle.journal_check.proofs.Keyed.{Agrees, filter_all, none_left}

pub cmp_less : (x y : ℕ) → x < y → nat_cmp x y ≡ Less
cmp_less x y h = cond-true _ Less _ (lt-ltb x y h)

pub cmp_equal : (x y : ℕ) → x ≡ y → nat_cmp x y ≡ Equal
cmp_equal x y h = cond-false _ Less _ (le-ltb x y (omega arith))
    ∙ cond-true _ Equal Greater (eq-eqb x y h)

pub cmp_greater : (x y : ℕ) → y < x → nat_cmp x y ≡ Greater
cmp_greater x y h = cond-false _ Less _ (le-ltb x y (omega arith))
    ∙ cond-false _ Equal Greater (ne_eqb x y (λ q. absurd (omega arith)))

pub pair_same : (d t c u : ℕ) → d ≡ c → t ≡ u → is_eq (pair_cmp (d, t) (c, u)) ≡ true
pair_same d t c u p q = rw (cmp_equal d c p, cmp_equal t u q) refl

pub pair_other : (d t c u : ℕ) → (t ≡ u → ⊥) → is_eq (pair_cmp (d, t) (c, u)) ≡ false
pair_other d t c u n =
    ⊎_elim
    (λ (p : d ≡ c).
    ⊎_elim
    (λ (q : t ≡ u). absurd (n q))
    (⊎_elim
    (λ (q : t < u). rw (cmp_equal d c p, cmp_less t u q) refl)
    (λ (q : u < t). rw (cmp_equal d c p, cmp_greater t u q) refl))
    (cases_order t u))
    (⊎_elim
    (λ (p : d < c). rw (cmp_less d c p) refl)
    (λ (p : c < d). rw (cmp_greater d c p) refl))
    (cases_order d c)

-- if the number leads to a timer, a test of the number is one of the key
pub led_agrees : (lead : ℕ → Option ArmedTimer) (owns : ℕ × ℕ → Bool) (t : ℕ) (a : ArmedTimer)
    (es : List ((ℕ × ℕ) × ArmedTimer)) → lead t ≡ Some a → IsIndexed es lead owns
    → Agrees (is_at (pair_cmp (a.deadline, t))) (λ (b : ArmedTimer). b.timer == t) es
led_agrees lead owns t a es led h =
    each_same (IsArmedAt lead owns) (λ (e : (ℕ × ℕ) × ArmedTimer). (e.1.timer == t)
    ≡ is_at (pair_cmp (a.deadline, t)) e.0) es at h
  where
    at : (e : (ℕ × ℕ) × ArmedTimer) → IsArmedAt lead owns e
        → (e.1.timer == t) ≡ is_at (pair_cmp (a.deadline, t)) e.0
    at e i =
        ap (λ (b : Bool). b) (⊎_elim
        (λ (q : e.1.timer ≡ t).
        let same : a ≡ e.1 = some_is a e.1 (sym led ∙ (ap lead (sym q) ∙ i.led)) in
        eq-eqb e.1.timer t q ∙ sym (pair_same a.deadline t e.1.deadline e.1.timer
        (ap (λ (b : ArmedTimer). b.deadline) same) (sym q)))
        (λ (n : e.1.timer ≡ t → ⊥). ne_eqb e.1.timer t n
        ∙ sym (pair_other a.deadline t e.1.deadline e.1.timer (λ q. n (sym q))))
        (cases_eq e.1.timer t))
        ∙ ap (is_at (pair_cmp (a.deadline, t))) (sym i.key)

-- if it leads to none, no timer of that number is armed
pub unled_none : (lead : ℕ → Option ArmedTimer) (owns : ℕ × ℕ → Bool) (t : ℕ)
    (es : List ((ℕ × ℕ) × ArmedTimer)) → lead t ≡ None → IsIndexed es lead owns
    → list_any (λ (b : ArmedTimer). b.timer == t) (values_of es) ≡ false
unled_none lead owns t [] led h = refl
unled_none lead owns t (e ∷ es) led h =
    or_from (e.1.timer == t) _ (ne_eqb e.1.timer t
    (λ q. none (sym led ∙ (ap lead (sym q) ∙ h.0.led)))) (unled_none lead owns t es led h.1)
  where
    none : ◌≡◌ {A = Option ArmedTimer} None (Some e.1) → ⊥
    none q = cc

-- a timer of another number stands before or after
Stands : ArmedTimer → ArmedTimer → Ordering → Type 0
Stands a b o = ((o ≡ Less) × (S.comes_before a b ≡ true))
    ⊎ ((o ≡ Greater) × (S.comes_before a b ≡ false))

stands : (a b : ArmedTimer) → (a.timer ≡ b.timer → ⊥)
    → Stands a b (pair_cmp (a.deadline, a.timer) (b.deadline, b.timer))
unfolding Stands
stands a b n =
    ⊎_elim
    (λ (p : a.deadline ≡ b.deadline).
    ⊎_elim
    (λ (q : a.timer ≡ b.timer). absurd (n q))
    (⊎_elim
    (λ (q : a.timer < b.timer). inl (
      rw
          (cmp_equal a.deadline b.deadline p, cmp_less a.timer b.timer q) refl,
      or_right _ _ (and_from _ _ (eq-eqb a.deadline b.deadline p) (lt-ltb a.timer b.timer q)),
    ))
    (λ (q : b.timer < a.timer). inr (
      rw
          (cmp_equal a.deadline b.deadline p, cmp_greater a.timer b.timer q) refl,
      or_from _ _ (le-ltb a.deadline b.deadline (omega arith))
          (and_right _ _ (le-ltb a.timer b.timer (omega arith))),
    )))
    (cases_order a.timer b.timer))
    (⊎_elim
    (λ (p : a.deadline < b.deadline). inl
    (rw (cmp_less a.deadline b.deadline p) refl, or_left _ _ (lt-ltb a.deadline b.deadline p)))
    (λ (p : b.deadline < a.deadline). inr (
      rw (cmp_greater a.deadline b.deadline p) refl,
      or_from _ _ (le-ltb a.deadline b.deadline (omega arith))
          (and_left _ _ (ne_eqb a.deadline b.deadline (λ q. absurd (omega arith)))),
    )))
    (cases_order a.deadline b.deadline)

-- a timer is put at its place
pub armed_inserted : (lead : ℕ → Option ArmedTimer) (owns : ℕ × ℕ → Bool) (a : ArmedTimer)
    (es : List ((ℕ × ℕ) × ArmedTimer)) → IsIndexed es lead owns
    → list_any (λ (b : ArmedTimer). b.timer == a.timer) (values_of es) ≡ false
    → values_of (insert_entry pair_cmp es (a.deadline, a.timer) a) ≡ S.with_timer a (values_of es)
unfolding Stands
armed_inserted lead owns a [] h n = refl
armed_inserted lead owns a (e ∷ es) h n =
    let both : ((e.1.timer == a.timer) ≡ false)
    × (list_any (λ (b : ArmedTimer). b.timer == a.timer) (values_of es) ≡ false) =
    or_parts (e.1.timer == a.timer) _ n in
    let rest : List ((ℕ × ℕ) × ArmedTimer) = insert_entry pair_cmp es (a.deadline, a.timer) a in
    ap (λ (k : ℕ × ℕ). values_of (match_ordering (pair_cmp (a.deadline, a.timer) k)
    (((a.deadline, a.timer), a) ∷ e ∷ es) ((e.0, a) ∷ es)
    (e ∷ insert_entry pair_cmp es (a.deadline, a.timer) a))) h.0.key
    ∙ ⊎_elim
    (λ (s : (pair_cmp (a.deadline, a.timer) (e.1.deadline, e.1.timer) ≡ Less)
    × (S.comes_before a e.1 ≡ true)).
    ap (λ (o : Ordering). values_of (match_ordering o (((a.deadline, a.timer), a) ∷ e ∷ es)
    ((e.0, a) ∷ es) (e ∷ insert_entry pair_cmp es (a.deadline, a.timer) a))) s.0
    ∙ sym (cond-true (S.comes_before a e.1) _ _ s.1))
    (λ (s : (pair_cmp (a.deadline, a.timer) (e.1.deadline, e.1.timer) ≡ Greater)
    × (S.comes_before a e.1 ≡ false)).
    ap (λ (o : Ordering). values_of (match_ordering o (((a.deadline, a.timer), a) ∷ e ∷ es)
    ((e.0, a) ∷ es) (e ∷ insert_entry pair_cmp es (a.deadline, a.timer) a))) s.0
    ∙ (ap (λ xs. e.1 ∷ xs) (armed_inserted lead owns a es h.1 both.1)
    ∙ sym (cond-false (S.comes_before a e.1) _ _ s.1)))
    (stands a e.1 (λ q. both_ways _ both.0 (eq-eqb e.1.timer a.timer (sym q))))

-- ---- what the numbers lead to, after one more

pub kept_indexed : (lead later : ℕ → Option ArmedTimer) (owns also : ℕ × ℕ → Bool) (t : ℕ)
    (es : List ((ℕ × ℕ) × ArmedTimer)) → ((q : ℕ) → (q ≡ t → ⊥) → later q ≡ lead q)
    → ((q : ℕ × ℕ) → owns q ≡ true → also q ≡ true)
    → list_any (λ (b : ArmedTimer). b.timer == t) (values_of es) ≡ false → IsIndexed es lead owns
    → IsIndexed es later also
kept_indexed lead later owns also t [] same more n h = tt
kept_indexed lead later owns also t (e ∷ es) same more n h =
    let both : ((e.1.timer == t) ≡ false)
    × (list_any (λ (b : ArmedTimer). b.timer == t) (values_of es) ≡ false) =
    or_parts (e.1.timer == t) _ n in (
      record {
        key = h.0.key;
        led = same e.1.timer (λ q. both_ways _ both.0 (eq-eqb e.1.timer t q)) ∙ h.0.led;
        owned = more _ h.0.owned;
      },
      kept_indexed lead later owns also t es same more both.1 h.1,
    )

pub pair_exact : (x y : ℕ × ℕ) → pair_cmp x y ≡ Equal → x ≡ y
pair_exact = exact_pairs nat_cmp nat_cmp exact_unsigned exact_unsigned

-- if a set has a key more, it has those that it had
pub more_owned : (owns also : ℕ × ℕ → Bool) (k : ℕ × ℕ)
    → ((q : ℕ × ℕ) → also q ≡ cond (is_at (pair_cmp k) q) true (owns q)) → (q : ℕ × ℕ)
    → owns q ≡ true → also q ≡ true
more_owned owns also k h q o = h q ∙ either (is_at (pair_cmp k) q)
  where
    either : (b : Bool) → cond b true (owns q) ≡ true
    either true = refl
    either false = o

pub is_equal : (o : Ordering) → is_eq o ≡ true → o ≡ Equal
is_equal Less h = absurd cc
is_equal Equal h = refl
is_equal Greater h = absurd cc

-- ---- the timers of a handle

pub pair_from : (x t : ℕ) → is_gt (pair_cmp (x, 0) (x, t)) ≡ false
pair_from x t =
    ⊎_elim
    (λ (q : 0 ≡ t). rw (cmp_equal x x refl, cmp_equal 0 t q) refl)
    (⊎_elim
    (λ (q : 0 < t). rw (cmp_equal x x refl, cmp_less 0 t q) refl)
    (λ (q : t < 0). absurd (omega arith)))
    (cases_order 0 t)

pub pair_between : (x : ℕ) (k : ℕ × ℕ) (t : ℕ) → is_gt (pair_cmp (x, 0) k) ≡ false
    → is_gt (pair_cmp k (x, t)) ≡ false → k.0 ≡ x
pair_between x k t low high =
    ⊎_elim
    (λ (q : k.0 ≡ x). q)
    (⊎_elim
    (λ (q : k.0 < x). let up : nat_cmp x k.0 ≡ Greater = cmp_greater x k.0 q in
    let is : is_gt (pair_cmp (x, 0) k) ≡ true = rw up refl in absurd (both_ways _ low is))
    (λ (q : x < k.0). let up : nat_cmp k.0 x ≡ Greater = cmp_greater k.0 x q in
    let is : is_gt (pair_cmp k (x, t)) ≡ true = rw up refl in absurd (both_ways _ high is)))
    (cases_order k.0 x)

abbrev pub of_both : ℕ → ℕ → ArmedTimer → Bool
of_both x t a = a.handle.0 == x && a.timer == t

-- if the number leads to a timer of the handle, each armed timer of the number is of the handle
pub both_same : (lead : ℕ → Option ArmedTimer) (owns : ℕ × ℕ → Bool) (x t : ℕ) (a : ArmedTimer)
    (es : List ((ℕ × ℕ) × ArmedTimer)) → lead t ≡ Some a → a.handle.0 ≡ x → IsIndexed es lead owns
    → filter (λ b. not (b.timer == t)) (values_of es)
    ≡ filter (λ b. not (of_both x t b)) (values_of es)
both_same lead owns x t a [] led mine h = refl
both_same lead owns x t a (e ∷ es) led mine h =
    ap (λ b. cond (not b) (e.1 ∷ filter (λ b. not (b.timer == t)) (values_of es))
    (filter (λ b. not (b.timer == t)) (values_of es))) same
    ∙ ap (λ ys. cond (not (of_both x t e.1)) (e.1 ∷ ys) ys)
    (both_same lead owns x t a es led mine h.1)
  where
    same : (e.1.timer == t) ≡ of_both x t e.1
    same =
        ⊎_elim
        (λ (q : e.1.timer ≡ t).
        let is : a ≡ e.1 = some_is a e.1 (sym led ∙ (ap lead (sym q) ∙ h.0.led)) in
        eq-eqb e.1.timer t q ∙ sym (and_from (e.1.handle.0 == x) (e.1.timer == t)
        (eq-eqb e.1.handle.0 x (ap (λ (b : ArmedTimer). b.handle.0) (sym is) ∙ mine))
        (eq-eqb e.1.timer t q)))
        (λ (n : e.1.timer ≡ t → ⊥). ne_eqb e.1.timer t n
        ∙ sym (and_right (e.1.handle.0 == x) (e.1.timer == t) (ne_eqb e.1.timer t n)))
        (cases_eq e.1.timer t)

-- if it leads to one of another handle, none is of both
pub both_none : (lead : ℕ → Option ArmedTimer) (owns : ℕ × ℕ → Bool) (x t : ℕ) (a : ArmedTimer)
    (es : List ((ℕ × ℕ) × ArmedTimer)) → lead t ≡ Some a → (a.handle.0 ≡ x → ⊥)
    → IsIndexed es lead owns
    → list_any (of_both x t) (values_of es) ≡ false
both_none lead owns x t a [] led other h = refl
both_none lead owns x t a (e ∷ es) led other h =
    or_from (of_both x t e.1) _
    (⊎_elim
    (λ (q : e.1.timer ≡ t).
    let is : a ≡ e.1 = some_is a e.1 (sym led ∙ (ap lead (sym q) ∙ h.0.led)) in
    and_left _ _ (ne_eqb e.1.handle.0 x (λ m. other (ap (λ (b : ArmedTimer). b.handle.0) is ∙ m))))
    (λ (n : e.1.timer ≡ t → ⊥). and_right (e.1.handle.0 == x) (e.1.timer == t)
    (ne_eqb e.1.timer t n))
    (cases_eq e.1.timer t))
    (both_none lead owns x t a es led other h.1)

pub none_of_both : (x t : ℕ) (xs : List ArmedTimer)
    → list_any (λ (b : ArmedTimer). b.timer == t) xs ≡ false → list_any (of_both x t) xs ≡ false
none_of_both x t [] h = refl
none_of_both x t (a ∷ xs) h =
    let both : ((a.timer == t) ≡ false) × (list_any (λ (b : ArmedTimer). b.timer == t) xs ≡ false) =
    or_parts (a.timer == t) _ h in
    or_from (of_both x t a) _ (and_right (a.handle.0 == x) (a.timer == t) both.0)
    (none_of_both x t xs both.1)

-- the others of the handle leave as well
pub handle_filtered : (x t : ℕ) (xs : List ArmedTimer)
    → filter (λ a. not (a.handle.0 == x)) (filter (λ a. not (of_both x t a)) xs)
    ≡ filter (λ a. not (a.handle.0 == x)) xs
handle_filtered x t [] = refl
handle_filtered x t (a ∷ xs) =
    ⊎_elim
    (λ (m : (a.handle.0 == x) ≡ true).
    ⊎_elim
    (λ (b : of_both x t a ≡ true). ap (filter (λ a. not (a.handle.0 == x)))
    (cond-false (not (of_both x t a)) _ _ (ap not b))
    ∙ (handle_filtered x t xs ∙ sym (cond-false (not (a.handle.0 == x)) _ _ (ap not m))))
    (λ (b : of_both x t a ≡ false).
    ap (filter (λ a. not (a.handle.0 == x))) (cond-true (not (of_both x t a)) _ _ (ap not b))
    ∙ (cond-false (not (a.handle.0 == x)) _ _ (ap not m)
    ∙ (handle_filtered x t xs ∙ sym (cond-false (not (a.handle.0 == x)) _ _ (ap not m)))))
    (cases_Bool (of_both x t a)))
    (λ (m : (a.handle.0 == x) ≡ false).
    ap (filter (λ a. not (a.handle.0 == x)))
    (cond-true (not (of_both x t a)) _ _ (ap not (and_left (a.handle.0 == x) (a.timer == t) m)))
    ∙ (cond-true (not (a.handle.0 == x)) _ _ (ap not m)
    ∙ (ap (λ ys. a ∷ ys) (handle_filtered x t xs)
    ∙ sym (cond-true (not (a.handle.0 == x)) _ _ (ap not m)))))
    (cases_Bool (a.handle.0 == x))

-- a key leaves the set, and no timer of it is armed
pub indexed_less : (lead : ℕ → Option ArmedTimer) (owns fewer : ℕ × ℕ → Bool) (x t : ℕ)
    (es : List ((ℕ × ℕ) × ArmedTimer))
    → ((q : ℕ × ℕ) → is_at (pair_cmp (x, t)) q ≡ false → fewer q ≡ owns q)
    → list_any (of_both x t) (values_of es) ≡ false → IsIndexed es lead owns
    → IsIndexed es lead fewer
indexed_less lead owns fewer x t [] less n h = tt
indexed_less lead owns fewer x t (e ∷ es) less n h =
    let both : (of_both x t e.1 ≡ false) × (list_any (of_both x t) (values_of es) ≡ false) =
    or_parts (of_both x t e.1) _ n in (
      record {
        key = h.0.key;
        led = h.0.led;
        owned = less (e.1.handle.0, e.1.timer) (apart both.0) ∙ h.0.owned;
      },
      indexed_less lead owns fewer x t es less both.1 h.1,
    )
  where
    apart : of_both x t e.1 ≡ false → is_at (pair_cmp (x, t)) (e.1.handle.0, e.1.timer) ≡ false
    apart f = false_from_ne_true _ (λ at.
        let same : ◌≡◌ {A = ℕ × ℕ} (x, t) (e.1.handle.0, e.1.timer) =
        pair_exact (x, t) (e.1.handle.0, e.1.timer) (is_equal _ at) in
        both_ways _ f (and_from (e.1.handle.0 == x) (e.1.timer == t)
        (eq-eqb e.1.handle.0 x (sym (ap (λ (k : ℕ × ℕ). k.0) same)))
        (eq-eqb e.1.timer t (sym (ap (λ (k : ℕ × ℕ). k.1) same)))))

-- if the set has no number of the handle, none of its timers is armed
pub none_owned : (lead : ℕ → Option ArmedTimer) (owns : ℕ × ℕ → Bool) (x : ℕ)
    (es : List ((ℕ × ℕ) × ArmedTimer)) → ((t : ℕ) → owns (x, t) ≡ false) → IsIndexed es lead owns
    → list_any (λ (a : ArmedTimer). a.handle.0 == x) (values_of es) ≡ false
none_owned lead owns x [] none h = refl
none_owned lead owns x (e ∷ es) none h =
    or_from (e.1.handle.0 == x) _
    (ne_eqb e.1.handle.0 x (λ q. both_ways _ (none e.1.timer)
    (ap (λ (y : ℕ). owns (y, e.1.timer)) (sym q) ∙ h.0.owned)))
    (none_owned lead owns x es none h.1)

pub num_other : (t q : ℕ) → (q ≡ t → ⊥) → is_at (nat_cmp t) q ≡ false
num_other t q n =
    ⊎_elim
    (λ (e : t ≡ q). absurd (n (sym e)))
    (⊎_elim
    (λ (l : t < q). rw (cmp_less t q l) refl)
    (λ (l : q < t). rw (cmp_greater t q l) refl))
    (cases_order t q)

-- while the timers of a handle are taken away: the others are those that were armed
pub record Disarming (x : ℕ) (begun es : List ((ℕ × ℕ) × ArmedTimer)) (lead : ℕ → Option ArmedTimer)
    (owns : ℕ × ℕ → Bool) : Type 0 where
  pub indexed : IsIndexed es lead owns
  pub left : filter (λ a. not (a.handle.0 == x)) (values_of es)
      ≡ filter (λ a. not (a.handle.0 == x)) (values_of begun)

pub disarming_more : (x t : ℕ) (begun es later : List ((ℕ × ℕ) × ArmedTimer))
    (lead : ℕ → Option ArmedTimer) (owns fewer : ℕ × ℕ → Bool)
    → values_of later ≡ filter (λ a. not (of_both x t a)) (values_of es) → IsIndexed later lead owns
    → ((q : ℕ × ℕ) → is_at (pair_cmp (x, t)) q ≡ false → fewer q ≡ owns q)
    → Disarming x begun es lead owns → Disarming x begun later lead fewer
disarming_more x t begun es later lead owns fewer gone indexed less d =
    record {
      indexed = indexed_less lead owns fewer x t later less
          (ap (list_any (of_both x t)) gone ∙ none_left (of_both x t) (values_of es)) indexed;
      left = ap (filter (λ a. not (a.handle.0 == x))) gone
          ∙ (handle_filtered x t (values_of es) ∙ d.left);
    }

pub disarmed : (x : ℕ) (begun es : List ((ℕ × ℕ) × ArmedTimer)) (lead : ℕ → Option ArmedTimer)
    (owns : ℕ × ℕ → Bool) → ((t : ℕ) → owns (x, t) ≡ false) → Disarming x begun es lead owns
    → values_of es ≡ filter (λ a. not (a.handle.0 == x)) (values_of begun)
disarmed x begun es lead owns none d =
    sym (filter_all (λ (a : ArmedTimer). a.handle.0 == x) (values_of es)
    (none_owned lead owns x es none d.indexed)) ∙ d.left
