-- The timers of one spoke, when the whole list gains or loses a timer.
use Rattle.std.proofs.Common.{◌≡◌, ◌≢◌, ◌==◌, Bool, true, false, not, List, [], ◌∷◌, ◌++◌, refl}
use Rattle.std.proofs.Common.{sym, ap, ◌∙◌, subst, ◌⊎◌, inl, inr}
use Rattle.std.proofs.lemmas.Bool.{and_parts, and_from, or_parts, not-true, both_ways, cases_Bool}
use Rattle.std.proofs.lemmas.Bool.{eq-eqb, ne_eqb, eqb-true, eqb-false}
use Rattle.std.specs.List.{list_all, filter}
use Rattle.timer_queue.specs.declared.timer.Timer.{Timer}
use Rattle.timer_queue.specs.Timers.{comes_before, is_rising, is_scheduled, names_once, with_timer}
use Rattle.timer_queue.specs.Timers.{without_timer, IsSchedule}
use Rattle.timer_queue.proofs.Schedules.{before_not, before_other, none_filtered, schedule_filtered}
use Rattle.timer_queue.proofs.Schedules.{schedule_with}
use Rattle.timer_queue.proofs.Members.{Among, any_among, among_filter, among_filtered, among_with}
use Rattle.timer_queue.proofs.Members.{among_within, rising_same}
use Rattle.timer_wheel.proofs.Links.{among_left, among_right}

module _ (q : Timer → Bool) (t : Timer) (timers : List Timer) (h : IsSchedule timers)
    (fresh : is_scheduled t.timer timers ≡ false) where
  pub filter_with : q t ≡ true → filter q (with_timer t timers) ≡ with_timer t (filter q timers)
  filter_with passes =
      rising_same (filter q (with_timer t timers)) (with_timer t (filter q timers))
      (schedule_filtered q (with_timer t timers) (schedule_with t timers fresh h)).rising
      (schedule_with t (filter q timers) (none_filtered (λ u. u.timer == t.timer) q timers fresh)
      (schedule_filtered q timers h)).rising (record {
        there = λ u a.
            let f = among_filter q u (with_timer t timers) a in
            among_within t u (filter q timers)
            (elim (among_with t u timers f.0) [
              | inl e ↦ inl e
              | inr b ↦ inr
                  (among_filtered q u timers b f.1)
            ]);
        back = λ u a. elim (among_with t u (filter q timers) a) [
          | inl e ↦ among_filtered q u (with_timer t timers) (among_within t u timers (inl e))
              (ap q (sym e) ∙ passes)
          | inr b ↦ let f = among_filter q u timers b in
              among_filtered q u (with_timer t timers) (among_within t u timers (inr f.0)) f.1
        ];
      })

  pub filter_with_other : q t ≡ false → filter q (with_timer t timers) ≡ filter q timers
  filter_with_other out =
      rising_same (filter q (with_timer t timers)) (filter q timers)
      (schedule_filtered q (with_timer t timers) (schedule_with t timers fresh h)).rising
      (schedule_filtered q timers h).rising (record {
        there = λ u a.
            let f = among_filter q u (with_timer t timers) a in
            elim (among_with t u timers f.0) [
              | inl e ↦ absurd (both_ways (q t) out (ap q e ∙ f.1))
              | inr b ↦ among_filtered q u timers b f.1
            ];
        back = λ u a. let f = among_filter q u timers a in
            among_filtered q u (with_timer t timers) (among_within t u timers (inr f.0)) f.1;
      })

-- ---- one timer less

rising_without : (front back : List Timer) (t : Timer) → is_rising (front ++ t ∷ back) ≡ true
    → is_rising (front ++ back) ≡ true
rising_without [] back t h = (and_parts (list_all (λ u. comes_before t u) back) (is_rising back)
    h).1
rising_without (u ∷ front) back t h =
    let p : (list_all (λ v. comes_before u v) (front ++ t ∷ back) ≡ true)
    × (is_rising (front ++ t ∷ back) ≡ true) =
    and_parts (list_all (λ v. comes_before u v) (front ++ t ∷ back))
    (is_rising (front ++ t ∷ back)) h in
    and_from (list_all (λ v. comes_before u v) (front ++ back)) _ (all_without front p.0)
    (rising_without front back t p.1)
  where
    all_without : (xs : List Timer) → list_all (λ v. comes_before u v) (xs ++ t ∷ back) ≡ true
        → list_all (λ v. comes_before u v) (xs ++ back) ≡ true
    all_without [] h = (and_parts (comes_before u t) (list_all (λ v. comes_before u v) back) h).1
    all_without (x ∷ xs) h =
        let p : (comes_before u x ≡ true) × (list_all (λ v. comes_before u v) (xs ++ t ∷ back)
        ≡ true) = and_parts (comes_before u x)
        (list_all (λ v. comes_before u v) (xs ++ t ∷ back)) h in
        and_from (comes_before u x) _ p.0 (all_without xs p.1)

among_parts : (u : Timer) (front back : List Timer) → Among u (front ++ back) → Among u front
    ⊎ Among u back
among_parts u [] back a = inr a
among_parts u (v ∷ front) back (inl e) = inl (inl e)
among_parts u (v ∷ front) back (inr a) =
    elim (among_parts u front back a) [ inl x ↦ inl (inr x) | inr y ↦ inr y ]

pub once_without : (front back : List Timer) (t u : Timer) → names_once (front ++ t ∷ back) ≡ true
    → Among u (front ++ back) → u.timer ≢ t.timer
once_without front back t u once a e =
    elim (among_parts u front back a) [
      | inl x ↦ absurd (in_front front once x)
      | inr y ↦ absurd (in_back front once y)
    ]
  where
    in_back : (xs : List Timer) → names_once (xs ++ t ∷ back) ≡ true → Among u back → ⊥
    in_back [] h b = both_ways (is_scheduled t.timer back)
        (not-true _ (and_parts (not (is_scheduled t.timer back)) (names_once back) h).0)
        (any_among (λ v. v.timer == t.timer) u back b (eq-eqb _ _ e))
    in_back (x ∷ xs) h b = in_back xs (and_parts (not (is_scheduled x.timer (xs ++ t ∷ back)))
        (names_once (xs ++ t ∷ back)) h).1 b

    in_front : (xs : List Timer) → names_once (xs ++ t ∷ back) ≡ true → Among u xs → ⊥
    in_front [] h a = a
    in_front (x ∷ xs) h (inl s) =
        both_ways (is_scheduled x.timer (xs ++ t ∷ back))
        (not-true _ (and_parts (not (is_scheduled x.timer (xs ++ t ∷ back)))
        (names_once (xs ++ t ∷ back)) h).0)
        (any_among (λ v. v.timer == x.timer) t (xs ++ t ∷ back)
        (among_right t xs (t ∷ back) (inl refl)) (eq-eqb _ _ (sym (ap (λ v. v.timer) s ∙ e))))
    in_front (x ∷ xs) h (inr a) = in_front xs
        (and_parts (not (is_scheduled x.timer (xs ++ t ∷ back))) (names_once (xs ++ t ∷ back)) h).1
        a

module _ (q : Timer → Bool) (t : Timer) (timers : List Timer) (h : IsSchedule timers) where
  without : List Timer
  without = without_timer t.timer timers

  pub filter_without : (front back : List Timer) → filter q timers ≡ front ++ t ∷ back
      → filter q (without_timer t.timer timers) ≡ front ++ back
  filter_without front back is =
      let whole : IsSchedule (front ++ t ∷ back) =
      subst IsSchedule is (schedule_filtered q timers h) in
      let other : Timer → Bool = λ u. not (u.timer == t.timer) in
      rising_same (filter q (without_timer t.timer timers)) (front ++ back)
      (schedule_filtered q (without_timer t.timer timers)
      (schedule_filtered other timers h)).rising (rising_without front back t whole.rising)
      (record {
        there = λ u a.
            let f = among_filter q u (without_timer t.timer timers) a in
            let g = among_filter other u timers f.0 in
            elim (among_parts u front (t ∷ back)
            (subst (λ ts. Among u ts) is (among_filtered q u timers g.0 f.1))) [
              | inl x ↦ among_left u front back x
              | inr y ↦ elim y [
                | inl e ↦ absurd (both_ways _ (not-true _ g.1)
                    (eq-eqb _ _ (ap (λ v. v.timer) (sym e))))
                | inr z ↦ among_right u front back z
              ]
            ];
        back = λ u a.
            let ne : u.timer ≢ t.timer = once_without front back t u whole.once a in
            let in' : Among u (front ++ t ∷ back) =
            elim (among_parts u front back a) [
              | inl x ↦ among_left u front (t ∷ back) x
              | inr y
                  ↦ among_right u front (t ∷ back) (inr y)
            ] in
            let f = among_filter q u timers (subst (λ ts. Among u ts) (sym is) in') in
            among_filtered q u (without_timer t.timer timers)
            (among_filtered other u timers f.0 (ap not (ne_eqb _ _ ne))) f.1;
      })

  pub filter_without_other : Among t timers → q t ≡ false
      → filter q (without_timer t.timer timers) ≡ filter q timers
  filter_without_other there out =
      let other : Timer → Bool = λ u. not (u.timer == t.timer) in
      rising_same (filter q (without_timer t.timer timers)) (filter q timers)
      (schedule_filtered q (without_timer t.timer timers)
      (schedule_filtered other timers h)).rising (schedule_filtered q timers h).rising (record {
        there = λ u a. let f = among_filter q u (without_timer t.timer timers) a in
            among_filtered q u timers (among_filter other u timers f.0).0 f.1;
        back = λ u a.
            let f = among_filter q u timers a in
            elim (cases_Bool (u.timer == t.timer)) [
              | inl same ↦ absurd (both_ways (q u)
                  (ap q (one_timer u t timers h.once f.0 there (eqb-true _ _ same)) ∙ out) f.1)
              | inr ne ↦ among_filtered q u (without_timer t.timer timers)
                  (among_filtered other u timers f.0 (ap not ne)) f.1
            ];
      })
    where
      one_timer : (u v : Timer) (xs : List Timer) → names_once xs ≡ true → Among u xs → Among v xs
          → u.timer ≡ v.timer → u ≡ v
      one_timer u v [] once a b e = absurd a
      one_timer u v (x ∷ xs) once (inl s) (inl r) e = sym s ∙ r
      one_timer u v (x ∷ xs) once (inl s) (inr b) e =
          absurd (both_ways _ (not-true _ (and_parts (not (is_scheduled x.timer xs)) (names_once xs)
          once).0) (any_among (λ w. w.timer == x.timer) v xs b
          (eq-eqb _ _ (sym (ap (λ w. w.timer) s ∙ e)))))
      one_timer u v (x ∷ xs) once (inr a) (inl r) e =
          absurd (both_ways _ (not-true _ (and_parts (not (is_scheduled x.timer xs)) (names_once xs)
          once).0) (any_among (λ w. w.timer == x.timer) u xs a
          (eq-eqb _ _ (e ∙ sym (ap (λ w. w.timer) r)))))
      one_timer u v (x ∷ xs) once (inr a) (inr b) e =
          one_timer u v xs (and_parts (not (is_scheduled x.timer xs)) (names_once xs) once).1 a b e

-- ---- where a timer stands between others

pub none_after : (t : Timer) (xs : List Timer) → list_all (λ u. comes_before u t) xs ≡ true
    → list_all (λ u. not (comes_before t u)) xs ≡ true
none_after t [] h = refl
none_after t (u ∷ xs) h =
    let p : (comes_before u t ≡ true) × (list_all (λ v. comes_before v t) xs ≡ true) =
    and_parts (comes_before u t) (list_all (λ v. comes_before v t) xs) h in
    and_from (not (comes_before t u)) _ (ap not (before_not u t p.0)) (none_after t xs p.1)

pub all_after : (t : Timer) (xs : List Timer) → list_all (λ u. not (comes_before u t)) xs ≡ true
    → is_scheduled t.timer xs ≡ false → list_all (λ u. comes_before t u) xs ≡ true
all_after t [] h fresh = refl
all_after t (u ∷ xs) h fresh =
    let p : (not (comes_before u t) ≡ true) × (list_all (λ v. not (comes_before v t)) xs ≡ true) =
    and_parts (not (comes_before u t)) (list_all (λ v. not (comes_before v t)) xs) h in
    let f : ((u.timer == t.timer) ≡ false) × (is_scheduled t.timer xs ≡ false) =
    or_parts (u.timer == t.timer) (is_scheduled t.timer xs) fresh in
    and_from (comes_before t u) _ (before_other u t (not-true _ p.0)
    (ne_eqb _ _ (λ e. eqb-false _ _ f.0 (sym e)))) (all_after t xs p.1 f.1)
