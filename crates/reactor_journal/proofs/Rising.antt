-- The list of armed timers rises and names each timer once.
use Rattle.std.proofs.Common.{ℕ, ◌≡◌, ◌==◌, Bool, true, false, not, ◌&&◌, ◌||◌, List, [], ◌∷◌, refl}
use Rattle.std.proofs.Common.{sym, ap, ◌∙◌, arith, cond, Option, Some, None}
use Rattle.std.proofs.lemmas.Bool.{and_parts, and_from, or_parts, or_from, not-true, eq-eqb, ne_eqb}
use Rattle.std.proofs.lemmas.Bool.{eqb-false, cond-true, cond-false}
use Rattle.std.proofs.lemmas.Bool.Decides.{nat_tests}
use Rattle.std.specs.List.{list_any, list_all, filter}
use Rattle.ev_types.specs.declared.upcall.Answer.TheVariants.{Close}
use Rattle.reactor_journal.specs.Event.{Event}
use Rattle.reactor_journal.specs.declared.entry.Entry.{Entry}
use Rattle.reactor_journal.specs.declared.entry.Entry.TheVariants.{Scheduled, Cancelled, Due}
use Rattle.reactor_journal.specs.declared.entry.Entry.TheVariants.{Started, Returned, Removed}
use Rattle.reactor_journal.specs.Past.{armed, added, comes_before, with_deadline, without_timer}
use Rattle.reactor_journal.specs.Past.{without_owner, with_rearmed, with_next, rearms, due_at}
use Rattle.reactor_journal.specs.Past.{timer_of, event_at, is_rising, names_once, next_deadline}
use Rattle.reactor_journal.specs.Past.{deadline, period, now}
use Rattle.reactor_journal.specs.Follow.{may_follow, is_legal}
use Rattle.reactor_journal.proofs.Armed.{added_fresh, due_timers}

pub false_if_not : (b : Bool) → (b ≡ true → ⊥) → b ≡ false
false_if_not true f = absurd (f refl)
false_if_not false f = refl

-- ---- filters keep both

pub all_filtered : (p q : ℕ × ℕ → Bool) (ds : List (ℕ × ℕ)) → list_all p ds ≡ true
    → list_all p (filter q ds) ≡ true
all_filtered p q [] h = refl
all_filtered p q (d ∷ ds) h = step (q d) (and_parts (p d) (list_all p ds) h)
    (all_filtered p q ds (and_parts (p d) (list_all p ds) h).1)
  where
    step : (b : Bool) → (p d ≡ true) × (list_all p ds ≡ true) → list_all p (filter q ds) ≡ true
        → list_all p (cond b (d ∷ filter q ds) (filter q ds)) ≡ true
    step true k r = and_from (p d) _ k.0 r
    step false k r = r

pub none_filtered : (p q : ℕ × ℕ → Bool) (ds : List (ℕ × ℕ)) → list_any p ds ≡ false
    → list_any p (filter q ds) ≡ false
none_filtered p q [] h = refl
none_filtered p q (d ∷ ds) h = step (q d) (or_parts (p d) (list_any p ds) h)
    (none_filtered p q ds (or_parts (p d) (list_any p ds) h).1)
  where
    step : (b : Bool) → (p d ≡ false) × (list_any p ds ≡ false) → list_any p (filter q ds) ≡ false
        → list_any p (cond b (d ∷ filter q ds) (filter q ds)) ≡ false
    step true k r = or_from (p d) _ k.0 r
    step false k r = r

pub rising_filtered : (q : ℕ × ℕ → Bool) (ds : List (ℕ × ℕ)) → is_rising ds ≡ true
    → is_rising (filter q ds) ≡ true
rising_filtered q [] h = refl
rising_filtered q (d ∷ ds) h =
    let k : (list_all (λ c. comes_before d c) ds ≡ true) × (is_rising ds ≡ true) =
    and_parts (list_all (λ c. comes_before d c) ds) (is_rising ds) h in
    step (q d) (all_filtered (λ c. comes_before d c) q ds k.0) (rising_filtered q ds k.1)
  where
    step : (b : Bool) → list_all (λ c. comes_before d c) (filter q ds) ≡ true
        → is_rising (filter q ds) ≡ true → is_rising (cond b (d ∷ filter q ds) (filter q ds)) ≡ true
    step true k r = and_from (list_all (λ c. comes_before d c) (filter q ds)) _ k r
    step false k r = r

pub once_filtered : (q : ℕ × ℕ → Bool) (ds : List (ℕ × ℕ)) → names_once ds ≡ true
    → names_once (filter q ds) ≡ true
once_filtered q [] h = refl
once_filtered q (d ∷ ds) h =
    let k : (not (list_any (λ c. c.1 == d.1) ds) ≡ true) × (names_once ds ≡ true) =
    and_parts (not (list_any (λ c. c.1 == d.1) ds)) (names_once ds) h in
    step (q d) (none_filtered (λ c. c.1 == d.1) q ds (not-true _ k.0)) (once_filtered q ds k.1)
  where
    step : (b : Bool) → list_any (λ c. c.1 == d.1) (filter q ds) ≡ false
        → names_once (filter q ds) ≡ true → names_once (cond b (d ∷ filter q ds) (filter q ds))
        ≡ true
    step true k r = and_from (not (list_any (λ c. c.1 == d.1) (filter q ds))) _ (ap not k) r
    step false k r = r

-- ---- and so does one more that is fresh

pub before_trans : (a b c : ℕ × ℕ) → comes_before a b ≡ true → comes_before b c ≡ true
    → comes_before a c ≡ true
before_trans a b c h k = grind (arith, nat_tests)

pub before_other : (a b : ℕ × ℕ) → comes_before a b ≡ false → (b.1 == a.1) ≡ false
    → comes_before b a ≡ true
before_other a b h k = grind (arith, nat_tests)

pub all_weaker : (a b : ℕ × ℕ) (ds : List (ℕ × ℕ)) → comes_before a b ≡ true
    → list_all (λ c. comes_before b c) ds ≡ true → list_all (λ c. comes_before a c) ds ≡ true
all_weaker a b [] h k = refl
all_weaker a b (d ∷ ds) h k =
    let p : (comes_before b d ≡ true) × (list_all (λ c. comes_before b c) ds ≡ true) =
    and_parts (comes_before b d) (list_all (λ c. comes_before b c) ds) k in
    and_from (comes_before a d) (list_all (λ c. comes_before a c) ds) (before_trans a b d h p.0)
    (all_weaker a b ds h p.1)

pub all_with : (p : ℕ × ℕ → Bool) (a : ℕ × ℕ) (ds : List (ℕ × ℕ)) → p a ≡ true
    → list_all p ds ≡ true → list_all p (with_deadline a ds) ≡ true
all_with p a [] h k = and_from (p a) true h refl
all_with p a (d ∷ ds) h k = step (comes_before a d) (and_parts (p d) (list_all p ds) k)
    (all_with p a ds h (and_parts (p d) (list_all p ds) k).1)
  where
    step : (b : Bool) → (p d ≡ true) × (list_all p ds ≡ true)
        → list_all p (with_deadline a ds) ≡ true
        → list_all p (cond b (a ∷ d ∷ ds) (d ∷ with_deadline a ds)) ≡ true
    step true q r = and_from (p a) (p d && list_all p ds) h (and_from (p d) (list_all p ds) q.0 q.1)
    step false q r = and_from (p d) (list_all p (with_deadline a ds)) q.0 r

pub none_with : (p : ℕ × ℕ → Bool) (a : ℕ × ℕ) (ds : List (ℕ × ℕ)) → p a ≡ false
    → list_any p ds ≡ false → list_any p (with_deadline a ds) ≡ false
none_with p a [] h k = or_from (p a) false h refl
none_with p a (d ∷ ds) h k = step (comes_before a d) (or_parts (p d) (list_any p ds) k)
    (none_with p a ds h (or_parts (p d) (list_any p ds) k).1)
  where
    step : (b : Bool) → (p d ≡ false) × (list_any p ds ≡ false)
        → list_any p (with_deadline a ds) ≡ false
        → list_any p (cond b (a ∷ d ∷ ds) (d ∷ with_deadline a ds)) ≡ false
    step true q r = or_from (p a) (p d || list_any p ds) h (or_from (p d) (list_any p ds) q.0 q.1)
    step false q r = or_from (p d) (list_any p (with_deadline a ds)) q.0 r

pub rising_with : (a : ℕ × ℕ) (ds : List (ℕ × ℕ)) → list_any (λ c. c.1 == a.1) ds ≡ false
    → is_rising ds ≡ true → is_rising (with_deadline a ds) ≡ true
rising_with a [] f h = refl
rising_with a (d ∷ ds) f h =
    let other : ((d.1 == a.1) ≡ false) × (list_any (λ c. c.1 == a.1) ds ≡ false) =
    or_parts (d.1 == a.1) (list_any (λ c. c.1 == a.1) ds) f in
    let k : (list_all (λ c. comes_before d c) ds ≡ true) × (is_rising ds ≡ true) =
    and_parts (list_all (λ c. comes_before d c) ds) (is_rising ds) h in
    step (comes_before a d) refl other k (rising_with a ds other.1 k.1)
  where
    step : (b : Bool) → comes_before a d ≡ b → ((d.1 == a.1) ≡ false)
        × (list_any (λ c. c.1 == a.1) ds ≡ false) → (list_all (λ c. comes_before d c) ds ≡ true)
        × (is_rising ds ≡ true)
        → is_rising (with_deadline a ds) ≡ true
        → is_rising (cond b (a ∷ d ∷ ds) (d ∷ with_deadline a ds)) ≡ true
    step true is other k r =
        and_from (comes_before a d && list_all (λ c. comes_before a c) ds) _
        (and_from (comes_before a d) _ is (all_weaker a d ds is k.0))
        (and_from (list_all (λ c. comes_before d c) ds) (is_rising ds) k.0 k.1)
    step false is other k r =
        and_from (list_all (λ c. comes_before d c) (with_deadline a ds)) _
        (all_with (λ c. comes_before d c) a ds (before_other a d is other.0) k.0) r

pub once_with : (a : ℕ × ℕ) (ds : List (ℕ × ℕ)) → list_any (λ c. c.1 == a.1) ds ≡ false
    → names_once ds ≡ true → names_once (with_deadline a ds) ≡ true
once_with a [] f h = refl
once_with a (d ∷ ds) f h =
    let other : ((d.1 == a.1) ≡ false) × (list_any (λ c. c.1 == a.1) ds ≡ false) =
    or_parts (d.1 == a.1) (list_any (λ c. c.1 == a.1) ds) f in
    let k : (not (list_any (λ c. c.1 == d.1) ds) ≡ true) × (names_once ds ≡ true) =
    and_parts (not (list_any (λ c. c.1 == d.1) ds)) (names_once ds) h in
    step (comes_before a d) other k (once_with a ds other.1 k.1)
  where
    step : (b : Bool) → ((d.1 == a.1) ≡ false) × (list_any (λ c. c.1 == a.1) ds ≡ false)
        → (not (list_any (λ c. c.1 == d.1) ds) ≡ true) × (names_once ds ≡ true)
        → names_once (with_deadline a ds) ≡ true
        → names_once (cond b (a ∷ d ∷ ds) (d ∷ with_deadline a ds)) ≡ true
    step true other k r =
        and_from (not ((d.1 == a.1) || list_any (λ c. c.1 == a.1) ds)) _
        (ap not (or_from (d.1 == a.1) _ other.0 other.1))
        (and_from (not (list_any (λ c. c.1 == d.1) ds)) (names_once ds) k.0 k.1)
    step false other k r =
        and_from (not (list_any (λ c. c.1 == d.1) (with_deadline a ds))) _
        (ap not (none_with (λ c. c.1 == d.1) a ds
        (ne_eqb a.1 d.1 (λ q. eqb-false d.1 a.1 other.0 (sym q))) (not-true _ k.0))) r

-- what an entry makes of a property that filters keep and that one more fresh one keeps
pub kept : {N : Type 0} (ok : List (ℕ × ℕ) → Bool)
    → ((q : ℕ × ℕ → Bool) (ds : List (ℕ × ℕ)) → ok ds ≡ true → ok (filter q ds) ≡ true)
    → (e : Entry N) (past : List (Entry N))
    → ((d : ℕ × ℕ) → added past e ≡ Some d → ok (with_deadline d (armed past)) ≡ true)
    → ok (armed past) ≡ true → ok (armed (e ∷ past)) ≡ true
kept ok filters (Scheduled timer handle first every) past more h = more (first, timer) refl
kept ok filters (Cancelled timer) past more h = filters _ (armed past) h
kept ok filters (Due timer) past more h = filters _ (armed past) h
kept ok filters (Started event) past more h = go (rearms past (due_at past event)) more
  where
    go : (again : Option ℕ) → ((d : ℕ × ℕ) → with_next past again ≡ Some d
        → ok (with_deadline d (armed past)) ≡ true)
        → ok (with_rearmed past again (armed past)) ≡ true
    go None more = h
    go (Some t) more = more (
      next_deadline (deadline past t) (period (timer_of past t)) (now past),
      t,
    ) refl
kept ok filters (Returned event Close note) past more h = go (event_at past event)
  where
    go : (event : Option Event) → ok (without_owner past event (armed past)) ≡ true
    go None = h
    go (Some event) = filters _ (armed past) h
kept ok filters (Removed handle) past more h = filters _ (armed past) h
kept ok filters _ past more h = h

pub armed_rising : {N : Type 0} (most : ℕ) (past : List (Entry N)) → is_legal most past ≡ true
    → is_rising (armed past) ≡ true
armed_rising most [] legal = refl
armed_rising most (e ∷ past) legal =
    let parts : (may_follow most past e ≡ true) × (is_legal most past ≡ true) =
    and_parts _ _ legal in
    let before : is_rising (armed past) ≡ true = armed_rising most past parts.1 in
    kept is_rising rising_filtered e past
    (λ d h. rising_with d (armed past)
    (added_fresh most e past d parts.1 parts.0 (due_timers most past parts.1) h) before) before

pub armed_once : {N : Type 0} (most : ℕ) (past : List (Entry N)) → is_legal most past ≡ true
    → names_once (armed past) ≡ true
armed_once most [] legal = refl
armed_once most (e ∷ past) legal =
    let parts : (may_follow most past e ≡ true) × (is_legal most past ≡ true) =
    and_parts _ _ legal in
    let before : names_once (armed past) ≡ true = armed_once most past parts.1 in
    kept names_once once_filtered e past
    (λ d h. once_with d (armed past) (added_fresh most e past d parts.1 parts.0
    (due_timers most past parts.1) h) before) before

-- taking away the first timer leaves the rest
pub without_first : (d : ℕ × ℕ) (ds : List (ℕ × ℕ)) → names_once (d ∷ ds) ≡ true
    → without_timer d.1 (d ∷ ds) ≡ ds
without_first d ds h =
    let k : list_any (λ c. c.1 == d.1) ds ≡ false =
    not-true _ (and_parts (not (list_any (λ c. c.1 == d.1) ds)) (names_once ds) h).0 in
    cond-false (not (d.1 == d.1)) (d ∷ without_timer d.1 ds) (without_timer d.1 ds)
    (ap not (eq-eqb d.1 d.1 refl)) ∙ same ds k
  where
    same : (ds : List (ℕ × ℕ)) → list_any (λ c. c.1 == d.1) ds ≡ false → without_timer d.1 ds ≡ ds
    same [] h = refl
    same (c ∷ ds) h =
        let p : ((c.1 == d.1) ≡ false) × (list_any (λ c. c.1 == d.1) ds ≡ false) =
        or_parts (c.1 == d.1) (list_any (λ c. c.1 == d.1) ds) h in
        cond-true (not (c.1 == d.1)) (c ∷ without_timer d.1 ds) (without_timer d.1 ds) (ap not p.0)
        ∙ ap (λ xs. c ∷ xs) (same ds p.1)
