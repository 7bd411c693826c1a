-- A list of timers in two rows.
use Rattle.std.proofs.Common.{ℕ, ◌≡◌, ◌+◌, ◌≤◌, ◌<◌, ◌==◌, Bool, true, false, not, ◌||◌, List, []}
use Rattle.std.proofs.Common.{◌∷◌, ◌++◌, length, get_or, refl, sym, ap, ◌∙◌, subst, arith, cond}
use Rattle.std.proofs.Common.{Option, Some, None, inl, inr, ◌⊎◌, ⊎_elim, append-nil, length-append}
use Rattle.std.proofs.lemmas.Bool.{false≢true, both_ways, and_parts, cases_Bool, cond-true}
use Rattle.std.proofs.lemmas.Bool.{cond-false, not-true, ne_eqb, or_parts, or_cases, or_left}
use Rattle.std.proofs.lemmas.Bool.{eqb-true, eq-eqb}
use Rattle.std.proofs.lemmas.List.Elements.{filter-append}
use Rattle.std.proofs.lemmas.List.Folds.{list_any-append}
use Rattle.std.proofs.lemmas.List.Sorted.{IsPermutation-refl, IsPermutation-trans}
use Rattle.std.proofs.lemmas.List.Sorted.{IsPermutation-cons, IsPermutation-middle}
use Rattle.std.proofs.lemmas.List.Sorted.{IsPermutation-append_left, IsPermutation-append_right}
use Rattle.std.proofs.lemmas.List.Sorted.{IsPermutation-append_comm, length_permutation}
use Rattle.std.specs.List.{filter, list_all, All}
use Rattle.std.specs.List.Sorted.{IsPermutation}
use Rattle.std.specs.Prelude.{IfSome, IfNone, OnSome}
use Rattle.timer_queue.specs.declared.timer.Timer.{Timer}
use Rattle.timer_queue.specs.Timers.{comes_before, is_scheduled, names_once, with_timer}
use Rattle.timer_queue.specs.Timers.{without_timer, in_order, first_deadline, AreApart, IsSchedule}
use Rattle.timer_queue.specs.Sorted.{recent_first, AreRows}
use Rattle.timer_queue.proofs.Schedules.{none_filtered, schedule_filtered, schedule_none}
use Rattle.timer_queue.proofs.Schedules.{schedule_tail, schedule_with, before_trans, before_other}
use Rattle.timer_queue.proofs.Schedules.{length-with_timer, without_timer-fresh}
use Rattle.timer_queue.proofs.Places.{none_due}
use Rattle.timer_queue.proofs.Rows.{length-filter_le}
use Rattle.timer_queue.proofs.Members.{Among, all_at, among_filter, among_filtered}
use Rattle.timer_queue.proofs.Members.{members_in_order, once_from_apart, is_scheduled-same}
use Rattle.timer_queue.proofs.Members.{schedule_in_order, in_order_is, members_permutation}
use Rattle.timer_queue.proofs.Members.{permutation_with}
use Rattle.timer_queue.proofs.Contents.{apart_cons, head_apart, apart_removed, in_order-added}
use Rattle.timer_queue.proofs.Contents.{in_order-first, unscheduled}
use Rattle.timer_queue.proofs.Swaps.{apart_permutation}

-- ---- members of both rows

among_append : (t : Timer) (xs ys : List Timer) → Among t (xs ++ ys) → Among t xs ⊎ Among t ys
among_append t [] ys a = inr a
among_append t (x ∷ xs) ys (inl e) = inl (inl e)
among_append t (x ∷ xs) ys (inr b) =
    elim (among_append t xs ys b) [ inl c ↦ inl (inr c) | inr c ↦ inr c ]

in_right : (t : Timer) (xs ys : List Timer) → Among t ys → Among t (xs ++ ys)
in_right t [] ys a = a
in_right t (x ∷ xs) ys a = inr (in_right t xs ys a)

head_rises : (t : Timer) (ts : List Timer) → IsSchedule (t ∷ ts)
    → list_all (λ u. comes_before t u) ts ≡ true
head_rises t ts s = (and_parts (list_all (λ u. comes_before t u) ts) _ s.rising).0

-- ---- the first timer

first_recent : (r : Timer) (rs ls : List Timer) → AreApart ((r ∷ rs) ++ ls) → IsSchedule (r ∷ rs)
    → IsSchedule ls → recent_first (r ∷ rs) ls ≡ true
    → in_order ((r ∷ rs) ++ ls) ≡ r ∷ in_order (rs ++ ls)
first_recent r rs ls apart sr sl h =
    in_order-first r ((r ∷ rs) ++ ls) (rs ++ ls) apart (IsPermutation-refl ((r ∷ rs) ++ ls))
    (λ u a. elim (among_append u rs ls a) [
      | inl b ↦ all_at (λ v. comes_before r v) u rs (head_rises r rs sr) b
      | inr b ↦ in_list ls sl
          h u b
    ])
  where
    in_list : (xs : List Timer) → IsSchedule xs → recent_first (r ∷ rs) xs ≡ true → (u : Timer)
        → Among u xs → comes_before r u ≡ true
    in_list [] s h u a = absurd a
    in_list (l ∷ xs) s h u (inl e) = subst (λ v. comes_before r v ≡ true) e h
    in_list (l ∷ xs) s h u (inr b) = before_trans r l u h
        (all_at (λ v. comes_before l v) u xs (head_rises l xs s) b)

first_list : (l : Timer) (rs ls : List Timer) → AreApart (rs ++ l ∷ ls) → IsSchedule rs
    → IsSchedule (l ∷ ls) → recent_first rs (l ∷ ls) ≡ false
    → in_order (rs ++ l ∷ ls) ≡ l ∷ in_order (rs ++ ls)
first_list l rs ls apart sr sl h =
    in_order-first l (rs ++ l ∷ ls) (rs ++ ls) apart (IsPermutation-middle rs l ls)
    (λ u a. elim (among_append u rs ls a) [
      | inl b ↦ in_recent rs apart sr h u b
      | inr b ↦ all_at (λ v. comes_before l v) u ls
          (head_rises l ls sl) b
    ])
  where
    in_recent : (xs : List Timer) → AreApart (xs ++ l ∷ ls) → IsSchedule xs
        → recent_first xs (l ∷ ls) ≡ false → (u : Timer) → Among u xs → comes_before l u ≡ true
    in_recent [] apart s h u a = absurd a
    in_recent (r ∷ xs) apart s h u a =
        let before : comes_before l r ≡ true =
        before_other r l h (ne_eqb l.timer r.timer
        (head_apart r l (xs ++ l ∷ ls) apart (in_right l xs (l ∷ ls) (inl refl)))) in
        elim a [
          | inl e ↦ subst (λ v. comes_before l v ≡ true) e before
          | inr b ↦ before_trans l r u
              before (all_at (λ v. comes_before r v) u xs (head_rises r xs s) b)
        ]

none_first : (rs : List Timer) → recent_first rs [] ≡ false → rs ≡ []
none_first [] h = refl
none_first (r ∷ rs) h = absurd (false≢true (sym h))

pub earliest_recent : (rs ls : List Timer) → AreApart (rs ++ ls) → IsSchedule rs → IsSchedule ls
    → recent_first rs ls ≡ true → first_deadline rs ≡ first_deadline (in_order (rs ++ ls))
earliest_recent [] ls apart sr sl h = absurd (false≢true h)
earliest_recent (r ∷ rs) ls apart sr sl h =
    sym (ap first_deadline (first_recent r rs ls apart sr sl h))

pub earliest_list : (rs ls : List Timer) → AreApart (rs ++ ls) → IsSchedule rs → IsSchedule ls
    → recent_first rs ls ≡ false → first_deadline ls ≡ first_deadline (in_order (rs ++ ls))
earliest_list rs [] apart sr sl h =
    sym (ap (λ xs. first_deadline (in_order (xs ++ []))) (none_first rs h))
earliest_list rs (l ∷ ls) apart sr sl h = sym (ap first_deadline (first_list l rs ls apart sr sl h))

-- ---- the first timer leaves

pub taken_recent : (o : Option Timer) (rs new ls : List Timer) → IfSome o (λ t. rs ≡ t ∷ new)
    → AreApart (rs ++ ls) → IsSchedule rs → IsSchedule ls → recent_first rs ls ≡ true
    → IfSome o (λ t. in_order (rs ++ ls) ≡ t ∷ in_order (new ++ ls))
taken_recent None rs new ls is apart sr sl h = tt
taken_recent (Some t) rs new ls is apart sr sl h =
    ap (λ xs. in_order (xs ++ ls)) is
    ∙ first_recent t new ls (subst (λ xs. AreApart (xs ++ ls)) is apart) (subst IsSchedule is sr) sl
    (subst (λ xs. recent_first xs ls ≡ true) is h)

pub taken_list : (o : Option Timer) (rs ls new : List Timer) → IfSome o (λ t. ls ≡ t ∷ new)
    → AreApart (rs ++ ls) → IsSchedule rs → IsSchedule ls → recent_first rs ls ≡ false
    → IfSome o (λ t. in_order (rs ++ ls) ≡ t ∷ in_order (rs ++ new))
taken_list None rs ls new is apart sr sl h = tt
taken_list (Some t) rs ls new is apart sr sl h =
    ap (λ xs. in_order (rs ++ xs)) is
    ∙ first_list t rs new (subst (λ xs. AreApart (rs ++ xs)) is apart) sr (subst IsSchedule is sl)
    (subst (λ xs. recent_first rs xs ≡ false) is h)

-- no timer is due if the first is not
none_from : (now : ℕ) (t : Timer) (all rest : List Timer) → AreApart all → in_order all ≡ t ∷ rest
    → now < t.deadline → All (λ u. now < u.deadline) (in_order all)
none_from now t all rest apart is lt =
    none_due now (in_order all) (schedule_in_order all apart).rising
    (λ d. subst (λ (ts : List Timer). now < (get_or ts 0 d).deadline) (sym is) lt)

pub undue_recent : (o : Option Timer) (now : ℕ) (rs ls : List Timer)
    → IfNone o (All (λ t. now < t.deadline) rs) → AreApart (rs ++ ls) → IsSchedule rs
    → IsSchedule ls → recent_first rs ls ≡ true
    → IfNone o (All (λ t. now < t.deadline) (in_order (rs ++ ls)))
undue_recent (Some t) now rs ls none apart sr sl h = tt
undue_recent None now [] ls none apart sr sl h = absurd (false≢true h)
undue_recent None now (r ∷ rs) ls none apart sr sl h =
    none_from now r ((r ∷ rs) ++ ls) (in_order (rs ++ ls)) apart
    (first_recent r rs ls apart sr sl h) (none 0 r (omega arith))

pub undue_list : (o : Option Timer) (now : ℕ) (rs ls : List Timer)
    → IfNone o (All (λ t. now < t.deadline) ls) → AreApart (rs ++ ls) → IsSchedule rs
    → IsSchedule ls → recent_first rs ls ≡ false
    → IfNone o (All (λ t. now < t.deadline) (in_order (rs ++ ls)))
undue_list (Some t) now rs ls none apart sr sl h = tt
undue_list None now rs [] none apart sr sl h =
    subst (λ xs. All (λ t. now < t.deadline) (in_order (xs ++ []))) (sym (none_first rs h))
    (λ k d lt. absurd (omega arith))
undue_list None now rs (l ∷ ls) none apart sr sl h =
    none_from now l (rs ++ l ∷ ls) (in_order (rs ++ ls)) apart (first_list l rs ls apart sr sl h)
    (none 0 l (omega arith))

pub rows_recent : (o : Option Timer) (rs new ls merged : List Timer) (room a b : ℕ)
    → IfSome o (λ t. rs ≡ t ∷ new) → IfNone o (new ≡ rs) → AreRows rs ls merged room a b
    → AreRows new ls merged room a b
rows_recent None rs new ls merged room a b is same q =
    subst (λ xs. AreRows xs ls merged room a b) (sym same) q
rows_recent (Some t) rs new ls merged room a b is same q = record {
  apart = apart_removed t ((t ∷ new) ++ ls) (new ++ ls)
      (subst (λ xs. AreApart (xs ++ ls)) is q.apart) (IsPermutation-refl ((t ∷ new) ++ ls));
  recent_rises = schedule_tail t new (subst IsSchedule is q.recent_rises);
  list_rises = q.list_rises;
  empty = q.empty;
  fits = omega (arith, ap length is, q.fits);
  list_room = q.list_room;
  merged_room = q.merged_room;
}

pub rows_list : (o : Option Timer) (rs ls new merged : List Timer) (room a a' b : ℕ)
    → IfSome o (λ t. ls ≡ t ∷ new) → IfNone o (new ≡ ls) → OnSome o (a' ≡ a + 1) → IfNone o (a' ≡ a)
    → AreRows rs ls merged room a b → AreRows rs new merged room a' b
rows_list None rs ls new merged room a a' b is same more kept q = record {
  apart = subst (λ xs. AreApart (rs ++ xs)) (sym same) q.apart;
  recent_rises = q.recent_rises;
  list_rises = subst IsSchedule (sym same) q.list_rises;
  empty = q.empty;
  fits = omega (arith, ap length same, q.fits);
  list_room = omega (arith, ap length same, kept, q.list_room);
  merged_room = q.merged_room;
}
rows_list (Some t) rs ls new merged room a a' b is same more kept q = record {
  apart = apart_removed t (rs ++ t ∷ new) (rs ++ new) (subst (λ xs. AreApart (rs ++ xs)) is q.apart)
      (IsPermutation-middle rs t new);
  recent_rises = q.recent_rises;
  list_rises = schedule_tail t new (subst IsSchedule is q.list_rises);
  empty = q.empty;
  fits = omega (arith, ap length is, q.fits);
  list_room = omega (arith, ap length is, more, q.list_room);
  merged_room = q.merged_room;
}

-- ---- timers leave by a test

apart_filter : (q : Timer → Bool) (xs : List Timer) → AreApart xs → AreApart (filter q xs)
apart_filter q [] apart = apart
apart_filter q (x ∷ xs) apart =
    let rest : AreApart (filter q xs) =
    apart_filter q xs (apart_removed x (x ∷ xs) xs apart (IsPermutation-refl (x ∷ xs))) in
    let none : is_scheduled x.timer xs ≡ false =
    not-true _ (and_parts (not (is_scheduled x.timer xs)) (names_once xs)
    (once_from_apart (x ∷ xs) apart)).0 in
    ⊎_elim
    (λ (t : q x ≡ true). subst AreApart (sym (cond-true (q x) (x ∷ filter q xs) (filter q xs) t))
    (apart_cons x (filter q xs) rest (none_filtered (λ u. u.timer == x.timer) q xs none)))
    (λ (f : q x ≡ false). subst AreApart (sym (cond-false (q x) (x ∷ filter q xs) (filter q xs) f))
    rest)
    (cases_Bool (q x))

in_order-filter : (q : Timer → Bool) (xs : List Timer) → AreApart xs
    → in_order (filter q xs) ≡ filter q (in_order xs)
in_order-filter q xs apart =
    let now = members_in_order xs in
    in_order_is (filter q xs) (filter q (in_order xs)) (apart_filter q xs apart)
    (schedule_filtered q (in_order xs) (schedule_in_order xs apart)).rising (record {
      there = λ u a. let f = among_filter q u xs a in
          among_filtered q u (in_order xs) (now.there u f.0) f.1;
      back = λ u a. let f = among_filter q u (in_order xs) a in
          among_filtered q u xs (now.back u f.0) f.1;
    })

pub filtered_both : (q : Timer → Bool) (rs ls : List Timer) → AreApart (rs ++ ls)
    → in_order (filter q rs ++ filter q ls) ≡ filter q (in_order (rs ++ ls))
filtered_both q rs ls apart = ap in_order (sym (filter-append q rs ls))
    ∙ in_order-filter q (rs ++ ls) apart

pub scheduled_both : (number : ℕ) (rs ls : List Timer)
    → is_scheduled number (in_order (rs ++ ls)) ≡ (is_scheduled number rs || is_scheduled number ls)
scheduled_both number rs ls = sym (is_scheduled-same number (rs ++ ls) (in_order (rs ++ ls))
    (members_in_order (rs ++ ls))) ∙ list_any-append (λ t. t.timer == number) rs ls

-- ---- the timer of a number leaves

length_without : (number : ℕ) (xs : List Timer) → names_once xs ≡ true
    → is_scheduled number xs ≡ true → length (without_timer number xs) + 1 ≡ length xs
length_without number [] once h = absurd (false≢true h)
length_without number (x ∷ xs) once h =
    let both : (not (is_scheduled x.timer xs) ≡ true) × (names_once xs ≡ true) =
    and_parts (not (is_scheduled x.timer xs)) (names_once xs) once in
    ⊎_elim
    (λ (t : (x.timer == number) ≡ true).
    let none : is_scheduled number xs ≡ false =
    ap (λ n. is_scheduled n xs) (sym (eqb-true x.timer number t)) ∙ not-true _ both.0 in
    let out : length (without_timer number (x ∷ xs)) ≡ length (without_timer number xs) =
    ap length (cond-false (not (x.timer == number)) (x ∷ without_timer number xs)
    (without_timer number xs) (ap not t)) in
    let rest : length (without_timer number xs) ≡ length xs =
    ap length (without_timer-fresh number xs none) in
    omega arith)
    (λ (f : (x.timer == number) ≡ false).
    let kept : length (without_timer number (x ∷ xs)) ≡ length (x ∷ without_timer number xs) =
    ap length (cond-true (not (x.timer == number)) (x ∷ without_timer number xs)
    (without_timer number xs) (ap not f)) in
    let there : is_scheduled number xs ≡ true =
    ⊎_elim (λ (t : (x.timer == number) ≡ true). absurd (both_ways _ f t))
    (λ (t : is_scheduled number xs ≡ true). t)
    (or_cases (x.timer == number) (is_scheduled number xs) h) in
    let rest : length (without_timer number xs) + 1 ≡ length xs =
    length_without number xs both.1 there in
    omega arith)
    (cases_Bool (x.timer == number))

-- a timer that stands in one row does not stand in the other
not_in_both : (number : ℕ) (rs ls : List Timer) → AreApart (rs ++ ls)
    → is_scheduled number rs ≡ true → is_scheduled number ls ≡ false
not_in_both number [] ls apart h = absurd (false≢true h)
not_in_both number (r ∷ rs) ls apart h =
    let once : (not (is_scheduled r.timer (rs ++ ls)) ≡ true) × (names_once (rs ++ ls) ≡ true) =
    and_parts (not (is_scheduled r.timer (rs ++ ls))) (names_once (rs ++ ls))
    (once_from_apart (r ∷ (rs ++ ls)) apart) in
    ⊎_elim
    (λ (t : (r.timer == number) ≡ true).
    let none : is_scheduled r.timer (rs ++ ls) ≡ false = not-true _ once.0 in
    let both : (is_scheduled r.timer rs ≡ false) × (is_scheduled r.timer ls ≡ false) =
    or_parts (is_scheduled r.timer rs) (is_scheduled r.timer ls)
    (sym (list_any-append (λ u. u.timer == r.timer) rs ls) ∙ none) in
    ap (λ n. is_scheduled n ls) (sym (eqb-true r.timer number t)) ∙ both.1)
    (λ (t : is_scheduled number rs ≡ true).
    not_in_both number rs ls (apart_removed r (r ∷ (rs ++ ls)) (rs ++ ls) apart
    (IsPermutation-refl (r ∷ (rs ++ ls)))) t)
    (or_cases (r.timer == number) (is_scheduled number rs) h)

pub rows_filtered : (q : Timer → Bool) (rs ls merged : List Timer) (room a a' b : ℕ)
    → length (filter q ls) + a' ≡ length ls + a → AreRows rs ls merged room a b
    → AreRows (filter q rs) (filter q ls) merged room a' b
rows_filtered q rs ls merged room a a' b kept w = record {
  apart = subst AreApart (filter-append q rs ls) (apart_filter q (rs ++ ls) w.apart);
  recent_rises = schedule_filtered q rs w.recent_rises;
  list_rises = schedule_filtered q ls w.list_rises;
  empty = w.empty;
  fits = omega (arith, length-filter_le q rs, length-filter_le q ls, w.fits);
  list_room = omega (arith, kept, w.list_room);
  merged_room = w.merged_room;
}

-- it stood in the first row
pub cancelled_recent : (number : ℕ) (rs ls : List Timer) → AreApart (rs ++ ls)
    → is_scheduled number rs ≡ true → in_order (without_timer number rs ++ ls)
    ≡ without_timer number (in_order (rs ++ ls))
cancelled_recent number rs ls apart h =
    ap (λ xs. in_order (without_timer number rs ++ xs))
    (sym (without_timer-fresh number ls (not_in_both number rs ls apart h)))
    ∙ filtered_both (λ t. not (t.timer == number)) rs ls apart

-- or not
pub cancelled_list : (number : ℕ) (rs ls : List Timer) → AreApart (rs ++ ls)
    → is_scheduled number rs ≡ false → in_order (rs ++ without_timer number ls)
    ≡ without_timer number (in_order (rs ++ ls))
cancelled_list number rs ls apart h =
    ap (λ xs. in_order (xs ++ without_timer number ls)) (sym (without_timer-fresh number rs h))
    ∙ filtered_both (λ t. not (t.timer == number)) rs ls apart

pub rows_cancelled_recent : (number : ℕ) (rs new ls merged : List Timer) (room a b : ℕ)
    → new ≡ without_timer number rs → is_scheduled number rs ≡ true → AreRows rs ls merged room a b
    → AreRows new ls merged room a b
rows_cancelled_recent number rs new ls merged room a b is h w =
    let fewer : AreRows (without_timer number rs) (without_timer number ls) merged room a b =
    rows_filtered (λ t. not (t.timer == number)) rs ls merged room a a b
    (omega (
      arith,
      ap length (without_timer-fresh number ls
          (not_in_both number rs ls w.apart h)),
    )) w
    in
    subst (λ xs. AreRows xs ls merged room a b) (sym is)
    (subst (λ xs. AreRows (without_timer number rs) xs merged room a b)
    (without_timer-fresh number ls (not_in_both number rs ls w.apart h)) fewer)

pub rows_cancelled_list : (number : ℕ) (rs rs' ls new merged : List Timer) (room a a' b : ℕ)
    → rs' ≡ without_timer number rs → new ≡ without_timer number ls → is_scheduled number rs ≡ false
    → length new + a' ≡ length ls + a → AreRows rs ls merged room a b
    → AreRows rs' new merged room a' b
rows_cancelled_list number rs rs' ls new merged room a a' b was is h kept w =
    subst (λ xs. AreRows xs new merged room a' b) (sym was)
    (subst (λ xs. AreRows (without_timer number rs) xs merged room a' b) (sym is)
    (rows_filtered (λ t. not (t.timer == number)) rs ls merged room a a' b
    (omega (arith, ap length is, kept)) w))

pub left_of : (number : ℕ) (xs : List Timer) → IsSchedule xs → (b : Bool)
    → b ≡ is_scheduled number xs → length (without_timer number xs) + cond b 1 0 ≡ length xs
left_of number xs s true h = length_without number xs s.once (sym h)
left_of number xs s false h = omega (arith, ap length (without_timer-fresh number xs (sym h)))

-- ---- both rows are put together

-- while they are put together: the timers are those that were there, and there is room for all
pub record IsMerging (begun merged left : List Timer) (room spare : ℕ) : Type 0 where
  pub timers : IsPermutation begun (merged ++ left)
  pub rises : IsSchedule merged
  pub room_left : length merged + spare ≡ room

pub merging_begins : (rs ls merged : List Timer) → merged ≡ [] → IsSchedule ls
    → IsMerging (rs ++ ls) (merged ++ ls) rs (length (rs ++ ls)) (length rs)
merging_begins rs ls merged none rises = record {
  timers = subst (λ xs. IsPermutation (rs ++ ls) ((xs ++ ls) ++ rs)) (sym none)
      (IsPermutation-append_comm rs ls);
  rises = subst (λ xs. IsSchedule (xs ++ ls)) (sym none) rises;
  room_left = omega (arith, ap (λ xs. length (xs ++ ls)) none, length-append rs ls);
}

apart_merging : (begun merged left : List Timer) (room spare : ℕ) → AreApart begun
    → IsMerging begun merged left room spare → AreApart (merged ++ left)
apart_merging begun merged left room spare apart m =
    apart_permutation begun (merged ++ left) m.timers apart

still_there : (t : Timer) (merged left rest : List Timer) → IsPermutation left (t ∷ rest)
    → IsPermutation (merged ++ left) (merged ++ t ∷ rest)
still_there t merged left rest taken = IsPermutation-append_right merged left (t ∷ rest) taken

merging_fresh : (begun merged left rest : List Timer) (room spare : ℕ) (t : Timer) → AreApart begun
    → IsMerging begun merged left room spare → IsPermutation left (t ∷ rest)
    → is_scheduled t.timer merged ≡ false
merging_fresh begun merged left rest room spare t apart m taken =
    let whole : AreApart (merged ++ t ∷ rest) =
    apart_permutation (merged ++ left) (merged ++ t ∷ rest)
    (still_there t merged left rest taken) (apart_merging begun merged left room spare apart m)
    in
    let turned : AreApart ((t ∷ rest) ++ merged) =
    apart_permutation (merged ++ t ∷ rest) ((t ∷ rest) ++ merged)
    (IsPermutation-append_comm merged (t ∷ rest)) whole in
    not_in_both t.timer (t ∷ rest) merged turned
    (or_left (t.timer == t.timer) (is_scheduled t.timer rest) (eq-eqb t.timer t.timer refl))

merging_more : (begun merged left rest : List Timer) (room spare spare' : ℕ) (t : Timer)
    → AreApart begun → spare' + 1 ≡ spare → IsMerging begun merged left room spare
    → IsPermutation left (t ∷ rest) → IsMerging begun (with_timer t merged) rest room spare'
merging_more begun merged left rest room spare spare' t apart less m taken = record {
  timers = IsPermutation-trans begun (merged ++ left) (with_timer t merged ++ rest) m.timers
      (IsPermutation-trans (merged ++ left) (merged ++ t ∷ rest) (with_timer t merged ++ rest)
      (still_there t merged left rest taken)
      (IsPermutation-trans (merged ++ t ∷ rest) ((t ∷ merged) ++ rest) (with_timer t merged ++ rest)
      (IsPermutation-middle merged t rest)
      (IsPermutation-append_left rest (t ∷ merged) (with_timer t merged)
      (permutation_with t merged))));
  rises = schedule_with t merged (merging_fresh begun merged left rest room spare t apart m taken)
      m.rises;
  room_left = omega (arith, less, m.room_left, length-with_timer t merged);
}

pub merging_ends : (begun merged left : List Timer) (room spare : ℕ) → left ≡ []
    → IsMerging begun merged left room spare → IsPermutation begun merged
merging_ends begun merged left room spare none m =
    subst (λ xs. IsPermutation begun xs) (ap (λ xs. merged ++ xs) none ∙ append-nil merged) m.timers

-- a timer that comes before all of a later part stands in front of it
with_timer-in_front : (t : Timer) (xs ys : List Timer) → list_all (λ u. comes_before t u) ys ≡ true
    → with_timer t (xs ++ ys) ≡ with_timer t xs ++ ys
with_timer-in_front t [] [] h = refl
with_timer-in_front t [] (y ∷ ys) h =
    cond-true (comes_before t y) _ _ (and_parts (comes_before t y)
    (list_all (λ u. comes_before t u) ys) h).0
with_timer-in_front t (x ∷ xs) ys h = step (comes_before t x) (with_timer-in_front t xs ys h)
  where
    step : (b : Bool) → with_timer t (xs ++ ys) ≡ with_timer t xs ++ ys
        → cond b (t ∷ x ∷ (xs ++ ys)) (x ∷ with_timer t (xs ++ ys))
        ≡ cond b (t ∷ x ∷ xs) (x ∷ with_timer t xs) ++ ys
    step true e = refl
    step false e = ap (λ us. x ∷ us) e

-- the merged timers have the list after them, and what is left is the recent ones
pub passing_room : (begun merged ls rs : List Timer) (room spare : ℕ)
    → IsMerging begun (merged ++ ls) rs (length begun) (length rs) → length begun ≤ room
    → spare + length merged ≡ room → length ls ≤ spare
passing_room begun merged ls rs room spare m fits is =
    omega (arith, fits, is, m.room_left, length-append merged ls)

-- if one of them leaves
module _ (begun whole merged ls rs rest : List Timer) (t : Timer)
    (w : IsMerging begun whole rs (length begun) (length rs)) (parts : merged ++ ls ≡ whole)
    (taken : rs ≡ t ∷ rest) where
  m : IsMerging begun (merged ++ ls) rs (length begun) (length rs)
  m = subst (λ xs. IsMerging begun xs rs (length begun) (length rs)) (sym parts) w

  taken_out : IsPermutation rs (t ∷ rest)
  taken_out = subst (λ xs. IsPermutation rs xs) taken (IsPermutation-refl rs)

  pub passing_room_more : (room spare : ℕ) → length begun ≤ room → spare + length merged ≡ room
      → 1 ≤ spare
  passing_room_more room spare fits is =
      omega (arith, fits, is, m.room_left, length-append merged ls, ap length taken)

  pub passing_fresh : AreApart begun → is_scheduled t.timer merged ≡ false
  passing_fresh apart =
      (or_parts (is_scheduled t.timer merged) (is_scheduled t.timer ls)
      (sym (list_any-append (λ u. u.timer == t.timer) merged ls)
      ∙ merging_fresh begun (merged ++ ls) rs rest (length begun) (length rs) t apart m
      taken_out)).0

  pub passing_more : AreApart begun → list_all (λ u. comes_before t u) ls ≡ true
      → IsMerging begun (with_timer t merged ++ ls) rest (length begun) (length rest)
  passing_more apart behind =
      subst (λ xs. IsMerging begun xs rest (length begun) (length rest))
      (with_timer-in_front t merged ls behind)
      (merging_more begun (merged ++ ls) rs rest (length begun) (length rs) (length rest) t apart
      (omega (arith, ap length taken)) m taken_out)

-- ---- a timer is scheduled

fresh_in_both : (t : Timer) (rs ls : List Timer)
    → is_scheduled t.timer (in_order (rs ++ ls)) ≡ false → (is_scheduled t.timer rs ≡ false)
    × (is_scheduled t.timer ls ≡ false)
fresh_in_both t rs ls fresh = or_parts (is_scheduled t.timer rs) (is_scheduled t.timer ls)
    (sym (scheduled_both t.timer rs ls) ∙ fresh)

pub fresh_in_recent : (t : Timer) (rs ls : List Timer)
    → is_scheduled t.timer (in_order (rs ++ ls)) ≡ false → is_scheduled t.timer rs ≡ false
fresh_in_recent t rs ls fresh = (fresh_in_both t rs ls fresh).0

with_recent : (t : Timer) (rs ls : List Timer)
    → IsPermutation (t ∷ (rs ++ ls)) (with_timer t rs ++ ls)
with_recent t rs ls = IsPermutation-append_left ls (t ∷ rs) (with_timer t rs)
    (permutation_with t rs)

pub added_recent : (t : Timer) (rs ls : List Timer) → AreApart (rs ++ ls)
    → is_scheduled t.timer (in_order (rs ++ ls)) ≡ false
    → in_order (with_timer t rs ++ ls) ≡ with_timer t (in_order (rs ++ ls))
added_recent t rs ls apart fresh =
    in_order-added t (rs ++ ls) (with_timer t rs ++ ls) apart fresh (with_recent t rs ls)

pub rows_added : (t : Timer) (rs new ls merged : List Timer) (room a b : ℕ) → new ≡ with_timer t rs
    → length rs + length ls + 1 ≤ room → is_scheduled t.timer (in_order (rs ++ ls)) ≡ false
    → AreRows rs ls merged room a b → AreRows new ls merged room a b
rows_added t rs new ls merged room a b is fits fresh w =
    subst (λ xs. AreRows xs ls merged room a b) (sym is)
    (record {
      apart = apart_permutation (t ∷ (rs ++ ls)) (with_timer t rs ++ ls) (with_recent t rs ls)
          (apart_cons t (rs ++ ls) w.apart (unscheduled t.timer (rs ++ ls) fresh));
      recent_rises = schedule_with t rs (fresh_in_recent t rs ls fresh) w.recent_rises;
      list_rises = w.list_rises;
      empty = w.empty;
      fits = omega (arith, fits, length-with_timer t rs);
      list_room = w.list_room;
      merged_room = w.merged_room;
    })

-- the rows were put together in the list
pub record IsPutTogether (rs ls new : List Timer) : Type 0 where
  pub timers : IsPermutation (rs ++ ls) new
  pub rises : IsSchedule new

pub fresh_in_whole : (t : Timer) (rs ls new : List Timer)
    → is_scheduled t.timer (in_order (rs ++ ls)) ≡ false → IsPutTogether rs ls new
    → is_scheduled t.timer new ≡ false
fresh_in_whole t rs ls new fresh p =
    sym (is_scheduled-same t.timer (rs ++ ls) new (members_permutation (rs ++ ls) new p.timers))
    ∙ unscheduled t.timer (rs ++ ls) fresh

pub room_in_whole : (rs ls new : List Timer) (room spare left : ℕ)
    → length rs + length ls + 1 ≤ room → room ≤ spare → left + length new ≡ spare
    → IsPutTogether rs ls new → 1 ≤ left
room_in_whole rs ls new room spare left fits more is p =
    omega (arith, fits, more, is, length_permutation (rs ++ ls) new p.timers, length-append rs ls)

pub added_whole : (t : Timer) (rs ls new : List Timer) → AreApart (rs ++ ls)
    → is_scheduled t.timer (in_order (rs ++ ls)) ≡ false → IsPutTogether rs ls new
    → in_order (with_timer t new) ≡ with_timer t (in_order (rs ++ ls))
added_whole t rs ls new apart fresh p =
    in_order-added t (rs ++ ls) (with_timer t new) apart fresh
    (IsPermutation-trans (t ∷ (rs ++ ls)) (t ∷ new) (with_timer t new)
    (IsPermutation-cons t (rs ++ ls) new p.timers) (permutation_with t new))

pub rows_whole : (t : Timer) (rs ls new rs' merged' : List Timer) (room spare left merged_spare : ℕ)
    → rs' ≡ [] → merged' ≡ [] → length rs + length ls + 1 ≤ room → room ≤ spare
    → left + length new ≡ spare → room ≤ merged_spare
    → is_scheduled t.timer (in_order (rs ++ ls)) ≡ false → AreApart (rs ++ ls)
    → IsPutTogether rs ls new
    → (after : List Timer) (left' : ℕ) → after ≡ with_timer t new → left' + 1 ≡ left
    → AreRows rs' after merged' room left' merged_spare
rows_whole t rs ls new rs' merged' room spare left merged_spare none_recent none fits more is
    merged_room fresh apart p after left' added less =
    let whole : AreApart new = apart_permutation (rs ++ ls) new p.timers apart in
    let absent : is_scheduled t.timer new ≡ false = fresh_in_whole t rs ls new fresh p in
    let apart_then : AreApart (with_timer t new) =
    apart_permutation (t ∷ new) (with_timer t new) (permutation_with t new)
    (apart_cons t new whole absent) in
    record {
      apart = subst (λ xs. AreApart (xs ++ after)) (sym none_recent)
          (subst AreApart (sym added) apart_then);
      recent_rises = subst IsSchedule (sym none_recent) schedule_none;
      list_rises = subst IsSchedule (sym added) (schedule_with t new absent p.rises);
      empty = none;
      fits = omega (
        arith,
        fits,
        ap length none_recent,
        ap length added,
        length-with_timer t new,
        length_permutation (rs ++ ls) new p.timers,
        length-append rs ls,
      );
      list_room = omega (arith, fits, more, is, less, ap length added, length-with_timer t new);
      merged_room = merged_room;
    }
