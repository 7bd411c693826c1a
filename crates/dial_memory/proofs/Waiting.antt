-- What a wait of the net in memory comes to.
use Rattle.std.proofs.Common.{ℕ, zero, suc, ◌≡◌, ◌+◌, ◌<◌, ◌≤◌, ◌^◌, Bool, true, false, ◌&&◌, ◌||◌}
use Rattle.std.proofs.Common.{◌==◌, cond, List, [], ◌∷◌, length, drop, replicate, refl, sym, ap}
use Rattle.std.proofs.Common.{◌∙◌, subst, arith, Option, Some, None}
use Rattle.std.specs.Prelude.{nat_lt, nat_le}
use Rattle.std.specs.List.{list_all, slice_get}
use Rattle.std.proofs.lemmas.Bool.{and_parts, leb-true, eq-eqb}
use Rattle.std.proofs.lemmas.Bool.Decides.{nat_tests}
use Rattle.std.proofs.lemmas.List.{length-replicate}
use Rattle.ev_base.specs.ev_types.specs.declared.upcall.Mask.{Mask}
use Rattle.ev_base.specs.Net.{NetFacts, NetWaits, Call, Waits, with_one, AreWanted, is_wanted}
use Rattle.ev_base.specs.Playing.{is_late}
use Rattle.ev_base.specs.declared.net.Waited.{Waited}
use Rattle.ev_base.specs.declared.net.Waited.TheVariants.{Reports, Quiet, Over, Failed}
use Rattle.dial_memory.specs.declared.moments.Came.{Came}
use Rattle.dial_memory.specs.Moments.{do_not_fall, are_bounded, first_writer, given_now, given_new}
use Rattle.dial_memory.specs.Moments.{held_new, answer_with, of_held, of_moment, came_of}
use Rattle.dial_memory.specs.DialNets.{report_to}

-- ---- moments

none_some : {A : Type 0} {a : A} → None ≡ Some a → ⊥
none_some q = cc

some_same : {A : Type 0} {a b : A} → ◌≡◌ {A = Option A} (Some a) (Some b) → a ≡ b
some_same q = cc

-- the moment that is next, and those after it
next_is : (moments : List ℕ) (next m : ℕ) → slice_get moments next ≡ Some m
    → drop next moments ≡ m ∷ drop (suc next) moments
next_is [] next m e = absurd (none_some e)
next_is (x ∷ moments) zero m e = ap (λ y. y ∷ moments) (some_same e)
next_is (x ∷ moments) (suc next) m e = next_is moments next m e

next_within : (moments : List ℕ) (next m : ℕ) → slice_get moments next ≡ Some m
    → next < length moments
next_within [] next m e = absurd (none_some e)
next_within (x ∷ moments) zero m e = omega arith
next_within (x ∷ moments) (suc next) m e = let less = next_within moments next m e in
    omega (arith, less)

bounded_at : (moments : List ℕ) (next m : ℕ) → are_bounded moments ≡ true
    → slice_get moments next ≡ Some m → m ≤ 2 ^ 62
bounded_at [] next m b e = absurd (none_some e)
bounded_at (x ∷ moments) zero m b e = let le =
    leb-true x (2 ^ 62) (and_parts (nat_le x (2 ^ 62)) (are_bounded moments) b).0 in
    subst (λ (n : ℕ). n ≤ 2 ^ 62) (some_same e) le
bounded_at (x ∷ moments) (suc next) m b e =
    bounded_at moments next m (and_parts (nat_le x (2 ^ 62)) (are_bounded moments) b).1 e

-- ---- what a wait comes to

-- the answer tells the moment and how many reports there are
abbrev Answers : Waited → ℕ → ℕ → Type 0
Answers (Reports now count) given at = (at ≡ now) × (given ≡ count) × (1 ≤ count)
Answers (Quiet now) given at = (at ≡ now) × (given ≡ 0)
Answers (Over now) given at = (at ≡ now) × (given ≡ 0)
Answers Failed given at = ⊥

pub record ComesWell (moments : List ℕ) (next now held : ℕ) (writer : Option ℕ) (came : Came) : Type
    0 where
  pub answers : Answers came.answer came.given came.now
  pub later : now ≤ came.now
  pub bounded : came.now ≤ 2 ^ 62
  pub few : came.given ≤ 256
  pub some : 1 ≤ came.given → (handle : ℕ) × (writer ≡ Some handle)
  pub rising : do_not_fall came.now (drop came.next moments) ≡ true
  pub within : came.next ≤ length moments
  pub few_held : came.held ≤ came.next

answers_with : (moment n : ℕ) → Answers (answer_with moment n) n moment
answers_with moment zero = (refl, refl)
answers_with moment (suc n) = (refl, refl, omega arith)

new_few : (gone : Bool) (writer : Option ℕ) → given_new gone writer + held_new gone writer ≤ 1
new_few true None = omega arith
new_few true (Some h) = omega arith
new_few false None = omega arith
new_few false (Some h) = omega arith

new_some : (gone : Bool) (writer : Option ℕ) → 1 ≤ given_new gone writer → (handle : ℕ)
    × (writer ≡ Some handle)
new_some true None some = absurd (omega (arith, some))
new_some true (Some h) some = absurd (omega (arith, some))
new_some false None some = absurd (omega (arith, some))
new_some false (Some h) some = (h, refl)

now_some : (writer : Option ℕ) (held : ℕ) → 1 ≤ given_now writer held → (handle : ℕ)
    × (writer ≡ Some handle)
now_some None held some = absurd (omega (arith, some))
now_some (Some h) held some = (h, refl)

now_few : (writer : Option ℕ) (held : ℕ) → (given_now writer held ≤ 256)
    × (given_now writer held ≤ held)
now_few None held = (omega arith, omega arith)
now_few (Some h) held = (omega arith, omega arith)

module _ (moments : List ℕ) (next now held : ℕ) (gone : Bool) (writer : Option ℕ)
    (rising : do_not_fall now (drop next moments) ≡ true) (bounded : are_bounded moments ≡ true)
    (moment : now ≤ 2 ^ 62) (within : next ≤ length moments) (few : held ≤ next) where
  by_held : nat_lt 0 (given_now writer held) ≡ true
      → ComesWell moments next now held writer (of_held (given_now writer held) next now held)
  by_held is =
      let some : 0 < given_now writer held = grind (arith, nat_tests) in
      let bounds = now_few writer held in
      record {
        answers = (refl, refl, omega (arith, some));
        later = omega arith;
        bounded = moment;
        few = bounds.0;
        some = now_some writer held;
        rising = rising;
        within = within;
        few_held = omega (arith, few);
      }

  by_moment : (most : Option ℕ) (m : Option ℕ) → slice_get moments next ≡ m
      → ComesWell moments next now held writer (of_moment m next now held gone writer most)
  by_moment most None is = record {
    answers = (refl, refl);
    later = omega arith;
    bounded = moment;
    few = omega arith;
    some = λ some. absurd (omega (arith, some));
    rising = rising;
    within = within;
    few_held = few;
  }
  by_moment most (Some m) is = by_late most (is_late most now m) refl
    where
      here : do_not_fall now (m ∷ drop (suc next) moments) ≡ true
      here = subst (λ (ms : List ℕ). do_not_fall now ms ≡ true) (next_is moments next m is) rising

      parts : (nat_le now m ≡ true) × (do_not_fall m (drop (suc next) moments) ≡ true)
      parts = and_parts (nat_le now m) (do_not_fall m (drop (suc next) moments)) here

      later : now ≤ m
      later = leb-true now m parts.0

      below : m ≤ 2 ^ 62
      below = bounded_at moments next m bounded is

      comes : ComesWell moments next now held writer
          (record {
            answer = answer_with m (given_new gone writer);
            given = given_new gone writer;
            now = m;
            next = next + 1;
            held = held + held_new gone writer;
          })
      comes =
          let more = new_few gone writer in
          let less = next_within moments next m is in
          let one : next + 1 ≡ suc next = omega arith in
          record {
            answers = answers_with m (given_new gone writer);
            later = later;
            bounded = below;
            few = omega (arith, more);
            some = new_some gone writer;
            rising = subst (λ (n : ℕ). do_not_fall m (drop n moments) ≡ true) (sym one) parts.1;
            within = omega (arith, less);
            few_held = omega (arith, more, few);
          }

      in_time : (t : ℕ) → nat_lt (now + t) m ≡ true
          → ComesWell moments next now held writer
          (record { answer = Quiet (now + t); given = 0; now = now + t; next = next; held = held })
      in_time t late =
          let before : now + t < m = grind (arith, nat_tests) in
          let le : nat_le (now + t) m ≡ true = grind (arith, nat_tests) in
          record {
            answers = (refl, refl);
            later = omega arith;
            bounded = omega (arith, before, below);
            few = omega arith;
            some = λ some. absurd (omega (arith, some));
            rising = subst (λ (ms : List ℕ). do_not_fall (now + t) ms ≡ true)
                (sym (next_is moments next m is)) (ap
                (λ (b : Bool). b && do_not_fall m (drop (suc next) moments)) le ∙ parts.1);
            within = within;
            few_held = few;
          }

      by_late : (most : Option ℕ) (b : Bool) → is_late most now m ≡ b
          → ComesWell moments next now held writer
          (of_moment (Some m) next now held gone writer most)
      by_late None b late = comes
      by_late (Some t) true late = rw late (in_time t late)
      by_late (Some t) false late = rw late comes

  pub comes_well : (most : Option ℕ)
      → ComesWell moments next now held writer (came_of moments next now held gone writer most)
  comes_well most = by (nat_lt 0 (given_now writer held)) refl
    where
      by : (b : Bool) → nat_lt 0 (given_now writer held) ≡ b
          → ComesWell moments next now held writer (came_of moments next now held gone writer most)
      by true is = rw is (by_held is)
      by false is = rw is (by_moment most (slice_get moments next) refl)

-- ---- the reports

or_right : (a b : Bool) → b ≡ true → a || b ≡ true
or_right true b e = refl
or_right false b e = e

writes_wanted : (masks : List (ℕ × Mask)) (handle : ℕ) → first_writer masks ≡ Some handle
    → is_wanted masks (report_to handle) ≡ true
writes_wanted [] handle e = absurd (none_some e)
writes_wanted (entry ∷ masks) handle e = by entry.1.write refl e (writes_wanted masks handle)
  where
    by : (b : Bool) → entry.1.write ≡ b → cond b (Some entry.0) (first_writer masks) ≡ Some handle
        → (first_writer masks ≡ Some handle → is_wanted masks (report_to handle) ≡ true)
        → is_wanted (entry ∷ masks) (report_to handle) ≡ true
    by true writes is rest =
        let same : (entry.0 == handle) ≡ true = eq-eqb entry.0 handle (some_same is) in
        rw same (rw writes refl)
    by false writes is rest = or_right (entry.0 == handle && entry.1.write)
        (is_wanted masks (report_to handle)) (rest is)

all_same : (masks : List (ℕ × Mask)) (handle n : ℕ) → is_wanted masks (report_to handle) ≡ true
    → list_all (is_wanted masks) (replicate n (report_to handle)) ≡ true
all_same masks handle zero e = refl
all_same masks handle (suc n) e = ap
    (λ (b : Bool). b && list_all (is_wanted masks) (replicate n (report_to handle))) e
    ∙ all_same masks handle n e

pub wanted : (masks : List (ℕ × Mask)) (handle n : ℕ)
    → (1 ≤ n → (h : ℕ) × (first_writer masks ≡ Some h))
    → ((h : ℕ) → first_writer masks ≡ Some h → handle ≡ h)
    → list_all (is_wanted masks) (replicate n (report_to handle)) ≡ true
wanted masks handle zero some same = refl
wanted masks handle (suc n) some same =
    let there = some (omega arith) in
    all_same masks handle (suc n) (subst (λ (h : ℕ). is_wanted masks (report_to h) ≡ true)
    (sym (same there.0 there.1)) (writes_wanted masks there.0 there.1))

-- a wait that comes well is answered by its reports
pub waits_by : {E : Type 0} (old : NetFacts E) (most : Option ℕ) (masks : List (ℕ × Mask))
    (moments : List ℕ) (next held to : ℕ) (writer : Option ℕ) (came : Came)
    (calls : Option (List Call)) →
    old.masks ≡ Some masks → ComesWell moments next old.now held writer came
    → calls ≡ with_one old.calls (Waits most came.answer (replicate came.given (report_to to)))
    →
    list_all (is_wanted masks) (replicate came.given (report_to to)) ≡ true
    → NetWaits old most came.answer (record old {
      now = came.now;
      reports = replicate came.given (report_to to);
      calls = calls;
    })
waits_by {E} old most masks moments next held to writer came calls told well made all =
    by came.answer well.answers made
  where
    many : length (replicate came.given (report_to to)) ≡ came.given
    many = length-replicate came.given (report_to to)

    want : AreWanted old.masks (replicate came.given (report_to to))
    want = subst (λ (m : Option (List (ℕ × Mask))).
        AreWanted m (replicate came.given (report_to to))) (sym told) all

    none : came.given ≡ 0 → replicate came.given (report_to to) ≡ []
    none e = ap (λ (n : ℕ). replicate n (report_to to)) e

    by : (answer : Waited) → Answers answer came.given came.now
        → calls ≡ with_one old.calls (Waits most answer (replicate came.given (report_to to))) →
        NetWaits old most answer (record old {
          now = came.now;
          reports = replicate came.given (report_to to);
          calls = calls;
        })
    by (Reports now count) a c = (
      record {
        now = a.0;
        later = subst (λ (n : ℕ). old.now ≤ n) a.0 well.later;
        bounded = subst (λ (n : ℕ). n ≤ 2 ^ 62) a.0 well.bounded;
        few = omega (arith, many, well.few);
        wanted = want;
        calls = c;
        failed_waits = refl;
        failed_attaches = refl;
        steady = refl;
        attached = refl;
        spare = omega arith;
        masks = refl;
        retired = refl;
        turned_away = refl;
      },
      many ∙ a.1,
      a.2,
    )
    by (Quiet now) a c = (
      record {
        now = a.0;
        later = subst (λ (n : ℕ). old.now ≤ n) a.0 well.later;
        bounded = subst (λ (n : ℕ). n ≤ 2 ^ 62) a.0 well.bounded;
        few = omega (arith, many, well.few);
        wanted = want;
        calls = c;
        failed_waits = refl;
        failed_attaches = refl;
        steady = refl;
        attached = refl;
        spare = omega arith;
        masks = refl;
        retired = refl;
        turned_away = refl;
      },
      none a.1,
    )
    by (Over now) a c = (
      record {
        now = a.0;
        later = subst (λ (n : ℕ). old.now ≤ n) a.0 well.later;
        bounded = subst (λ (n : ℕ). n ≤ 2 ^ 62) a.0 well.bounded;
        few = omega (arith, many, well.few);
        wanted = want;
        calls = c;
        failed_waits = refl;
        failed_attaches = refl;
        steady = refl;
        attached = refl;
        spare = omega arith;
        masks = refl;
        retired = refl;
        turned_away = refl;
      },
      none a.1,
    )
    by Failed a c = absurd a
