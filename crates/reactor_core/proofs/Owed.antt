-- What entries do to the number of places that are owed.
use Rattle.std.proofs.Common.{ℕ, suc, ◌≡◌, ◌≤◌, ◌+◌, ◌==◌, Bool, true, false, not, ◌&&◌, ◌||◌, List}
use Rattle.std.proofs.Common.{[], ◌∷◌, ◌++◌, map, length, refl, sym, ap, ◌∙◌, arith, cond, Option}
use Rattle.std.proofs.Common.{Some, None, ⊎_elim, length-append}
use Rattle.std.proofs.lemmas.Bool.{false≢true, and_parts, or_cases, eqb-true, eq-eqb, cond-true}
use Rattle.std.proofs.lemmas.Bool.{cond-false}
use Rattle.std.specs.List.{list_any, filter, find}
use Rattle.reactor_summary.specs.ev_types.specs.declared.upcall.Handle.{Handle}
use Rattle.reactor_summary.specs.ev_types.specs.declared.upcall.Mask.{Mask}
use Rattle.reactor_summary.specs.ev_types.specs.declared.upcall.Answer.{Answer}
use Rattle.reactor_summary.specs.ev_types.specs.declared.upcall.Answer.TheVariants.{Keep, Again}
use Rattle.reactor_summary.specs.ev_types.specs.declared.upcall.Answer.TheVariants.{Close}
use Rattle.reactor_model.specs.reactor_journal.specs.Event.{Event}
use Rattle.reactor_model.specs.reactor_journal.specs.declared.entry.Entry.TheVariants.{Opened}
use Rattle.reactor_model.specs.reactor_journal.specs.declared.entry.Entry.TheVariants.{Returned}
use Rattle.reactor_model.specs.reactor_journal.specs.declared.entry.Entry.TheVariants.{Removed}
use Rattle.reactor_model.specs.reactor_journal.specs.declared.entry.Entry.TheVariants.{Closed}
use Rattle.reactor_model.specs.reactor_journal.specs.Past as P
use Rattle.reactor_model.specs.reactor_journal.specs.Past.{count}
use Rattle.reactor_summary.specs.declared.parts.LiveHandle.{LiveHandle}
use Rattle.reactor_summary.specs.declared.parts.OpenEvent.{OpenEvent}
use Rattle.reactor_summary.specs.Summary as S
use Rattle.reactor_summary.specs.Summary.{Summary, step, is_alive, with_end, of_handle, open_event}
use Rattle.reactor_state.specs.State.{owed}
use Rattle.reactor_core.specs.Handlers.{is_live}

-- ---- lists that lose an element

filter_le : {A : Type 0} (p : A → Bool) (xs : List A) → length (filter p xs) ≤ length xs
filter_le p [] = omega arith
filter_le {A} p (x ∷ xs) = by_cases (p x) (filter_le p xs)
  where
    by_cases : (b : Bool) → length (filter p xs) ≤ length xs
        → length (cond b (x ∷ filter p xs) (filter p xs)) ≤ suc (length xs)
    by_cases true rec = omega (arith, rec)
    by_cases false rec = omega (arith, rec)

fewer : {A : Type 0} (p : A → Bool) (xs : List A) → list_any (λ a. not (p a)) xs ≡ true
    → length (filter p xs) + 1 ≤ length xs
fewer p [] h = absurd (false≢true h)
fewer {A} p (x ∷ xs) h = by_cases (p x) refl (λ k. fewer p xs k) (filter_le p xs)
  where
    by_cases : (b : Bool) → p x ≡ b → (list_any (λ a. not (p a)) xs ≡ true
        → length (filter p xs) + 1 ≤ length xs) → length (filter p xs) ≤ length xs
        → length (cond b (x ∷ filter p xs) (filter p xs)) + 1 ≤ suc (length xs)
    by_cases true q rec le = let r : length (filter p xs) + 1 ≤ length xs =
        rec (sym (ap (λ b. not b || list_any (λ a. not (p a)) xs) q) ∙ h) in omega (arith, r)
    by_cases false q rec le = omega (arith, le)

count_filter : {A : Type 0} (t p : A → Bool) (xs : List A) → count t (filter p xs) ≤ count t xs
count_filter t p [] = omega arith
count_filter {A} t p (x ∷ xs) = by_cases (p x) (t x) (count_filter t p xs)
  where
    by_cases : (b c : Bool) → count t (filter p xs) ≤ count t xs
        → count t (cond b (x ∷ filter p xs) (filter p xs))
        ≤ cond (t x) (suc (count t xs)) (count t xs)
    by_cases true c rec = more (t x) rec
      where
        more : (b : Bool) → count t (filter p xs) ≤ count t xs
            → cond b (suc (count t (filter p xs))) (count t (filter p xs))
            ≤ cond b (suc (count t xs)) (count t xs)
        more true r = omega (arith, r)
        more false r = r
    by_cases false c rec = less (t x) rec
      where
        less : (b : Bool) → count t (filter p xs) ≤ count t xs
            → count t (filter p xs) ≤ cond b (suc (count t xs)) (count t xs)
        less true r = omega (arith, r)
        less false r = r

abbrev lives : LiveHandle → Bool
lives h = h.alive

length_ended : (event : Option Event) (hs : List LiveHandle)
    → length (map (with_end event) hs) ≡ length hs
length_ended event [] = refl
length_ended event (h ∷ hs) = ap suc (length_ended event hs)

count_ended : (event : Option Event) (hs : List LiveHandle)
    → count lives (map (with_end event) hs) ≤ count lives hs
count_ended event [] = omega arith
count_ended event (h ∷ hs) = by_cases (P.belongs_to h.handle.0 event) (count_ended event hs)
  where
    by_cases : (b : Bool) → count lives (map (with_end event) hs) ≤ count lives hs
        → cond (cond b (record h { alive = false }) h).alive
        (suc (count lives (map (with_end event) hs))) (count lives (map (with_end event) hs))
        ≤ cond h.alive (suc (count lives hs)) (count lives hs)
    by_cases true rec = less h.alive rec
      where
        less : (b : Bool) → count lives (map (with_end event) hs) ≤ count lives hs
            → count lives (map (with_end event) hs) ≤ cond b (suc (count lives hs)) (count lives hs)
        less true r = omega (arith, r)
        less false r = r
    by_cases false rec = more h.alive rec
      where
        more : (b : Bool) → count lives (map (with_end event) hs) ≤ count lives hs
            → cond b (suc (count lives (map (with_end event) hs)))
            (count lives (map (with_end event) hs)) ≤ cond b (suc (count lives hs)) (count lives hs)
        more true r = omega (arith, r)
        more false r = r

count_ended_one : (handle : Handle) (hs : List LiveHandle)
    → list_any (λ (h : LiveHandle). h.handle.0 == handle.0 && h.alive) hs ≡ true
    → count lives (map (with_end (of_handle handle)) hs) + 1 ≤ count lives hs
count_ended_one handle [] h = absurd (false≢true h)
count_ended_one handle (a ∷ hs) h =
    ⊎_elim
    (λ (k : (a.handle.0 == handle.0 && a.alive) ≡ true).
    let p : ((a.handle.0 == handle.0) ≡ true) × (a.alive ≡ true) =
    and_parts (a.handle.0 == handle.0) a.alive k in
    let mine : (handle.0 == a.handle.0) ≡ true =
    eq-eqb handle.0 a.handle.0 (sym (eqb-true a.handle.0 handle.0 p.0)) in
    let gone : (with_end (of_handle handle) a).alive ≡ false =
    ap (λ b. (cond b (record a { alive = false }) a).alive) mine in
    let first : count lives (map (with_end (of_handle handle)) (a ∷ hs))
    ≡ count lives (map (with_end (of_handle handle)) hs) =
    cond-false (with_end (of_handle handle) a).alive _ _ gone in
    let all : count lives (a ∷ hs) ≡ suc (count lives hs) = cond-true a.alive _ _ p.1 in
    let le : count lives (map (with_end (of_handle handle)) hs) ≤ count lives hs =
    count_ended (of_handle handle) hs in
    omega (arith, first, all, le))
    (λ (k : list_any (λ (h : LiveHandle). h.handle.0 == handle.0 && h.alive) hs ≡ true).
    let rec : count lives (map (with_end (of_handle handle)) hs) + 1 ≤ count lives hs =
    count_ended_one handle hs k in
    let one : count lives (map (with_end (of_handle handle)) (a ∷ hs))
    ≤ count lives (map (with_end (of_handle handle)) hs) + (count lives (a ∷ [])) =
    head_le (P.belongs_to a.handle.0 (of_handle handle)) in
    let all : count lives (a ∷ hs) ≡ count lives hs + count lives (a ∷ []) = head_is a.alive in
    omega (arith, rec, one, all))
    (or_cases (a.handle.0 == handle.0 && a.alive) _ h)
  where
    head_le : (b : Bool) → cond (cond b (record a { alive = false }) a).alive
        (suc (count lives (map (with_end (of_handle handle)) hs)))
        (count lives (map (with_end (of_handle handle)) hs))
        ≤ count lives (map (with_end (of_handle handle)) hs) + cond a.alive 1 0
    head_le true = omega arith
    head_le false = by_alive a.alive
      where
        by_alive : (c : Bool) → cond c (suc (count lives (map (with_end (of_handle handle)) hs)))
            (count lives (map (with_end (of_handle handle)) hs))
            ≤ count lives (map (with_end (of_handle handle)) hs) + cond c 1 0
        by_alive true = omega arith
        by_alive false = omega arith

    head_is : (c : Bool) → cond c (suc (count lives hs)) (count lives hs)
        ≡ count lives hs + cond c 1 0
    head_is true = omega arith
    head_is false = omega arith

pub find_any : {A : Type 0} (p : A → Bool) (xs : List A) (a : A) → find p xs ≡ Some a
    → list_any p xs ≡ true
find_any p [] a h = absurd (none h)
  where
    none : {B : Type 0} {b : B} → ◌≡◌ {A = Option B} None (Some b) → ⊥
    none q = cc
find_any {A} p (x ∷ xs) a h = by_cases (p x) refl (λ k. find_any p xs a k)
  where
    by_cases : (b : Bool) → p x ≡ b → (find p xs ≡ Some a → list_any p xs ≡ true)
        → (b || list_any p xs) ≡ true
    by_cases true q rec = refl
    by_cases false q rec = rec (sym (cond-false (p x) (Some x) (find p xs) q) ∙ h)

any_turned : (i : ℕ) (os : List OpenEvent) → list_any (λ (o : OpenEvent). o.event == i) os ≡ true
    → list_any (λ (o : OpenEvent). not (not (i == o.event))) os ≡ true
any_turned i [] h = h
any_turned i (o ∷ os) h =
    ⊎_elim
    (λ (k : (o.event == i) ≡ true). ap
    (λ b. not (not b) || list_any (λ (o : OpenEvent). not (not (i == o.event))) os)
    (eq-eqb i o.event (sym (eqb-true o.event i k))))
    (λ (k : list_any (λ (o : OpenEvent). o.event == i) os ≡ true).
    either (not (not (i == o.event))) (any_turned i os k))
    (or_cases (o.event == i) _ h)
  where
    either : (b : Bool) → {c : Bool} → c ≡ true → (b || c) ≡ true
    either true q = refl
    either false q = q

-- ---- the entries

pub opens_returned : {N : Type 0} (s : Summary) (event : ℕ) (answer : Answer) (note : N)
    (o : OpenEvent) → open_event s event ≡ Some o
    → length (step s (Returned event answer note)).opens + 1 ≤ length s.opens
opens_returned s event answer note o h =
    fewer (λ (a : OpenEvent). not (event == a.event)) s.opens
    (any_turned event s.opens (find_any (λ (a : OpenEvent). a.event == event) s.opens o h))

pub owed_returned : {N : Type 0} (s : Summary) (event : ℕ) (answer : Answer) (note : N)
    (o : OpenEvent) → open_event s event ≡ Some o
    → owed (step s (Returned event answer note)) + 5 ≤ owed s
owed_returned s event Keep note o h =
    let r : length (step s (Returned event Keep note)).opens + 1 ≤ length s.opens =
    opens_returned s event Keep note o h in omega (arith, r)
owed_returned s event Again note o h =
    let r : length (step s (Returned event Again note)).opens + 1 ≤ length s.opens =
    opens_returned s event Again note o h in omega (arith, r)
owed_returned s event Close note o h =
    let r : length (step s (Returned event Close note)).opens + 1 ≤ length s.opens =
    opens_returned s event Close note o h in
    omega (
      arith,
      r,
      count_ended (S.event_open s event) s.handles,
      length_ended (S.event_open s event) s.handles,
    )

pub owed_closed : {N : Type 0} (s : Summary) (handle : Handle) (note : N)
    → is_live s handle.0 ≡ true → owed (step s (Closed handle note)) + 1 ≤ owed s
owed_closed s handle note live =
    let gone : length (filter (λ (h : LiveHandle). not (handle.0 == h.handle.0)) s.handles) + 1
    ≤ length s.handles = fewer (λ (h : LiveHandle). not (handle.0 == h.handle.0)) s.handles
    (turned s.handles live) in
    omega (
      arith,
      gone,
      count_filter lives (λ (h : LiveHandle). not (handle.0 == h.handle.0))
          s.handles,
    )
  where
    turned : (hs : List LiveHandle) → list_any (λ (h : LiveHandle). h.handle.0 == handle.0) hs
        ≡ true → list_any (λ (h : LiveHandle). not (not (handle.0 == h.handle.0))) hs ≡ true
    turned [] h = h
    turned (a ∷ hs) h =
        ⊎_elim
        (λ (k : (a.handle.0 == handle.0) ≡ true).
        ap (λ b. not (not b) || list_any (λ (h : LiveHandle).
        not (not (handle.0 == h.handle.0))) hs)
        (eq-eqb handle.0 a.handle.0 (sym (eqb-true a.handle.0 handle.0 k))))
        (λ (k : list_any (λ (h : LiveHandle). h.handle.0 == handle.0) hs ≡ true).
        either (not (not (handle.0 == a.handle.0))) (turned hs k))
        (or_cases (a.handle.0 == handle.0) _ h)
      where
        either : (b : Bool) → {c : Bool} → c ≡ true → (b || c) ≡ true
        either true q = refl
        either false q = q

pub owed_removed : (N : Type 0) (s : Summary) (handle : Handle) → is_alive s handle.0 ≡ true
    → owed (step {N = N} s (Removed handle)) + 1 ≤ owed s
owed_removed N s handle alive = omega
    (arith, count_ended_one handle s.handles alive, length_ended (of_handle handle) s.handles)

pub owed_opened : (N : Type 0) (s : Summary) (handle : Handle) (mask : Mask)
    → owed (step {N = N} s (Opened handle mask)) ≡ owed s + 2
owed_opened N s handle mask =
    let one : length (s.handles ++ record {
      handle = handle;
      mask = mask;
      suspended = false;
      alive = true;
    } ∷ []) ≡ length s.handles + 1 =
    length-append s.handles (record {
      handle = handle;
      mask = mask;
      suspended = false;
      alive = true;
    } ∷ []) in
    omega (arith, one, last s.handles)
  where
    last : (hs : List LiveHandle) → count lives
        (hs ++ record { handle = handle; mask = mask; suspended = false; alive = true } ∷ [])
        ≡ count lives hs + 1
    last [] = refl
    last (h ∷ hs) = by_alive h.alive (last hs)
      where
        by_alive : (b : Bool) → count lives
            (hs ++ record { handle = handle; mask = mask; suspended = false; alive = true } ∷ [])
            ≡ count lives hs + 1
            → cond b (suc (count lives (hs ++ record {
              handle = handle;
              mask = mask;
              suspended = false;
              alive = true;
            } ∷ []))) (count lives
            (hs ++ record { handle = handle; mask = mask; suspended = false; alive = true }
            ∷ [])) ≡ cond b (suc (count lives hs)) (count lives hs) + 1
        by_alive true r = omega (arith, r)
        by_alive false r = r
