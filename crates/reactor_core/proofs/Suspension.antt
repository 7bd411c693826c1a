-- What is asked of a handle.
use Rattle.std.proofs.Common.{ℕ, ◌≡◌, ◌==◌, Bool, true, false, not, ◌&&◌, ◌||◌, List, [], ◌∷◌, refl}
use Rattle.std.proofs.Common.{sym, ap, ◌∙◌, Option, Some, None, Result, Ok, Err, ⊎_elim}
use Rattle.std.proofs.lemmas.Bool.{false≢true, true≢false, and_parts, and_from, or_parts, or_left}
use Rattle.std.proofs.lemmas.Bool.{or_right, or_cases, both_ways, cases_Bool, cond-true, cond-false}
use Rattle.std.specs.List.{list_any, find}
use Rattle.reactor_model.specs.reactor_journal.specs.declared.entry.Entry.{Entry}
use Rattle.reactor_model.specs.reactor_journal.specs.Past as P
use Rattle.reactor_model.specs.reactor_journal.specs.Follow.{is_legal}
use Rattle.reactor_summary.specs.declared.parts.LiveHandle.{LiveHandle}
use Rattle.reactor_summary.specs.Summary.{Summary, summary, is_alive, is_suspended, is_resumed}
use Rattle.reactor_summary.proofs.Told.{told}
use Rattle.reactor_summary.proofs.Reading.{live_test, described}
use Rattle.reactor_summary.specs.ev_types.specs.declared.upcall.Handle.{Handle}
use Rattle.reactor_model.specs.reactor_journal.specs.declared.entry.Entry.TheVariants.{Suspended}
use Rattle.reactor_model.specs.reactor_journal.specs.declared.entry.Entry.TheVariants.{Resumed}
use Rattle.reactor_summary.specs.Rules as R
use Rattle.reactor_core.specs.Stands.{IsSettled}
use Rattle.reactor_core.specs.Requests.{suspension, IsStateAnswer}
use Rattle.reactor_core.specs.declared.requests.StateRefused.{StateRefused}
use Rattle.reactor_core.specs.declared.requests.StateRefused.TheVariants.{NotLive, Same, NoMemory}

-- ---- a handle that is found

none_found : {A : Type 0} (p q : A → Bool) (xs : List A) → find p xs ≡ None
    → list_any (λ a. p a && q a) xs ≡ false
none_found p q [] h = refl
none_found {A} p q (x ∷ xs) h = by_cases (p x) refl (λ k. none_found p q xs k)
  where
    by_cases : (b : Bool) → p x ≡ b → (find p xs ≡ None → list_any (λ a. p a && q a) xs ≡ false)
        → (p x && q x || list_any (λ a. p a && q a) xs) ≡ false
    by_cases true k rec = absurd (none (sym (cond-true (p x) (Some x) (find p xs) k) ∙ h))
      where
        none : ◌≡◌ {A = Option A} (Some x) None → ⊥
        none q = cc
    by_cases false k rec = ap (λ b. b && q x || list_any (λ a. p a && q a) xs) k
        ∙ rec (sym (cond-false (p x) (Some x) (find p xs) k) ∙ h)

one_found : {A : Type 0} (p q : A → Bool) (xs : List A) (a : A) → find p xs ≡ Some a → q a ≡ true
    → list_any (λ a. p a && q a) xs ≡ true
one_found p q [] a h k = absurd (none h)
  where
    none : {B : Type 0} {b : B} → ◌≡◌ {A = Option B} None (Some b) → ⊥
    none q = cc
one_found {A} p q (x ∷ xs) a h k = by_cases (p x) refl (λ r. one_found p q xs a r k)
  where
    by_cases : (b : Bool) → p x ≡ b → (find p xs ≡ Some a → list_any (λ a. p a && q a) xs ≡ true)
        → (p x && q x || list_any (λ a. p a && q a) xs) ≡ true
    by_cases true r rec =
        let same : ◌≡◌ {A = Option A} (Some x) (Some a) =
        sym (cond-true (p x) (Some x) (find p xs) r) ∙ h in
        let is : x ≡ a = cc in
        or_left (p x && q x) (list_any (λ a. p a && q a) xs) (and_from (p x) (q x) r (ap q is ∙ k))
    by_cases false r rec = or_right (p x && q x) (list_any (λ a. p a && q a) xs)
        (rec (sym (cond-false (p x) (Some x) (find p xs) r) ∙ h))

-- a test of the handle x passes exactly if the one that is found passes it
pub found_test : {N : Type 0} (most : ℕ) (past : List (Entry N)) (x : ℕ) (a : LiveHandle)
    (q : LiveHandle → Bool) → is_legal most past ≡ true
    → find (λ (h : LiveHandle). h.handle.0 == x) (summary past).handles ≡ Some a
    → list_any (λ (h : LiveHandle). h.handle.0 == x && q h) (summary past).handles ≡ q a
found_test most past x a q legal found = by_value (q a) refl
  where
    at : (r : LiveHandle → Bool) → list_any (λ (h : LiveHandle). h.handle.0 == x && r h)
        (summary past).handles ≡ (P.was_opened past x
        && (not (P.was_closed past x) && r (described past x)))
    at r = live_test most past (summary past) r x legal (told most past legal)

    by_value : (b : Bool) → q a ≡ b → list_any (λ (h : LiveHandle). h.handle.0 == x && q h)
        (summary past).handles ≡ b
    by_value true k = one_found (λ (h : LiveHandle). h.handle.0 == x) q (summary past).handles a
        found k
    by_value false k =
        let other : list_any (λ (h : LiveHandle). h.handle.0 == x && not (q h))
        (summary past).handles ≡ true = one_found (λ (h : LiveHandle). h.handle.0 == x)
        (λ (h : LiveHandle). not (q h)) (summary past).handles a found (ap not k) in
        at q ∙ none (P.was_opened past x) (P.was_closed past x) (q (described past x))
        (sym (at (λ h. not (q h))) ∙ other)
      where
        none : (o c d : Bool) → (o && (not c && not d)) ≡ true → (o && (not c && d)) ≡ false
        none true false false h = refl
        none true false true h = absurd (false≢true h)
        none true true d h = absurd (false≢true h)
        none false c d h = refl

pub suspension_none : (s : Summary) (x : ℕ)
    → find (λ (h : LiveHandle). h.handle.0 == x) s.handles ≡ None → None ≡ suspension s x
suspension_none s x found = sym (cond-false (is_alive s x) (Some (is_suspended s x)) None
    (none_found (λ (h : LiveHandle). h.handle.0 == x) (λ (h : LiveHandle). h.alive) s.handles
    found))

pub suspension_dead : {N : Type 0} (most : ℕ) (past : List (Entry N)) (x : ℕ) (a : LiveHandle)
    → is_legal most past ≡ true → find (λ (h : LiveHandle). h.handle.0 == x) (summary past).handles
    ≡ Some a → a.alive ≡ false
    → None ≡ suspension (summary past) x
suspension_dead most past x a legal found dead =
    sym (cond-false (is_alive (summary past) x) (Some (is_suspended (summary past) x)) None
    (found_test most past x a (λ (h : LiveHandle). h.alive) legal found ∙ dead))

pub suspension_alive : {N : Type 0} (most : ℕ) (past : List (Entry N)) (x : ℕ) (a : LiveHandle)
    → is_legal most past ≡ true → find (λ (h : LiveHandle). h.handle.0 == x) (summary past).handles
    ≡ Some a → a.alive ≡ true
    → Some a.suspended ≡ suspension (summary past) x
suspension_alive most past x a legal found alive =
    sym (cond-true (is_alive (summary past) x) (Some (is_suspended (summary past) x)) None
    (found_test most past x a (λ (h : LiveHandle). h.alive) legal found ∙ alive)
    ∙ ap (λ (b : Bool). Some b) (found_test most past x a
    (λ (h : LiveHandle). h.alive && h.suspended) legal found
    ∙ ap (λ b. b && a.suspended) alive))

-- ---- the answers

alive_from : (s : Summary) (x : ℕ) (b : Bool) → suspension s x ≡ Some b → is_alive s x ≡ true
alive_from s x b h = ⊎_elim (λ (q : is_alive s x ≡ true). q)
    (λ (q : is_alive s x ≡ false). absurd
    (none (sym (cond-false (is_alive s x) (Some (is_suspended s x)) None q) ∙ h)))
    (cases_Bool (is_alive s x))
  where
    none : ◌≡◌ {A = Option Bool} None (Some b) → ⊥
    none q = cc

dead_from : (s : Summary) (x : ℕ) → suspension s x ≡ None → is_alive s x ≡ false
dead_from s x h = ⊎_elim (λ (q : is_alive s x ≡ true).
    absurd (none (sym (cond-true (is_alive s x) (Some (is_suspended s x)) None q) ∙ h)))
    (λ (q : is_alive s x ≡ false). q) (cases_Bool (is_alive s x))
  where
    none : ◌≡◌ {A = Option Bool} (Some (is_suspended s x)) None → ⊥
    none q = cc

-- a handle in the asked state is alive, and one that is suspended may be resumed, and the other way
-- round
pub may_resume : (s : Summary) (x : ℕ) → suspension s x ≡ Some true → is_suspended s x ≡ true
may_resume s x h = let same : ◌≡◌ {A = Option Bool} (Some (is_suspended s x)) (Some true) =
    sym (cond-true (is_alive s x) (Some (is_suspended s x)) None (alive_from s x true h)) ∙ h in cc

pub may_suspend : (s : Summary) (x : ℕ) → suspension s x ≡ Some false → is_resumed s x ≡ true
may_suspend s x h =
    let same : ◌≡◌ {A = Option Bool} (Some (is_suspended s x)) (Some false) =
    sym (cond-true (is_alive s x) (Some (is_suspended s x)) None (alive_from s x false h))
    ∙ h in
    let held : is_suspended s x ≡ false = cc in
    other s.handles (alive_from s x false h) held
  where
    other : (hs : List LiveHandle) → list_any (λ (h : LiveHandle). h.handle.0 == x && h.alive) hs
        ≡ true → list_any (λ (h : LiveHandle). h.handle.0 == x && (h.alive && h.suspended)) hs
        ≡ false
        → list_any (λ (h : LiveHandle). h.handle.0 == x && (h.alive && not h.suspended)) hs ≡ true
    other [] a n = a
    other (h ∷ hs) a n =
        let p : ((h.handle.0 == x && (h.alive && h.suspended)) ≡ false)
        × (list_any (λ (h : LiveHandle). h.handle.0 == x && (h.alive && h.suspended)) hs
        ≡ false) = or_parts _ _ n in
        ⊎_elim
        (λ (k : (h.handle.0 == x && h.alive) ≡ true).
        or_left (h.handle.0 == x && (h.alive && not h.suspended)) _
        (one (h.handle.0 == x) h.alive h.suspended k p.0))
        (λ (k : list_any (λ (h : LiveHandle). h.handle.0 == x && h.alive) hs ≡ true).
        or_right (h.handle.0 == x && (h.alive && not h.suspended)) _ (other hs k p.1))
        (or_cases (h.handle.0 == x && h.alive) _ a)
      where
        one : (m a b : Bool) → (m && a) ≡ true → (m && (a && b)) ≡ false
            → (m && (a && not b)) ≡ true
        one true true false k n = refl
        one true true true k n = absurd (true≢false n)
        one true false b k n = k
        one false a b k n = k

pub answers_not_live : (s : Summary) (x : ℕ) (asked : Bool) → suspension s x ≡ None
    → IsStateAnswer s x asked (Err NotLive)
answers_not_live s x asked h = record {
  not_live = (λ q. dead_from s x h, λ q. refl);
  same = (λ q. absurd (apart q), λ q. absurd (none (sym h ∙ q)));
}
  where
    apart : ◌≡◌ {A = Result (Unit {0}) StateRefused} (Err NotLive) (Err Same) → ⊥
    apart q = cc

    none : ◌≡◌ {A = Option Bool} None (Some asked) → ⊥
    none q = cc

pub answers_same : (s : Summary) (x : ℕ) (asked : Bool) → suspension s x ≡ Some asked
    → IsStateAnswer s x asked (Err Same)
answers_same s x asked h = record {
  not_live = (
    λ q. absurd (apart q),
    λ q. absurd (both_ways (is_alive s x) q (alive_from s x asked h)),
  );
  same = (λ q. h, λ q. refl);
}
  where
    apart : ◌≡◌ {A = Result (Unit {0}) StateRefused} (Err Same) (Err NotLive) → ⊥
    apart q = cc

-- no other answer comes if one of these two must
pub answers_else : (s : Summary) (x : ℕ) (asked : Bool) (result : Result (Unit {0}) StateRefused)
    → suspension s x ≡ Some (not asked) → (result ≡ Err NotLive → ⊥) → (result ≡ Err Same → ⊥)
    → IsStateAnswer s x asked result
answers_else s x asked result h n m = record {
  not_live = (
    λ q. absurd (n q),
    λ q.
        absurd (both_ways (is_alive s x) q (alive_from s x (not asked) h)),
  );
  same = (λ q. absurd (m q), λ q. absurd (other asked (sym h ∙ q)));
}
  where
    other : (b : Bool) → ◌≡◌ {A = Option Bool} (Some (not b)) (Some b) → ⊥
    other true q = cc
    other false q = cc

pub answers_ok : (s : Summary) (x : ℕ) (asked : Bool) → suspension s x ≡ Some (not asked)
    → IsStateAnswer s x asked (Ok tt)
answers_ok s x asked h = answers_else s x asked (Ok tt) h (λ q. apart q) (λ q. other q)
  where
    apart : ◌≡◌ {A = Result (Unit {0}) StateRefused} (Ok tt) (Err NotLive) → ⊥
    apart q = cc

    other : ◌≡◌ {A = Result (Unit {0}) StateRefused} (Ok tt) (Err Same) → ⊥
    other q = cc

pub answers_no_memory : (s : Summary) (x : ℕ) (asked : Bool) → suspension s x ≡ Some (not asked)
    → IsStateAnswer s x asked (Err NoMemory)
answers_no_memory s x asked h = answers_else s x asked (Err NoMemory) h (λ q. apart q)
    (λ q. other q)
  where
    apart : ◌≡◌ {A = Result (Unit {0}) StateRefused} (Err NoMemory) (Err NotLive) → ⊥
    apart q = cc

    other : ◌≡◌ {A = Result (Unit {0}) StateRefused} (Err NoMemory) (Err Same) → ⊥
    other q = cc

-- ---- the entries may follow

pub running : (s : Summary) (x : ℕ) → IsSettled s → is_alive s x ≡ true → s.ended ≡ false
running s x o a = ⊎_elim (λ (q : s.ended ≡ true).
    absurd (both_ways _ (o.none_alive q) (some_alive s.handles a))) (λ (q : s.ended ≡ false). q)
    (cases_Bool s.ended)
  where
    some_alive : (hs : List LiveHandle)
        → list_any (λ (h : LiveHandle). h.handle.0 == x && h.alive) hs ≡ true
        → list_any (λ (h : LiveHandle). h.alive) hs ≡ true
    some_alive [] k = k
    some_alive (h ∷ hs) k =
        ⊎_elim
        (λ (q : (h.handle.0 == x && h.alive) ≡ true).
        or_left h.alive _ (and_parts (h.handle.0 == x) h.alive q).1)
        (λ (q : list_any (λ (h : LiveHandle). h.handle.0 == x && h.alive) hs ≡ true).
        or_right h.alive _ (some_alive hs q))
        (or_cases (h.handle.0 == x && h.alive) _ k)

pub suspended_follows : (N : Type 0) (most : ℕ) (due ready : Bool) (s : Summary) (handle : Handle)
    → IsSettled s → suspension s handle.0 ≡ Some false
    → R.may_follow {N = N} most due ready s (Suspended handle) ≡ true
suspended_follows N most due ready s handle o h =
    and_from (false || not s.ended) _ (ap not
    (running s handle.0 o (alive_from s handle.0 false h))) (may_suspend s handle.0 h)

pub resumed_follows : (N : Type 0) (most : ℕ) (due ready : Bool) (s : Summary) (handle : Handle)
    → IsSettled s → suspension s handle.0 ≡ Some true
    → R.may_follow {N = N} most due ready s (Resumed handle) ≡ true
resumed_follows N most due ready s handle o h =
    and_from (false || not s.ended) _ (ap not (running s handle.0 o (alive_from s handle.0 true h)))
    (may_resume s handle.0 h)
