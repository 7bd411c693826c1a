-- The event that is picked, and where it stands.
use Rattle.std.proofs.Common.{ℕ, zero, suc, ◌≡◌, ◌==◌, Bool, true, false, ◌&&◌, List, [], ◌∷◌, refl}
use Rattle.std.proofs.Common.{sym, ap, ◌∙◌, cond, Option, Some, None}
use Rattle.std.proofs.lemmas.Bool.{eqb-true}
use Rattle.std.proofs.lemmas.List.{nil_from_length}
use Rattle.std.specs.Prelude.{slice_get, IfSome, length}
use Rattle.std.specs.List.{find, filter}
use Rattle.ev_types.specs.declared.upcall.Upcall.{Upcall}
use Rattle.ev_types.specs.declared.upcall.Upcall.TheVariants.{Input, Output, Except, Timeout}
use Rattle.ev_types.specs.declared.upcall.Upcall.TheVariants.{Notice}
use Rattle.reactor_summary.specs.reactor_journal.specs.Past.{class_of}
use Rattle.reactor_summary.specs.declared.parts.LiveHandle.{LiveHandle}
use Rattle.reactor_summary.specs.declared.parts.OpenEvent.{OpenEvent}
use Rattle.reactor_summary.specs.declared.parts.WaitingEvent.{WaitingEvent}
use Rattle.reactor_summary.specs.Summary.{Summary, pick, else_, first_free}
use Rattle.reactor_state.specs.Tables.{is_free, Queues, of_class, queue_of}

-- a search of those that pass
pub find-filter : {A : Type 0} (p q : A → Bool) (xs : List A)
    → find q (filter p xs) ≡ find (λ x. p x && q x) xs
find-filter p q [] = refl
find-filter p q (x ∷ xs) = step (p x) (find-filter p q xs)
  where
    step : (b : Bool) → find q (filter p xs) ≡ find (λ y. p y && q y) xs
        → find q (cond b (x ∷ filter p xs) (filter p xs))
        ≡ cond (b && q x) (Some x) (find (λ y. p y && q y) xs)
    step true rest = ap (λ o. cond (q x) (Some x) o) rest
    step false rest = rest

-- nothing is found in a list that is empty
pub none_in : {A : Type 0} (p : A → Bool) (xs : List A) (b : Bool) → b ≡ (length xs == 0) → b ≡ true
    → ◌≡◌ {A = Option A} None (find p xs)
none_in p xs b e t = sym (ap (find p) (nil_from_length xs (eqb-true (length xs) 0 (sym e ∙ t))))

-- what stands among those that pass does
pub passes_at : {A : Type 0} (p : A → Bool) (xs : List A) (i : ℕ) (a : A)
    → slice_get (filter p xs) i ≡ Some a → p a ≡ true
passes_at p [] i a h = absurd (none_some a h)
  where
    none_some : {A : Type 0} (a : A) → ◌≡◌ {A = Option A} None (Some a) → ⊥
    none_some a h = cc
passes_at p (x ∷ xs) i a h = step (p x) refl i (λ j. passes_at p xs j a) h
  where
    step : (b : Bool) → p x ≡ b → (i : ℕ)
        → ((j : ℕ) → slice_get (filter p xs) j ≡ Some a → p a ≡ true)
        → slice_get (cond b (x ∷ filter p xs) (filter p xs)) i ≡ Some a → p a ≡ true
    step true t zero rest e = let same : x ≡ a = cc in sym (ap p same) ∙ t
    step true t (suc i) rest e = rest i e
    step false f i rest e = rest i e

-- the first free event of a queue is that of its class
pub free_in : (s : Summary) (hs : List LiveHandle) (os : List OpenEvent) (k : ℕ)
    (q : List WaitingEvent) → s.handles ≡ hs → s.opens ≡ os → q ≡ of_class k s.waiting
    → find (λ (w : WaitingEvent). is_free hs os w.handle.0) q ≡ first_free s k
free_in s hs os k q eh eo eq =
    ap (find (λ (w : WaitingEvent). is_free hs os w.handle.0)) eq
    ∙ ap (λ (h : List LiveHandle). find (λ (w : WaitingEvent). is_free h os w.handle.0)
    (of_class k s.waiting)) (sym eh)
    ∙ ap (λ (o : List OpenEvent). find (λ (w : WaitingEvent). is_free s.handles o w.handle.0)
    (of_class k s.waiting)) (sym eo)
    ∙ find-filter (λ (w : WaitingEvent). class_of w.upcall == k)
    (λ (w : WaitingEvent). is_free s.handles s.opens w.handle.0) s.waiting

pub picked : (s : Summary) (a b c d e : Option WaitingEvent) → first_free s 0 ≡ a
    → first_free s 1 ≡ b → first_free s 2 ≡ c → first_free s 3 ≡ d → first_free s 4 ≡ e
    → else_ a (else_ b (else_ c (else_ d e))) ≡ pick s
unfolding pick
picked s a b c d e ha hb hc hd he =
    sym (ap (λ o. else_ o (else_ (first_free s 1)
    (else_ (first_free s 2) (else_ (first_free s 3) (first_free s 4))))) ha
    ∙ ap (λ o. else_ a (else_ o (else_ (first_free s 2) (else_ (first_free s 3) (first_free s 4)))))
    hb
    ∙ ap (λ o. else_ a (else_ b (else_ o (else_ (first_free s 3) (first_free s 4))))) hc
    ∙ ap (λ o. else_ a (else_ b (else_ c (else_ o (first_free s 4))))) hd
    ∙ ap (λ o. else_ a (else_ b (else_ c (else_ d o)))) he)

-- the queue of a class
abbrev pub class_queue : ℕ → Queues → List WaitingEvent
class_queue zero q = q.timeouts
class_queue (suc zero) q = q.notices
class_queue (suc (suc zero)) q = q.outputs
class_queue (suc (suc (suc zero))) q = q.excepts
class_queue (suc (suc (suc (suc k)))) q = q.inputs

class_same : (u : Upcall) (q : Queues) → queue_of u q ≡ class_queue (class_of u) q
class_same (Timeout timer) q = refl
class_same (Notice kind) q = refl
class_same Output q = refl
class_same Except q = refl
class_same Input q = refl

pub placed_in : (k : ℕ) (q : Queues) (waiting : List WaitingEvent) (i : ℕ) (w : WaitingEvent)
    → class_queue k q ≡ of_class k waiting → slice_get (class_queue k q) i ≡ Some w
    → slice_get (queue_of w.upcall q) i ≡ Some w
placed_in k q waiting i w same here =
    let passes : (class_of w.upcall == k) ≡ true =
    passes_at (λ (v : WaitingEvent). class_of v.upcall == k) waiting i w
    (sym (ap (λ xs. slice_get xs i) same) ∙ here) in
    let class : class_of w.upcall ≡ k = eqb-true (class_of w.upcall) k passes in
    ap (λ xs. slice_get xs i) (class_same w.upcall q ∙ ap (λ j. class_queue j q) class) ∙ here

pub if_some : {A : Type 0} (o : Option A) (P Q : A → Type 0) → ((a : A) → P a → Q a) → IfSome o P
    → IfSome o Q
if_some None P Q f h = h
if_some (Some a) P Q f h = f a h
