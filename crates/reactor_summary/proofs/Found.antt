-- A waiting event is found by its number.
use Rattle.std.proofs.Common.{ℕ, zero, suc, ◌≡◌, ◌≢◌, ◌<◌, ◌==◌, Bool, true, false, List, length}
use Rattle.std.proofs.Common.{refl, sym, ap, ◌∙◌, subst, arith, cond, Option, Some, None, is_some}
use Rattle.std.proofs.Common.{⊎_elim}
use Rattle.std.proofs.lemmas.Bool.{eqb-true, eq-eqb, cases_eq, both_ways}
use Rattle.std.proofs.lemmas.List.Folds.{find-append}
use Rattle.std.specs.List.{find}
use Rattle.std.specs.Option.{option_to_list, option_or}
use Rattle.reactor_journal.specs.Event.{Event}
use Rattle.reactor_journal.specs.declared.entry.Entry.{Entry}
use Rattle.reactor_journal.specs.Past as P
use Rattle.reactor_journal.proofs.Basics.{event_at-within}
use Rattle.reactor_summary.specs.declared.parts.WaitingEvent.{WaitingEvent}
use Rattle.reactor_summary.specs.Summary as S
use Rattle.reactor_summary.specs.Summary.{Summary}
use Rattle.reactor_summary.specs.Tells as T
use Rattle.reactor_summary.specs.Tells.{Tells, listed}
use Rattle.reactor_summary.proofs.Lists.{some_is, none_some}
use Rattle.reactor_summary.proofs.Reading.{waiting_some, waiting_from}

-- what a search in a list finds: the first that passes, or none
pub record FirstOf {A : Type 0} (p : A → Bool) (f : ℕ → Option A) (n : ℕ) (a : A) : Type 0 where
  pub at : ℕ
  pub below : at < n
  pub is : f at ≡ Some a
  pub passes : p a ≡ true
  pub first : (k : ℕ) (b : A) → k < at → f k ≡ Some b → p b ≡ false

abbrev pub NoneOf : {A : Type 0} → (A → Bool) → (ℕ → Option A) → ℕ → Type 0
NoneOf {A} p f n = (k : ℕ) (b : A) → k < n → f k ≡ Some b → p b ≡ false

-- the answer of a search
abbrev pub Answers : {A : Type 0} → (A → Bool) → (ℕ → Option A) → ℕ → Option A → Type 0
Answers p f n None = NoneOf p f n
Answers p f n (Some a) = FirstOf p f n a

one_more : {A : Type 0} (p : A → Bool) (f : ℕ → Option A) (n : ℕ) (before : Option A)
    (last : Option A) → f n ≡ last → Answers p f n before
    → Answers p f (suc n) (option_or before (find p (option_to_list last)))
one_more p f n (Some a) last q h =
    record { at = h.at; below = omega arith; is = h.is; passes = h.passes; first = h.first }
one_more p f n None None q h = λ k b lt is.
    ⊎_elim
    (λ (e : k ≡ n). none_some b (sym (ap f e ∙ q) ∙ is))
    (λ (e : k ≢ n). h k b (omega arith) is)
    (cases_eq k n)
one_more {A} p f n None (Some a) q h = by_cases (p a) refl
  where
    by_cases : (c : Bool) → p a ≡ c → Answers p f (suc n) (cond c (Some a) None)
    by_cases true c = record {
      at = n;
      below = omega arith;
      is = q;
      passes = c;
      first = λ k b lt is. h k b lt is;
    }
    by_cases false c = λ k b lt is.
        ⊎_elim
        (λ (e : k ≡ n). let same : a ≡ b = some_is a b (sym q ∙ (ap f (sym e) ∙ is)) in
        sym (ap p same) ∙ c)
        (λ (e : k ≢ n). h k b (omega arith) is)
        (cases_eq k n)

pub find_answers : {A : Type 0} (p : A → Bool) (f : ℕ → Option A) (n : ℕ)
    → Answers p f n (find p (listed f n))
find_answers p f zero = λ k b lt is. absurd (omega arith)
find_answers p f (suc n) =
    subst (Answers p f (suc n)) (sym (find-append p (listed f n) (option_to_list (f n))))
    (one_more p f n (find p (listed f n)) (f n) refl (find_answers p f n))

-- an answer that must be there
answer_is : {A : Type 0} (p : A → Bool) (f : ℕ → Option A) (n k : ℕ) (a : A) (o : Option A)
    → Answers p f n o → k < n → f k ≡ Some a → p a ≡ true
    → ((j : ℕ) (b : A) → f j ≡ Some b → p b ≡ true → j ≡ k) → o ≡ Some a
answer_is p f n k a None h lt is c one = absurd (both_ways (p a) (h k a lt is) c)
answer_is p f n k a (Some b) h lt is c one =
    let same : h.at ≡ k = one h.at b h.is h.passes in
    sym h.is ∙ (ap f same ∙ is)

-- the waiting event i is found
pub waiting_found : {N : Type 0} (past : List (Entry N)) (s : Summary) (i : ℕ) (event : Event)
    → Tells past s → P.is_waiting past i ≡ true → P.event_at past i ≡ Some event
    → S.waiting_event s i ≡ Some (T.as_waiting past i event)
waiting_found past s i event t w at =
    let test : WaitingEvent → Bool = λ (v : WaitingEvent). v.event == i in
    let lt : i < length past = event_at-within past i (ap is_some at) in
    ap (find test) t.waiting
    ∙ answer_is test (T.waiting_event past) (length past) i (T.as_waiting past i event)
    (find test (listed (T.waiting_event past) (length past)))
    (find_answers test (T.waiting_event past) (length past)) lt
    (waiting_from past i event w at) (eq-eqb i i refl)
    (λ j b is c.
    let v : (ev : Event) × (P.is_waiting past j ≡ true) × (P.event_at past j ≡ Some ev)
    × (T.as_waiting past j ev ≡ b) = waiting_some past j b is in
    ap (λ (x : WaitingEvent). x.event) v.3 ∙ eqb-true b.event i c)
