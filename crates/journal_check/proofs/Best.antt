-- The first of the first class, among the waiting events that a test admits.
use Rattle.std.proofs.Common.{ℕ, zero, suc, ◌≡◌, ◌≢◌, ◌+◌, ◌<◌, ◌≤◌, ◌==◌, Bool, true, ◌&&◌, ◌||◌}
use Rattle.std.proofs.Common.{List, [], ◌∷◌, ◌++◌, refl, sym, ap, ◌∙◌, subst, arith, Option, Some}
use Rattle.std.proofs.Common.{None, ⊎_elim}
use Rattle.std.proofs.lemmas.Bool.{and_parts, and_from, or_left, or_right, eqb-true, eq-eqb}
use Rattle.std.proofs.lemmas.Bool.{cases_eq, cases_lt, both_ways, lt-ltb, le-leb}
use Rattle.std.proofs.lemmas.Bool.Decides.{nat_tests}
use Rattle.std.specs.Prelude.{nat_lt, nat_le}
use Rattle.std.specs.List.{find, list_any}
use Rattle.reactor_journal.specs.Past.{class_of}
use Rattle.reactor_journal.proofs.Picking.{first_same}
use Rattle.reactor_summary.specs.declared.parts.WaitingEvent.{WaitingEvent}
use Rattle.reactor_summary.specs.Summary as S
use Rattle.reactor_summary.specs.Summary.{Summary}
use Rattle.reactor_summary.specs.Tells.{listed, Each}
use Rattle.reactor_summary.proofs.Lists.{any_listed-from, each_append}
use Rattle.std.specs.Option.{option_to_list}
use Rattle.reactor_summary.proofs.Found.{Answers, find_answers}
use Rattle.journal_check.specs.Queue.{goes_first, IsFront}
use Rattle.journal_check.specs.Fronts.{front, front_in}
use Rattle.journal_check.proofs.Lanes.{class_below}

abbrev pub goes : ℕ → ℕ → ℕ → ℕ → Bool
goes a i b j = nat_lt a b || (a == b && nat_le i j)

pub goes_class : (a i b j : ℕ) → a < b → goes a i b j ≡ true
goes_class a i b j h = or_left (nat_lt a b) (a == b && nat_le i j) (lt-ltb a b h)

pub goes_number : (a i b j : ℕ) → a ≡ b → i ≤ j → goes a i b j ≡ true
goes_number a i b j q h = or_right (nat_lt a b) (a == b && nat_le i j)
    (and_from (a == b) (nat_le i j) (eq-eqb a b q) (le-leb i j h))

pub goes_later : (a i j : ℕ) → goes a i a j ≡ true → i ≤ j
goes_later a i j h = grind (arith, nat_tests)

-- each event stands at its own number
abbrev pub Own : (ℕ → Option WaitingEvent) → Type 0
Own f = (k : ℕ) (w : WaitingEvent) → f k ≡ Some w → w.event ≡ k

pub record First (f : ℕ → Option WaitingEvent) (n : ℕ) (good : WaitingEvent → Bool) (c : ℕ)
    (a : WaitingEvent) : Type 0 where
  pub is : f a.event ≡ Some a
  pub below : a.event < n
  pub class : c ≤ class_of a.upcall
  pub passes : good a ≡ true
  pub first : (k : ℕ) (w : WaitingEvent) → k < n → f k ≡ Some w → c ≤ class_of w.upcall
      → good w ≡ true → goes (class_of a.upcall) a.event (class_of w.upcall) k ≡ true

abbrev pub NoneGood : (ℕ → Option WaitingEvent) → ℕ → (WaitingEvent → Bool) → ℕ → Type 0
NoneGood f n good c = (k : ℕ) (w : WaitingEvent) → k < n → f k ≡ Some w → c ≤ class_of w.upcall
    → good w ≡ true → ⊥

abbrev pub Picks : (ℕ → Option WaitingEvent) → ℕ → (WaitingEvent → Bool) → ℕ → Option WaitingEvent
    → Type 0
Picks f n good c None = NoneGood f n good c
Picks f n good c (Some a) = First f n good c a

abbrev pub test : (WaitingEvent → Bool) → ℕ → WaitingEvent → Bool
test good c w = class_of w.upcall == c && good w

passes_test : (good : WaitingEvent → Bool) (c : ℕ) (w : WaitingEvent) → class_of w.upcall ≡ c
    → good w ≡ true → test good c w ≡ true
passes_test good c w q h = and_from (class_of w.upcall == c) (good w) (eq-eqb _ _ q) h

combined : (f : ℕ → Option WaitingEvent) (n : ℕ) (good : WaitingEvent → Bool) (c : ℕ)
    (here later : Option WaitingEvent) → Own f → Answers (test good c) f n here
    → Picks f n good (c + 1) later → Picks f n good c (S.else_ here later)
combined f n good c (Some a) later own h r =
    let both : ((class_of a.upcall == c) ≡ true) × (good a ≡ true) = and_parts _ _ h.passes in
    let same : class_of a.upcall ≡ c = eqb-true _ _ both.0 in
    let number : a.event ≡ h.at = own h.at a h.is in
    record {
      is = ap f number ∙ h.is;
      below = subst (λ (k : ℕ). k < n) (sym number) h.below;
      class = omega arith;
      passes = both.1;
      first = λ k w lt is from g.
          ⊎_elim
          (λ (q : class_of w.upcall ≡ c).
          ⊎_elim
          (λ (before : k < h.at). absurd (both_ways (test good c w) (h.first k w before is)
          (passes_test good c w q g)))
          (λ (behind : h.at ≤ k). goes_number (class_of a.upcall) a.event (class_of w.upcall) k
          (same ∙ sym q) (omega arith))
          (cases_lt k h.at))
          (λ (q : class_of w.upcall ≢ c). goes_class (class_of a.upcall) a.event (class_of w.upcall)
          k (omega arith))
          (cases_eq (class_of w.upcall) c);
    }
combined f n good c None (Some a) own h r =
    record {
      is = r.is;
      below = r.below;
      class = let k : c + 1 ≤ class_of a.upcall = r.class in omega arith;
      passes = r.passes;
      first = λ k w lt is from g.
          ⊎_elim
          (λ (q : class_of w.upcall ≡ c). absurd
          (both_ways (test good c w) (h k w lt is) (passes_test good c w q g)))
          (λ (q : class_of w.upcall ≢ c). r.first k w lt is (omega arith) g)
          (cases_eq (class_of w.upcall) c);
    }
combined f n good c None None own h r = λ k w lt is from g.
    ⊎_elim
    (λ (q : class_of w.upcall ≡ c). both_ways (test good c w) (h k w lt is)
    (passes_test good c w q g))
    (λ (q : class_of w.upcall ≢ c). r k w lt is (omega arith) g)
    (cases_eq (class_of w.upcall) c)

else_none : (o : Option WaitingEvent) → S.else_ o None ≡ o
else_none None = refl
else_none (Some w) = refl

-- the answers for the five classes
five_classes : (f : ℕ → Option WaitingEvent) (n : ℕ) (good : WaitingEvent → Bool)
    (a b c d e : Option WaitingEvent) → Own f
    → Answers (test good 0) f n a → Answers (test good 1) f n b → Answers (test good 2) f n c
    → Answers (test good 3) f n d → Answers (test good 4) f n e
    → Picks f n good 0 (S.else_ a (S.else_ b (S.else_ c (S.else_ d e))))
five_classes f n good a b c d e own ha hb hc hd he =
    combined f n good 0 a _ own ha
    (combined f n good 1 b _ own hb
    (combined f n good 2 c _ own hc
    (combined f n good 3 d _ own hd
    (subst (Picks f n good 4) (else_none e)
    (combined f n good 4 e None own he
    (λ k w lt is from g. let below : class_of w.upcall < 5 = class_below w.upcall in
    absurd (omega arith)))))))

-- ---- the pick of a summary

pub summary_picks : (s : Summary) (f : ℕ → Option WaitingEvent) (n : ℕ) → s.waiting ≡ listed f n
    → Own f → Picks f n (λ w. S.is_free s w.handle.0) 0 (S.pick s)
unfolding S.pick
summary_picks s f n q own =
    let good : WaitingEvent → Bool = λ (w : WaitingEvent). S.is_free s w.handle.0 in
    let answer : (c : ℕ) → Answers (test good c) f n (S.first_free s c) =
    λ c. subst (Answers (test good c) f n) (sym (ap (find (test good c)) q))
    (find_answers (test good c) f n) in
    five_classes f n good (S.first_free s 0) (S.first_free s 1) (S.first_free s 2)
    (S.first_free s 3) (S.first_free s 4) own (answer 0) (answer 1) (answer 2) (answer 3)
    (answer 4)

-- ---- the first event of a handle

pub each_listed_at : (f : ℕ → Option WaitingEvent) (n : ℕ) (Q : WaitingEvent → Type 0)
    → Each Q (listed f n) → (k : ℕ) (w : WaitingEvent) → k < n → f k ≡ Some w → Q w
each_listed_at f zero Q e k w lt is = absurd (omega arith)
each_listed_at f (suc n) Q e k w lt is =
    ⊎_elim
    (λ (q : k ≡ n).
    let here : Each Q (option_to_list (f n)) =
    each_behind Q (listed f n) (option_to_list (f n)) e in
    let one : Each Q (w ∷ []) = subst (λ (o : Option WaitingEvent). Each Q (option_to_list o))
    (ap f (sym q) ∙ is) here in
    one.0)
    (λ (q : k ≢ n). each_listed_at f n Q (each_front (listed f n) (option_to_list (f n)) e) k w
    (omega arith) is)
    (cases_eq k n)
  where
    each_front : (xs ys : List WaitingEvent) → Each Q (xs ++ ys) → Each Q xs
    each_front [] ys e = tt
    each_front (x ∷ xs) ys e = (e.0, each_front xs ys e.1)

    each_behind : (P : WaitingEvent → Type 0) (xs ys : List WaitingEvent) → Each P (xs ++ ys)
        → Each P ys
    each_behind P [] ys h = h
    each_behind P (x ∷ xs) ys h = each_behind P xs ys h.1

pub each_listed : {A : Type 0} (Q : A → Type 0) (f : ℕ → Option A) (n : ℕ)
    → ((k : ℕ) (a : A) → k < n → f k ≡ Some a → Q a) → Each Q (listed f n)
each_listed Q f zero h = tt
each_listed {A} Q f (suc n) h = each_append Q (listed f n) (option_to_list (f n))
    (each_listed Q f n (λ k a lt is. h k a (omega arith) is)) (last (f n) refl)
  where
    last : (o : Option A) → f n ≡ o → Each Q (option_to_list o)
    last None q = tt
    last (Some a) q = (h n a (omega arith) q, tt)

pub front_picks : (f : ℕ → Option WaitingEvent) (n x : ℕ) (ws : List WaitingEvent)
    (o : Option WaitingEvent) → ws ≡ listed f n → Own f → IsFront x ws o
    → Picks f n (λ w. x == w.handle.0) 0 o
front_picks f n x ws None q own none =
    λ k w lt is from g. both_ways _ (ap (list_any (λ (v : WaitingEvent). x == v.handle.0)) (sym q)
    ∙ none) (any_listed-from (λ (v : WaitingEvent). x == v.handle.0) f n k w lt is g)
front_picks f n x ws (Some a) q own h =
    let found : Answers (λ (v : WaitingEvent). v.event == a.event) f n (Some a) =
    subst (Answers (λ (v : WaitingEvent). v.event == a.event) f n)
    (ap (find (λ (v : WaitingEvent). v.event == a.event)) (sym q) ∙ h.is)
    (find_answers (λ (v : WaitingEvent). v.event == a.event) f n)
    in
    let number : a.event ≡ found.at = own found.at a found.is in
    record {
      is = ap f number ∙ found.is;
      below = subst (λ (k : ℕ). k < n) (sym number) found.below;
      class = omega arith;
      passes = eq-eqb x a.handle.0 (sym h.mine);
      first = λ k w lt is from g.
          subst (λ (m : ℕ). goes (class_of a.upcall) a.event (class_of w.upcall) m ≡ true)
          (own k w is)
          (each_listed_at f n (λ w. w.handle.0 ≡ x → goes_first a w ≡ true)
          (subst (Each (λ w. w.handle.0 ≡ x → goes_first a w ≡ true)) q h.first) k w lt is
          (sym (eqb-true x w.handle.0 g)));
    }

-- ---- there is one answer

pub picks_one : (f : ℕ → Option WaitingEvent) (n : ℕ) (good : WaitingEvent → Bool)
    (o r : Option WaitingEvent) → Picks f n good 0 o → Picks f n good 0 r → o ≡ r
picks_one f n good None None h k = refl
picks_one f n good None (Some b) h k = absurd (h b.event b k.below k.is k.class k.passes)
picks_one f n good (Some a) None h k = absurd (k a.event a h.below h.is h.class h.passes)
picks_one f n good (Some a) (Some b) h k =
    let same : a.event ≡ b.event = first_same (class_of a.upcall) a.event (class_of b.upcall)
    b.event (h.first b.event b k.below k.is k.class k.passes)
    (k.first a.event a h.below h.is h.class h.passes) in
    sym h.is ∙ (ap f same ∙ k.is)

-- the front of a handle, in the order of classes
pub front_is : (f : ℕ → Option WaitingEvent) (n x : ℕ) (ws : List WaitingEvent) → ws ≡ listed f n
    → Own f → Picks f n (λ w. x == w.handle.0) 0 (front ws x)
front_is f n x ws q own =
    let good : WaitingEvent → Bool = λ (w : WaitingEvent). x == w.handle.0 in
    let answer : (c : ℕ) → Answers (test good c) f n (front_in ws x c) =
    λ c. subst (Answers (test good c) f n) (sym (ap (find (test good c)) q))
    (find_answers (test good c) f n) in
    five_classes f n good (front_in ws x 0) (front_in ws x 1) (front_in ws x 2) (front_in ws x 3)
    (front_in ws x 4) own (answer 0) (answer 1) (answer 2) (answer 3) (answer 4)

pub front_found : (f : ℕ → Option WaitingEvent) (n x : ℕ) (ws : List WaitingEvent)
    (o : Option WaitingEvent) → ws ≡ listed f n → Own f → IsFront x ws o → o ≡ front ws x
front_found f n x ws o q own h = picks_one f n (λ w. x == w.handle.0) o (front ws x)
    (front_picks f n x ws o q own h) (front_is f n x ws q own)
