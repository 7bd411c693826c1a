-- Places in a list: two cuts of one list, and where a test holds.
use Rattle.std.proofs.Common.{◌≡◌, ◌∙◌, ◌+◌, suc, Bool, true, false, ◌||◌, List, [], ◌∷◌, ◌++◌}
use Rattle.std.proofs.Common.{length, reverse, refl, sym, ap, arith, length-append, append_assoc}
use Rattle.std.specs.List.{list_any}
use Rattle.std.proofs.lemmas.Bool.{false≢true, cases_Bool}
use Rattle.std.proofs.lemmas.List.{reverse-append, reverse-reverse}
use Rattle.std.proofs.Common.{⊎_elim}

-- Two cuts of a list, each at an entry: at the same place, or one before the other.
pub data Cuts {A : Type 0} (xs : List A) (a : A) (ys : List A) (us : List A) (b : A)
    (vs : List A) : Type 0 where
  same_cut : xs ≡ us → a ≡ b → ys ≡ vs → Cuts xs a ys us b vs
  first_cut : (between : List A) → us ≡ xs ++ a ∷ between → ys ≡ between ++ b ∷ vs
      → Cuts xs a ys us b vs
  second_cut : (between : List A) → xs ≡ us ++ b ∷ between → vs ≡ between ++ a ∷ ys
      → Cuts xs a ys us b vs

pub cuts : {A : Type 0} (xs : List A) (a : A) (ys us : List A) (b : A) (vs : List A)
    → xs ++ a ∷ ys ≡ us ++ b ∷ vs → Cuts xs a ys us b vs
cuts [] a ys [] b vs h = same_cut refl (head h) (tail h)
  where
    head : a ∷ ys ≡ b ∷ vs → a ≡ b
    head q = cc

    tail : a ∷ ys ≡ b ∷ vs → ys ≡ vs
    tail q = cc
cuts {A} [] a ys (u ∷ us) b vs h = first_cut us (ap (λ (z : A). z ∷ us) (sym (head h))) (tail h)
  where
    head : a ∷ ys ≡ u ∷ (us ++ b ∷ vs) → a ≡ u
    head q = cc

    tail : a ∷ ys ≡ u ∷ (us ++ b ∷ vs) → ys ≡ us ++ b ∷ vs
    tail q = cc
cuts {A} (x ∷ xs) a ys [] b vs h = second_cut xs (ap (λ (z : A). z ∷ xs) (head h)) (sym (tail h))
  where
    head : x ∷ (xs ++ a ∷ ys) ≡ b ∷ vs → x ≡ b
    head q = cc

    tail : x ∷ (xs ++ a ∷ ys) ≡ b ∷ vs → xs ++ a ∷ ys ≡ vs
    tail q = cc
cuts {A} (x ∷ xs) a ys (u ∷ us) b vs h = more (head h) (cuts xs a ys us b vs (tail h))
  where
    head : x ∷ (xs ++ a ∷ ys) ≡ u ∷ (us ++ b ∷ vs) → x ≡ u
    head q = cc

    tail : x ∷ (xs ++ a ∷ ys) ≡ u ∷ (us ++ b ∷ vs) → xs ++ a ∷ ys ≡ us ++ b ∷ vs
    tail q = cc

    more : x ≡ u → Cuts xs a ys us b vs → Cuts (x ∷ xs) a ys (u ∷ us) b vs
    more e (same_cut i j k) = same_cut (ap (λ (z : A). z ∷ xs) e ∙ ap (λ (l : List A). u ∷ l) i) j k
    more e (first_cut m i k) = first_cut m
        (ap (λ (l : List A). u ∷ l) i ∙ ap (λ (z : A). z ∷ (xs ++ a ∷ m)) (sym e)) k
    more e (second_cut m i k) = second_cut m
        (ap (λ (z : A). z ∷ xs) e ∙ ap (λ (l : List A). u ∷ l) i) k

-- no list is a part of itself after an entry
pub not_behind_itself : {A : Type 0} (m : List A) (a : A) (s : List A) → s ≡ m ++ a ∷ s → ⊥
not_behind_itself m a s h =
    let long : length s ≡ length (m ++ a ∷ s) = ap length h in
    let parts : length (m ++ a ∷ s) ≡ length m + suc (length s) = length-append m (a ∷ s) in
    omega (arith, long, parts)

-- what stands before the same rest is the same
pub record SameCut {A : Type 0} (xs us : List A) (a b : A) : Type 0 where
  pub before : xs ≡ us
  pub here : a ≡ b

pub same_rest : {A : Type 0} (xs : List A) (a : A) (us : List A) (b : A) (s : List A)
    → xs ++ a ∷ s ≡ us ++ b ∷ s → SameCut xs us a b
same_rest xs a us b s h = by (cuts xs a s us b s h)
  where
    by : Cuts xs a s us b s → SameCut xs us a b
    by (same_cut i j k) = record { before = i; here = j }
    by (first_cut m i k) = absurd (not_behind_itself m b s k)
    by (second_cut m i k) = absurd (not_behind_itself m a s k)

-- ---- where a test holds

pub record Found {A : Type 0} (p : A → Bool) (l : List A) : Type 0 where
  pub before : List A
  pub it : A
  pub after : List A
  pub is : l ≡ before ++ it ∷ after
  pub holds : p it ≡ true

pub found : {A : Type 0} (p : A → Bool) (l : List A) → list_any p l ≡ true → Found p l
found p [] h = absurd (false≢true h)
found {A} p (x ∷ l) h = ⊎_elim
    (λ (t : p x ≡ true). record { before = []; it = x; after = l; is = refl; holds = t })
    (λ (f : p x ≡ false). let r = found p l (sym (ap (λ (b : Bool). b || list_any p l) f) ∙ h) in
    record {
      before = x ∷ r.before;
      it = r.it;
      after = r.after;
      is = ap (λ (m : List A). x ∷ m) r.is;
      holds = r.holds;
    })
    (cases_Bool (p x))

pub holds_at : {A : Type 0} (p : A → Bool) (before : List A) (x : A) (after : List A) → p x ≡ true
    → list_any p (before ++ x ∷ after) ≡ true
holds_at p [] x after h = ap (λ (b : Bool). b || list_any p after) h
holds_at p (y ∷ before) x after h =
    or_right (p y) (list_any p (before ++ x ∷ after)) (holds_at p before x after h)
  where
    or_right : (b c : Bool) → c ≡ true → (b || c) ≡ true
    or_right true c k = refl
    or_right false c k = k

-- ---- read from the other end

pub turned_round : {A : Type 0} (l later : List A) (x : A) (past : List A)
    → reverse l ≡ later ++ x ∷ past → l ≡ reverse past ++ x ∷ reverse later
turned_round {A} l later x past h =
    sym (reverse-reverse l) ∙ ap reverse h ∙ reverse-append later (x ∷ past)
    ∙ ap (λ (m : List A). m ++ reverse later) (reverse-append (x ∷ []) past)
    ∙ append_assoc (reverse past) (x ∷ []) (reverse later)

-- a test that holds somewhere holds somewhere read from the other end
pub any_round : {A : Type 0} (p : A → Bool) (l : List A) → list_any p l ≡ true
    → list_any p (reverse l) ≡ true
any_round p l h =
    let f = found p l h in
    ap (list_any p) (ap reverse f.is ∙ reverse-append f.before (f.it ∷ f.after)
    ∙ ap (λ (m : List _). m ++ reverse f.before) (reverse-append (f.it ∷ []) f.after)
    ∙ append_assoc (reverse f.after) (f.it ∷ []) (reverse f.before))
    ∙ holds_at p (reverse f.after) f.it (reverse f.before) f.holds
