-- Two lists, one after the other, cut at an element.
use Rattle.std.proofs.Common.{◌≡◌, ◌⊎◌, inl, inr, List, [], ◌∷◌, ◌++◌, refl, sym, ap}

-- If two lists, one after the other, are cut at an element, it stands in the first or in the
-- second.
pub record InFirst {A : Type 0} (xs ys before : List A) (e : A) (behind : List A) : Type 0 where
  pub rest : List A
  pub is : xs ≡ before ++ e ∷ rest
  pub left : behind ≡ rest ++ ys

pub record InSecond {A : Type 0} (xs ys before : List A) (e : A) (behind : List A) : Type 0 where
  pub rest : List A
  pub is : before ≡ xs ++ rest
  pub cut : ys ≡ rest ++ e ∷ behind

same_head : {A : Type 0} (x y : A) (xs ys : List A) → x ∷ xs ≡ y ∷ ys → x ≡ y
same_head x y xs ys e = cc

same_tail : {A : Type 0} (x y : A) (xs ys : List A) → x ∷ xs ≡ y ∷ ys → xs ≡ ys
same_tail x y xs ys e = cc

pub cut_at : {A : Type 0} (xs ys before : List A) (e : A) (behind : List A)
    → xs ++ ys ≡ before ++ e ∷ behind → InFirst xs ys before e behind
    ⊎ InSecond xs ys before e behind
cut_at [] ys before e behind q = inr (record { rest = before; is = refl; cut = q })
cut_at (x ∷ xs) ys [] e behind q =
    inl (record {
      rest = xs;
      is = ap (λ y. y ∷ xs) (same_head x e (xs ++ ys) behind q);
      left = sym (same_tail x e (xs ++ ys) behind q);
    })
cut_at {A} (x ∷ xs) ys (b ∷ before) e behind q =
    next (cut_at xs ys before e behind (same_tail x b (xs ++ ys) (before ++ e ∷ behind) q))
  where
    first : x ≡ b
    first = same_head x b (xs ++ ys) (before ++ e ∷ behind) q

    next : InFirst xs ys before e behind ⊎ InSecond xs ys before e behind
        → InFirst (x ∷ xs) ys (b ∷ before) e behind ⊎ InSecond (x ∷ xs) ys (b ∷ before) e behind
    next (inl f) = inl (record { rest = f.rest; is = (λ i. first i ∷ f.is i); left = f.left })
    next (inr s) = inr (record { rest = s.rest; is = (λ i. sym first i ∷ s.is i); cut = s.cut })
