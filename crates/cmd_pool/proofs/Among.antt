-- Of lists whose elements stand among others, in order.
use Rattle.std.proofs.Common.{◌≡◌, ◌⊎◌, inl, inr, List, [], ◌∷◌, ◌++◌, ap, refl, subst, sym, ◌∙◌}
use Rattle.cmd_pool.specs.ItemLines.{AreAmong}

pub none_among : {A : Type 0} (ys : List A) → AreAmong [] ys
none_among {A} [] = refl
none_among {A} (y ∷ ys) = inl (none_among ys)

pub all_among : {A : Type 0} (xs : List A) → AreAmong xs xs
all_among {A} [] = refl
all_among {A} (x ∷ xs) = inr (xs, refl, all_among xs)

-- the same come after both
pub among_both : {A : Type 0} (xs ys zs : List A) → AreAmong xs ys → AreAmong (xs ++ zs) (ys ++ zs)
among_both {A} xs [] zs none =
    subst (λ (l : List A). AreAmong (l ++ zs) zs) (sym none) (all_among zs)
among_both {A} xs (y ∷ ys) zs (inl among) = inl (among_both xs ys zs among)
among_both {A} xs (y ∷ ys) zs (inr among) = inr (
  among.0 ++ zs,
  ap (λ (l : List A). l ++ zs) among.1,
  among_both among.0 ys zs among.2,
)

-- others come after those
pub among_more : {A : Type 0} (xs ys zs : List A) → AreAmong xs ys → AreAmong xs (ys ++ zs)
among_more {A} xs [] zs none = subst (λ (l : List A). AreAmong l zs) (sym none) (none_among zs)
among_more {A} xs (y ∷ ys) zs (inl among) = inl (among_more xs ys zs among)
among_more {A} xs (y ∷ ys) zs (inr among) =
    inr (among.0, among.1, among_more among.0 ys zs among.2)

-- these stand among those, and those among others
pub among_twice : {A : Type 0} (xs ys zs : List A) → AreAmong xs ys → AreAmong ys zs
    → AreAmong xs zs
among_twice {A} xs ys [] among none = subst (λ (l : List A). AreAmong xs l) none among
among_twice {A} xs ys (z ∷ zs) among (inl rest) = inl (among_twice xs ys zs among rest)
among_twice {A} xs ys (z ∷ zs) among (inr rest) =
    by_first (subst (λ (l : List A). AreAmong xs l) rest.1 among)
    (λ (some : List A) (of_rest : AreAmong some rest.0). among_twice some rest.0 zs of_rest rest.2)
  where
    by_first : AreAmong xs (z ∷ rest.0) → ((some : List A) → AreAmong some rest.0
        → AreAmong some zs) → AreAmong xs (z ∷ zs)
    by_first (inl of_rest) twice = inl (twice xs of_rest)
    by_first (inr first) twice = inr (first.0, first.1, twice first.0 first.2)

front_among : {A : Type 0} (xs zs : List A) → AreAmong xs (xs ++ zs)
front_among {A} [] zs = none_among zs
front_among {A} (x ∷ xs) zs = inr (xs, refl, front_among xs zs)

-- the first of some that stand among those do
pub among_front : {A : Type 0} (xs ys zs : List A) → AreAmong (xs ++ zs) ys → AreAmong xs ys
among_front {A} xs ys zs among = among_twice xs (xs ++ zs) ys (front_among xs zs) among
