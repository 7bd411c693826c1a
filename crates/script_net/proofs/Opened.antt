-- The next element of a list that is seen through a function.
use Rattle.std.proofs.Common.{◌≡◌, ◌∙◌, ℕ, ◌+◌, ◌<◌, List, [], ◌∷◌, ◌++◌, length, take, drop, map}
use Rattle.std.proofs.Common.{get_or, sym, ap, arith}
use Rattle.std.proofs.lemmas.List.{drop_more, take_more, get_or-map, length-map}

module _ {A B : Type 0} (f : A → B) (xs : List A) (k : ℕ) (x : A) (within : k < length xs)
    (is : x ≡ get_or xs k x) where
  mapped : get_or (map f xs) k (f x) ≡ f x
  mapped = get_or-map f xs k x (f x) within ∙ ap f (sym is)

  pub opened : drop k (map f xs) ≡ f x ∷ drop (k + 1) (map f xs)
  opened = drop_more (map f xs) k (f x) (omega (arith, length-map xs f))
      ∙ ap (λ y. y ∷ drop (k + 1) (map f xs)) mapped

  pub closed : take (k + 1) (map f xs) ≡ take k (map f xs) ++ f x ∷ []
  closed = take_more (map f xs) k (f x) (omega (arith, length-map xs f))
      ∙ ap (λ y. take k (map f xs) ++ y ∷ []) mapped
