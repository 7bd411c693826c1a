-- How a list is parted in place: what passes a test goes after what does not.
use Rattle.std.proofs.Common.{ℕ, ◌≡◌, ◌+◌, ◌-◌, ◌<◌, ◌≤◌, Bool, true, false, not, cond, List, []}
use Rattle.std.proofs.Common.{◌∷◌, ◌++◌, length, take, drop, get_or, refl, sym, ap, ◌∙◌, arith}
use Rattle.std.proofs.lemmas.List.{append_assoc, take_at, drop_at, append-nil, take_all, drop_all}
use Rattle.std.proofs.lemmas.List.{drop_more, length-append, length-take-le, get_or-append_right}
use Rattle.std.proofs.lemmas.List.{get_or-drop}
use Rattle.std.proofs.lemmas.List.Elements.{filter_more}
use Rattle.std.proofs.lemmas.List.Filters.{length-filter_both}
use Rattle.std.specs.List.{filter, slice_range}
use Rattle.demux.specs.PlayRoom.{rotated}

module _ {X : Type 0} where
  -- one element is brought before others
  pub brought : (fs bs cs : List X) (x : X) (to from : ℕ) → length fs ≡ to
      → length fs + length bs ≡ from
      → take to (fs ++ (bs ++ x ∷ cs)) ++ rotated (from - to)
      (slice_range (fs ++ (bs ++ x ∷ cs)) to (from + 1))
      ++ drop (from + 1) (fs ++ (bs ++ x ∷ cs)) ≡ fs ++ (x ∷ (bs ++ cs))
  brought fs bs cs x to from is_to is_from =
      let front : take to (fs ++ (bs ++ x ∷ cs)) ≡ fs = take_at fs (bs ++ x ∷ cs) to is_to in
      let rest : drop to (fs ++ (bs ++ x ∷ cs)) ≡ bs ++ x ∷ cs =
      drop_at fs (bs ++ x ∷ cs) to is_to in
      let long : length (bs ++ x ∷ []) ≡ from + 1 - to = length-append bs (x ∷ []) ∙ omega arith in
      let mid : slice_range (fs ++ (bs ++ x ∷ cs)) to (from + 1) ≡ bs ++ x ∷ [] =
      ap (take (from + 1 - to)) (rest ∙ sym (append_assoc bs (x ∷ []) cs))
      ∙ take_at (bs ++ x ∷ []) cs (from + 1 - to) long in
      let few : length bs ≡ from - to = omega arith in
      let turned : rotated (from - to) (bs ++ x ∷ []) ≡ x ∷ bs =
      ap (λ ys. ys ++ take (from - to) (bs ++ x ∷ [])) (drop_at bs (x ∷ []) (from - to) few)
      ∙ ap (λ ys. x ∷ ys) (take_at bs (x ∷ []) (from - to) few) in
      let all : length (fs ++ (bs ++ x ∷ [])) ≡ from + 1 =
      length-append fs (bs ++ x ∷ []) ∙ ap (λ n. length fs + n) (length-append bs (x ∷ []))
      ∙ omega arith in
      let behind : drop (from + 1) (fs ++ (bs ++ x ∷ cs)) ≡ cs =
      ap (drop (from + 1)) (ap (λ ys. fs ++ ys) (sym (append_assoc bs (x ∷ []) cs))
      ∙ sym (append_assoc fs (bs ++ x ∷ []) cs))
      ∙ drop_at (fs ++ (bs ++ x ∷ [])) cs (from + 1) all in
      ap (λ ys. ys ++ rotated (from - to) (slice_range (fs ++ (bs ++ x ∷ cs)) to (from + 1))
      ++ drop (from + 1) (fs ++ (bs ++ x ∷ cs))) front
      ∙ ap (λ ys. fs ++ rotated (from - to) ys ++ drop (from + 1) (fs ++ (bs ++ x ∷ cs))) mid
      ∙ ap (λ ys. fs ++ ys ++ drop (from + 1) (fs ++ (bs ++ x ∷ cs))) turned
      ∙ ap (λ ys. fs ++ (x ∷ bs) ++ ys) behind
      ∙ append_assoc fs (x ∷ bs) cs

  module _ (p : X → Bool) where
    -- the list when its first i elements were parted
    abbrev pub left_of : ℕ → List X → List X
    left_of i xs = filter (λ x. not (p x)) (take i xs)

    abbrev pub given_of : ℕ → List X → List X
    given_of i xs = filter p (take i xs)

    abbrev pub parted : ℕ → List X → List X
    parted i xs = left_of i xs ++ (given_of i xs ++ drop i xs)

    pub parts_length : (xs : List X) (i : ℕ) → i ≤ length xs
        → length (left_of i xs) + length (given_of i xs) ≡ i
    parts_length xs i h =
        let both = length-filter_both p (λ x. not (p x)) (λ x. refl) (take i xs) in
        let n = length-take-le i xs h in omega arith

    -- the next element is where it was
    pub next_there : (xs : List X) (i : ℕ) (d : X) → i < length xs
        → get_or (parted i xs) i d ≡ get_or xs i d
    next_there xs i d h =
        let parts = parts_length xs i (omega arith) in
        let two : length (left_of i xs ++ given_of i xs) ≡ i =
        length-append (left_of i xs) (given_of i xs) ∙ parts in
        ap (λ ys. get_or ys i d) (sym (append_assoc (left_of i xs) (given_of i xs) (drop i xs)))
        ∙ get_or-append_right (left_of i xs ++ given_of i xs) (drop i xs) i i d two (omega arith)
        ∙ get_or-drop i xs (i - i) d ∙ ap (λ k. get_or xs k d) (omega arith)

    pub left_length : (xs : List X) (i : ℕ) → i ≤ length xs → length (left_of i xs) ≤ i
    left_length xs i h = let parts = parts_length xs i h in omega arith

    -- one that passes stays
    pub given_more : (xs : List X) (i : ℕ) (d : X) → i < length xs → p (get_or xs i d) ≡ true
        → (left_of (i + 1) xs ≡ left_of i xs) × (parted (i + 1) xs ≡ parted i xs)
    given_more xs i d h passes =
        let x = get_or xs i d in
        let left : left_of (i + 1) xs ≡ left_of i xs =
        filter_more (λ x. not (p x)) xs i d h
        ∙ ap (λ b. left_of i xs ++ cond (not b) (x ∷ []) []) passes
        ∙ append-nil (left_of i xs) in
        let given : given_of (i + 1) xs ≡ given_of i xs ++ x ∷ [] =
        filter_more p xs i d h ∙ ap (λ b. given_of i xs ++ cond b (x ∷ []) []) passes in (
          left,
          ap (λ ys. ys ++ (given_of (i + 1) xs ++ drop (i + 1) xs)) left
              ∙ ap (λ ys. left_of i xs ++ (ys ++ drop (i + 1) xs)) given
              ∙ ap (λ ys. left_of i xs ++ ys) (append_assoc (given_of i xs) (x ∷ [])
              (drop (i + 1) xs) ∙ ap (λ ys. given_of i xs ++ ys) (sym (drop_more xs i d h))),
        )

    -- one that does not is brought before those that do
    pub left_more : (xs : List X) (i to : ℕ) (d : X) → i < length xs → p (get_or xs i d) ≡ false
        → to ≡ length (left_of i xs)
        → (length (left_of (i + 1) xs) ≡ to + 1)
        × (take to (parted i xs) ++ rotated (i - to) (slice_range (parted i xs) to (i + 1))
        ++ drop (i + 1) (parted i xs) ≡ parted (i + 1) xs)
    left_more xs i to d h fails is_to =
        let x = get_or xs i d in
        let left : left_of (i + 1) xs ≡ left_of i xs ++ x ∷ [] =
        filter_more (λ x. not (p x)) xs i d h
        ∙ ap (λ b. left_of i xs ++ cond (not b) (x ∷ []) []) fails in
        let given : given_of (i + 1) xs ≡ given_of i xs =
        filter_more p xs i d h ∙ ap (λ b. given_of i xs ++ cond b (x ∷ []) []) fails
        ∙ append-nil (given_of i xs) in
        let parts = parts_length xs i (omega arith) in (
          ap length left ∙ length-append (left_of i xs) (x ∷ []) ∙ omega arith,
          ap (λ ys. take to (left_of i xs ++ (given_of i xs ++ ys))
              ++ rotated (i - to) (slice_range (left_of i xs ++ (given_of i xs ++ ys)) to (i + 1))
              ++ drop (i + 1) (left_of i xs ++ (given_of i xs ++ ys))) (drop_more xs i d h)
              ∙ brought (left_of i xs) (given_of i xs) (drop (i + 1) xs) x to i (sym is_to) parts
              ∙ sym (append_assoc (left_of i xs) (x ∷ []) (given_of i xs ++ drop (i + 1) xs))
              ∙ ap (λ ys. ys ++ (given_of i xs ++ drop (i + 1) xs)) (sym left)
              ∙ ap (λ ys. left_of (i + 1) xs ++ (ys ++ drop (i + 1) xs)) (sym given),
        )

    -- and in the end the whole is parted
    pub parted_all : (xs : List X) (i : ℕ) → length xs ≤ i
        → (left_of i xs ≡ filter (λ x. not (p x)) xs)
        × (parted i xs ≡ filter (λ x. not (p x)) xs ++ filter p xs)
    parted_all xs i h =
        let whole = take_all i xs h in
        let left : left_of i xs ≡ filter (λ x. not (p x)) xs = ap (filter (λ x. not (p x))) whole
        in (
          left,
          ap (λ ys. ys ++ (given_of i xs ++ drop i xs)) left
              ∙ ap (λ ys. filter (λ x. not (p x)) xs ++ ys)
              (ap (λ ys. given_of i xs ++ ys) (drop_all i xs h) ∙ append-nil (given_of i xs)
              ∙ ap (filter p) whole),
        )
