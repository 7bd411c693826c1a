-- The bytes that a read left in a vector.
use Rattle.std.proofs.Common.{◌≡◌, ◌∙◌, ℕ, arith, List, ◌++◌, length, take, drop, ap}
use Rattle.std.proofs.lemmas.List.{append-nil, drop_all, take_all}

pub cut_room : (n len : ℕ) (buf items : List ℕ) → length buf ≡ length items → length items ≡ len
    → take n (take len (buf ++ drop (length buf) items)) ≡ take n buf
cut_room n len buf items same is =
    ap (λ (xs : List ℕ). take n (take len (buf ++ xs)))
    (drop_all (length buf) items (omega (arith, same)))
    ∙ ap (λ (xs : List ℕ). take n (take len xs)) (append-nil buf)
    ∙ ap (take n) (take_all len buf (omega (arith, same, is)))
