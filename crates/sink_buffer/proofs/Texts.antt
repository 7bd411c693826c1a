-- Texts that grow.
use Rattle.std.proofs.Common.{◌≡◌, ℕ, List, [], ◌++◌, ◌+◌, ◌-◌, length, take, drop, Option, Some}
use Rattle.std.proofs.Common.{None, sym, ◌∙◌, ap, append_assoc, append-nil, take-append-drop}
use Rattle.std.proofs.Math.Seq.{take-add}
use Rattle.std.proofs.lemmas.List.{take_rest, length-drop}
use Rattle.ev_base.specs.Sink.{GrowsBy}
use Rattle.sink_buffer.specs.Written.{IsPrefixOf}

-- nothing is added
pub grows-none : (text : Option (List ℕ)) → GrowsBy text [] text
grows-none None = tt
grows-none (Some text) = sym (append-nil text)

-- one part after another
pub grows-twice : (a b c : Option (List ℕ)) (xs ys : List ℕ) → GrowsBy a xs b → GrowsBy b ys c
    → GrowsBy a (xs ++ ys) c
grows-twice None None None xs ys p q = tt
grows-twice None None (Some c) xs ys p q = absurd q
grows-twice None (Some b) c xs ys p q = absurd p
grows-twice (Some a) None c xs ys p q = absurd p
grows-twice (Some a) (Some b) None xs ys p q = absurd q
grows-twice (Some a) (Some b) (Some c) xs ys p q =
    q ∙ ap (λ front. front ++ ys) p ∙ append_assoc a xs ys

-- the first n of some bytes are a front of them
pub prefix-take : (xs : List ℕ) (n : ℕ) → IsPrefixOf (take n xs) xs
prefix-take xs n = (drop n xs, sym (take-append-drop n xs))

-- a front of what comes next is a front of the whole, and a front stays one as more comes
pub prefix-behind : (xs front ys : List ℕ) → IsPrefixOf front ys
    → IsPrefixOf (xs ++ front) (xs ++ ys)
prefix-behind xs front ys p = (p.0, ap (λ zs. xs ++ zs) p.1 ∙ sym (append_assoc xs front p.0))

pub prefix-more : (front xs more : List ℕ) → IsPrefixOf front xs → IsPrefixOf front (xs ++ more)
prefix-more front xs more p = (p.0 ++ more, ap (λ ys. ys ++ more) p.1 ∙ append_assoc front p.0 more)

-- the first bytes, and then some of those that follow
pub take-next : (xs : List ℕ) (at n : ℕ)
    → take at xs ++ take n (take (length xs - at) (drop at xs)) ≡ take (at + n) xs
take-next xs at n = ap (λ ys. take at xs ++ take n ys) (take_rest xs at) ∙ sym (take-add at n xs)

pub length-part : (xs : List ℕ) (at : ℕ)
    → length (take (length xs - at) (drop at xs)) ≡ length xs - at
length-part xs at = ap length (take_rest xs at) ∙ length-drop at xs
