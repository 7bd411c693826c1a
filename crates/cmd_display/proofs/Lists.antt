-- Lists that are cut and joined, and answers.
use Rattle.std.proofs.Common.{◌≡◌, ◌+◌, ℕ, zero, suc, List, [], ◌∷◌, ◌++◌, take, drop, ap, sym, ◌∙◌}
use Rattle.std.proofs.Common.{append_assoc, append-nil, drop-drop, get_or, length, ◌<◌, flat_map}
use Rattle.std.proofs.Common.{Result, OnOk, arith}
use Rattle.std.specs.Bool.{if◌then◌else◌}
use Rattle.std.specs.Result.{is_ok}
use Rattle.std.specs.declared.result.Result.TheVariants.{Ok, Err}
use Rattle.std.proofs.lemmas.List.{take-append-drop}
use Rattle.message_block.specs.Messages.{MessageState}
use Rattle.module_stream.specs.Progress.{Begins}

-- some bytes were cut, and more are cut off the rest
pub cut-more : (cut held : List ℕ) (at count : ℕ)
    → cut ++ drop at held ≡ (cut ++ take count (drop at held)) ++ drop (at + count) held
cut-more cut held at count =
    ap (λ xs. cut ++ xs) (sym (take-append-drop count (drop at held))
    ∙ ap (λ xs. take count (drop at held) ++ xs) (drop-drop count at held))
    ∙ sym (append_assoc cut (take count (drop at held)) (drop (at + count) held))

-- what was read stands after the rest, which was moved to the front
pub fill-more : (cut rest held part held' : List ℕ) (at : ℕ) → at ≡ 0 → drop at held ≡ rest
    → held' ≡ held ++ part → (cut ++ rest) ++ part ≡ cut ++ drop at held'
fill-more cut rest held part held' zero z r e =
    append_assoc cut rest part ∙ ap (λ xs. cut ++ xs) (ap (λ xs. xs ++ part) (sym r) ∙ sym e)
fill-more cut rest held part held' (suc at) z r e = absurd (cc z)

-- what a list comes to up to one more item
flat-suc : {X : Type 0} (f : X → List ℕ) (items : List X) (k : ℕ) (x : X) → k < length items
    → x ≡ get_or items k x → flat_map f (take k items) ++ f x ≡ flat_map f (take (suc k) items)
flat-suc f [] k x lt e = absurd (omega (arith, lt))
flat-suc f (y ∷ items) zero x lt e = ap f e ∙ sym (append-nil (f y))
flat-suc f (y ∷ items) (suc k) x lt e =
    append_assoc (f y) (flat_map f (take k items)) (f x)
    ∙ ap (λ xs. f y ++ xs) (flat-suc f items k x (omega (arith, lt)) e)

pub flat-next : {X : Type 0} (f : X → List ℕ) (items : List X) (k : ℕ) (x : X) → k < length items
    → x ≡ get_or items k x → flat_map f (take k items) ++ f x ≡ flat_map f (take (k + 1) items)
flat-next f items k x lt e = let next : suc k ≡ k + 1 = omega arith in
    flat-suc f items k x lt e ∙ ap (λ n. flat_map f (take n items)) next

-- what holds anyway holds of an answer if it is Ok
pub on-ok-any : {T E X : Type 0} (r : Result T E) → X → OnOk r X
on-ok-any (Ok x) h = h
on-ok-any (Err e) h = tt

-- of two values that an answer decides between, the first one if it is Ok
pub where-ok : {T E X : Type 0} (x a b : X) (r : Result T E) {t : T} → r ≡ Ok t
    → x ≡ (if is_ok r then a else b) → x ≡ a
where-ok x a b (Ok y) is e = e
where-ok x a b (Err y) is e = absurd (cc is)

-- ---- what begins what

pub begins-all : (xs : List MessageState) → Begins xs xs
begins-all xs = ([], sym (append-nil xs))

pub begins-through : (xs ys zs : List MessageState) → Begins xs ys → Begins ys zs → Begins xs zs
begins-through xs ys zs b c = (
  b.0 ++ c.0,
  c.1 ∙ ap (λ front. front ++ c.0) b.1
      ∙ append_assoc xs b.0 c.0,
)

pub begins-behind : (front xs ys : List MessageState) → Begins xs ys
    → Begins (front ++ xs) (front ++ ys)
begins-behind front xs ys b = (b.0, ap (λ zs. front ++ zs) b.1 ∙ sym (append_assoc front xs b.0))
