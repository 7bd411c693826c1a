-- The places of a source of pieces.
use Rattle.std.proofs.Common.{◌≡◌, ℕ, zero, suc, ◌+◌, ◌-◌, ◌≤◌, ◌<◌, List, [], ◌∷◌, ◌++◌, length}
use Rattle.std.proofs.Common.{take, drop, min, get_or, Vec, Some, Bool, false, refl, sym, ◌∙◌, ap}
use Rattle.std.proofs.Common.{arith, subst, append_assoc, drop-drop}
use Rattle.std.proofs.Math.Seq.{take-add, take-append-add, drop-append-add}
use Rattle.std.proofs.lemmas.List.{take-append-le, drop-append-le, take-append-drop, length-drop}
use Rattle.std.proofs.lemmas.List.{length-append, length-take-le}
use Rattle.std.specs.declared.alloc.Global.{Global}
use Rattle.ev_base.specs.Source.{GivesBytes}
use Rattle.ev_base.specs.MemoryForms.{joined, given_of, left_of, HasByteAt}

take_past : (xs ys : List ℕ) (at : ℕ) → length xs ≤ at
    → xs ++ take (at - length xs) ys ≡ take at (xs ++ ys)
take_past xs ys at over =
    let e : length xs + (at - length xs) ≡ at = omega arith in
    let P : ℕ → Type 0 = λ n. xs ++ take (at - length xs) ys ≡ take n (xs ++ ys) in
    subst P e (sym (take-append-add xs ys (at - length xs)))

drop_past : (xs ys : List ℕ) (at : ℕ) → length xs ≤ at
    → drop (at - length xs) ys ≡ drop at (xs ++ ys)
drop_past xs ys at over =
    let e : length xs + (at - length xs) ≡ at = omega arith in
    let P : ℕ → Type 0 = λ n. drop (at - length xs) ys ≡ drop n (xs ++ ys) in
    subst P e (sym (drop-append-add xs ys (at - length xs)))

-- after the last byte of a piece stands the next piece
pub given_of-past : (pieces : List (Vec ℕ Global)) (piece : Vec ℕ Global) (next at : ℕ)
    → next < length pieces → get_or pieces next piece ≡ piece → length piece.items ≤ at →
    given_of (suc next) (at - length piece.items) pieces ≡ given_of next at pieces
given_of-past [] piece next at within found over = absurd (omega arith)
given_of-past (first ∷ pieces) piece zero at within found over =
    let P : Vec ℕ Global → Type 0 = λ p. first.items ++ take (at - length p.items) (joined pieces)
    ≡ take at (first.items ++ joined pieces) in
    let Q : Vec ℕ Global → Type 0 = λ p. length p.items ≤ at in
    subst P found (take_past first.items (joined pieces) at (subst Q (sym found) over))
given_of-past (first ∷ pieces) piece (suc next) at within found over =
    ap (λ bytes. first.items ++ bytes) (given_of-past pieces piece next at (omega arith) found over)

pub left_of-past : (pieces : List (Vec ℕ Global)) (piece : Vec ℕ Global) (next at : ℕ)
    → next < length pieces → get_or pieces next piece ≡ piece → length piece.items ≤ at →
    left_of (suc next) (at - length piece.items) pieces ≡ left_of next at pieces
left_of-past [] piece next at within found over = absurd (omega arith)
left_of-past (first ∷ pieces) piece zero at within found over =
    let P : Vec ℕ Global → Type 0 = λ p. drop (at - length p.items) (joined pieces)
    ≡ drop at (first.items ++ joined pieces) in
    let Q : Vec ℕ Global → Type 0 = λ p. length p.items ≤ at in
    subst P found (drop_past first.items (joined pieces) at (subst Q (sym found) over))
left_of-past (first ∷ pieces) piece (suc next) at within found over =
    left_of-past pieces piece next at (omega arith) found over

-- over a spent piece
pub past-piece : (pieces : List (Vec ℕ Global)) (piece : Vec ℕ Global) (bytes : List ℕ)
    (next at : ℕ) → next < length pieces → piece ≡ get_or pieces next piece → bytes ≡ piece.items
    → length bytes ≤ at →
    (given_of (suc next) (at - length bytes) pieces ≡ given_of next at pieces)
    × (left_of (suc next) (at - length bytes) pieces ≡ left_of next at pieces)
past-piece pieces piece bytes next at within is items over =
    let same : length bytes ≡ length piece.items = ap length items in
    let less : length piece.items ≤ at = omega arith in
    let k : at - length bytes ≡ at - length piece.items = ap (λ n. at - n) same in (
      ap (λ n. given_of (suc next) n pieces) k
          ∙ given_of-past pieces piece next at within (sym is) less,
      ap (λ n. left_of (suc next) n pieces) k
          ∙ left_of-past pieces piece next at within (sym is) less,
    )

-- a place within a piece has a byte
pub has-byte : (pieces : List (Vec ℕ Global)) (piece : Vec ℕ Global) (next at : ℕ)
    → next < length pieces → get_or pieces next piece ≡ piece → at < length piece.items
    → HasByteAt pieces next at
has-byte [] piece next at within found below = tt
has-byte (first ∷ pieces) piece zero at within found below =
    let Q : Vec ℕ Global → Type 0 = λ p. at < length p.items in subst Q (sym found) below
has-byte (first ∷ pieces) piece (suc next) at within found below =
    has-byte pieces piece next at (omega arith) found below

-- after all pieces there is nothing to say
pub has-none : (pieces : List (Vec ℕ Global)) (next at : ℕ) → length pieces ≤ next
    → HasByteAt pieces next at
has-none [] next at beyond = tt
has-none (first ∷ pieces) zero at beyond = absurd (omega arith)
has-none (first ∷ pieces) (suc next) at beyond = has-none pieces next at (omega arith)

-- a place that has a byte is within its piece
pub within-piece : (pieces : List (Vec ℕ Global)) (piece : Vec ℕ Global) (next at : ℕ)
    → next < length pieces → get_or pieces next piece ≡ piece → HasByteAt pieces next at
    → at < length piece.items
within-piece [] piece next at within found has = absurd (omega arith)
within-piece (first ∷ pieces) piece zero at within found has =
    let Q : Vec ℕ Global → Type 0 = λ p. at < length p.items in subst Q found has
within-piece (first ∷ pieces) piece (suc next) at within found has =
    within-piece pieces piece next at (omega arith) found has

-- after all pieces nothing is left
pub left_of-beyond : (pieces : List (Vec ℕ Global)) (next at : ℕ) → length pieces ≤ next
    → left_of next at pieces ≡ []
left_of-beyond [] zero at beyond = drop_none at
  where
    drop_none : (n : ℕ) → drop n (joined []) ≡ []
    drop_none zero = refl
    drop_none (suc n) = refl
left_of-beyond [] (suc next) at beyond = refl
left_of-beyond (first ∷ pieces) zero at beyond = absurd (omega arith)
left_of-beyond (first ∷ pieces) (suc next) at beyond = left_of-beyond pieces next at (omega arith)

-- the n bytes at a place of the first list
take_within : (xs ys : List ℕ) (at n : ℕ) → at + n ≤ length xs
    → take n (drop at (xs ++ ys)) ≡ take n (drop at xs)
take_within xs ys at n below =
    let near : at ≤ length xs = omega arith in
    let room : n ≤ length (drop at xs) = omega (arith, length-drop at xs) in
    ap (take n) (drop-append-le at xs ys near) ∙ take-append-le n (drop at xs) ys room

-- some bytes of a piece move from those left to those given
pub left_of-moves : (pieces : List (Vec ℕ Global)) (piece : Vec ℕ Global) (next at n : ℕ)
    → next < length pieces → get_or pieces next piece ≡ piece → at + n ≤ length piece.items →
    left_of next at pieces ≡ take n (drop at piece.items) ++ left_of next (at + n) pieces
left_of-moves [] piece next at n within found below = absurd (omega arith)
left_of-moves (first ∷ pieces) piece zero at n within found below =
    let Q : Vec ℕ Global → Type 0 = λ p. at + n ≤ length p.items in
    let P : Vec ℕ Global → Type 0 = λ p. drop at (first.items ++ joined pieces)
    ≡ take n (drop at p.items) ++ drop (at + n) (first.items ++ joined pieces) in
    let here : at + n ≤ length first.items = subst Q (sym found) below in
    subst P found (sym (take-append-drop n (drop at (first.items ++ joined pieces)))
    ∙ ap (λ front. front ++ drop n (drop at (first.items ++ joined pieces)))
    (take_within first.items (joined pieces) at n here)
    ∙ ap (λ back. take n (drop at first.items) ++ back)
    (drop-drop n at (first.items ++ joined pieces)))
left_of-moves (first ∷ pieces) piece (suc next) at n within found below =
    left_of-moves pieces piece next at n (omega arith) found below

pub given_of-moves : (pieces : List (Vec ℕ Global)) (piece : Vec ℕ Global) (next at n : ℕ)
    → next < length pieces → get_or pieces next piece ≡ piece → at + n ≤ length piece.items →
    given_of next (at + n) pieces ≡ given_of next at pieces ++ take n (drop at piece.items)
given_of-moves [] piece next at n within found below = absurd (omega arith)
given_of-moves (first ∷ pieces) piece zero at n within found below =
    let Q : Vec ℕ Global → Type 0 = λ p. at + n ≤ length p.items in
    let P : Vec ℕ Global → Type 0 = λ p. take (at + n) (first.items ++ joined pieces)
    ≡ take at (first.items ++ joined pieces) ++ take n (drop at p.items) in
    let here : at + n ≤ length first.items = subst Q (sym found) below in
    subst P found (take-add at n (first.items ++ joined pieces)
    ∙ ap (λ back. take at (first.items ++ joined pieces) ++ back)
    (take_within first.items (joined pieces) at n here))
given_of-moves (first ∷ pieces) piece (suc next) at n within found below =
    ap (λ bytes. first.items ++ bytes)
    (given_of-moves pieces piece next at n (omega arith) found below)
    ∙ sym (append_assoc first.items (given_of next at pieces) (take n (drop at piece.items)))

-- a read of some bytes of a piece
pub gives-bytes : (faults : ℕ) (over : Bool) (pieces : List (Vec ℕ Global)) (piece : Vec ℕ Global)
    (bytes buffer : List ℕ) (was_next was_at next at n : ℕ) →
    over ≡ false →
    given_of next at pieces ≡ given_of was_next was_at pieces →
    left_of next at pieces ≡ left_of was_next was_at pieces →
    at < length bytes → next < length pieces → piece ≡ get_or pieces next piece
    → bytes ≡ piece.items →
    n ≡ min (length bytes - at) (length buffer) → 0 < length buffer
    → take n buffer ≡ take n (drop at bytes) →
    GivesBytes (record {
      faults = faults;
      gave = length (given_of was_next was_at pieces);
      over = over;
      bytes = Some (record {
        given = given_of was_next was_at pieces;
        left = left_of was_next was_at pieces;
      });
    }) buffer n
    (record {
      faults = faults;
      gave = length (given_of next (at + n) pieces);
      over = over;
      bytes =
          Some (record {
            given = given_of next (at + n) pieces;
            left = left_of next (at + n) pieces;
          });
    })
gives-bytes faults over pieces piece bytes buffer was_next was_at next at n closed given left has
    within is items count room copied =
    let same : length bytes ≡ length piece.items = ap length items in
    let fits : at + n ≤ length piece.items = omega arith in
    let front : take n (drop at piece.items) ≡ take n buffer =
    ap (λ xs. take n (drop at xs)) (sym items) ∙ sym copied in
    let moved : given_of next (at + n) pieces ≡ given_of was_next was_at pieces ++ take n buffer =
    given_of-moves pieces piece next at n within (sym is) fits
    ∙ ap (λ xs. xs ++ take n (drop at piece.items)) given
    ∙ ap (λ xs. given_of was_next was_at pieces ++ xs) front in
    let within_room : n ≤ length buffer = omega arith in
    record {
      some = omega arith;
      within = omega arith;
      gave = ap length moved ∙ length-append (given_of was_next was_at pieces) (take n buffer)
          ∙ ap (λ k. length (given_of was_next was_at pieces) + k)
          (length-take-le n buffer within_room);
      bytes = (
        sym left ∙ left_of-moves pieces piece next at n within (sym is) fits
            ∙ ap (λ xs. xs ++ left_of next (at + n) pieces) front,
        moved,
      );
      was_not_over = closed;
      over = closed;
      faults = refl;
    }
