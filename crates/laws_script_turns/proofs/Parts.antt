-- The parts of a connection's story.
use Rattle.std.proofs.Common.{◌≡◌, ◌∙◌, ◌+◌, ℕ, arith, Bool, true, false, List, [], ◌∷◌, ◌++◌}
use Rattle.std.proofs.Common.{length, refl, sym, ap, append_assoc}
use Rattle.event_script.specs.ev_base.specs.Story.{Part, Piece, Pausing, Ending, Failing}

-- their bytes, joined; how many pauses they have; and whether neither the end nor a failure is
-- among them
abbrev pub bytes_in : List Part → List ℕ
bytes_in [] = []
bytes_in (Piece bytes ∷ parts) = bytes ++ bytes_in parts
bytes_in (_ ∷ parts) = bytes_in parts

abbrev pub pauses : List Part → ℕ
pauses [] = 0
pauses (Pausing ∷ parts) = 1 + pauses parts
pauses (_ ∷ parts) = pauses parts

abbrev pub is_plain : List Part → Bool
is_plain [] = true
is_plain (Ending ∷ parts) = false
is_plain (Failing ∷ parts) = false
is_plain (_ ∷ parts) = is_plain parts

pub bytes_in-append : (a b : List Part) → bytes_in (a ++ b) ≡ bytes_in a ++ bytes_in b
bytes_in-append [] b = refl
bytes_in-append (Piece bytes ∷ a) b =
    ap (λ (t : List ℕ). bytes ++ t) (bytes_in-append a b)
    ∙ sym (append_assoc bytes (bytes_in a) (bytes_in b))
bytes_in-append (Pausing ∷ a) b = bytes_in-append a b
bytes_in-append (Ending ∷ a) b = bytes_in-append a b
bytes_in-append (Failing ∷ a) b = bytes_in-append a b

pub pauses-append : (a b : List Part) → pauses (a ++ b) ≡ pauses a + pauses b
pauses-append [] b = omega arith
pauses-append (Piece bytes ∷ a) b = pauses-append a b
pauses-append (Pausing ∷ a) b = omega (arith, pauses-append a b)
pauses-append (Ending ∷ a) b = pauses-append a b
pauses-append (Failing ∷ a) b = pauses-append a b

pub plain-append : (a b : List Part) → is_plain a ≡ true → is_plain b ≡ true
    → is_plain (a ++ b) ≡ true
plain-append [] b h k = k
plain-append (Piece bytes ∷ a) b h k = plain-append a b h k
plain-append (Pausing ∷ a) b h k = plain-append a b h k
plain-append (Ending ∷ a) b h k = h
plain-append (Failing ∷ a) b h k = h

pub plain-right : (a b : List Part) → is_plain (a ++ b) ≡ true → is_plain b ≡ true
plain-right [] b h = h
plain-right (Piece bytes ∷ a) b h = plain-right a b h
plain-right (Pausing ∷ a) b h = plain-right a b h
plain-right (Ending ∷ a) b h = absurd (cc h)
plain-right (Failing ∷ a) b h = absurd (cc h)

-- pieces, each with a pause after it
abbrev pub paired : List (List ℕ) → List Part
paired [] = []
paired (bytes ∷ pieces) = Piece bytes ∷ Pausing ∷ paired pieces

pub pauses-paired : (pieces : List (List ℕ)) → pauses (paired pieces) ≡ length pieces
pauses-paired [] = refl
pauses-paired (bytes ∷ pieces) = omega (arith, pauses-paired pieces)

pub plain-paired : (pieces : List (List ℕ)) → is_plain (paired pieces) ≡ true
plain-paired [] = refl
plain-paired (bytes ∷ pieces) = plain-paired pieces

-- what is left of them and has no pause is nothing
pub none_left : (pieces : List (List ℕ)) (given left : List Part) → given ++ left ≡ paired pieces
    → pauses left ≡ 0 → left ≡ []
none_left [] [] left e none = e
none_left [] (part ∷ given) left e none = absurd (cc e)
none_left (bytes ∷ pieces) [] left e none = absurd (counted (ap pauses e ∙ refl) none)
  where
    counted : pauses left ≡ 1 + pauses (paired pieces) → pauses left ≡ 0 → ⊥
    counted h k = omega arith
none_left (bytes ∷ pieces) (part ∷ []) left e none = absurd (counted (ap pauses (tail e)) none)
  where
    tail : part ∷ left ≡ paired (bytes ∷ pieces) → left ≡ Pausing ∷ paired pieces
    tail h = cc

    counted : pauses left ≡ 1 + pauses (paired pieces) → pauses left ≡ 0 → ⊥
    counted h k = omega arith
none_left (bytes ∷ pieces) (part ∷ next ∷ given) left e none =
    none_left pieces given left (tail e) none
  where
    tail : part ∷ next ∷ (given ++ left) ≡ paired (bytes ∷ pieces) → given ++ left ≡ paired pieces
    tail h = cc
