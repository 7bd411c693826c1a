-- One word more of those that are parted.
use Rattle.std.proofs.Common.{◌≡◌, ◌∙◌, Bool, true, false, List, [], ◌∷◌, ◌++◌, sym, ap, map}
use Rattle.std.proofs.Common.{append_assoc, String, string_bytes, if◌then◌else◌}
use Rattle.std.proofs.lemmas.List.{append-nil, map-append}
use Rattle.cmd_line.specs.Given.{Text}
use Rattle.program_words.specs.declared.takes.Takes.{Takes}
use Rattle.program_words.specs.Parting.{is_alone, is_own, left_over, taken_off}

taken_own : (takes : Takes) (waits : Bool) (word : Text) (words : List Text)
    → is_own takes waits word ≡ true
    → taken_off takes waits (word ∷ words) ≡ word ∷ taken_off takes (is_alone takes word) words
unfolding taken_off
taken_own takes waits word words own =
    ap (λ b. if b then word ∷ taken_off takes (is_alone takes word) words
    else taken_off takes (is_alone takes word) words) own

taken_other : (takes : Takes) (waits : Bool) (word : Text) (words : List Text)
    → is_own takes waits word ≡ false
    → taken_off takes waits (word ∷ words) ≡ taken_off takes (is_alone takes word) words
unfolding taken_off
taken_other takes waits word words other =
    ap (λ b. if b then word ∷ taken_off takes (is_alone takes word) words
    else taken_off takes (is_alone takes word) words) other

left_own : (takes : Takes) (waits : Bool) (word : Text) (words : List Text)
    → is_own takes waits word ≡ true
    → left_over takes waits (word ∷ words) ≡ left_over takes (is_alone takes word) words
unfolding left_over
left_own takes waits word words own = ap (λ b. if b then left_over takes (is_alone takes word) words
    else word ∷ left_over takes (is_alone takes word) words) own

left_other : (takes : Takes) (waits : Bool) (word : Text) (words : List Text)
    → is_own takes waits word ≡ false
    → left_over takes waits (word ∷ words) ≡ word ∷ left_over takes (is_alone takes word) words
unfolding left_over
left_other takes waits word words other =
    ap (λ b. if b then left_over takes (is_alone takes word) words
    else word ∷ left_over takes (is_alone takes word) words) other

-- a list of strings that one more was pushed to
pushed : {Z : Type 0} (had : List (String Z)) (word : String Z) (others : List Text)
    → map string_bytes had ++ string_bytes word ∷ others
    ≡ map string_bytes (had ++ word ∷ []) ++ others
pushed had word others =
    sym (append_assoc (map string_bytes had) (string_bytes word ∷ []) others)
    ∙ ap (λ (l : List Text). l ++ others) (sym (map-append string_bytes had (word ∷ [])))

-- ---- what the loop has after a word

pub own_taken : {Z : Type 0} (had next : List (String Z)) (word : String Z) (takes : Takes) (waits
    : Bool)
    → is_own takes waits (string_bytes word) ≡ true
    → map string_bytes had ++ taken_off takes waits (map string_bytes (word ∷ next))
    ≡ map string_bytes (had ++ word ∷ [])
    ++ taken_off takes (is_alone takes (string_bytes word)) (map string_bytes next)
own_taken had next word takes waits own =
    ap (λ (l : List Text). map string_bytes had ++ l)
    (taken_own takes waits (string_bytes word) (map string_bytes next) own)
    ∙ pushed had word (taken_off takes (is_alone takes (string_bytes word)) (map string_bytes next))

pub own_left : {Z : Type 0} (had next : List (String Z)) (word : String Z) (takes : Takes) (waits :
    Bool)
    → is_own takes waits (string_bytes word) ≡ true
    → map string_bytes had ++ left_over takes waits (map string_bytes (word ∷ next))
    ≡ map string_bytes had
    ++ left_over takes (is_alone takes (string_bytes word)) (map string_bytes next)
own_left had next word takes waits own = ap (λ (l : List Text). map string_bytes had ++ l)
    (left_own takes waits (string_bytes word) (map string_bytes next) own)

pub other_taken : {Z : Type 0} (had next : List (String Z)) (word : String Z) (takes : Takes)
    (waits : Bool)
    → is_own takes waits (string_bytes word) ≡ false
    → map string_bytes had ++ taken_off takes waits (map string_bytes (word ∷ next))
    ≡ map string_bytes had
    ++ taken_off takes (is_alone takes (string_bytes word)) (map string_bytes next)
other_taken had next word takes waits other = ap (λ (l : List Text). map string_bytes had ++ l)
    (taken_other takes waits (string_bytes word) (map string_bytes next) other)

pub other_left : {Z : Type 0} (had next : List (String Z)) (word : String Z) (takes : Takes) (waits
    : Bool)
    → is_own takes waits (string_bytes word) ≡ false
    → map string_bytes had ++ left_over takes waits (map string_bytes (word ∷ next))
    ≡ map string_bytes (had ++ word ∷ [])
    ++ left_over takes (is_alone takes (string_bytes word)) (map string_bytes next)
other_left had next word takes waits other =
    ap (λ (l : List Text). map string_bytes had ++ l)
    (left_other takes waits (string_bytes word) (map string_bytes next) other)
    ∙ pushed had word (left_over takes (is_alone takes (string_bytes word)) (map string_bytes next))

-- ---- at the end no word is left

pub none_taken : (had : List Text) (takes : Takes) (waits : Bool)
    → had ++ taken_off takes waits [] ≡ had
unfolding taken_off
none_taken had takes waits = append-nil had

pub none_left : (had : List Text) (takes : Takes) (waits : Bool)
    → had ++ left_over takes waits [] ≡ had
unfolding left_over
none_left had takes waits = append-nil had
