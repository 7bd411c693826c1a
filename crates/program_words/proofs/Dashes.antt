-- No word of the program's own is `--`, so the parser may be given them.
use Rattle.std.proofs.Common.{◌≡◌, ◌||◌, ◌&&◌, Bool, true, false, List, [], ◌∷◌, refl, subst}
use Rattle.std.proofs.Common.{ap₂, codes, if◌then◌else◌}
use Rattle.std.proofs.lemmas.Slice.Eq.{bytes_eq-Decides}
use Rattle.cmd_line.specs.Given.{Text}
use Rattle.cmd_line.specs.Lines.{has_dashes, is_dashes}
use Rattle.program_words.specs.declared.takes.Takes.{Takes}
use Rattle.program_words.specs.Parting.{is_alone, is_own, taken_off}

-- `--` is none of them, whatever stands before it
and_false : (b : Bool) → (b && false) ≡ false
and_false true = refl
and_false false = refl

none_of : (w a c e : Bool)
    → ((w && false) || (a && false) || (a && false) || ((c && false) || (e && false))) ≡ true → ⊥
none_of w a c e own =
    let none = rw (and_false w, and_false a, and_false c, and_false e) at own in cc none

dashes_left : (takes : Takes) (waits : Bool) → is_own takes waits (codes "--") ≡ true → ⊥
dashes_left takes waits own = none_of waits takes.address takes.control takes.ace7 own

own_no_dashes : (takes : Takes) (waits : Bool) (word : Text) → is_own takes waits word ≡ true
    → is_dashes word ≡ false
own_no_dashes takes waits word own = go (is_dashes word) refl
  where
    go : (dashes : Bool) → is_dashes word ≡ dashes → dashes ≡ false
    go false is = refl
    go true is = absurd (dashes_left takes waits (subst (λ (w : Text). is_own takes waits w ≡ true)
        ((bytes_eq-Decides word (codes "--")).0 is) own))

pub taken_no_dashes : (takes : Takes) (waits : Bool) (words : List Text)
    → has_dashes (taken_off takes waits words) ≡ false
unfolding taken_off
taken_no_dashes takes waits [] = refl
taken_no_dashes takes waits (word ∷ words) =
    go (taken_no_dashes takes (is_alone takes word) words) (is_own takes waits word) refl
  where
    go : has_dashes (taken_off takes (is_alone takes word) words) ≡ false
        → (own : Bool) → is_own takes waits word ≡ own
        → has_dashes (if own then word ∷ taken_off takes (is_alone takes word) words
        else taken_off takes (is_alone takes word) words) ≡ false
    go rest false other = rest
    go rest true own =
        ap₂ (λ (a b : Bool). a || b) (own_no_dashes takes waits word own) rest
