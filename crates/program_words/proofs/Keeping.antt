-- A command without options of the program's own sees all its words.
use Rattle.std.proofs.Common.{◌≡◌, false, List, [], ◌∷◌, refl, ap, sym, subst}
use Rattle.cmd_line.specs.Given.{Text}
use Rattle.program_words.specs.declared.takes.Takes.{Takes}
use Rattle.program_words.specs.Parting.{left_over, taken_off}
use Rattle.program_words.specs.Laws.{OthersKeepAll}

abbrev none : Takes
none = record { address = false; control = false; ace7 = false }

none_taken : (words : List Text) → taken_off none false words ≡ []
unfolding taken_off
none_taken [] = refl
none_taken (word ∷ words) = none_taken words

all_left : (words : List Text) → left_over none false words ≡ words
unfolding left_over
all_left [] = refl
all_left (word ∷ words) = ap (λ (l : List Text). word ∷ l) (all_left words)

pub others_keep_all : OthersKeepAll
others_keep_all takes words is = (
  subst (λ (t : Takes). taken_off t false words ≡ []) (sym is) (none_taken words),
  subst (λ (t : Takes). left_over t false words ≡ words) (sym is) (all_left words),
)
