-- What the order octets that are widened come to.
use Rattle.std.proofs.Common.{◌≡◌, ◌≤◌, ◌<◌, ◌∙◌, ◌+◌, ◌-◌, ◌%◌, ◌==◌, ◌&&◌, ℕ, List, ◌∷◌, ◌++◌}
use Rattle.std.proofs.Common.{length, sym, ap, arith, refl, Bool, true, false, not, nat_lt, drop}
use Rattle.std.proofs.Common.{if◌then◌else◌}
use Rattle.std.specs.Int.{byte_len, w32, w64}
use Rattle.std.proofs.lemmas.Bool.Decides.{nat_tests}
use Rattle.std.proofs.lemmas.List.{length-append}
use Rattle.cdr_record.specs.declared.record.Order.{Order}
use Rattle.cdr_record.specs.declared.record.Order.TheVariants.{Big, Little}
use Rattle.cdr_record.specs.Grammar.{number, order_of, payload_length}
use Rattle.cdr_record.specs.Grammar.{seconds_size, seconds_width}
use Rattle.cdr_record.proofs.Growing.{word_at-append}
use Rattle.ace7_input.specs.Wide.{is_header, wide_behind, widened}
use Rattle.ace7_input.specs.Laws.{HasSameLength, OtherIsLeft, RecordIsWidened}
use Rattle.ace7_input.proofs.Passing.{length_wide, takes_other, wide_first, wide_pass}

-- 2 more is the same byte order
same_parity : (first : ℕ) (c : Bool) → (if c then first + 2 else first) % 2 ≡ first % 2
same_parity first true = omega arith
same_parity first false = refl

same_order : (first : ℕ) → order_of (widened first) ≡ order_of first
unfolding order_of
same_order first = ap (λ r. if r == 0 then Big else Little) (same_parity first (nat_lt first 2))

-- and makes the seconds wide
wide_seconds : (first : ℕ) → seconds_size (widened first) ≡ 8
unfolding seconds_size seconds_width
wide_seconds first =
    let no : nat_lt (widened first) 2 ≡ false = grind (arith, nat_tests) in
    ap (λ b. byte_len (if b then w32 else w64)) no

-- such a header is one
begins : (o l p : ℕ) → o < 4 → 8 ≤ l → 24 ≤ p → p ≤ 65560
    → (nat_lt o 4 && (not (nat_lt l 8) && (not (nat_lt p 24) && not (nat_lt 65560 p)))) ≡ true
begins o l p version long least most = grind (arith, nat_tests)

pub record_is_widened : RecordIsWidened
record_is_widened first t rest r h spells =
    let fields : seconds_size (widened first) ≡ 8 = wide_seconds first in
    let sent : List ℕ = (first ∷ t) ++ rest in
    let some : 0 < length (first ∷ t) = omega arith in
    let whole : length (first ∷ t) ≡ 8 + payload_length (widened first ∷ t) = spells.whole in
    let room : 4 + 4 ≤ length (first ∷ t) = omega (arith, whole) in
    let payload : payload_length sent ≡ payload_length (widened first ∷ t) =
    word_at-append 4 (first ∷ t) rest some room
    ∙ ap (λ (order : Order). number order 4 (drop 3 t)) (sym (same_order first)) in
    let is : is_header sent ≡ true =
    begins first (length sent) (payload_length sent) h
    (omega (arith, room, length-append (first ∷ t) rest))
    (omega (arith, payload, fields, spells.least)) (omega (arith, payload, fields, spells.most)) in
    let tail : length t ≤ 8 - 1 + payload_length sent = omega (arith, whole, payload) in
    let none : 8 - 1 + payload_length sent - length t ≡ 0 = omega (arith, whole, payload) in
    wide_first first (t ++ rest)
    ∙ ap (λ c. widened first ∷ (if c then wide_behind (8 - 1 + payload_length sent) (t ++ rest)
    else (t ++ rest))) is
    ∙ ap (λ (l : List ℕ). widened first ∷ l)
    (wide_pass (8 - 1 + payload_length sent) t rest tail
    ∙ ap (λ n. t ++ wide_behind n rest) none)

pub other_is_left : OtherIsLeft
other_is_left first t h = takes_other first t h

pub has_same_length : HasSameLength
has_same_length t = length_wide 0 t
