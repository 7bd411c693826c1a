-- How a piece passes.
use Rattle.std.proofs.Common.{◌≡◌, ◌≤◌, ◌<◌, ℕ, zero, suc, ◌+◌, ◌-◌, List, [], ◌∷◌, ◌++◌, length}
use Rattle.std.proofs.Common.{take}
use Rattle.std.proofs.Common.{drop, refl, sym, ◌∙◌, ap, ap₂, arith, Bool, true, false}
use Rattle.std.proofs.Common.{if◌then◌else◌}
use Rattle.std.proofs.Common.{nat_lt, get_or, slice_set, not, ◌&&◌}
use Rattle.std.proofs.lemmas.Bool.Decides.{nat_tests}
use Rattle.std.proofs.lemmas.Grind.{common_steps}
use Rattle.std.proofs.lemmas.List.{append_assoc, drop-drop, drop-set-lt, drop_more}
use Rattle.std.proofs.lemmas.List.{length-append, length-drop, length-take, take-append-drop}
use Rattle.std.proofs.Math.Seq.{take-add}
use Rattle.cdr_record.specs.Grammar.{octet, payload_length}
use Rattle.cdr_record.proofs.Growing.{octet-append, word_at-append}
use Rattle.ace7_input.specs.declared.place.Place.{Place}
use Rattle.ace7_input.specs.declared.place.Place.TheVariants.{Payload, Behind}
use Rattle.ace7_input.specs.Wide.{is_header, is_wide_length, wide_behind, widened}
use Rattle.ace7_input.specs.Places.{Passes, behind, behind_begun, place_after}

-- ---- what stands for a list

pub wide_nil : (n : ℕ) → wide_behind n [] ≡ []
unfolding wide_behind
wide_nil zero = refl
wide_nil (suc n) = refl

-- bytes that are no header's order octet
pub wide_pass : (n : ℕ) (piece t : List ℕ) → length piece ≤ n
    → wide_behind n (piece ++ t) ≡ piece ++ wide_behind (n - length piece) t
unfolding wide_behind
wide_pass n [] t h = let same : n - 0 ≡ n = omega arith in rw same refl
wide_pass zero (byte ∷ piece) t h = absurd (omega arith)
wide_pass (suc n) (byte ∷ piece) t h =
    let less : suc n - length (byte ∷ piece) ≡ n - length piece = omega arith in
    rw less (ap (λ (l : List ℕ). byte ∷ l) (wide_pass n piece t (omega arith)))

-- a header's order octet
pub wide_first : (first : ℕ) (t : List ℕ) → wide_behind 0 (first ∷ t)
    ≡ widened first ∷ behind_begun (first ∷ []) t
unfolding wide_behind
wide_first first t = refl

-- what stands for a list has as many bytes
same_length : (c : Bool) (w t : List ℕ) → length w ≡ length t
    → length (if c then w else t) ≡ length t
same_length true w t e = e
same_length false w t e = refl

pub length_wide : (n : ℕ) (t : List ℕ) → length (wide_behind n t) ≡ length t
unfolding wide_behind
length_wide n [] = ap length (wide_nil n)
length_wide zero (first ∷ t) = ap suc (same_length (is_header (first ∷ t))
    (wide_behind (7 + payload_length (first ∷ t)) t) t
    (length_wide (7 + payload_length (first ∷ t)) t))
length_wide (suc n) (byte ∷ t) = ap suc (length_wide n t)

-- ---- a header

-- one more byte of a header that is not whole is as it is
byte_passes : (c : Bool) (n m byte : ℕ) (t : List ℕ) → n ≡ suc m
    → (if c then wide_behind n (byte ∷ t) else byte ∷ t) ≡ byte ∷ (if c then wide_behind m t else t)
unfolding wide_behind
byte_passes true n m byte t e = rw e refl
byte_passes false n m byte t e = refl

pub begun_more : (begun : List ℕ) (byte : ℕ) (t : List ℕ) → length begun < 8
    → behind_begun begun (byte ∷ t) ≡ byte ∷ behind_begun (begun ++ byte ∷ []) t
begun_more begun byte t few =
    let all : begun ++ byte ∷ t ≡ (begun ++ byte ∷ []) ++ t =
    sym (append_assoc begun (byte ∷ []) t) in
    let longer = length-append begun (byte ∷ []) in
    let left : 8 - length begun + payload_length ((begun ++ byte ∷ []) ++ t)
    ≡ suc (8 - length (begun ++ byte ∷ []) + payload_length ((begun ++ byte ∷ []) ++ t)) =
    omega (arith, longer) in
    rw all (byte_passes (is_header ((begun ++ byte ∷ []) ++ t)) _ _ byte t left)

-- a header that is whole
whole_header : (o n l : ℕ) → o < 4 → l ≡ 8 + n
    → (w : Bool) → (nat_lt o 4 && (not (nat_lt l 8) && w)) ≡ w
whole_header o n l version long w = grind (arith, nat_tests)

goes_on : (w : Bool) (n m : ℕ) (t : List ℕ) → n ≡ m
    → (if w then wide_behind n t else t) ≡ behind (if w then Payload m else Behind) t
goes_on true n m t e = rw e refl
goes_on false n m t e = refl

pub begun_whole : (header t : List ℕ) → length header ≡ 8 → octet header < 4
    → behind_begun header t ≡ behind (place_after header) t
begun_whole header t whole version =
    let some : 0 < length header = omega arith in
    let room : 4 + 4 ≤ length header = omega arith in
    let first = octet-append header t some in
    let payload = word_at-append 4 header t some room in
    let long : length (header ++ t) ≡ 8 + length t = omega (arith, length-append header t) in
    let is : is_header (header ++ t) ≡ is_wide_length (payload_length header) =
    ap₂ (λ o p. nat_lt o 4 && (not (nat_lt (length (header ++ t)) 8) && is_wide_length p)) first
    payload
    ∙ whole_header (octet header) (length t) (length (header ++ t)) version long
    (is_wide_length (payload_length header)) in
    let left : 8 - length header + payload_length (header ++ t) ≡ payload_length header =
    omega (arith, payload) in
    rw is (goes_on (is_wide_length (payload_length header)) _ _ t left)

-- the bytes of a header with one more
pub one_more : (bytes : List ℕ) (count byte : ℕ) → count < length bytes
    → take (count + 1) (slice_set bytes count byte) ≡ take count bytes ++ byte ∷ []
one_more bytes count byte h = grind (arith, common_steps)

-- ---- the first byte of what may be a header

-- a byte that is no order octet begins no header
begins_none : (first : ℕ) (rest : Bool) → 4 ≤ first → (nat_lt first 4 && rest) ≡ false
begins_none first rest h = grind (arith, nat_tests)

pub takes_other : (first : ℕ) (t : List ℕ) → 4 ≤ first → wide_behind 0 (first ∷ t) ≡ first ∷ t
takes_other first t h =
    let same : widened first ≡ first = grind (arith, nat_tests) in
    let none : is_header (first ∷ t) ≡ false = begins_none first _ h in
    wide_first first t ∙ ap (λ (b : ℕ). b ∷ behind_begun (first ∷ []) t) same
    ∙ ap (λ c. first ∷ (if c then wide_behind (7 + payload_length (first ∷ t)) t else t)) none

-- one byte of a payload
pub one_passes : (left byte : ℕ) (t : List ℕ) → 1 ≤ left
    → wide_behind left (byte ∷ t) ≡ byte ∷ wide_behind (left - 1) t
one_passes left byte t h = wide_pass left (byte ∷ []) t h

-- ---- pieces one after another

-- bytes that are as they are
pub passed_on : (all bytes : List ℕ) (old place new : Place) (at count : ℕ)
    → at + count ≤ length bytes
    → ((piece : List ℕ) → length piece ≡ count → Passes place piece piece new)
    → ((t : List ℕ) → behind old (all ++ t) ≡ take at bytes ++ behind place (drop at bytes ++ t))
    → (t : List ℕ) → behind old (all ++ t)
    ≡ take (at + count) bytes ++ behind new (drop (at + count) bytes ++ t)
passed_on all bytes old place new at count within passes before t =
    let piece : List ℕ = take count (drop at bytes) in
    let rest : List ℕ = drop (at + count) bytes in
    let long : length piece ≡ count =
    omega (arith, length-take count (drop at bytes), length-drop at bytes) in
    let parts : drop at bytes ≡ piece ++ rest =
    sym (take-append-drop count (drop at bytes))
    ∙ ap (λ (l : List ℕ). piece ++ l) (drop-drop count at bytes) in
    before t
    ∙ ap (λ (l : List ℕ). take at bytes ++ behind place (l ++ t)) parts
    ∙ ap (λ (l : List ℕ). take at bytes ++ behind place l) (append_assoc piece rest t)
    ∙ ap (λ (l : List ℕ). take at bytes ++ l) (passes piece long (rest ++ t))
    ∙ sym (append_assoc (take at bytes) piece (behind new (rest ++ t)))
    ∙ ap (λ (l : List ℕ). l ++ behind new (rest ++ t)) (sym (take-add at count bytes))

-- one byte
pub taken_on : (all bytes : List ℕ) (old place new : Place) (at byte : ℕ) → at < length bytes
    → Passes place (get_or bytes at 0 ∷ []) (byte ∷ []) new
    → ((t : List ℕ) → behind old (all ++ t) ≡ take at bytes ++ behind place (drop at bytes ++ t))
    → (t : List ℕ) → behind old (all ++ t)
    ≡ take (at + 1) (slice_set bytes at byte)
    ++ behind new (drop (at + 1) (slice_set bytes at byte) ++ t)
taken_on all bytes old place new at byte within takes before t =
    let rest : List ℕ = drop (at + 1) bytes in
    let more = one_more bytes at byte within in
    let left : drop (at + 1) (slice_set bytes at byte) ≡ rest =
    drop-set-lt (at + 1) bytes at byte (omega arith) in
    before t
    ∙ ap (λ (l : List ℕ). take at bytes ++ behind place (l ++ t)) (drop_more bytes at 0 within)
    ∙ ap (λ (l : List ℕ). take at bytes ++ l) (takes (rest ++ t))
    ∙ sym (append_assoc (take at bytes) (byte ∷ []) (behind new (rest ++ t)))
    ∙ ap₂ (λ (a b : List ℕ). a ++ behind new (b ++ t)) (sym more) (sym left)

-- none is as it is, and the place stands for the same
pub none_passed : (all bytes : List ℕ) (old place new : Place) (at count : ℕ) → count ≡ 0
    → ((piece : List ℕ) → length piece ≡ count → Passes place piece piece new)
    → ((t : List ℕ) → behind old (all ++ t) ≡ take at bytes ++ behind place (drop at bytes ++ t))
    → (t : List ℕ) → behind old (all ++ t) ≡ take at bytes ++ behind new (drop at bytes ++ t)
none_passed all bytes old place new at count none passes before t =
    before t
    ∙ ap (λ (l : List ℕ). take at bytes ++ l) (passes [] (sym none) (drop at bytes ++ t))
