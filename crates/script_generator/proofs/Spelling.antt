-- What is written of a record, one number after another.
use Rattle.std.proofs.Common.{◌≡◌, ◌≤◌, ◌∙◌, ℕ, ◌+◌, ◌%◌, ◌^◌, arith, List, [], ◌∷◌, ◌++◌, length}
use Rattle.std.proofs.Common.{refl, sym, ap, append_assoc}
use Rattle.std.specs.Prelude.{map}
use Rattle.std.specs.List.{range_with_len}
use Rattle.std.proofs.lemmas.List.{length-append}
use Rattle.std.proofs.lemmas.List.FromFn.{length-map-range_with_len}
use Rattle.cdr_record.specs.declared.record.Order.{Order}
use Rattle.cdr_record.specs.declared.record.Order.TheVariants.{Big, Little}
use Rattle.cdr_record.specs.Grammar.{order_of as order_by, seconds_size, seconds_width}
use Rattle.cdr_record.specs.Spelling.{octet_1, spelling, bytes_of as number_bytes}
use Rattle.script_generator.specs.Records.{letter, letter_count, message, record_of, order_of}
use Rattle.script_generator.specs.Records.{padding, bytes_of}

pub message_length : (seed r c : ℕ) → length (message seed r c) ≡ letter_count seed r c + 1
message_length seed r c =
    length-append (map (letter r c) (range_with_len 0 (letter_count seed r c))) (0 ∷ [])
    ∙ ap (λ (n : ℕ). n + 1) (length-map-range_with_len (letter r c) 0 (letter_count seed r c))

-- the fields of the record after the padding
abbrev pub fields : Order → ℕ → ℕ → ℕ → List ℕ
fields order seed r c =
    number_bytes order 4 (20 + length (message seed r c))
    ++ (number_bytes order 4 (2 ^ ((r + c) % 11))
    ++ (number_bytes order 4 (1000 + c) ++ (number_bytes order 4 r
    ++ (number_bytes order 4 (seed % 1000000)
    ++ (number_bytes order 4 (length (message seed r c)) ++ message seed r c)))))

spelt_by : (order : Order) (seed r c : ℕ)
    → spelling (octet_1 order) (record_of seed r c)
    ≡ octet_1 order ∷ 0 ∷ 0 ∷ 0 ∷ fields order seed r c
unfolding spelling record_of order_by seconds_size seconds_width
spelt_by Big seed r c = refl
spelt_by Little seed r c = refl

pub bytes_are : (seed r c : ℕ) → bytes_of seed r c
    ≡ octet_1 (order_of r c) ∷ padding r c ∷ padding r c ∷ padding r c
    ∷ fields (order_of r c) seed r c
unfolding bytes_of
bytes_are seed r c = rw (spelt_by (order_of r c) seed r c) refl

regrouped : (h a b c d e f g z : List ℕ)
    → h ++ a ++ b ++ c ++ d ++ e ++ f ++ g ++ z
    ≡ h ++ (a ++ (b ++ (c ++ (d ++ (e ++ (f ++ (g ++ z)))))))
regrouped h a b c d e f g z = simp append_assoc

-- the list after each step, from an empty one to the bytes of the record
pub spelled : (seed r c letters count : ℕ) (order : Order) (v0 v1 v2 v3 v4 v5 v6 v7 v8 v9 : List ℕ)
    → order ≡ order_of r c → letters ≡ letter_count seed r c → count ≡ letters + 1
    → v0 ≡ [] → v1 ≡ v0 ++ (octet_1 order ∷ padding r c ∷ padding r c ∷ padding r c ∷ [])
    → v2 ≡ v1 ++ number_bytes order 4 (20 + count)
    → v3 ≡ v2 ++ number_bytes order 4 (2 ^ ((r + c) % 11))
    → v4 ≡ v3 ++ number_bytes order 4 (1000 + c) → v5 ≡ v4 ++ number_bytes order 4 r
    → v6 ≡ v5 ++ number_bytes order 4 (seed % 1000000) → v7 ≡ v6 ++ number_bytes order 4 count
    → v8 ≡ v7 ++ map (letter r c) (range_with_len 0 letters) → v9 ≡ v8 ++ 0 ∷ []
    → v9 ≡ bytes_of seed r c
spelled seed r c letters count order v0 v1 v2 v3 v4 v5 v6 v7 v8 v9 eo el ec e0 e1 e2 e3 e4 e5 e6 e7
    e8 e9 =
    let head : v1 ≡ octet_1 order ∷ padding r c ∷ padding r c ∷ padding r c ∷ [] =
    rw (e1, e0) refl in
    let size : count ≡ length (message seed r c) =
    ec ∙ ap (λ (n : ℕ). n + 1) el ∙ sym (message_length seed r c) in
    let all = regrouped v1 (number_bytes order 4 (20 + count))
    (number_bytes order 4 (2 ^ ((r + c) % 11))) (number_bytes order 4 (1000 + c))
    (number_bytes order 4 r)
    (number_bytes order 4 (seed % 1000000)) (number_bytes order 4 count)
    (map (letter r c) (range_with_len 0 letters)) (0 ∷ []) in
    rw (e9, e8, e7, e6, e5, e4, e3, e2) (all ∙ rw (head, size, el, eo) (sym (bytes_are seed r c)))

-- how many bytes a record has
number_length : (order : Order) (x : ℕ) → length (number_bytes order 4 x) ≡ 4
unfolding number_bytes
number_length Big x = refl
number_length Little x = refl

fields_length : (order : Order) (seed r c : ℕ)
    → length (fields order seed r c) ≡ 24 + length (message seed r c)
fields_length order seed r c =
    let m = message seed r c in
    let n = length m in
    omega (
      arith,
      length-append (number_bytes order 4 (20 + n))
          (number_bytes order 4 (2 ^ ((r + c) % 11))
          ++ (number_bytes order 4 (1000 + c)
          ++ (number_bytes order 4 r ++ (number_bytes order 4 (seed % 1000000)
          ++ (number_bytes order 4 n ++ m))))),
      length-append (number_bytes order 4 (2 ^ ((r + c) % 11)))
          (number_bytes order 4 (1000 + c) ++ (number_bytes order 4 r
          ++ (number_bytes order 4 (seed % 1000000) ++ (number_bytes order 4 n ++ m)))),
      length-append (number_bytes order 4 (1000 + c))
          (number_bytes order 4 r ++ (number_bytes order 4 (seed % 1000000)
          ++ (number_bytes order 4 n ++ m))),
      length-append (number_bytes order 4 r)
          (number_bytes order 4 (seed % 1000000) ++ (number_bytes order 4 n ++ m)),
      length-append (number_bytes order 4 (seed % 1000000)) (number_bytes order 4 n ++ m),
      length-append (number_bytes order 4 n) m,
      number_length order (20 + n),
      number_length order (2 ^ ((r + c) % 11)),
      number_length order (1000 + c),
      number_length order r,
      number_length order (seed % 1000000),
      number_length order n,
    )

pub record_length : (seed r c : ℕ) → length (bytes_of seed r c) ≡ 29 + letter_count seed r c
record_length seed r c = ap length (bytes_are seed r c)
    ∙ omega (arith, fields_length (order_of r c) seed r c, message_length seed r c)

pub record_within : (seed r c : ℕ) → length (bytes_of seed r c) ≤ 68
record_within seed r c = omega (arith, record_length seed r c)

pub record_least : (seed r c : ℕ) → 29 ≤ length (bytes_of seed r c)
record_least seed r c = omega (arith, record_length seed r c)
