-- The records of bytes, and how reading these stops.
use Rattle.std.proofs.Common.{ℕ, zero, suc, ◌≡◌, ◌≤◌, ◌<◌, ◌+◌, ◌^◌, Bool, true, false, cond, List}
use Rattle.std.proofs.Common.{[]}
use Rattle.std.proofs.Common.{◌∷◌, ◌++◌, length, take, drop, sym, ap, subst, arith, append_assoc}
use Rattle.std.proofs.Common.{FitsSigned}
use Rattle.std.proofs.Common.{length-append, ◌∙◌}
use Rattle.std.proofs.lemmas.List.{length-take}
use Rattle.std.specs.List.{AllByRecursion}
use Rattle.std.specs.Int.{w32, w64, cast_signed}
use borrow.Author.Differences.{fits_in, read_fits}
use Rattle.hex.specs.Hex.{IsBytes}
use Rattle.laws_script_taken.specs.cdr_record.specs.declared.record.LogRecord.{LogRecord}
use Rattle.laws_script_taken.specs.cdr_record.specs.Grammar.{Spells}
use Rattle.laws_script_taken.specs.cdr_record.specs.Grammar.{record_in}
use Rattle.laws_script_taken.specs.cdr_record.specs.Grammar.{seconds_width}
use Rattle.laws_script_taken.specs.cdr_record.specs.Grammar.{seconds_size}
use Rattle.laws_script_taken.specs.cdr_record.specs.Grammar.{octet}
use Rattle.laws_script_taken.specs.cdr_record.specs.Grammar.{message_length}
use Rattle.laws_script_taken.specs.cdr_record.specs.Grammar.{first_of}
use Rattle.laws_script_taken.specs.cdr_record.specs.declared.grammar.First.{First}
use Rattle.laws_script_taken.specs.cdr_record.specs.declared.grammar.First.TheVariants
    as first
use Rattle.laws_script_taken.specs.cdr_record.specs.Decoding.{decode}
use Rattle.laws_script_taken.specs.cdr_record.specs.Decoding.{left_of}
use Rattle.laws_script_taken.specs.cdr_record.specs.Decoding.{taken_of}
use Rattle.laws_script_taken.specs.cdr_record.specs.Decoding.{Partial}
use Rattle.laws_script_taken.specs.cdr_record.specs.Decoding.{Malformed}
use Rattle.laws_script_taken.specs.cdr_record.specs.Decoding.{stop_at}
use Rattle.laws_script_taken.specs.cdr_record.specs.Decoding.{unfinished}
use Rattle.laws_script_taken.specs.cdr_record.specs.Decoding.{told}
use Rattle.laws_script_taken.specs.cdr_record.specs.Feeding.{joined}
use Rattle.laws_script_taken.specs.cdr_record.specs.Laws.{SpellsEach}
use Rattle.laws_script_taken.specs.cdr_record.proofs.Spelled.{is_cut}
use Rattle.journal_reader.specs.Limits.{RecordIsWithin}

-- ---- bytes

bytes_front : (xs ys : List ℕ) → IsBytes (xs ++ ys) → IsBytes xs
bytes_front [] ys h i = omega arith
bytes_front (x ∷ xs) ys h zero = h zero
bytes_front (x ∷ xs) ys h (suc i) = bytes_front xs ys (λ k. h (suc k)) i

bytes_behind : (xs ys : List ℕ) → IsBytes (xs ++ ys) → IsBytes ys
bytes_behind [] ys h = h
bytes_behind (x ∷ xs) ys h = bytes_behind xs ys (λ k. h (suc k))

bytes_drop : (n : ℕ) (xs : List ℕ) → IsBytes xs → IsBytes (drop n xs)
bytes_drop zero xs h = h
bytes_drop (suc n) [] h = h
bytes_drop (suc n) (x ∷ xs) h = bytes_drop n xs (λ k. h (suc k))

pub bytes_take : (n : ℕ) (xs : List ℕ) → IsBytes xs → IsBytes (take n xs)
bytes_take zero xs h i = omega arith
bytes_take (suc n) [] h i = omega arith
bytes_take (suc n) (x ∷ xs) h zero = h zero
bytes_take (suc n) (x ∷ xs) h (suc i) = bytes_take n xs (λ k. h (suc k)) i

-- ---- one record

fits_32 : (n : ℕ) → FitsSigned w32 (cast_signed w32 n)
fits_32 n = omega (arith, fits_in, read_fits w32 n)

fits_64 : (b : Bool) (n : ℕ) → FitsSigned w64 (cast_signed (cond b w32 w64) n)
fits_64 true n = omega (arith, fits_in, read_fits w32 n)
fits_64 false n = omega (arith, fits_in, read_fits w64 n)

record_within : (f : List ℕ) (r : LogRecord) → IsBytes f → Spells f r → RecordIsWithin r
unfolding record_in seconds_width
record_within f r bytes s =
    let short : length (take (message_length f) (drop (24 + seconds_size (octet f)) f)) ≤ 65536 =
    let least = length-take (message_length f) (drop (24 + seconds_size (octet f)) f) in
    omega (arith, s.room, s.most, least) in
    subst RecordIsWithin (sym s.fields) (record {
      numbers = record { kind = fits_32 _; pid = fits_32 _; usec = fits_32 _ };
      sec = fits_64 _ _;
      bytes = bytes_take _ _ (bytes_drop _ _ bytes);
      short = short;
    })

-- ---- all records

each_within : (fs : List (List ℕ)) (rest : List ℕ) (records : List LogRecord)
    → IsBytes (joined fs ++ rest) → SpellsEach fs records → AllByRecursion RecordIsWithin records
each_within [] rest [] bytes each = tt
each_within [] rest (r ∷ records) bytes each = absurd each
each_within (f ∷ fs) rest [] bytes each = absurd each
each_within (f ∷ fs) rest (r ∷ records) bytes each =
    let parts : IsBytes (f ++ (joined fs ++ rest)) =
    subst IsBytes (append_assoc f (joined fs) rest) bytes in (
      record_within f r (bytes_front f (joined fs ++ rest) parts) each.0,
      each_within fs rest records (bytes_behind f (joined fs ++ rest) parts) each.1,
    )

pub records_within : (t : List ℕ) → IsBytes t → AllByRecursion RecordIsWithin (decode t).records
records_within t bytes = let cut = is_cut t in
    each_within cut.0 (left_of t) (decode t).records (subst IsBytes cut.2 bytes) cut.1

-- ---- how many there are, and how reading stops

few_spelled : (fs : List (List ℕ)) (records : List LogRecord) → SpellsEach fs records
    → length records ≤ length (joined fs)
few_spelled [] [] each = omega arith
few_spelled [] (r ∷ records) each = absurd each
few_spelled (f ∷ fs) [] each = absurd each
few_spelled (f ∷ fs) (r ∷ records) each =
    let rest = few_spelled fs records each.1 in
    let both = length-append f (joined fs) in
    omega (arith, rest, both, each.0.whole)

module _ (t : List ℕ) where
  parts : length t ≡ length (joined (is_cut t).0) + length (left_of t)
  parts = ap length (is_cut t).2 ∙ length-append (joined (is_cut t).0) (left_of t)

  pub few_records : length (decode t).records ≤ length t
  few_records =
      let few = few_spelled (is_cut t).0 (decode t).records (is_cut t).1 in
      omega (arith, few, parts)

  pub few_left : length (left_of t) ≤ length t
  few_left = omega (arith, parts)

pub partial_within : (t : List ℕ) (n : ℕ) → (decode t).stop ≡ Partial n → n ≤ length t
partial_within t n = by (length (left_of t)) (taken_of t) (first_of (left_of t)) (few_left t)
  where
    of_left : (left : ℕ) → left ≤ length t → unfinished left ≡ Partial n → n ≤ length t
    of_left zero le is = absurd cc
    of_left (suc k) le is = let same : suc k ≡ n = cc in omega (arith, le, same)

    by : (left place : ℕ) (f : First) → left ≤ length t → stop_at place left f ≡ Partial n
        → n ≤ length t
    by left place (first.Bad why) le is = absurd cc
    by left place first.More le is = of_left left le is
    by left place (first.One k) le is = of_left left le is

pub malformed_within : (t : List ℕ) (at : ℕ) → (decode t).stop ≡ Malformed at → at < 2 ^ 64
malformed_within t at = by (length (left_of t)) (taken_of t) (first_of (left_of t))
  where
    of_left : (left : ℕ) → unfinished left ≡ Malformed at → at < 2 ^ 64
    of_left zero is = absurd cc
    of_left (suc k) is = absurd cc

    by : (left place : ℕ) (f : First) → stop_at place left f ≡ Malformed at → at < 2 ^ 64
    by left place (first.Bad why) is = let same : told place ≡ at = cc in omega (arith, same)
    by left place first.More is = of_left left is
    by left place (first.One k) is = of_left left is
