-- The bytes of a record are bytes.
use Rattle.std.proofs.Common.{ℕ, zero, suc, ◌+◌, ◌%◌, ◌^◌, ◌<◌, List, [], ◌∷◌, take, drop, length}
use Rattle.std.proofs.Common.{sym, subst, arith}
use Rattle.std.specs.Prelude.{map}
use Rattle.std.specs.List.{range_with_len}
use Rattle.cdr_record.specs.declared.record.Order.{Order}
use Rattle.cdr_record.specs.declared.record.Order.TheVariants.{Big, Little}
use Rattle.cdr_record.specs.Spelling.{octet_1, bytes_of as number_bytes}
use Rattle.script_generator.specs.Records.{letter, letter_count, message, order_of, bytes_of}
use Rattle.script_generator.proofs.Spelling.{fields, bytes_are}
use Rattle.script_generator.proofs.Words.{AreBytes, bytes_append}

number_are : (order : Order) (x : ℕ) → AreBytes (number_bytes order 4 x)
unfolding number_bytes
number_are Big x = (omega arith, (omega arith, (omega arith, (omega arith, tt))))
number_are Little x = (omega arith, (omega arith, (omega arith, (omega arith, tt))))

letters_are : (r c a k : ℕ) → AreBytes (map (letter r c) (range_with_len a k))
letters_are r c a zero = tt
letters_are r c a (suc k) = (omega arith, letters_are r c (a + 1) k)

octet_is : (order : Order) → octet_1 order < 256
octet_is Big = omega arith
octet_is Little = omega arith

fields_are : (order : Order) (seed r c : ℕ) → AreBytes (fields order seed r c)
fields_are order seed r c =
    let n = length (message seed r c) in
    let letters = map (letter r c) (range_with_len 0 (letter_count seed r c)) in
    bytes_append (number_bytes order 4 (20 + n)) _ (number_are order (20 + n))
    (bytes_append (number_bytes order 4 (2 ^ ((r + c) % 11))) _
    (number_are order (2 ^ ((r + c) % 11)))
    (bytes_append (number_bytes order 4 (1000 + c)) _ (number_are order (1000 + c))
    (bytes_append (number_bytes order 4 r) _ (number_are order r)
    (bytes_append (number_bytes order 4 (seed % 1000000)) _ (number_are order (seed % 1000000))
    (bytes_append (number_bytes order 4 n) (message seed r c) (number_are order n)
    (bytes_append letters (0 ∷ []) (letters_are r c 0 (letter_count seed r c))
    (omega arith, tt)))))))

pub record_bytes : (seed r c : ℕ) → AreBytes (bytes_of seed r c)
record_bytes seed r c = subst AreBytes (sym (bytes_are seed r c)) (
  octet_is (order_of r c),
  (
    omega arith,
    (omega arith, (omega arith, fields_are (order_of r c) seed r c)),
  ),
)

bytes_take : (k : ℕ) (xs : List ℕ) → AreBytes xs → AreBytes (take k xs)
bytes_take zero xs a = tt
bytes_take (suc k) [] a = tt
bytes_take (suc k) (x ∷ xs) a = (a.0, bytes_take k xs a.1)

bytes_drop : (k : ℕ) (xs : List ℕ) → AreBytes xs → AreBytes (drop k xs)
bytes_drop zero xs a = a
bytes_drop (suc k) [] a = tt
bytes_drop (suc k) (x ∷ xs) a = bytes_drop k xs a.1

pub front_bytes : (seed r c : ℕ) → AreBytes (take 5 (bytes_of seed r c))
front_bytes seed r c = bytes_take 5 (bytes_of seed r c) (record_bytes seed r c)

pub rest_bytes : (seed r c : ℕ) → AreBytes (drop 5 (bytes_of seed r c))
rest_bytes seed r c = bytes_drop 5 (bytes_of seed r c) (record_bytes seed r c)
