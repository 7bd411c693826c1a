-- The bytes of each record spell it, and those of a connection are decoded to its records.
use Rattle.std.proofs.Common.{◌≡◌, ◌∙◌, ℕ, zero, suc, ◌+◌, ◌%◌, ◌<◌, ◌≤◌, List, [], ◌∷◌, ◌++◌}
use Rattle.std.proofs.Common.{length, drop, refl, sym, ap, subst, append-nil, arith}
use Rattle.std.specs.Prelude.{map, flat_map}
use Rattle.std.specs.List.{range_with_len}
use Rattle.std.specs.Int.{w32}
use Rattle.std.specs.Int.RustNames.{FitsSigned}
use Rattle.std.proofs.lemmas.Nat.{pow_below}
use Rattle.std.proofs.lemmas.List.{nil_from_length}
use Rattle.std.proofs.lemmas.List.FromFn.{length-map-range_with_len}
use Rattle.cdr_record.specs.declared.record.Order.{Order}
use Rattle.cdr_record.specs.declared.record.Order.TheVariants.{Big, Little}
use Rattle.cdr_record.specs.declared.record.LogRecord.{LogRecord}
use Rattle.cdr_record.specs.declared.grammar.First.{First}
use Rattle.cdr_record.specs.declared.grammar.First.TheVariants.{More, Bad, One}
use Rattle.cdr_record.specs.Grammar.{Spells, first_of, record_in, seconds_size, seconds_width}
use Rattle.cdr_record.specs.Decoding.{Clean, Decoded, decode, records_of, left_of, taken_of}
use Rattle.cdr_record.specs.Decoding.{stop_at, unfinished}
use Rattle.cdr_record.specs.Feeding.{joined}
use Rattle.cdr_record.specs.Spelling.{octet_1, spelling, canon}
use Rattle.cdr_record.specs.Laws.{HasNumbersOf32Bits, SpellsEach, IsCutInto, one_record}
use Rattle.cdr_record.proofs.Cutting.{first_nil}
use Rattle.cdr_record.proofs.Encoded.{decodes_canon}
use Rattle.cdr_record.proofs.Spelled.{is_cut, only_cut}
use Rattle.script_generator.specs.Records.{record_of, order_of, padding, bytes_of}
use Rattle.script_generator.specs.Scripts.{last_round}
use Rattle.script_generator.specs.Laws.{rounds, connection_bytes, connection_records}
use Rattle.script_generator.proofs.Spelling.{message_length}
use Rattle.script_generator.proofs.Whole.{last_round_is}

-- ---- the canonical spelling

unfinished_none : (n : ℕ) → unfinished n ≡ Clean → n ≡ 0
unfinished_none zero e = refl
unfinished_none (suc n) e = cc e

clean_leaves : (place left : ℕ) (v : First) → stop_at place left v ≡ Clean → left ≡ 0
clean_leaves place left More e = unfinished_none left e
clean_leaves place left (Bad why) e = cc e
clean_leaves place left (One n) e = unfinished_none left e

one_cut : (t : List ℕ) (r : LogRecord) (fs : List (List ℕ)) → SpellsEach fs (r ∷ [])
    → t ≡ joined fs ++ [] → Spells t r
one_cut t r [] each is = absurd each
one_cut t r (f ∷ []) each is = subst (λ (u : List ℕ). Spells u r)
    (sym (is ∙ append-nil (f ++ []) ∙ append-nil f)) each.0
one_cut t r (f ∷ g ∷ fs) each is = absurd each.1

decoded_spells : (t : List ℕ) (r : LogRecord) → decode t ≡ one_record r → Spells t r
decoded_spells t r e =
    let records : records_of t ≡ r ∷ [] = ap (λ (d : Decoded). d.records) e in
    let none : left_of t ≡ [] = nil_from_length (left_of t)
    (clean_leaves (taken_of t) (length (left_of t)) (first_of (left_of t))
    (ap (λ (d : Decoded). d.stop) e)) in
    let cut : IsCutInto t (r ∷ []) [] =
    subst (λ (rest : List ℕ). IsCutInto t (r ∷ []) rest) none
    (subst (λ (rs : List LogRecord). IsCutInto t rs (left_of t)) records (is_cut t)) in
    one_cut t r cut.0 cut.1 cut.2

-- ---- the padding may hold anything

padded_spells : (order : Order) (p : ℕ) (x : List ℕ) (r : LogRecord)
    → Spells (octet_1 order ∷ 0 ∷ 0 ∷ 0 ∷ x) r → Spells (octet_1 order ∷ p ∷ p ∷ p ∷ x) r
unfolding record_in seconds_size seconds_width
padded_spells Big p x r s = record {
  version = s.version;
  least = s.least;
  most = s.most;
  whole = s.whole;
  room = s.room;
  fields = s.fields;
}
padded_spells Little p x r s = record {
  version = s.version;
  least = s.least;
  most = s.most;
  whole = s.whole;
  room = s.room;
  fields = s.fields;
}

spelled_so : (order : Order) (r : LogRecord)
    → canon r order ≡ octet_1 order ∷ 0 ∷ 0 ∷ 0 ∷ drop 4 (canon r order)
unfolding spelling
spelled_so order r = refl

-- ---- the generated records

numbers_fit : (seed r c : ℕ) → c < 1000 → HasNumbersOf32Bits (record_of seed r c)
unfolding record_of
numbers_fit seed r c within = record {
  kind = record { sfits = pow_below ((r + c) % 11) 31 (omega arith) };
  pid = record { sfits = omega arith };
  usec = record { sfits = omega arith };
}

seconds_fit : (seed r c : ℕ) → r < 1000 → FitsSigned w32 (record_of seed r c).sec
unfolding record_of
seconds_fit seed r c within = record { sfits = omega arith }

short : (seed r c : ℕ) → length (record_of seed r c).text ≤ 65536
unfolding record_of
short seed r c = omega (arith, message_length seed r c)

pub bytes_spell : (seed r c : ℕ) → r < 1000 → c < 1000
    → Spells (bytes_of seed r c) (record_of seed r c)
unfolding bytes_of
bytes_spell seed r c round conn =
    let order = order_of r c in
    let one = decoded_spells (canon (record_of seed r c) order) (record_of seed r c)
    (decodes_canon (record_of seed r c) order (numbers_fit seed r c conn)
    (seconds_fit seed r c round) (short seed r c)) in
    padded_spells order (padding r c) (drop 4 (canon (record_of seed r c) order))
    (record_of seed r c) (subst (λ (t : List ℕ). Spells t (record_of seed r c))
    (spelled_so order (record_of seed r c)) one)

-- ---- a connection

joined_is : (seed c : ℕ) (rs : List ℕ)
    → joined (map (λ r. bytes_of seed r c) rs) ≡ flat_map (λ r. bytes_of seed r c) rs
joined_is seed c [] = refl
joined_is seed c (r ∷ rs) = ap (λ (t : List ℕ). bytes_of seed r c ++ t) (joined_is seed c rs)

spell_each : (seed c : ℕ) → c < 1000 → (j r : ℕ) → r + j ≤ 1000
    → SpellsEach (map (λ r. bytes_of seed r c) (range_with_len r j))
    (map (λ r. record_of seed r c) (range_with_len r j))
spell_each seed c conn zero r within = tt
spell_each seed c conn (suc j) r within =
    (bytes_spell seed r c (omega arith) conn, spell_each seed c conn j (r + 1) (omega arith))

none_first : (n : ℕ) → ¬ (first_of [] ≡ One n)
none_first n e = cc (first_nil, e)

all_decoded : (t : List ℕ) (rs : List LogRecord) → records_of t ≡ rs → left_of t ≡ []
    → decode t ≡ record { records = rs; stop = Clean }
all_decoded t rs records left = rw (records, left, first_nil) refl

pub connection_decodes : (seed c : ℕ) → c < 1000
    → decode (connection_bytes seed c)
    ≡ record { records = connection_records seed c; stop = Clean }
connection_decodes seed c conn =
    let is = joined_is seed c rounds in
    let cut : IsCutInto (connection_bytes seed c) (connection_records seed c) [] = (
      map (λ r. bytes_of seed r c) rounds,
      spell_each seed c conn (last_round + 1) 0 (omega (arith, last_round_is)),
      sym is
          ∙ sym (append-nil (joined (map (λ r. bytes_of seed r c) rounds))),
      none_first,
    ) in
    let only = only_cut (connection_bytes seed c) (connection_records seed c) [] cut in
    all_decoded (connection_bytes seed c) (connection_records seed c) only.0 only.1

pub records_many : (seed c : ℕ) → length (connection_records seed c) ≡ 125
records_many seed c = length-map-range_with_len (λ r. record_of seed r c) 0 (last_round + 1)
    ∙ omega (arith, last_round_is)
