-- The records of a stream that was cut.
use Rattle.std.proofs.Common.{◌≡◌, ◌≤◌, ℕ, List, [], ◌∷◌, ◌++◌, length, take, map, refl, ap, sym}
use Rattle.std.proofs.Common.{◌∙◌, append_assoc, append-nil, arith}
use Rattle.std.proofs.lemmas.Bool.Decides.{nat_tests}
use Rattle.std.proofs.lemmas.List.{length-take-le, map-append}
use Rattle.cdr_record.specs.declared.record.LogRecord.{LogRecord}
use Rattle.cdr_record.specs.declared.grammar.First.TheVariants as front
use Rattle.cdr_record.specs.Grammar.{Spells, first_of, octet, seconds_size, seconds_width}
use Rattle.cdr_record.specs.Decoding.{decode, left_of}
use Rattle.cdr_record.specs.Feeding.{joined}
use Rattle.cdr_record.specs.Laws.{OneIsARecord, DecodeCuts, SpellsEach}
use Rattle.message_block.specs.Messages.{MessageState}
use Rattle.cmd_display.specs.Shown.{IsCut, message_of}

-- ---- one record at the front

-- a record that stands first: its bytes are there and spell it, and they are some and not too many
pub record StandsFirst (t : List ℕ) (n : ℕ) : Type 0 where
  pub within : n ≤ length t
  pub entry : LogRecord
  pub spells : Spells (take n t) entry
  pub some : 1 ≤ n
  pub most : n ≤ 65568

seconds_size-most : (octet : ℕ) → seconds_size octet ≤ 8
unfolding seconds_size seconds_width
seconds_size-most octet = grind (arith, nat_tests)

pub stands-first : OneIsARecord → (t : List ℕ) (n : ℕ) → first_of t ≡ front.One n → StandsFirst t n
stands-first law t n e =
    let found = (law t n).0 e in
    let spells = found.1.1 in
    let long : length (take n t) ≡ n = length-take-le n t found.0 in record {
      within = found.0;
      entry = found.1.0;
      spells = spells;
      some = omega (arith, long, spells.whole);
      most = omega (arith, long, spells.whole, spells.most, seconds_size-most (octet (take n t)));
    }

-- ---- records one after another

spells-one-more : (pieces : List (List ℕ)) (records : List LogRecord) (f : List ℕ)
    (entry : LogRecord) → SpellsEach pieces records → Spells f entry
    → SpellsEach (pieces ++ f ∷ []) (records ++ entry ∷ [])
spells-one-more [] [] f entry each spells = (spells, tt)
spells-one-more [] (r ∷ records) f entry each spells = absurd each
spells-one-more (p ∷ pieces) [] f entry each spells = absurd each
spells-one-more (p ∷ pieces) (r ∷ records) f entry each spells =
    (each.0, spells-one-more pieces records f entry each.1 spells)

spells-both : (pieces more : List (List ℕ)) (records others : List LogRecord)
    → SpellsEach pieces records → SpellsEach more others
    → SpellsEach (pieces ++ more) (records ++ others)
spells-both [] more [] others each also = also
spells-both [] more (r ∷ records) others each also = absurd each
spells-both (p ∷ pieces) more [] others each also = absurd each
spells-both (p ∷ pieces) more (r ∷ records) others each also =
    (each.0, spells-both pieces more records others each.1 also)

joined-append : (pieces more : List (List ℕ))
    → joined (pieces ++ more) ≡ joined pieces ++ joined more
joined-append [] more = refl
joined-append (p ∷ pieces) more = ap (λ xs. p ++ xs) (joined-append pieces more)
    ∙ sym (append_assoc p (joined pieces) (joined more))

-- one record more is cut off
pub cut-one : (cut : List ℕ) (put : List MessageState) (f : List ℕ) (entry : LogRecord)
    (m : MessageState) → IsCut cut put → Spells f entry → m ≡ message_of f
    → IsCut (cut ++ f) (put ++ m ∷ [])
cut-one cut put f entry m h spells e = record {
  pieces = h.pieces ++ f ∷ [];
  records = h.records ++ entry ∷ [];
  spells = spells-one-more h.pieces h.records f entry h.spells spells;
  whole = ap (λ xs. xs ++ f) h.whole
      ∙ sym (joined-append h.pieces (f ∷ []) ∙ ap (λ xs. joined h.pieces ++ xs) (append-nil f));
  messages = ap (λ xs. xs ++ m ∷ []) h.messages ∙ ap (λ x. map message_of h.pieces ++ x ∷ []) e
      ∙ sym (map-append message_of h.pieces (f ∷ []));
}

pub cut-none : IsCut [] []
cut-none = record { pieces = []; records = []; spells = tt; whole = refl; messages = refl }

-- ---- what is decoded

-- what is decoded of bytes that were cut and a rest: the records that were cut, and then those of
-- the rest
pub record DecodesBehind (records : List LogRecord) (rest whole : List ℕ) : Type 0 where
  pub all : (decode whole).records ≡ records ++ (decode rest).records
  pub left : left_of whole ≡ left_of rest

pub decodes-behind : DecodeCuts → (pieces : List (List ℕ)) (records : List LogRecord)
    (rest : List ℕ) → SpellsEach pieces records → DecodesBehind records rest (joined pieces ++ rest)
decodes-behind law pieces records rest each =
    let of_rest = (law rest).0 in
    let is : joined pieces ++ rest ≡ joined (pieces ++ of_rest.0) ++ left_of rest =
    ap (λ xs. joined pieces ++ xs) of_rest.2
    ∙ sym (append_assoc (joined pieces) (joined of_rest.0) (left_of rest))
    ∙ ap (λ xs. xs ++ left_of rest) (sym (joined-append pieces of_rest.0)) in
    let only = (law (joined pieces ++ rest)).1 (records ++ (decode rest).records) (left_of rest) (
      pieces ++ of_rest.0,
      spells-both pieces of_rest.0 records (decode rest).records each of_rest.1,
      is,
      of_rest.3,
    ) in record {
      all = only.0;
      left = only.1;
    }

-- no record stands first in these bytes
abbrev pub IsStuck : List ℕ → Type 0
IsStuck bytes = (n : ℕ) → ¬ (first_of bytes ≡ front.One n)

-- nothing is decoded of a rest at whose front no record stands
pub record IsLeft (rest : List ℕ) : Type 0 where
  pub none : (decode rest).records ≡ []
  pub all : left_of rest ≡ rest

pub stuck-is-left : DecodeCuts → (rest : List ℕ) → IsStuck rest → IsLeft rest
stuck-is-left law rest stuck = let only = (law rest).1 [] rest ([], tt, refl, stuck) in
    record { none = only.0; all = only.1 }
