-- A list that spells a record, and a stream that is cut into spellings.
use Rattle.std.proofs.Common.{◌≡◌, ◌≤◌, ℕ, zero, suc, List, [], ◌∷◌, ◌++◌, length, take, drop, refl}
use Rattle.std.proofs.Common.{sym, ◌∙◌, ap, arith}
use Rattle.std.proofs.lemmas.List.{length-append, length-take-le, take-append-drop, append_assoc}
use Rattle.std.proofs.lemmas.List.{nil_from_length}
use Rattle.cdr_record.specs.declared.record.LogRecord.{LogRecord}
use Rattle.cdr_record.specs.declared.bad.BadWhy.{BadWhy}
use Rattle.cdr_record.specs.declared.grammar.First.{First}
use Rattle.cdr_record.specs.declared.grammar.First.TheVariants.{More, Bad, One}
use Rattle.cdr_record.specs.Grammar.{first_of, record_in, Spells, payload_length, fields_length}
use Rattle.cdr_record.specs.Grammar.{message_length, octet}
use Rattle.cdr_record.specs.Decoding.{records_of, left_of}
use Rattle.cdr_record.specs.Feeding.{joined}
use Rattle.cdr_record.specs.Laws.{SpellsEach, IsCutInto}
use Rattle.cdr_record.proofs.Growing.{IsWhole, first_one, first_whole, one_within, one_stays}
use Rattle.cdr_record.proofs.Growing.{one_shrinks}
use Rattle.cdr_record.proofs.Cutting.{first_nil, steps_over, stops_at, fewer, one_goes_on}
use Rattle.cdr_record.proofs.Taking.{completed, none_first}

-- if f spells a record, that record is all that stands first in it
pub spells_first : (f : List ℕ) (r : LogRecord) → Spells f r → first_of f ≡ One (length f)
spells_first f r s =
    let whole : IsWhole (length f) (octet f) (payload_length f) (fields_length f)
    (message_length f) = record {
      version = s.version;
      header = omega (arith, s.whole);
      least = s.least;
      most = s.most;
      whole = omega (arith, s.whole);
      room = s.room;
    } in
    first_whole f whole ∙ ap One (sym s.whole)

pub first_spells : (f : List ℕ) → first_of f ≡ One (length f) → Spells f (record_in f)
first_spells f e =
    let one = first_one f (length f) e in
    record {
      version = one.0.version;
      least = one.0.least;
      most = one.0.most;
      whole = one.1;
      room = one.0.room;
      fields = refl;
    }

-- the bytes of a record at the front of a list
pub front_spells : (t : List ℕ) (n : ℕ) → first_of t ≡ One n → Spells (take n t) (record_in t)
front_spells t n e =
    let size : length (take n t) ≡ n = length-take-le n t (one_within t n e).1 in
    let cut : take n t ++ drop n t ≡ t = take-append-drop n t in
    let front = one_shrinks (take n t) (drop n t) (ap first_of cut ∙ e ∙ ap One (sym size)) in
    let same : record_in t ≡ record_in (take n t) =
    ap record_in (sym cut) ∙ one_goes_on (take n t) (drop n t) (length (take n t)) front in
    rw same (first_spells (take n t) front)

pub spelled_is_first : (t : List ℕ) (n : ℕ) (r : LogRecord) → n ≤ length t → Spells (take n t) r
    → first_of t ≡ One n
spelled_is_first t n r le s =
    ap first_of (sym (take-append-drop n t))
    ∙ one_stays (take n t) (drop n t) (length (take n t)) (spells_first (take n t) r s)
    ∙ ap One (length-take-le n t le)

same_size : (m n : ℕ) → One m ≡ One n → m ≡ n
same_size m n e = cc

pub none_longer : (f more : List ℕ) (r s : LogRecord) → Spells f r → Spells (f ++ more) s
    → more ≡ []
none_longer f more r s sf sm =
    let size = same_size (length f) (length (f ++ more))
    (sym (one_stays f more (length f) (spells_first f r sf)) ∙ spells_first (f ++ more) s sm) in
    nil_from_length more (omega (arith, size, length-append f more))

-- ---- a stream is cut into spellings

more_is_not_one : (n : ℕ) → ¬ (More ≡ One n)
more_is_not_one n e = cc

bad_is_not_one : (w : BadWhy) (n : ℕ) → ¬ (Bad w ≡ One n)
bad_is_not_one w n e = cc

cut_by_first : (t : List ℕ) (v : First) → first_of t ≡ v
    → ((n : ℕ) → first_of t ≡ One n → IsCutInto (drop n t) (records_of (drop n t))
    (left_of (drop n t))) → IsCutInto t (records_of t) (left_of t)
cut_by_first t More e go =
    let s = stops_at t More e tt in
    rw (s.records, s.left) ([], tt, refl, λ n one. more_is_not_one n (sym e ∙ one))
cut_by_first t (Bad w) e go =
    let s = stops_at t (Bad w) e tt in
    rw (s.records, s.left) ([], tt, refl, λ n one. bad_is_not_one w n (sym e ∙ one))
cut_by_first t (One n) e go =
    let s = steps_over t n e in
    let rest = go n e in
    let whole : t ≡ take n t ++ joined rest.0 ++ left_of (drop n t) =
    sym (take-append-drop n t) ∙ ap (λ (u : List ℕ). take n t ++ u) rest.2
    ∙ sym (append_assoc (take n t) (joined rest.0) (left_of (drop n t))) in
    rw (s.records, s.left) (take n t ∷ rest.0, (front_spells t n e, rest.1), whole, rest.3)

cut_in_turns : (k : ℕ) (t : List ℕ) → length t ≤ k → IsCutInto t (records_of t) (left_of t)
cut_in_turns zero [] h = cut_by_first [] More first_nil
    (λ n one. absurd (more_is_not_one n (sym first_nil ∙ one)))
cut_in_turns zero (x ∷ t) h = absurd (omega arith)
cut_in_turns (suc k) t h = cut_by_first t (first_of t) refl
    (λ n e. cut_in_turns k (drop n t) (fewer t n k e h))

pub is_cut : (t : List ℕ) → IsCutInto t (records_of t) (left_of t)
is_cut t = cut_in_turns (length t) t (omega arith)

-- the records and the rest of a cut are those of the decoding
pub record CutsAs (t : List ℕ) (rs : List LogRecord) (rest : List ℕ) : Type 0 where
  pub records : records_of t ≡ rs
  pub left : left_of t ≡ rest

cuts_as : (fs : List (List ℕ)) (rs : List LogRecord) (rest : List ℕ) → SpellsEach fs rs
    → ((n : ℕ) → ¬ (first_of rest ≡ One n)) → CutsAs (joined fs ++ rest) rs rest
cuts_as [] [] rest each none = let s = none_first rest (first_of rest) refl none in
    record { records = s.records; left = s.left }
cuts_as [] (r ∷ rs) rest each none = absurd each
cuts_as (f ∷ fs) [] rest each none = absurd each
cuts_as (f ∷ fs) (r ∷ rs) rest each none =
    let behind = cuts_as fs rs rest each.1 none in
    let done = completed f (joined fs ++ rest) (length f) (spells_first f r each.0) refl in
    let whole = append_assoc f (joined fs) rest in
    record {
      records = ap records_of whole ∙ done.records ∙ rw (behind.records, each.0.fields) refl;
      left = ap left_of whole ∙ done.left ∙ behind.left;
    }

pub only_cut : (t : List ℕ) (rs : List LogRecord) (rest : List ℕ) → IsCutInto t rs rest
    → (records_of t ≡ rs) × (left_of t ≡ rest)
only_cut t rs rest cut =
    let s = cuts_as cut.0 rs rest cut.1 cut.3 in
    (ap records_of cut.2 ∙ s.records, ap left_of cut.2 ∙ s.left)
