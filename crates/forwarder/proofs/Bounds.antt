-- How long what is sent of records is: at most eight sevenths of their spellings, since these have
-- 28 bytes at least and the longer version has 4 more.
use Rattle.std.proofs.Common.{◌≡◌, ◌≤◌, ◌<◌, ◌+◌, ◌*◌, ◌∙◌, ◌&&◌, ℕ, zero, suc, Bool, true, false}
use Rattle.std.proofs.Common.{List, [], ◌∷◌, ◌++◌, length, drop, refl, sym, ap}
use Rattle.std.proofs.Common.{arith, if◌then◌else◌}
use Rattle.std.specs.Prelude.{◌↔◌, ◌^◌, ℤ, pos, negsuc, int_le}
use Rattle.std.specs.Int.{w32}
use Rattle.std.specs.Int.RustNames.{FitsSigned}
use Rattle.std.proofs.lemmas.Bool.Decides.{nat_tests}
use Rattle.std.proofs.lemmas.List.{length-append, length-drop, length-take, append_cancel_left}
use Rattle.byteorder.specs.Numbers.{length-bytes_high_first}
use Rattle.cdr_record.specs.declared.record.LogRecord.{LogRecord}
use Rattle.cdr_record.specs.declared.record.Order.TheVariants.{Big}
use Rattle.cdr_record.specs.declared.grammar.First.{First}
use Rattle.cdr_record.specs.declared.grammar.First.TheVariants.{More, Bad, One}
use Rattle.cdr_record.specs.declared.decoder.Fed.{Fed}
use Rattle.cdr_record.specs.Grammar.{first_of, record_in, octet, payload_length, fields_length}
use Rattle.cdr_record.specs.Grammar.{message_length, seconds_size, seconds_width, order_of}
use Rattle.cdr_record.specs.Spelling.{bytes_of, spelling, canon, canon_2}
use Rattle.cdr_record.specs.Decoding.{DecoderState, StandsFor, decode, records_of, left_of}
use Rattle.cdr_record.specs.Feeding.{Feeds}
use Rattle.cdr_record.proofs.Growing.{first_one, one_within, seconds_size-most, verdict}
use Rattle.cdr_record.proofs.Growing.{first_verdict, bad_stays}
use Rattle.cdr_record.proofs.Cutting.{steps_over, stops_at, fewer, first_nil, goes_on, is_left}
use Rattle.cdr_record.proofs.Cutting.{Stops}
use Rattle.ev_base.specs.Counts.{Counts}
use Rattle.forwarder.specs.Feeding.{sent_as, sent_all, feed, fits_1, is_short, are_short}
use Rattle.forwarder.specs.Waiting.{most_held}

-- ---- one record

length-bytes : (n x : ℕ) → length (bytes_of Big n x) ≡ n
unfolding bytes_of
length-bytes n x = length-bytes_high_first n x

seconds_size-least : (first : ℕ) → 4 ≤ seconds_size first
unfolding seconds_size seconds_width
seconds_size-least first = grind (arith, nat_tests)

-- six parts and a text
parts : (a k p s u m x : List ℕ) → length (a ++ (k ++ (p ++ (s ++ (u ++ (m ++ x))))))
    ≡ length a + (length k + (length p + (length s + (length u + (length m + length x)))))
parts a k p s u m x = rw (
  length-append a (k ++ (p ++ (s ++ (u ++ (m ++ x))))),
  length-append k (p ++ (s ++ (u ++ (m ++ x)))),
  length-append p (s ++ (u ++ (m ++ x))),
  length-append s (u ++ (m ++ x)),
  length-append u (m ++ x),
  length-append m x,
) refl

-- the fields of a spelling
length-fields : (size a k p s u m : ℕ) (x : List ℕ) → length (bytes_of Big 4 a
    ++ (bytes_of Big 4 k ++ (bytes_of Big 4 p ++ (bytes_of Big size s ++ (bytes_of Big 4 u
    ++ (bytes_of Big 4 m ++ x)))))) ≡ 20 + size + length x
length-fields size a k p s u m x = omega (
  arith,
  parts (bytes_of Big 4 a) (bytes_of Big 4 k) (bytes_of Big 4 p) (bytes_of Big size s)
      (bytes_of Big 4 u) (bytes_of Big 4 m) x,
  length-bytes 4 a,
  length-bytes 4 k,
  length-bytes 4 p,
  length-bytes size s,
  length-bytes 4 u,
  length-bytes 4 m,
)

length-canon : (r : LogRecord) → length (canon r Big) ≡ 28 + length r.text
unfolding spelling order_of seconds_size seconds_width
length-canon r =
    ap (λ (n : ℕ). suc (suc (suc (suc n)))) (length-fields 4 _ _ _ _ _ _ r.text) ∙ omega arith

length-canon_2 : (r : LogRecord) → length (canon_2 r Big) ≡ 32 + length r.text
unfolding spelling order_of seconds_size seconds_width
length-canon_2 r =
    ap (λ (n : ℕ). suc (suc (suc (suc n)))) (length-fields 8 _ _ _ _ _ _ r.text) ∙ omega arith

length-sent_as : (r : LogRecord) → length (sent_as r) ≤ 32 + length r.text
length-sent_as r = by (fits_1 r)
  where
    by : (b : Bool) → length (if b then canon r Big else canon_2 r Big) ≤ 32 + length r.text
    by true = omega (arith, length-canon r)
    by false = omega (arith, length-canon_2 r)

-- the message of a record at the front is as long as its field says, at most
length-text : (t : List ℕ) → length (record_in t).text ≤ message_length t
unfolding record_in
length-text t = omega (arith, length-take (message_length t) (drop (24 + seconds_size (octet t)) t))

-- ---- all records

pub record AreBounded (t : List ℕ) (records : List LogRecord) : Type 0 where
  pub short : are_short records ≡ true
  pub size : 7 * length (sent_all records) ≤ 8 * length t
  pub many : length records ≤ length t

one_bounded : (t : List ℕ) (n : ℕ) → first_of t ≡ One n
    → (is_short (record_in t) ≡ true) × (7 * length (sent_as (record_in t)) ≤ 8 * n)
one_bounded t n e =
    let one = first_one t n e in
    let w = one.0 in
    let text = length-text t in
    let least = seconds_size-least (octet t) in
    let short : length (record_in t).text ≤ 65536 = omega (arith, text, w.most, w.room) in (
      grind (arith, nat_tests, short),
      omega (arith, length-sent_as (record_in t), text, one.1, w.least, w.room, least),
    )

bounded_by_first : (t : List ℕ) (v : First) → first_of t ≡ v
    → ((n : ℕ) → first_of t ≡ One n → AreBounded (drop n t) (records_of (drop n t)))
    → AreBounded t (records_of t)
bounded_by_first t More e go = rw (stops_at t More e tt).records
    (record { short = refl; size = omega arith; many = omega arith })
bounded_by_first t (Bad w) e go = rw (stops_at t (Bad w) e tt).records
    (record { short = refl; size = omega arith; many = omega arith })
bounded_by_first t (One n) e go =
    let rest = go n e in
    let one = one_bounded t n e in
    rw (steps_over t n e).records (record {
      short = ap (λ (b : Bool). b && are_short (records_of (drop n t))) one.0 ∙ rest.short;
      size = omega (
        arith,
        one.1,
        rest.size,
        length-append (sent_as (record_in t)) (sent_all (records_of (drop n t))),
        length-drop n t,
        (one_within t n e).1,
      );
      many = omega (
        arith,
        rest.many,
        length-drop n t,
        (one_within t n e).0,
        (one_within t n e).1,
      );
    })

bounded_in_turns : (k : ℕ) (t : List ℕ) → length t ≤ k → AreBounded t (records_of t)
bounded_in_turns zero [] h = rw (stops_at [] More first_nil tt).records
    (record { short = refl; size = omega arith; many = omega arith })
bounded_in_turns zero (x ∷ t) h = absurd (omega arith)
bounded_in_turns (suc k) t h = bounded_by_first t (first_of t) refl
    (λ n e. bounded_in_turns k (drop n t) (fewer t n k e h))

bounded : (t : List ℕ) → AreBounded t (records_of t)
bounded t = bounded_in_turns (length t) t (omega arith)

-- ---- what a piece completes

verdict_few : (l o p f m : ℕ) → verdict l o p f m ≡ More → f ≤ 24 → l < 65568
verdict_few l o p f m e h = grind (arith, nat_tests)

-- an unfinished record is shorter than the longest
few_left : (t : List ℕ) → first_of t ≡ More → length t < 65568
few_left t e = verdict_few (length t) (octet t) (payload_length t) (fields_length t)
    (message_length t) (sym (first_verdict t) ∙ e) (omega (arith, seconds_size-most (octet t)))

-- the records that a piece completed have short messages, and what is sent of them is not too long
pub record ArePieces (records : List LogRecord) : Type 0 where
  pub short : are_short records ≡ true
  pub few : length (sent_all records) ≤ most_held
  pub many : length records ≤ most_held

pieces_none : ArePieces []
pieces_none = record { short = refl; few = omega arith; many = omega arith }

pieces_by : (left piece : List ℕ) (v : First) → first_of left ≡ v
    → ((n : ℕ) → first_of left ≡ One n → ⊥) → length piece ≤ 4096
    → ArePieces (records_of (left ++ piece))
pieces_by left piece More e none h =
    let b = bounded (left ++ piece) in record {
      short = b.short;
      few = omega (arith, b.size, length-append left piece, few_left left e, h);
      many = omega (arith, b.many, length-append left piece, few_left left e, h);
    }
pieces_by left piece (Bad w) e none h =
    rw (stops_at (left ++ piece) (Bad w) (bad_stays left piece w e) tt).records pieces_none
pieces_by left piece (One n) e none h = absurd (none n e)

none_left : (t : List ℕ) (n : ℕ) → first_of (left_of t) ≡ One n → ⊥
none_left t n e = by (first_of (left_of t)) e (is_left t).stops
  where
    by : (v : First) → v ≡ One n → Stops v → ⊥
    by More e s = cc
    by (Bad w) e s = cc
    by (One m) e s = s

-- the records that come with a piece are those that stand after what was left
pub records_behind : (old new : DecoderState) (t piece : List ℕ) (fed : Fed) → StandsFor old t
    → Feeds old piece fed new → fed.records ≡ records_of (left_of t ++ piece)
records_behind old new t piece fed stands feeds =
    append_cancel_left (records_of t) fed.records (records_of (left_of t ++ piece))
    (sym (feeds.records t stands) ∙ (goes_on t piece).records)

pub are_pieces : (old new : DecoderState) (t piece : List ℕ) (fed : Fed) → StandsFor old t
    → Feeds old piece fed new → length piece ≤ 4096 → ArePieces fed.records
are_pieces old new t piece fed stands feeds h =
    rw (records_behind old new t piece fed stands feeds)
    (pieces_by (left_of t) piece (first_of (left_of t)) refl (none_left t) h)

-- ---- the totals

pub exact : (taken : List ℕ) (records bytes : ℕ) → length taken ≤ 2 ^ 40
    → Counts records (length (decode taken).records) → Counts bytes (length (feed taken))
    → (records ≡ length (decode taken).records) × (bytes ≡ length (feed taken))
exact taken records bytes few of_records of_bytes =
    let b = bounded taken in
    (omega (arith, few, b.many, of_records), omega (arith, few, b.size, of_bytes))

-- ---- the seconds

pub fits_by : (sec : ℤ) → ((int_le (negsuc 2147483647) sec && int_le sec (pos 2147483647)) ≡ true)
    ↔ FitsSigned w32 sec
fits_by (pos n) = (
  λ is. record { sfits = grind (arith, nat_tests, is) },
  λ fits. let few = fits.sfits in grind (arith, nat_tests, few),
)
fits_by (negsuc n) = (
  λ is. record { sfits = grind (arith, nat_tests, is) },
  λ fits. let few = fits.sfits in grind (arith, nat_tests, few),
)
