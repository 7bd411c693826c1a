-- What is encoded is decoded again.
use Rattle.std.proofs.Common.{◌≡◌, ◌≤◌, ◌<◌, ◌^◌, ℕ, ◌+◌, List, [], ◌∷◌, ◌++◌, length, drop, refl}
use Rattle.std.proofs.Common.{sym, ◌∙◌, ap, arith, Bool, true, false, nat_lt, if◌then◌else◌}
use Rattle.std.specs.Prelude.{ℤ, pos, negsuc}
use Rattle.std.specs.Int.{w32, w64, byte_len, cast_signed, cast_unsigned}
use Rattle.std.specs.Int.RustNames.{FitsSigned}
use Rattle.std.proofs.lemmas.Int.{to_z-of_z}
use Rattle.std.proofs.lemmas.List.{length-append, length-drop, drop-drop, drop_at, drop_all}
use Rattle.std.proofs.lemmas.List.{take_all}
use Rattle.byteorder.specs.Numbers.{big_number-reads_back, little_number-reads_back}
use Rattle.byteorder.specs.Numbers.{length-bytes_high_first, length-bytes_low_first}
use Rattle.cdr_record.specs.declared.record.Order.{Order}
use Rattle.cdr_record.specs.declared.record.Order.TheVariants.{Big, Little}
use Rattle.cdr_record.specs.declared.record.LogRecord.{LogRecord}
use Rattle.cdr_record.specs.declared.grammar.First.TheVariants.{More, One}
use Rattle.cdr_record.specs.Grammar.{first_of, record_in, number, order_of, octet, payload_length}
use Rattle.cdr_record.specs.Grammar.{fields_length, message_length, seconds_size, seconds_width}
use Rattle.cdr_record.specs.Decoding.{records_of, left_of, decode}
use Rattle.cdr_record.specs.Spelling.{bytes_of, seconds_bytes, spelling, canon, canon_2}
use Rattle.cdr_record.specs.Laws.{HasNumbersOf32Bits, one_record}
use Rattle.cdr_record.proofs.Growing.{IsWhole, first_whole, seconds_size-most}
use Rattle.cdr_record.proofs.Cutting.{first_nil, steps_over, stops_at}

-- a number is read back from its bytes
number-bytes_of : (order : Order) (n x : ℕ) (rest : List ℕ) → x < 256 ^ n
    → number order n (bytes_of order n x ++ rest) ≡ x
unfolding number bytes_of
number-bytes_of Big n x rest h = big_number-reads_back n x rest h
number-bytes_of Little n x rest h = little_number-reads_back n x rest h

length-bytes_of : (order : Order) (n x : ℕ) → length (bytes_of order n x) ≡ n
unfolding bytes_of
length-bytes_of Big n x = length-bytes_high_first n x
length-bytes_of Little n x = length-bytes_low_first 0 n x

-- a signed number's bits fit its width
bits_32 : (z : ℤ) → FitsSigned w32 z → cast_unsigned w32 z < 256 ^ 4
bits_32 (pos n) f = omega (arith, f.sfits)
bits_32 (negsuc n) f = omega (arith, f.sfits)

bits_64 : (z : ℤ) → FitsSigned w64 z → cast_unsigned w64 z < 256 ^ 8
bits_64 (pos n) f = omega (arith, f.sfits)
bits_64 (negsuc n) f = omega (arith, f.sfits)

seconds_bits_by : (narrow : Bool) (z : ℤ) → FitsSigned (if narrow then w32 else w64) z
    → cast_unsigned (if narrow then w32 else w64) z < 256 ^ byte_len (if narrow then w32 else w64)
seconds_bits_by true z f = bits_32 z f
seconds_bits_by false z f = bits_64 z f

seconds_bits : (first : ℕ) (z : ℤ) → FitsSigned (seconds_width first) z
    → cast_unsigned (seconds_width first) z < 256 ^ seconds_size first
unfolding seconds_width seconds_size
seconds_bits first z f = seconds_bits_by (nat_lt first 2) z f

-- ---- where the fields of a spelling stand

-- seven fields of these sizes, and what is after them
pub record FieldsAt (size : ℕ) (t a k p s u m x : List ℕ) : Type 0 where
  pub payload : drop 4 t ≡ a ++ (k ++ (p ++ (s ++ (u ++ (m ++ x)))))
  pub kind : drop 8 t ≡ k ++ (p ++ (s ++ (u ++ (m ++ x))))
  pub pid : drop 12 t ≡ p ++ (s ++ (u ++ (m ++ x)))
  pub sec : drop 16 t ≡ s ++ (u ++ (m ++ x))
  pub usec : drop (16 + size) t ≡ u ++ (m ++ x)
  pub message : drop (20 + size) t ≡ m ++ x
  pub text : drop (24 + size) t ≡ x
  pub whole : length t ≡ 24 + size + length x

next_field : (t front behind : List ℕ) (at size place : ℕ) → drop at t ≡ front ++ behind
    → length front ≡ size → at + size ≡ place → drop place t ≡ behind
next_field t front behind at size place e l sum =
    ap (λ (n : ℕ). drop n t) (sym sum) ∙ sym (drop-drop size at t)
    ∙ ap (λ (u : List ℕ). drop size u) e ∙ drop_at front behind size l

fields_at : (size : ℕ) (t a k p s u m x : List ℕ)
    → drop 4 t ≡ a ++ (k ++ (p ++ (s ++ (u ++ (m ++ x))))) → 4 ≤ length t
    → length a ≡ 4 → length k ≡ 4 → length p ≡ 4 → length s ≡ size → length u ≡ 4 → length m ≡ 4
    → FieldsAt size t a k p s u m x
fields_at size t a k p s u m x e h la lk lp ls lu lm =
    let kind = next_field t a (k ++ (p ++ (s ++ (u ++ (m ++ x))))) 4 4 8 e la refl in
    let pid = next_field t k (p ++ (s ++ (u ++ (m ++ x)))) 8 4 12 kind lk refl in
    let sec = next_field t p (s ++ (u ++ (m ++ x))) 12 4 16 pid lp refl in
    let usec = next_field t s (u ++ (m ++ x)) 16 size (16 + size) sec ls refl in
    let message = next_field t u (m ++ x) (16 + size) 4 (20 + size) usec lu (omega arith) in
    let text = next_field t m x (20 + size) 4 (24 + size) message lm (omega arith) in
    let total = ap length e in
    record {
      payload = e;
      kind = kind;
      pid = pid;
      sec = sec;
      usec = usec;
      message = message;
      text = text;
      whole = omega (
        arith,
        length-drop 4 t,
        total,
        la,
        lk,
        lp,
        ls,
        lu,
        lm,
        length-append a (k ++ (p ++ (s ++ (u ++ (m ++ x))))),
        length-append k (p ++ (s ++ (u ++ (m ++ x)))),
        length-append p (s ++ (u ++ (m ++ x))),
        length-append s (u ++ (m ++ x)),
        length-append u (m ++ x),
        length-append m x,
      );
    }

-- ---- the spelling spells its record

-- what is read of a spelling
pub record Reads (first : ℕ) (r : LogRecord) (t : List ℕ) : Type 0 where
  pub octet : octet t ≡ first
  pub payload : payload_length t ≡ 16 + seconds_size first + length r.text
  pub message : message_length t ≡ length r.text
  pub whole : length t ≡ 24 + seconds_size first + length r.text
  pub fields : record_in t ≡ r

same_record : (k k' p p' : ℤ) (s s' : ℤ) (u u' : ℤ) (t t' : List ℕ) → k ≡ k' → p ≡ p' → s ≡ s'
    → u ≡ u' → t ≡ t'
    → ◌≡◌ {A = LogRecord} (record { kind = k; pid = p; sec = s; usec = u; text = t })
    (record { kind = k'; pid = p'; sec = s'; usec = u'; text = t' })
same_record k k' p p' s s' u u' t t' ek ep es eu et = rw (ek, ep, es, eu, et) refl

reads_by : (first : ℕ) (r : LogRecord) (t : List ℕ) → octet t ≡ first
    → FieldsAt (seconds_size first) t (bytes_of (order_of first) 4
    (16 + seconds_size first + length r.text))
    (bytes_of (order_of first) 4 (cast_unsigned w32 r.kind))
    (bytes_of (order_of first) 4 (cast_unsigned w32 r.pid)) (seconds_bytes first r.sec)
    (bytes_of (order_of first) 4 (cast_unsigned w32 r.usec))
    (bytes_of (order_of first) 4 (length r.text)) r.text
    → HasNumbersOf32Bits r → FitsSigned (seconds_width first) r.sec → length r.text ≤ 65536
    → seconds_size first ≤ 8 → Reads first r t
unfolding record_in
reads_by first r t eo f fits sec_fits short size_most =
    let order = order_of first in
    let size = seconds_size first in
    let payload : number order 4 (drop 4 t) ≡ 16 + size + length r.text =
    ap (λ (u : List ℕ). number order 4 u) f.payload
    ∙ number-bytes_of order 4 _ _ (omega arith) in
    let message : number order 4 (drop (20 + size) t) ≡ length r.text =
    ap (λ (u : List ℕ). number order 4 u) f.message
    ∙ number-bytes_of order 4 _ _ (omega arith) in
    let kind : number order 4 (drop 8 t) ≡ cast_unsigned w32 r.kind =
    ap (λ (u : List ℕ). number order 4 u) f.kind
    ∙ number-bytes_of order 4 _ _ (bits_32 r.kind fits.kind) in
    let pid : number order 4 (drop 12 t) ≡ cast_unsigned w32 r.pid =
    ap (λ (u : List ℕ). number order 4 u) f.pid
    ∙ number-bytes_of order 4 _ _ (bits_32 r.pid fits.pid) in
    let usec : number order 4 (drop (16 + size) t) ≡ cast_unsigned w32 r.usec =
    ap (λ (u : List ℕ). number order 4 u) f.usec
    ∙ number-bytes_of order 4 _ _ (bits_32 r.usec fits.usec) in
    let sec : number order size (drop 16 t) ≡ cast_unsigned (seconds_width first) r.sec =
    ap (λ (u : List ℕ). number order size u) f.sec
    ∙ number-bytes_of order size _ _ (seconds_bits first r.sec sec_fits) in
    record {
      octet = eo;
      payload = rw eo payload;
      message = rw eo message;
      whole = f.whole;
      fields = rw eo (same_record _ r.kind _ r.pid _ r.sec _ r.usec _ r.text
          (ap (cast_signed w32) kind ∙ to_z-of_z w32 r.kind fits.kind)
          (ap (cast_signed w32) pid ∙ to_z-of_z w32 r.pid fits.pid)
          (ap (cast_signed (seconds_width first)) sec
          ∙ to_z-of_z (seconds_width first) r.sec sec_fits)
          (ap (cast_signed w32) usec ∙ to_z-of_z w32 r.usec fits.usec)
          (rw (message, f.text) (take_all (length r.text) r.text (omega arith))));
    }

reads : (first : ℕ) (r : LogRecord) → HasNumbersOf32Bits r → FitsSigned (seconds_width first) r.sec
    → length r.text ≤ 65536 → seconds_size first ≤ 8
    → Reads first r (spelling first r)
unfolding spelling
reads first r fits sec_fits short size_most =
    let order = order_of first in
    let size = seconds_size first in
    let at = fields_at size (spelling first r) (bytes_of order 4 (16 + size + length r.text))
    (bytes_of order 4 (cast_unsigned w32 r.kind))
    (bytes_of order 4 (cast_unsigned w32 r.pid)) (seconds_bytes first r.sec)
    (bytes_of order 4 (cast_unsigned w32 r.usec)) (bytes_of order 4 (length r.text)) r.text
    refl (omega arith) (length-bytes_of order 4 _) (length-bytes_of order 4 _)
    (length-bytes_of order 4 _) (length-bytes_of order size _)
    (length-bytes_of order 4 _) (length-bytes_of order 4 _) in
    reads_by first r (spelling first r) refl at fits sec_fits short size_most

-- ---- decoding it

only_record : (t : List ℕ) (r : LogRecord) → first_of t ≡ One (length t) → record_in t ≡ r
    → decode t ≡ one_record r
only_record t r e is =
    let step = steps_over t (length t) e in
    let none : drop (length t) t ≡ [] = drop_all (length t) t (omega arith) in
    let end = stops_at [] More first_nil tt in
    let left : left_of t ≡ [] = step.left ∙ ap left_of none ∙ end.left in
    let records : records_of t ≡ r ∷ [] = step.records ∙ rw (none, end.records, is) refl in
    rw (records, left, first_nil) refl

pub decodes_spelling : (first : ℕ) (r : LogRecord) → first ≤ 3 → HasNumbersOf32Bits r
    → FitsSigned (seconds_width first) r.sec → length r.text ≤ 65536
    → decode (spelling first r) ≡ one_record r
decodes_spelling first r version fits sec_fits short =
    let t = spelling first r in
    let read = reads first r fits sec_fits short (seconds_size-most first) in
    let fields : fields_length t ≡ 16 + seconds_size first = rw read.octet refl in
    let whole : IsWhole (length t) (octet t) (payload_length t) (fields_length t)
    (message_length t) = record {
      version = rw read.octet version;
      header = omega (arith, read.whole);
      least = omega (arith, read.payload, fields);
      most = omega (arith, read.payload, fields, short);
      whole = omega (arith, read.payload, read.whole);
      room = omega (arith, read.payload, read.message, fields);
    } in
    only_record t r (first_whole t whole ∙ ap One (omega (arith, read.payload, read.whole)))
    read.fields

pub decodes_canon : (r : LogRecord) (order : Order) → HasNumbersOf32Bits r → FitsSigned w32 r.sec
    → length r.text ≤ 65536 → decode (canon r order) ≡ one_record r
unfolding seconds_width
decodes_canon r Big fits sec short = decodes_spelling 0 r (omega arith) fits sec short
decodes_canon r Little fits sec short = decodes_spelling 1 r (omega arith) fits sec short

pub decodes_canon_2 : (r : LogRecord) (order : Order) → HasNumbersOf32Bits r → FitsSigned w64 r.sec
    → length r.text ≤ 65536 → decode (canon_2 r order) ≡ one_record r
unfolding seconds_width
decodes_canon_2 r Big fits sec short = decodes_spelling 2 r (omega arith) fits sec short
decodes_canon_2 r Little fits sec short = decodes_spelling 3 r (omega arith) fits sec short
