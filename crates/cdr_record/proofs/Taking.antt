-- How the decoder takes a record, and completes an unfinished one.
use Rattle.std.proofs.Common.{◌≡◌, ◌≤◌, ◌<◌, ℕ, ◌+◌, ◌-◌, min, List, [], ◌∷◌, ◌++◌, length, take}
use Rattle.std.proofs.Common.{drop, refl, sym, ◌∙◌, ap, arith, Option, None, Some, is_some, true}
use Rattle.std.proofs.Common.{false, ⊎_elim}
use Rattle.std.proofs.lemmas.Bool.Decides.{nat_tests}
use Rattle.std.proofs.lemmas.List.{length-append, length-drop, length-take, append-nil}
use Rattle.std.proofs.lemmas.List.{append_assoc, drop_at, take-append-drop, take_all}
use Rattle.std.proofs.lemmas.Bool.{cases_lt}
use Rattle.std.proofs.Math.Seq.{take-add}
use Rattle.cdr_record.specs.declared.record.LogRecord.{LogRecord}
use Rattle.cdr_record.specs.declared.grammar.First.{First}
use Rattle.cdr_record.specs.declared.grammar.First.TheVariants.{More, Bad, One}
use Rattle.cdr_record.specs.Grammar.{first_of, record_in, fields_length, HasFields, payload_length}
use Rattle.cdr_record.specs.Grammar.{message_length, octet}
use Rattle.cdr_record.specs.declared.bad.Bad.{Bad as BadRecord}
use Rattle.cdr_record.specs.declared.bad.BadWhy.{BadWhy}
use Rattle.cdr_record.specs.declared.decoder.Fed.{Fed}
use Rattle.cdr_record.specs.Decoding.{decode, records_of, left_of, taken_of, told, kept_of, bad_at}
use Rattle.cdr_record.specs.Decoding.{bad_of, StandsFor, DecoderState}
use Rattle.cdr_record.specs.Feeding.{Feeds, fresh}
use Rattle.cdr_record.proofs.Growing.{verdict, first_verdict, first_one, one_stays, bad_stays}
use Rattle.cdr_record.proofs.Growing.{word_at-append}
use Rattle.cdr_record.proofs.Cutting.{Stops, first_nil, steps_over, StopsAt, stops_at, is_left}
use Rattle.cdr_record.proofs.Cutting.{goes_on, one_goes_on, taken_of-append}

-- ---- a record at the front

-- its fields and its message are there
pub one_fields : (t : List ℕ) (n : ℕ) → first_of t ≡ One n → HasFields t
one_fields t n e = let w = (first_one t n e).0 in omega (arith, w.whole, w.least)

pub one_message : (t : List ℕ) (n : ℕ) → first_of t ≡ One n
    → 8 + fields_length t + message_length t ≤ length t
one_message t n e = let w = (first_one t n e).0 in omega (arith, w.whole, w.least, w.room)

-- the loop's step: the record joins those so far
pub one_more_record : (so_far all : List LogRecord) (r : LogRecord) (t : List ℕ) (size : ℕ)
    → first_of t ≡ One size → r ≡ record_in t → so_far ++ records_of t ≡ all
    → (so_far ++ r ∷ []) ++ records_of (drop size t) ≡ all
one_more_record so_far all r t size e is before =
    append_assoc so_far (r ∷ []) (records_of (drop size t))
    ∙ rw is (ap (λ rs. so_far ++ rs) (sym (steps_over t size e).records) ∙ before)

-- at the loop's end no record stands first
pub none_first : (t : List ℕ) (v : First) → v ≡ first_of t → ((n : ℕ) → v ≡ One n → ⊥) → StopsAt t
none_first t More e no_one = stops_at t More (sym e) tt
none_first t (Bad w) e no_one = stops_at t (Bad w) (sym e) tt
none_first t (One n) e no_one = absurd (no_one n refl)

-- ---- an unfinished record

verdict_more : (l o p f m : ℕ) → verdict l o p f m ≡ More → 8 ≤ l → l < 8 + p
verdict_more l o p f m e h = grind (arith, nat_tests)

-- with its header there, it has fewer bytes than that says
pub more_short : (t : List ℕ) → first_of t ≡ More → 8 ≤ length t → length t < 8 + payload_length t
more_short t e h = verdict_more (length t) (octet t) (payload_length t) (fields_length t)
    (message_length t) (sym (first_verdict t) ∙ e) h

-- a record has at least 24 bytes
pub one_long : (t : List ℕ) (n : ℕ) → first_of t ≡ One n → 24 ≤ length t
one_long t n e = let w = (first_one t n e).0 in omega (arith, w.whole, w.least)

-- ---- what `complete` moves

pub moved_twice : (old piece rest more : List ℕ) (a b : ℕ) → rest ≡ old ++ take a piece
    → more ≡ rest ++ take b (drop a piece) → more ≡ old ++ take (a + b) piece
moved_twice old piece rest more a b e g =
    g ∙ rw (e, append_assoc) (ap (λ (ys : List ℕ). old ++ ys) (sym (take-add a b piece)))

-- with fewer bytes than a header there is no record
pub short_is_none : (t : List ℕ) (n : ℕ) {P : Type 0} → first_of t ≡ One n → length t < 8 → P
short_is_none t n e h = absurd (omega (arith, one_long t n e))

-- no more was moved than makes a header, so there is no record yet
pub header_is_none : (old piece rest : List ℕ) (a n : ℕ) {P : Type 0} → first_of old ≡ More
    → a ≡ min (8 - length old) (length piece) → rest ≡ old ++ take a piece
    → first_of rest ≡ One n → P
header_is_none old piece rest a n more ea er e =
    ⊎_elim
    (λ (h : length old < 8).
    let long = one_long rest n e in
    let size = ap length er ∙ length-append old (take a piece) in
    absurd (omega (arith, long, size, length-take a piece, h)))
    (λ (h : 8 ≤ length old).
    let none : a ≡ 0 = omega arith in
    let same : rest ≡ old = er ∙ rw none (append-nil old) in
    let bad : More ≡ One n = sym more ∙ ap first_of (sym same) ∙ e in
    cc)
    (cases_lt (length old) 8)

-- the record's length stays as bytes are moved after its header
payload_stays : (rest x more : List ℕ) → 8 ≤ length rest → more ≡ rest ++ x
    → payload_length more ≡ payload_length rest
payload_stays rest x more h e = ap (λ (f : List ℕ). payload_length f) e
    ∙ word_at-append 4 rest x (omega arith) h

-- if more is needed still, the piece is used up
pub body_all : (rest piece more : List ℕ) (a b : ℕ) → a ≤ length piece → 8 ≤ length rest
    → first_of rest ≡ More
    → b ≡ min (8 + payload_length rest - length rest) (length (drop a piece))
    → more ≡ rest ++ take b (drop a piece)
    → first_of more ≡ More → a + b ≡ length piece
body_all rest piece more a b within header before eb em after =
    let size = ap length em ∙ length-append rest (take b (drop a piece)) in
    let longer : 8 ≤ length more = omega (arith, size) in
    let short = more_short rest before header in
    let still = more_short more after longer in
    let same = payload_stays rest (take b (drop a piece)) more header em in
    omega (arith, size, length-take b (drop a piece), length-drop a piece, short, still, same, eb)

-- and if a record is there, it is all that was moved
pub body_one : (rest piece more : List ℕ) (a b n : ℕ) → 8 ≤ length rest → first_of rest ≡ More
    → b ≡ min (8 + payload_length rest - length rest) (length (drop a piece))
    → more ≡ rest ++ take b (drop a piece)
    → first_of more ≡ One n → n ≡ length more
body_one rest piece more a b n header before eb em after =
    let size = ap length em ∙ length-append rest (take b (drop a piece)) in
    let short = more_short rest before header in
    let one = first_one more n after in
    let same = payload_stays rest (take b (drop a piece)) more header em in
    omega (arith, size, length-take b (drop a piece), short, one.0.whole, one.1, same, eb)

-- ---- what is read, by how an unfinished record ends

-- the stream by what was moved and what was not
pub in_parts : (old piece rest : List ℕ) (a : ℕ) → rest ≡ old ++ take a piece
    → old ++ piece ≡ rest ++ drop a piece
in_parts old piece rest a e =
    sym (rw (e, append_assoc) (ap (λ (ys : List ℕ). old ++ ys) (take-append-drop a piece)))

-- it became whole, and the rest of the piece begins where a record does
pub record Completed (rest piece : List ℕ) (size : ℕ) : Type 0 where
  pub records : records_of (rest ++ piece) ≡ record_in rest ∷ records_of piece
  pub left : left_of (rest ++ piece) ≡ left_of piece
  pub taken : taken_of (rest ++ piece) ≡ size + taken_of piece

pub completed : (rest piece : List ℕ) (size : ℕ) → first_of rest ≡ One size → size ≡ length rest
    → Completed rest piece size
completed rest piece size e whole =
    let step = steps_over (rest ++ piece) size (one_stays rest piece size e) in
    let behind : drop size (rest ++ piece) ≡ piece = drop_at rest piece size (sym whole) in
    let left : left_of (rest ++ piece) ≡ left_of piece = step.left ∙ ap left_of behind in
    record {
      records = step.records ∙ rw (one_goes_on rest piece size e, behind) refl;
      left = left;
      taken = omega (arith, ap length left, length-append rest piece, (is_left piece).within);
    }

-- a list at whose front no record stands, but this
pub record IsStuck (t : List ℕ) (v : First) : Type 0 where
  pub records : records_of t ≡ []
  pub left : left_of t ≡ t
  pub taken : taken_of t ≡ 0
  pub first : first_of (left_of t) ≡ v

pub stuck : (t : List ℕ) (v : First) → first_of t ≡ v → Stops v → IsStuck t v
stuck t v e s =
    let at = stops_at t v e s in
    record {
      records = at.records;
      left = at.left;
      taken = omega (arith, ap length at.left);
      first = ap first_of at.left ∙ e;
    }

-- the unfinished record turned out bad
pub ends_bad : (old piece rest : List ℕ) (a : ℕ) (w : BadWhy) → rest ≡ old ++ take a piece
    → first_of rest ≡ Bad w → IsStuck (old ++ piece) (Bad w)
ends_bad old piece rest a w e bad =
    stuck (old ++ piece) (Bad w) (ap first_of (in_parts old piece rest a e)
    ∙ bad_stays rest (drop a piece) w bad) tt

-- the record is unfinished still, and has all of the piece
pub ends_whole : (old piece rest : List ℕ) (a : ℕ) → rest ≡ old ++ take a piece → a ≡ length piece
    → rest ≡ old ++ piece
ends_whole old piece rest a e all =
    e ∙ ap (λ (ys : List ℕ). old ++ ys) (take_all a piece (omega arith))

pub ends_more : (old piece rest : List ℕ) (a : ℕ) → rest ≡ old ++ take a piece → a ≡ length piece
    → first_of rest ≡ More → IsStuck (old ++ piece) More
ends_more old piece rest a e all more =
    stuck (old ++ piece) More (ap first_of (sym (ends_whole old piece rest a e all)) ∙ more) tt

-- the record that was completed stands before those of the piece
pub joined_records : (old pushed new more : List LogRecord) (r : LogRecord) → pushed ≡ old ++ r ∷ []
    → new ≡ pushed ++ more → new ≡ old ++ (r ∷ more)
joined_records old pushed new more r e g =
    g ∙ ap (λ rs. rs ++ more) e ∙ append_assoc old (r ∷ []) more

-- ---- the decoder

told-told : (x : ℕ) → told (told x) ≡ told x
told-told x = omega arith

bad_at-told : (a b : ℕ) (v : First) → told a ≡ told b → bad_at a v ≡ bad_at b v
bad_at-told a b More e = refl
bad_at-told a b (One n) e = refl
bad_at-told a b (Bad w) e = ap (λ (at : ℕ). Some (record { at = at; why = w })) e

more_if_not_bad : (place : ℕ) (v : First) → Stops v → bad_at place v ≡ None → v ≡ More
more_if_not_bad place More s e = refl
more_if_not_bad place (Bad w) s e = cc
more_if_not_bad place (One n) s e = absurd s

bad_if_bad : (place : ℕ) (v : First) (b : BadRecord) → bad_at place v ≡ Some b → (w : BadWhy)
    × (v ≡ Bad w)
bad_if_bad place More b e = cc
bad_if_bad place (Bad w) b e = (w, refl)
bad_if_bad place (One n) b e = cc

pub no_bad : (o : Option BadRecord) → false ≡ is_some o → o ≡ None
no_bad None e = refl
no_bad (Some b) e = cc

the_bad : (o : Option BadRecord) → true ≡ is_some o → (b : BadRecord) × (o ≡ Some b)
the_bad None e = cc
the_bad (Some b) e = (b, refl)

-- with no bad record before, the decoder keeps what is left
pub keeps_left : (old : DecoderState) (t : List ℕ) → StandsFor old t → old.bad ≡ None
    → old.rest ≡ left_of t
keeps_left old t s none =
    let more = more_if_not_bad (taken_of t) (first_of (left_of t)) (is_left t).stops
    (sym s.bad ∙ none) in
    s.rest ∙ rw more refl

-- a piece was taken by a decoder that has no bad record
pub feeds_piece : (old new : DecoderState) (piece : List ℕ) (fed : Fed) (taken : ℕ) (found : First)
    → old.bad ≡ None → taken ≡ told (taken_of (old.rest ++ piece))
    → found ≡ first_of (left_of (old.rest ++ piece))
    → fed.records ≡ records_of (old.rest ++ piece)
    → new.rest ≡ kept_of (left_of (old.rest ++ piece)) (first_of (left_of (old.rest ++ piece)))
    → new.offset ≡ told (old.offset + taken) → new.bad ≡ bad_at new.offset found → fed.bad ≡ new.bad
    → Feeds old piece fed new
feeds_piece old new piece fed taken found none etaken efound erecords erest eoffset ebad esame =
    let on : (t : List ℕ) → StandsFor old t → left_of (t ++ piece) ≡ left_of (old.rest ++ piece) =
    λ t s. (goes_on t piece).left ∙ ap (λ (l : List ℕ). left_of (l ++ piece))
    (sym (keeps_left old t s none)) in
    let place : (t : List ℕ) → StandsFor old t → new.offset ≡ told (taken_of (t ++ piece)) =
    λ t s. let all = taken_of-append t piece
    ∙ ap (λ (l : List ℕ). taken_of t + taken_of (l ++ piece)) (sym (keeps_left old t s none)) in
    omega (arith, all, s.offset, etaken, eoffset) in
    let bad : (t : List ℕ) → StandsFor old t → new.bad ≡ bad_of (t ++ piece) =
    λ t s. ebad ∙ ap (λ (v : First). bad_at new.offset v) (efound ∙ ap first_of (sym (on t s)))
    ∙ bad_at-told new.offset (taken_of (t ++ piece)) (first_of (left_of (t ++ piece)))
    (ap told (place t s) ∙ told-told (taken_of (t ++ piece))) in
    record {
      stands = λ t s. record { offset = place t s; rest = rw (on t s) erest; bad = bad t s };
      records = λ t s. (goes_on t piece).records
          ∙ ap (λ rs. records_of t ++ rs) (ap (λ (l : List ℕ). records_of (l ++ piece))
          (sym (keeps_left old t s none)) ∙ sym erecords);
      bad = λ t s. esame ∙ bad t s;
      same_bad = sym esame;
    }

-- a decoder that has a bad record stays as it is
stays_bad : (old : DecoderState) (piece : List ℕ) (fed : Fed) (b : BadRecord)
    → old.bad ≡ Some b → fed.records ≡ [] → fed.bad ≡ old.bad → Feeds old piece fed old
stays_bad old piece fed b is_bad erecords ebad =
    let stays : (t : List ℕ) → StandsFor old t → (w : BadWhy) × (first_of (left_of t) ≡ Bad w)
    × IsStuck (left_of t ++ piece) (Bad w) =
    λ t s. let found = bad_if_bad (taken_of t) (first_of (left_of t)) b (sym s.bad ∙ is_bad) in (
      found.0,
      found.1,
      stuck (left_of t ++ piece) (Bad found.0)
          (bad_stays (left_of t) piece found.0 found.1) tt,
    ) in
    let first : (t : List ℕ) → StandsFor old t
    → first_of (left_of (t ++ piece)) ≡ first_of (left_of t) =
    λ t s. let w = stays t s in rw ((goes_on t piece).left, w.2.left)
    (bad_stays (left_of t) piece w.0 w.1 ∙ sym w.1) in
    let taken : (t : List ℕ) → StandsFor old t → taken_of (t ++ piece) ≡ taken_of t =
    λ t s. let w = stays t s in omega (arith, taken_of-append t piece, w.2.taken) in
    let bad : (t : List ℕ) → StandsFor old t → old.bad ≡ bad_of (t ++ piece) =
    λ t s. s.bad ∙ rw (taken t s, first t s) refl in
    record {
      stands = λ t s. let w = stays t s in record {
        offset = s.offset ∙ ap told (sym (taken t s));
        rest = s.rest ∙ rw (first t s, w.1) refl;
        bad = bad t s;
      };
      records = λ t s. let w = stays t s in
          (goes_on t piece).records ∙ rw (w.2.records, erecords) refl;
      bad = λ t s. ebad ∙ bad t s;
      same_bad = sym ebad;
    }

pub feeds_bad : (old : DecoderState) (piece : List ℕ) (fed : Fed) → true ≡ is_some old.bad
    → fed.records ≡ [] → fed.bad ≡ old.bad → Feeds old piece fed old
feeds_bad old piece fed is_bad erecords ebad =
    let b = the_bad old.bad is_bad in stays_bad old piece fed b.0 b.1 erecords ebad

-- a decoder was fed a piece, and these records came, with this bad record or none
pub fed_these : (old new : DecoderState) (piece : List ℕ) (found fed : Fed)
    → fed.records ≡ found.records → fed.bad ≡ found.bad → Feeds old piece found new
    → Feeds old piece fed new
fed_these old new piece found fed same_records same_bad feeds = record {
  stands = feeds.stands;
  records = λ t s. feeds.records t s ∙ ap (λ rs. (decode t).records ++ rs) (sym same_records);
  bad = λ t s. same_bad ∙ feeds.bad t s;
  same_bad = feeds.same_bad ∙ sym same_bad;
}

-- what a decoder keeps is never a whole record, nor the beginning of a bad one
kept_by_first : (left : List ℕ) (v : First) → first_of left ≡ v → Stops v
    → first_of (kept_of left v) ≡ More
kept_by_first left More e s = e
kept_by_first left (Bad w) e s = first_nil
kept_by_first left (One n) e s = absurd s

pub kept_more : (t : List ℕ) → first_of (kept_of (left_of t) (first_of (left_of t))) ≡ More
kept_more t = kept_by_first (left_of t) (first_of (left_of t)) refl (is_left t).stops

-- a new decoder stands for nothing
pub fresh_stands : StandsFor fresh []
fresh_stands =
    let s = stuck [] More first_nil tt in
    record {
      offset = rw s.taken refl;
      rest = rw (s.left, first_nil) refl;
      bad = rw (s.left, first_nil) refl;
    }
