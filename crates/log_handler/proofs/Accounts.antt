-- What turns come to.
use Rattle.std.proofs.Common.{◌≡◌, ◌≢◌, ◌≤◌, ◌∙◌, ◌⊎◌, ◌+◌, inl, inr, ℕ, suc, arith, Bool, true}
use Rattle.std.proofs.Common.{false, cond, List, [], ◌∷◌, ◌++◌, length, Option, Some, None, refl}
use Rattle.std.proofs.Common.{sym, subst, ap, append-nil, append_assoc, length-append}
use Rattle.std.specs.Prelude.{flat_map}
use Rattle.std.specs.List.{sum_by, count_by, AllByRecursion}
use Rattle.std.proofs.lemmas.List.Sums.{sum_by-cons}
use Rattle.cdr_record.specs.ev_types.specs.declared.upcall.Answer.{Answer}
use Rattle.cdr_record.specs.ev_types.specs.declared.upcall.Answer.TheVariants.{Keep, Again, Close}
use Rattle.cdr_record.specs.ev_types.specs.declared.upcall.Upcall.{Upcall}
use Rattle.cdr_record.specs.ev_types.specs.declared.upcall.Upcall.TheVariants.{Input, Output}
use Rattle.cdr_record.specs.ev_types.specs.declared.upcall.Upcall.TheVariants.{Except, Timeout}
use Rattle.cdr_record.specs.ev_types.specs.declared.upcall.Upcall.TheVariants.{Notice}
use Rattle.ev_base.specs.Story.{Telling}
use Rattle.ev_base.specs.End.{WasOver}
use Rattle.ev_base.specs.declared.source.Got.{Got}
use Rattle.ev_base.specs.declared.source.Got.TheVariants as got
use Rattle.cdr_record.specs.declared.record.LogRecord.{LogRecord}
use Rattle.cdr_record.specs.Decoding.{Stop, Clean, Partial, Malformed, decode, records_of, left_of}
use Rattle.cdr_record.specs.Grammar.{first_of}
use Rattle.log_lines.specs.declared.end_kind.EndKind.{EndKind}
use Rattle.log_lines.specs.declared.end_kind.EndKind.TheVariants as end
use Rattle.line_sink.specs.reactor_journal.specs.Event.{Item}
use Rattle.log_handler.specs.declared.note.ServerNote.{ServerNote}
use Rattle.log_handler.specs.declared.note.ServerNote.TheVariants as note
use Rattle.log_handler.specs.Connection.{Progress, Turns, Course, ServesUpcall, ServesRead}
use Rattle.log_handler.specs.Connection.{TakesPiece, DecodesPiece, LosesPiece, AnswersTimeout}
use Rattle.log_handler.specs.Connection.{kept_at, end_of, is_idle, at_start, nothing_taken}
use Rattle.log_handler.specs.Laws.{Accounts, EndedSo, HasRecords, IsPieceOf, took_in, took_of}
use Rattle.log_handler.specs.Laws.{records_in, records_of_note, is_input, is_again, on_input}
use Rattle.log_handler.specs.Laws.{asks_again, last_turn, took_last}

-- ---- one turn

-- what one turn comes to
record OneTurn (conn : ℕ) (up : Upcall) (before : Progress) (item : Item ServerNote)
    (after : Progress) : Type 0 where
  bytes : List ℕ
  records : List LogRecord
  taken : after.taken ≡ before.taken ++ bytes
  notes : item.note ≡ note.Piece conn (length bytes) records
  reads : after.reads ≡ before.reads + cond (is_input up) 1 0
  again : cond (is_again item.answer) 1 0 ≤ length bytes
  told : HasRecords ((decode before.taken).records ++ records) (length bytes) after.taken after.kept

-- it did not end for want of memory
abbrev HadMemory : Option EndKind → Type 0
HadMemory (Some end.NoMemory) = ⊥
HadMemory _ = Unit {0}

told-all : (records : List LogRecord) (count : ℕ) (taken : List ℕ) (kept : Option EndKind)
    → HadMemory kept → records ≡ (decode taken).records → HasRecords records count taken kept
told-all records count taken None m h = h
told-all records count taken (Some end.End) m h = h
told-all records count taken (Some (end.Partial n)) m h = h
told-all records count taken (Some (end.Malformed at)) m h = h
told-all records count taken (Some end.Failed) m h = h
told-all records count taken (Some end.NoMemory) m h = absurd m
told-all records count taken (Some end.Idle) m h = h
told-all records count taken (Some end.Stopped) m h = h
told-all records count taken (Some end.Refused) m h = h

memory-end : (s : Stop) → HadMemory (Some (end_of s))
memory-end Clean = tt
memory-end (Partial n) = tt
memory-end (Malformed at) = tt

memory-kept : (s : Stop) → HadMemory (kept_at s)
memory-kept Clean = tt
memory-kept (Partial n) = tt
memory-kept (Malformed at) = tt

not-again : (a : Answer) (n : ℕ) → is_again a ≡ false → cond (is_again a) 1 0 ≤ n
not-again Keep n h = omega arith
not-again Again n h = absurd (cc h)
not-again Close n h = omega arith

again-some : (a : Answer) (n : ℕ) → 1 ≤ n → cond (is_again a) 1 0 ≤ n
again-some Keep n h = omega arith
again-some Again n h = h
again-some Close n h = omega arith

-- a turn that took nothing
took-nothing : (conn : ℕ) (up : Upcall) (before after : Progress) (item : Item ServerNote)
    (answer : Answer) → item.note ≡ nothing_taken conn → item.answer ≡ answer
    → is_again answer ≡ false →
    after.taken ≡ before.taken → after.reads ≡ before.reads + cond (is_input up) 1 0
    → HadMemory after.kept → OneTurn conn up before item after
took-nothing conn up before after item answer notes answers never taken reads memory = record {
  bytes = [];
  records = [];
  taken = taken ∙ sym (append-nil before.taken);
  notes = notes;
  reads = reads;
  again = not-again item.answer 0 (ap is_again answers ∙ never);
  told = told-all ((decode before.taken).records ++ []) 0 after.taken after.kept memory
      (append-nil (decode before.taken).records
      ∙ sym (ap (λ (t : List ℕ). (decode t).records) taken));
}

piece-told : (conn : ℕ) (before after : Progress) (bytes : List ℕ) (item : Item ServerNote)
    → 1 ≤ length bytes → after.taken ≡ before.taken ++ bytes → after.reads ≡ before.reads + 1 →
    DecodesPiece conn before bytes item after.kept ⊎ LosesPiece conn bytes item after.kept
    → OneTurn conn Input before item after
piece-told conn before after bytes item some taken reads (inl d) = record {
  bytes = bytes;
  records = d.records;
  taken = taken;
  notes = d.notes;
  reads = reads;
  again = again-some item.answer (length bytes) some;
  told = told-all ((decode before.taken).records ++ d.records) (length bytes) after.taken after.kept
      (subst HadMemory (sym d.ends) (memory-kept _))
      (sym d.decoded ∙ sym (ap (λ (t : List ℕ). (decode t).records) taken));
}
piece-told conn before after bytes item some taken reads (inr l) = record {
  bytes = bytes;
  records = [];
  taken = taken;
  notes = l.notes;
  reads = reads;
  again = again-some item.answer (length bytes) some;
  told = subst (λ (k : Option EndKind).
      HasRecords ((decode before.taken).records ++ []) (length bytes) after.taken k) (sym l.ends)
      (record {
        front = before.taken;
        lost = bytes;
        whole = taken;
        counts = refl;
        decoded = append-nil (decode before.taken).records;
      });
}

one-more : (n : ℕ) → suc n ≡ n + 1
one-more n = omega arith

no-more : (n : ℕ) → n ≡ n + 0
no-more n = omega arith

one-read : (conn : ℕ) (gave : Got) (bytes : List ℕ) (telling : Option Telling)
    (before after : Progress) (item : Item ServerNote)
    → ServesRead conn before gave bytes telling item after →
    OneTurn conn Input before item after
one-read conn (got.Bytes n) bytes telling before after item h =
    piece-told conn before after bytes item h.1.some (ap (λ (r : Progress). r.taken) h.1.leaves)
    (ap (λ (r : Progress). r.reads) h.1.leaves ∙ one-more before.reads) h.1.told
one-read conn got.Pause bytes telling before after item h =
    took-nothing conn Input before after item Keep h.notes h.answers refl
    (ap (λ (r : Progress). r.taken) h.leaves)
    (ap (λ (r : Progress). r.reads) h.leaves ∙ one-more before.reads)
    (subst HadMemory (sym (ap (λ (r : Progress). r.kept) h.leaves)) tt)
one-read conn got.Over bytes telling before after item h =
    took-nothing conn Input before after item Close h.notes h.answers refl
    (ap (λ (r : Progress). r.taken) h.leaves)
    (ap (λ (r : Progress). r.reads) h.leaves ∙ one-more before.reads)
    (subst HadMemory (sym (ap (λ (r : Progress). r.kept) h.leaves))
    (memory-end (decode before.taken).stop))
one-read conn got.Failed bytes telling before after item h =
    took-nothing conn Input before after item Close h.notes h.answers refl
    (ap (λ (r : Progress). r.taken) h.leaves)
    (ap (λ (r : Progress). r.reads) h.leaves ∙ one-more before.reads)
    (subst HadMemory (sym (ap (λ (r : Progress). r.kept) h.leaves)) tt)

one-timeout : (conn timer : ℕ) (quiet : Bool) (before after : Progress) (item : Item ServerNote)
    → AnswersTimeout quiet conn before item after → OneTurn conn (Timeout timer) before item after
one-timeout conn timer true before after item h =
    took-nothing conn (Timeout timer) before after item Close h.notes h.answers refl
    (ap (λ (r : Progress). r.taken) h.leaves)
    (ap (λ (r : Progress). r.reads) h.leaves ∙ no-more before.reads)
    (subst HadMemory (sym (ap (λ (r : Progress). r.kept) h.leaves)) tt)
one-timeout conn timer false before after item h =
    took-nothing conn (Timeout timer) before after item Keep h.notes h.answers refl
    (ap (λ (r : Progress). r.taken) h.leaves)
    (ap (λ (r : Progress). r.reads) h.leaves ∙ no-more before.reads)
    (subst HadMemory (sym (ap (λ (r : Progress). r.kept) h.leaves)) tt)

one-upcall : (up : Upcall) (conn : ℕ) (idle : Option ℕ) (before after : Progress)
    (item : Item ServerNote) → ServesUpcall up conn idle before item after
    → OneTurn conn up before item after
one-upcall Input conn idle before after item h =
    one-read conn h.gave h.bytes after.telling before after item h.serves
one-upcall (Timeout timer) conn idle before after item h =
    one-timeout conn timer (is_idle idle before.last item.moment) before after item h
one-upcall Output conn idle before after item h =
    took-nothing conn Output before after item Keep h.notes h.answers refl
    (ap (λ (r : Progress). r.taken) h.leaves)
    (ap (λ (r : Progress). r.reads) h.leaves ∙ no-more before.reads)
    (subst HadMemory (sym (ap (λ (r : Progress). r.kept) h.leaves)) tt)
one-upcall Except conn idle before after item h =
    took-nothing conn Except before after item Keep h.notes h.answers refl
    (ap (λ (r : Progress). r.taken) h.leaves)
    (ap (λ (r : Progress). r.reads) h.leaves ∙ no-more before.reads)
    (subst HadMemory (sym (ap (λ (r : Progress). r.kept) h.leaves)) tt)
one-upcall (Notice kind) conn idle before after item h =
    took-nothing conn (Notice kind) before after item Keep h.notes h.answers refl
    (ap (λ (r : Progress). r.taken) h.leaves)
    (ap (λ (r : Progress). r.reads) h.leaves ∙ no-more before.reads)
    (subst HadMemory (sym (ap (λ (r : Progress). r.kept) h.leaves)) tt)

one-turn : (conn : ℕ) (idle : Option ℕ) (before after : Progress) (item : Item ServerNote)
    → Turns conn idle before item after → OneTurn conn item.upcall before item after
one-turn conn idle before after item h = one-upcall item.upcall conn idle before after item h.serves

-- ---- sums

record Sums (conn : ℕ) (start : Progress) (had : List (Item ServerNote)) (p : Progress) : Type 0
  where
    notes : AllByRecursion (IsPieceOf conn) had
    took : length p.taken ≡ length start.taken + sum_by took_in had
    reads : p.reads ≡ start.reads + count_by on_input had
    again : count_by asks_again had ≤ sum_by took_in had

sums : (conn : ℕ) (idle : Option ℕ) (start p : Progress) (had : List (Item ServerNote))
    → Course conn idle start had p → Sums conn start had p
sums conn idle start p [] course = record {
  notes = tt;
  took = ap (λ (q : Progress). length q.taken) course ∙ no-more (length start.taken);
  reads = ap (λ (q : Progress). q.reads) course ∙ no-more start.reads;
  again = omega arith;
}
sums conn idle start p (item ∷ had) course =
    let one = one-turn conn idle start course.0 item course.1 in
    let rest = sums conn idle course.0 p had course.2 in
    let took : took_in item ≡ length one.bytes = ap took_of one.notes in
    let longer : length course.0.taken ≡ length start.taken + length one.bytes =
    ap length one.taken ∙ length-append start.taken one.bytes in
    record {
      notes = ((length one.bytes, one.records, one.notes), rest.notes);
      took = omega (arith, took, longer, rest.took, sum_by-cons took_in item had);
      reads = omega (
        arith,
        one.reads,
        rest.reads,
        sum_by-cons (λ (x : Item ServerNote). cond (on_input x) 1 0) item had,
      );
      again = omega (
        arith,
        took,
        one.again,
        rest.again,
        sum_by-cons took_in item had,
        sum_by-cons (λ (x : Item ServerNote). cond (asks_again x) 1 0) item had,
      );
    }

-- ---- records

records-told : (conn : ℕ) (idle : Option ℕ) (start p : Progress) (had : List (Item ServerNote))
    → start.kept ≡ None → Course conn idle start had p →
    HasRecords ((decode start.taken).records ++ flat_map records_in had) (took_last (last_turn had))
    p.taken p.kept
records-told conn idle start p [] none course =
    subst (λ (q : Progress). HasRecords ((decode start.taken).records ++ []) 0 q.taken q.kept)
    (sym course)
    (subst (λ (k : Option EndKind). HasRecords ((decode start.taken).records ++ []) 0 start.taken k)
    (sym none) (append-nil (decode start.taken).records))
records-told conn idle start p (item ∷ []) none course =
    let one = one-turn conn idle start course.0 item course.1 in
    let same : records_in item ++ [] ≡ one.records =
    append-nil (records_in item) ∙ ap records_of_note one.notes in
    subst (λ (q : Progress). HasRecords
    ((decode start.taken).records ++ flat_map records_in (item ∷ [])) (took_in item) q.taken
    q.kept) (sym course.2)
    (subst (λ (n : ℕ). HasRecords ((decode start.taken).records ++ flat_map records_in (item ∷ []))
    n course.0.taken course.0.kept) (sym (ap took_of one.notes))
    (subst (λ (rs : List LogRecord). HasRecords ((decode start.taken).records ++ rs)
    (length one.bytes) course.0.taken course.0.kept) (sym same) one.told))
records-told conn idle start p (item ∷ next ∷ had) none course =
    let one = one-turn conn idle start course.0 item course.1 in
    let goes : course.0.kept ≡ None = course.2.1.goes_on in
    let told : (decode start.taken).records ++ one.records ≡ (decode course.0.taken).records =
    subst (λ (k : Option EndKind). HasRecords ((decode start.taken).records ++ one.records)
    (length one.bytes) course.0.taken k) goes one.told in
    let rest = flat_map records_in (next ∷ had) in
    let joined : (decode course.0.taken).records ++ rest
    ≡ (decode start.taken).records ++ flat_map records_in (item ∷ next ∷ had) =
    ap (λ (rs : List LogRecord). rs ++ rest) (sym told)
    ∙ append_assoc (decode start.taken).records one.records rest
    ∙ ap (λ (rs : List LogRecord). (decode start.taken).records ++ (rs ++ rest))
    (sym (ap records_of_note one.notes)) in
    subst (λ (rs : List LogRecord). HasRecords rs (took_last (last_turn (next ∷ had))) p.taken
    p.kept) joined (records-told conn idle course.0 p (next ∷ had) goes course.2)

-- ---- how it ended

abbrev IsSound : Progress → Type 0
IsSound p = (at : ℕ) → (decode p.taken).stop ≢ Malformed at

abbrev Ends : Option ℕ → Item ServerNote → Progress → Type 0
Ends idle item q = EndedSo idle (Some item) q q.kept

over-ends : (idle : Option ℕ) (item : Item ServerNote) (p : Progress) (s : Stop)
    → (decode p.taken).stop ≡ s → p.last_read ≡ Some WasOver
    → EndedSo idle (Some item) p (Some (end_of s))
over-ends idle item p Clean e over = (over, e)
over-ends idle item p (Partial n) e over = (over, e)
over-ends idle item p (Malformed at) e over = e

piece-ends : (idle : Option ℕ) (item : Item ServerNote) (p : Progress) (s : Stop)
    → (decode p.taken).stop ≡ s → EndedSo idle (Some item) p (kept_at s)
piece-ends idle item p Clean e = λ at f. absurd (cc (e, f))
piece-ends idle item p (Partial n) e = λ at f. absurd (cc (e, f))
piece-ends idle item p (Malformed at) e = e

ends-piece : (conn : ℕ) (idle : Option ℕ) (before after : Progress) (bytes : List ℕ)
    (telling : Option Telling) (item : Item ServerNote)
    → TakesPiece conn before bytes telling item after → Ends idle item after
ends-piece conn idle before after bytes telling item h = by_told h.told
  where
    taken : after.taken ≡ before.taken ++ bytes
    taken = ap (λ (r : Progress). r.taken) h.leaves

    by_told : DecodesPiece conn before bytes item after.kept ⊎ LosesPiece conn bytes item after.kept
        → Ends idle item after
    by_told (inl d) = subst (λ (k : Option EndKind). EndedSo idle (Some item) after k) (sym d.ends)
        (piece-ends idle item after (decode (before.taken ++ bytes)).stop
        (ap (λ (t : List ℕ). (decode t).stop) taken))
    by_told (inr l) = subst (λ (k : Option EndKind). EndedSo idle (Some item) after k) (sym l.ends)
        (length bytes, h.some, h.within, ap (λ (r : Progress). r.last_read) h.leaves)

ends-read : (conn : ℕ) (idle : Option ℕ) (gave : Got) (bytes : List ℕ) (telling : Option Telling)
    (before after : Progress) (item : Item ServerNote) → IsSound before →
    ServesRead conn before gave bytes telling item after → Ends idle item after
ends-read conn idle (got.Bytes n) bytes telling before after item sound h =
    ends-piece conn idle before after bytes telling item h.1
ends-read conn idle got.Pause bytes telling before after item sound h =
    subst (Ends idle item) (sym h.leaves) sound
ends-read conn idle got.Over bytes telling before after item sound h =
    subst (λ (k : Option EndKind). EndedSo idle (Some item) after k)
    (sym (ap (λ (r : Progress). r.kept) h.leaves))
    (over-ends idle item after (decode before.taken).stop
    (ap (λ (r : Progress). (decode r.taken).stop) h.leaves)
    (ap (λ (r : Progress). r.last_read) h.leaves))
ends-read conn idle got.Failed bytes telling before after item sound h =
    subst (Ends idle item) (sym h.leaves) refl

ends-timeout : (conn : ℕ) (idle : Option ℕ) (quiet : Bool) (before after : Progress)
    (item : Item ServerNote) → is_idle idle before.last item.moment ≡ quiet → IsSound before →
    AnswersTimeout quiet conn before item after → Ends idle item after
ends-timeout conn idle true before after item is sound h = subst (Ends idle item) (sym h.leaves) is
ends-timeout conn idle false before after item is sound h =
    subst (Ends idle item) (sym h.leaves) sound

ends-upcall : (up : Upcall) (conn : ℕ) (idle : Option ℕ) (before after : Progress)
    (item : Item ServerNote) → IsSound before → ServesUpcall up conn idle before item after
    → Ends idle item after
ends-upcall Input conn idle before after item sound h =
    ends-read conn idle h.gave h.bytes after.telling before after item sound h.serves
ends-upcall (Timeout timer) conn idle before after item sound h =
    ends-timeout conn idle (is_idle idle before.last item.moment) before after item refl sound h
ends-upcall Output conn idle before after item sound h = subst (Ends idle item) (sym h.leaves) sound
ends-upcall Except conn idle before after item sound h = subst (Ends idle item) (sym h.leaves) sound
ends-upcall (Notice kind) conn idle before after item sound h =
    subst (Ends idle item) (sym h.leaves) sound

ends-course : (conn : ℕ) (idle : Option ℕ) (start p : Progress) (had : List (Item ServerNote))
    → start.kept ≡ None → IsSound start → Course conn idle start had p
    → EndedSo idle (last_turn had) p p.kept
ends-course conn idle start p [] none sound course =
    subst (λ (q : Progress). EndedSo idle None q q.kept) (sym course)
    (subst (λ (k : Option EndKind). EndedSo idle None start k) (sym none) sound)
ends-course conn idle start p (item ∷ []) none sound course =
    subst (Ends idle item) (sym course.2)
    (ends-upcall item.upcall conn idle start course.0 item sound course.1.serves)
ends-course conn idle start p (item ∷ next ∷ had) none sound course =
    let goes : course.0.kept ≡ None = course.2.1.goes_on in
    let ends = ends-upcall item.upcall conn idle start course.0 item sound course.1.serves in
    ends-course conn idle course.0 p (next ∷ had) goes
    (subst (λ (k : Option EndKind). EndedSo idle (Some item) course.0 k) goes ends) course.2

-- ---- from the start

no-records : (decode []).records ≡ []
unfolding records_of
no-records = refl

no-stop : (decode []).stop ≡ Clean
unfolding left_of first_of
no-stop = refl

pub accounts : (conn : ℕ) (idle : Option ℕ) (moment : ℕ) (telling : Option Telling)
    (had : List (Item ServerNote)) (p : Progress) → Course conn idle (at_start moment telling) had p
    → Accounts conn idle had p
accounts conn idle moment telling had p course =
    let s = sums conn idle (at_start moment telling) p had course in
    let took : length p.taken ≡ sum_by took_in had = omega (arith, s.took) in
    record {
      notes = s.notes;
      took = took;
      records = subst (λ (rs : List LogRecord).
          HasRecords (rs ++ flat_map records_in had) (took_last (last_turn had)) p.taken p.kept)
          no-records
          (records-told conn idle (at_start moment telling) p had refl course);
      reads = omega (arith, s.reads);
      again = omega (arith, took, s.again);
      ended = ends-course conn idle (at_start moment telling) p had refl
          (λ at e. absurd (cc (no-stop, e))) course;
    }
