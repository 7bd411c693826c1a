-- Notes, and the words that spell them.
use Rattle.std.proofs.Common.{◌≡◌, ◌∙◌, ℕ, ◌<◌, Bool, true, false, cond, ◌==◌, List, [], ◌∷◌}
use Rattle.std.proofs.Common.{length, decimal, codes, Some, None, refl, sym, ap, subst, arith}
use Rattle.std.proofs.Common.{append_assoc, map, inl, inr}
use Rattle.std.specs.Prelude.{◌^◌}
use Rattle.std.specs.List.{join_with_byte, AllByRecursion}
use Rattle.std.proofs.lemmas.Bool.Decides.{nat_tests}
use Rattle.cdr_record.specs.declared.record.LogRecord.{LogRecord}
use Rattle.log_handler.specs.declared.note.ServerNote.{ServerNote}
use Rattle.log_handler.specs.declared.note.ServerNote.TheVariants as note
use Rattle.journal_text.specs.Texts.{end_text, note_text, record_word}
use Rattle.journal_reader.specs.Limits.{NoteIsWithin, RecordIsWithin}
use Rattle.journal_reader.specs.Reading.{at_end, counts_of, records_of, piece_of, accepted_of}
use Rattle.journal_reader.specs.Reading.{finished_of, short_note_of, note_of}
use Rattle.journal_reader.proofs.Joins.{AllPlain, plain_number}
use Rattle.journal_reader.proofs.Spelled.{took, went, chosen, value_is, any_word, numbers}
use Rattle.journal_reader.proofs.RecordWords.{ended, records_all, records_only, records_joined}
use Rattle.journal_reader.proofs.RecordWords.{records_plain, end_plain, the_ends}

-- its first word, and those after it
abbrev pub note_name : ServerNote → List ℕ
note_name (note.Accepted conn) = codes "accepted"
note_name note.NoneWaiting = codes "none"
note_name note.ListenerFailed = codes "listenerfailed"
note_name note.ListenerShut = codes "shut"
note_name (note.Piece conn took records) = codes "piece"
note_name (note.Finished conn end) = codes "end"

abbrev pub note_fields : ServerNote → List (List ℕ)
note_fields (note.Accepted conn) = decimal conn ∷ []
note_fields note.NoneWaiting = []
note_fields note.ListenerFailed = []
note_fields note.ListenerShut = []
note_fields (note.Piece conn took records) =
    decimal conn ∷ decimal took ∷ decimal (length records) ∷ map record_word records
note_fields (note.Finished conn end) = decimal conn ∷ end_text end ∷ []

pub note_joined : (n : ServerNote) → note_text n ≡ join_with_byte 32 (note_name n ∷ note_fields n)
unfolding note_text
note_joined (note.Accepted conn) = refl
note_joined note.NoneWaiting = refl
note_joined note.ListenerFailed = refl
note_joined note.ListenerShut = refl
note_joined (note.Piece conn took records) =
    rw (records_joined (decimal (length records)) records) (simp append_assoc)
note_joined (note.Finished conn end) = simp append_assoc

pub note_plain : (n : ServerNote) → NoteIsWithin n → AllPlain (note_name n ∷ note_fields n)
note_plain (note.Accepted conn) w = (refl, (plain_number conn w, tt))
note_plain note.NoneWaiting w = (refl, tt)
note_plain note.ListenerFailed w = (refl, tt)
note_plain note.ListenerShut w = (refl, tt)
note_plain (note.Piece conn took records) w = (
  refl,
  (
    plain_number conn w.0,
    (
      plain_number took w.1,
      (plain_number (length records) w.2, records_plain records w.3),
    ),
  ),
)
note_plain (note.Finished conn end) w = (refl, (plain_number conn w.0, (end_plain end w.1, tt)))

same : (n : ℕ) → (n == n) ≡ true
same n = grind (arith, nat_tests)

pub note_all : (n : ServerNote) → NoteIsWithin n → note_of (note_name n ∷ note_fields n) ≡ Some n
unfolding note_of short_note_of accepted_of finished_of piece_of counts_of
note_all (note.Accepted conn) w = rw (numbers.all conn w) refl
note_all note.NoneWaiting w = refl
note_all note.ListenerFailed w = refl
note_all note.ListenerShut w = refl
note_all (note.Piece conn took records) w =
    rw (
      numbers.all conn w.0,
      numbers.all took w.1,
      numbers.all (length records) w.2,
      records_all records w.3,
      same (length records),
    ) refl
note_all (note.Finished conn end) w = rw (numbers.all conn w.0, the_ends.all end w.1) refl

-- these words spell this note
abbrev pub NoteIs : List (List ℕ) → ServerNote → Type 0
NoteIs words n = (words ≡ note_name n ∷ note_fields n) × NoteIsWithin n

record CountsAre (words : List (List ℕ)) (conn taken count : ℕ) (rest : List (List ℕ)) : Type 0
  where
    pub is : words ≡ decimal conn ∷ decimal taken ∷ decimal count ∷ rest
    pub conn_small : conn < 2 ^ 64
    pub taken_small : taken < 2 ^ 64
    pub count_small : count < 2 ^ 64

counts_only : (words : List (List ℕ)) (r : (ℕ × ℕ × ℕ) × List (List ℕ)) → counts_of words ≡ Some r
    → CountsAre words r.0.0 r.0.1 r.0.2 r.1
unfolding counts_of
counts_only words r h =
    let conn = took _ _ _ numbers words _ r h in
    let taken = took _ _ _ numbers conn.rest _ r conn.more in
    let count = took _ _ _ numbers taken.rest _ r taken.more in
    subst (λ (r : (ℕ × ℕ × ℕ) × List (List ℕ)). CountsAre words r.0.0 r.0.1 r.0.2 r.1)
    (value_is _ r count.more) (record {
      is = conn.is ∙ ap (λ (ws : List (List ℕ)). decimal conn.value ∷ ws)
          (taken.is ∙ ap (λ (ws : List (List ℕ)). decimal taken.value ∷ ws) count.is);
      conn_small = conn.within;
      taken_small = taken.within;
      count_small = count.within;
    })

piece_only : (words : List (List ℕ)) (n : ServerNote) → piece_of words ≡ Some n
    → NoteIs (codes "piece" ∷ words) n
unfolding piece_of
piece_only words n h =
    let counts = went (counts_of words) _ n h in
    let records = went (records_of counts.value.1) _ n counts.more in
    let are = counts_only words counts.value counts.is in
    let spelt = records_only counts.value.1 records.value records.is in
    by_test counts.value.0.0 counts.value.0.1 counts.value.0.2 records.value
    (length records.value == counts.value.0.2) refl
    (are.is ∙ ap (λ (ws : List (List ℕ)). decimal counts.value.0.0 ∷ decimal counts.value.0.1
    ∷ decimal counts.value.0.2 ∷ ws) (sym spelt.0))
    (are.conn_small, are.taken_small, are.count_small) spelt.1 records.more
  where
    by_test : (conn taken count : ℕ) (records : List LogRecord) (b : Bool)
        → (length records == count) ≡ b → words
        ≡ decimal conn ∷ decimal taken ∷ decimal count ∷ map record_word records
        → (conn < 2 ^ 64) × (taken < 2 ^ 64) × (count < 2 ^ 64)
        → AllByRecursion RecordIsWithin records
        → cond b (Some (note.Piece conn taken records)) None ≡ Some n
        → NoteIs (codes "piece" ∷ words) n
    by_test conn taken count records false test is small within h = cc h
    by_test conn taken count records true test is small within h =
        let many : count ≡ length records = grind (arith, nat_tests) in
        subst (NoteIs (codes "piece" ∷ words)) (value_is (note.Piece conn taken records) n h) (
          ap (λ (ws : List (List ℕ)). codes "piece" ∷ ws)
              (is ∙ ap (λ (m : ℕ). decimal conn ∷ decimal taken ∷ decimal m
              ∷ map record_word records) many),
          (small.0, small.1, subst (λ (m : ℕ). m < 2 ^ 64) many small.2, within),
        )

accepted_only : (words : List (List ℕ)) (n : ServerNote) → accepted_of words ≡ Some n
    → NoteIs (codes "accepted" ∷ words) n
unfolding accepted_of
accepted_only words n h =
    let conn = took _ _ _ numbers words _ n h in
    let last = ended conn.rest _ n conn.more in
    subst (NoteIs (codes "accepted" ∷ words)) (value_is (note.Accepted conn.value) n last.1) (
      ap (λ (ws : List (List ℕ)). codes "accepted" ∷ ws)
          (conn.is ∙ ap (λ (ws : List (List ℕ)). decimal conn.value ∷ ws) last.0),
      conn.within,
    )

finished_only : (words : List (List ℕ)) (n : ServerNote) → finished_of words ≡ Some n
    → NoteIs (codes "end" ∷ words) n
unfolding finished_of
finished_only words n h =
    let conn = took _ _ _ numbers words _ n h in
    let end = took _ _ _ the_ends conn.rest _ n conn.more in
    let last = ended end.rest _ n end.more in
    subst (NoteIs (codes "end" ∷ words)) (value_is (note.Finished conn.value end.value) n last.1) (
      ap (λ (ws : List (List ℕ)). codes "end" ∷ ws)
          (conn.is ∙ ap (λ (ws : List (List ℕ)). decimal conn.value ∷ ws)
          (end.is ∙ ap (λ (ws : List (List ℕ)). end_text end.value ∷ ws) last.0)),
      (conn.within, end.within),
    )

-- a note of one word
alone : (name word : List ℕ) (words : List (List ℕ)) (a n : ServerNote) → name ≡ word
    → NoteIs (word ∷ []) a → at_end words (Some a) ≡ Some n → NoteIs (name ∷ words) n
alone name word words a n is spelt h =
    let last = ended words (Some a) n h in
    subst (NoteIs (name ∷ words)) (value_is a n last.1) (
      ap (λ (w : List ℕ). w ∷ words) is ∙ ap (λ (ws : List (List ℕ)). word ∷ ws) last.0
          ∙ spelt.0,
      spelt.1,
    )

named : (name word : List ℕ) (words : List (List ℕ)) (n : ServerNote) → name ≡ word
    → NoteIs (word ∷ words) n → NoteIs (name ∷ words) n
named name word words n is spelt = subst (λ (w : List ℕ). NoteIs (w ∷ words) n) (sym is) spelt

short_only : (name : List ℕ) (words : List (List ℕ)) (n : ServerNote)
    → short_note_of name words ≡ Some n → NoteIs (name ∷ words) n
unfolding short_note_of
short_only name words n h =
    elim (chosen name (codes "none") _ _ n h) [
      | inl a ↦ alone name (codes "none") words note.NoneWaiting n a.0 (refl, tt) a.1
      | inr h ↦
          elim (chosen name (codes "end") _ _ n h) [
            | inl a ↦ named name (codes "end") words n a.0 (finished_only words n a.1)
            | inr h ↦
                elim (chosen name (codes "accepted") _ _ n h) [
                  | inl a ↦ named name (codes "accepted") words n a.0 (accepted_only words n a.1)
                  | inr h ↦
                      elim (chosen name (codes "listenerfailed") _ _ n h) [
                        | inl a ↦ alone name (codes "listenerfailed") words note.ListenerFailed n
                            a.0 (refl, tt) a.1
                        | inr h ↦
                            elim (chosen name (codes "shut") _ _ n h) [
                              | inl a ↦ alone name (codes "shut") words note.ListenerShut n a.0
                                  (refl, tt) a.1
                              | inr h ↦ cc h
                            ]
                      ]
                ]
          ]
    ]

pub note_only : (words : List (List ℕ)) (n : ServerNote) → note_of words ≡ Some n → NoteIs words n
unfolding note_of
note_only words n h =
    let name = took _ _ _ any_word words _ n h in
    subst (λ (ws : List (List ℕ)). NoteIs ws n) (sym name.is) (
    elim (chosen name.value (codes "piece") _ _ n name.more) [
      | inl a ↦ named name.value (codes "piece") name.rest n a.0 (piece_only name.rest n a.1)
      | inr h ↦ short_only name.value name.rest n h
    ])
