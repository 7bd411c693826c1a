-- Entries, and the words that spell them.
use Rattle.std.proofs.Common.{◌≡◌, ◌∙◌, ℕ, ◌<◌, Bool, true, false, List, [], ◌∷◌, ◌++◌, decimal}
use Rattle.std.proofs.Common.{codes, Option, Some, refl, sym, ap, subst, arith, append_assoc}
use Rattle.std.proofs.Common.{append-nil, inl, inr}
use Rattle.std.specs.Prelude.{◌^◌}
use Rattle.std.specs.List.{join_with_byte}
use Rattle.std.proofs.lemmas.List.Splits.{join_with_byte-slice_split}
use Rattle.ev_types.specs.declared.upcall.Mask.{Mask}
use Rattle.ev_types.specs.declared.upcall.Kind.{Kind}
use Rattle.ev_types.specs.declared.upcall.Kind.TheVariants.{Read, Write, Except}
use Rattle.ev_types.specs.declared.upcall.Answer.{Answer}
use Rattle.ev_types.specs.declared.upcall.Answer.TheVariants.{Keep, Again, Close}
use Rattle.reactor_model.specs.reactor_journal.specs.declared.entry.Entry.{Entry}
use Rattle.reactor_model.specs.reactor_journal.specs.declared.entry.Entry.TheVariants as entry
use Rattle.log_handler.specs.declared.note.ServerNote.{ServerNote}
use Rattle.journal_text.specs.Texts.{mask_text, kind_text, answer_text, fault_text, note_text}
use Rattle.journal_text.specs.Texts.{entry_text}
use Rattle.journal_reader.specs.Limits.{EntryIsWithin}
use Rattle.text_parts.specs.Parts.{parts}
use Rattle.journal_reader.specs.Reading.{next, note_of, opened_of, masked_of, scheduled_of}
use Rattle.journal_reader.specs.Reading.{ready_of, posted_of, stale_of, entry_with, numbered_of}
use Rattle.journal_reader.specs.Reading.{plain_of, returned_of, refused_of, closed_of, whole_of}
use Rattle.journal_reader.specs.Reading.{named_of, entry_of, ◌>>=◌}
use Rattle.text_parts.proofs.Cuts.{Free}
use Rattle.journal_reader.proofs.Joins.{Plain, AllPlain, parts_joined, all_free, free_joined}
use Rattle.journal_reader.proofs.Joins.{plain_number}
use Rattle.journal_reader.proofs.Spelled.{took, went, chosen, value_is, any_word, numbers, masks}
use Rattle.journal_reader.proofs.Spelled.{kinds, answers, faults}
use Rattle.journal_reader.proofs.RecordWords.{ended}
use Rattle.journal_reader.proofs.NoteWords.{note_name, note_fields, note_joined, note_plain}
use Rattle.journal_reader.proofs.NoteWords.{note_all, note_only}

abbrev Words : Type 0
Words = List (List ℕ)

-- its first word, and those after it
abbrev entry_name : Entry ServerNote → List ℕ
entry_name (entry.Opened handle mask) = codes "opened"
entry_name (entry.Scheduled timer handle first every) = codes "scheduled"
entry_name (entry.Cancelled timer) = codes "cancelled"
entry_name (entry.Polled now) = codes "polled"
entry_name (entry.Due timer) = codes "due"
entry_name (entry.Ready handle kind) = codes "ready"
entry_name (entry.Posted handle kind from seq) = codes "posted"
entry_name (entry.Stale handle from seq) = codes "stale"
entry_name (entry.Started event) = codes "started"
entry_name (entry.Returned event answer said) = codes "returned"
entry_name (entry.Masked handle mask) = codes "masked"
entry_name (entry.Suspended handle) = codes "suspended"
entry_name (entry.Resumed handle) = codes "resumed"
entry_name (entry.Refused live fault said) = codes "refused"
entry_name (entry.Removed handle) = codes "removed"
entry_name (entry.Closed handle said) = codes "closed"
entry_name entry.Ended = codes "ended"

abbrev entry_fields : Entry ServerNote → Words
entry_fields (entry.Opened handle mask) = decimal handle.0 ∷ mask_text mask ∷ []
entry_fields (entry.Scheduled timer handle first every) =
    decimal timer ∷ decimal handle.0 ∷ decimal first ∷ decimal every ∷ []
entry_fields (entry.Cancelled timer) = decimal timer ∷ []
entry_fields (entry.Polled now) = decimal now ∷ []
entry_fields (entry.Due timer) = decimal timer ∷ []
entry_fields (entry.Ready handle kind) = decimal handle.0 ∷ kind_text kind ∷ []
entry_fields (entry.Posted handle kind from seq) =
    decimal handle.0 ∷ kind_text kind ∷ decimal from ∷ decimal seq ∷ []
entry_fields (entry.Stale handle from seq) = decimal handle.0 ∷ decimal from ∷ decimal seq ∷ []
entry_fields (entry.Started event) = decimal event ∷ []
entry_fields (entry.Returned event answer said) =
    decimal event ∷ answer_text answer ∷ note_name said ∷ note_fields said
entry_fields (entry.Masked handle mask) = decimal handle.0 ∷ mask_text mask ∷ []
entry_fields (entry.Suspended handle) = decimal handle.0 ∷ []
entry_fields (entry.Resumed handle) = decimal handle.0 ∷ []
entry_fields (entry.Refused live fault said) =
    decimal live ∷ fault_text fault ∷ note_name said ∷ note_fields said
entry_fields (entry.Removed handle) = decimal handle.0 ∷ []
entry_fields (entry.Closed handle said) = decimal handle.0 ∷ note_name said ∷ note_fields said
entry_fields entry.Ended = []

abbrev pub entry_words : Entry ServerNote → Words
entry_words e = entry_name e ∷ entry_fields e

with_note : (first number text : List ℕ)
    → first ++ number ++ codes " " ++ text ≡ first ++ (number ++ 32 ∷ text)
with_note first number text = simp append_assoc

with_answer : (first number answer text : List ℕ)
    → first ++ number ++ codes " " ++ answer ++ codes " " ++ text
    ≡ first ++ (number ++ 32 ∷ (answer ++ 32 ∷ text))
with_answer first number answer text = simp append_assoc

pub entry_joined : (e : Entry ServerNote) → entry_text e ≡ join_with_byte 32 (entry_words e)
unfolding entry_text
entry_joined (entry.Opened handle mask) = simp append_assoc
entry_joined (entry.Scheduled timer handle first every) = simp append_assoc
entry_joined (entry.Cancelled timer) = refl
entry_joined (entry.Polled now) = refl
entry_joined (entry.Due timer) = refl
entry_joined (entry.Ready handle kind) = simp append_assoc
entry_joined (entry.Posted handle kind from seq) = simp append_assoc
entry_joined (entry.Stale handle from seq) = simp append_assoc
entry_joined (entry.Started event) = refl
entry_joined (entry.Returned event answer said) =
    with_answer (codes "returned ") (decimal event) (answer_text answer) (note_text said)
    ∙ ap (λ (text : List ℕ). codes "returned "
    ++ (decimal event ++ 32 ∷ (answer_text answer ++ 32 ∷ text))) (note_joined said)
entry_joined (entry.Masked handle mask) = simp append_assoc
entry_joined (entry.Suspended handle) = refl
entry_joined (entry.Resumed handle) = refl
entry_joined (entry.Refused live fault said) =
    with_answer (codes "refused ") (decimal live) (fault_text fault) (note_text said)
    ∙ ap (λ (text : List ℕ). codes "refused "
    ++ (decimal live ++ 32 ∷ (fault_text fault ++ 32 ∷ text))) (note_joined said)
entry_joined (entry.Removed handle) = refl
entry_joined (entry.Closed handle said) =
    with_note (codes "closed ") (decimal handle.0) (note_text said)
    ∙ ap (λ (text : List ℕ). codes "closed " ++ (decimal handle.0 ++ 32 ∷ text))
    (note_joined said)
entry_joined entry.Ended = refl

-- ---- no word has a space in it

letters_plain : (r w e : Bool) → Plain (mask_text (record { read = r; write = w; except = e }))
unfolding mask_text
letters_plain true true true = refl
letters_plain true true false = refl
letters_plain true false true = refl
letters_plain true false false = refl
letters_plain false true true = refl
letters_plain false true false = refl
letters_plain false false true = refl
letters_plain false false false = refl

mask_plain : (m : Mask) → Plain (mask_text m)
mask_plain m = letters_plain m.read m.write m.except

kind_plain : (k : Kind) → Plain (kind_text k)
kind_plain Read = refl
kind_plain Write = refl
kind_plain Except = refl

answer_plain : (a : Answer) → Plain (answer_text a)
answer_plain Keep = refl
answer_plain Again = refl
answer_plain Close = refl

fault_plain : (b : Bool) → Plain (fault_text b)
fault_plain true = refl
fault_plain false = refl

number_plain : (n : ℕ) → n < 2 ^ 64 → Plain (decimal n)
number_plain n small = plain_number n small

pub entry_plain : (e : Entry ServerNote) → EntryIsWithin e → AllPlain (entry_words e)
entry_plain (entry.Opened handle mask) w = (refl, (number_plain handle.0 w, (mask_plain mask, tt)))
entry_plain (entry.Scheduled timer handle first every) w = (
  refl,
  (
    number_plain timer w.0,
    (
      number_plain handle.0 w.1,
      (number_plain first w.2, (number_plain every w.3, tt)),
    ),
  ),
)
entry_plain (entry.Cancelled timer) w = (refl, (number_plain timer w, tt))
entry_plain (entry.Polled now) w = (refl, (number_plain now w, tt))
entry_plain (entry.Due timer) w = (refl, (number_plain timer w, tt))
entry_plain (entry.Ready handle kind) w = (refl, (number_plain handle.0 w, (kind_plain kind, tt)))
entry_plain (entry.Posted handle kind from seq) w = (
  refl,
  (
    number_plain handle.0 w.0,
    (kind_plain kind, (number_plain from w.1, (number_plain seq w.2, tt))),
  ),
)
entry_plain (entry.Stale handle from seq) w =
    (refl, (number_plain handle.0 w.0, (number_plain from w.1, (number_plain seq w.2, tt))))
entry_plain (entry.Started event) w = (refl, (number_plain event w, tt))
entry_plain (entry.Returned event answer said) w =
    (refl, (number_plain event w.0, (answer_plain answer, note_plain said w.1)))
entry_plain (entry.Masked handle mask) w = (refl, (number_plain handle.0 w, (mask_plain mask, tt)))
entry_plain (entry.Suspended handle) w = (refl, (number_plain handle.0 w, tt))
entry_plain (entry.Resumed handle) w = (refl, (number_plain handle.0 w, tt))
entry_plain (entry.Refused live fault said) w =
    (refl, (number_plain live w.0, (fault_plain fault, note_plain said w.1)))
entry_plain (entry.Removed handle) w = (refl, (number_plain handle.0 w, tt))
entry_plain (entry.Closed handle said) w = (refl, (number_plain handle.0 w.0, note_plain said w.1))
entry_plain entry.Ended w = (refl, tt)

-- nor a line feed
pub one_line : (e : Entry ServerNote) → EntryIsWithin e → Free 10 (entry_text e)
one_line e w = subst (Free 10) (sym (entry_joined e))
    (free_joined 10 32 (entry_words e) refl
    (all_free 10 (entry_words e) (omega arith) (entry_plain e w)))

-- ---- what is spelt is read

read : (e : Entry ServerNote) → EntryIsWithin e → named_of (entry_name e) (entry_fields e) ≡ Some e
unfolding named_of whole_of plain_of numbered_of entry_with opened_of masked_of scheduled_of
    ready_of posted_of stale_of returned_of refused_of closed_of
read (entry.Opened handle mask) w = rw (numbers.all handle.0 w, masks.all mask tt) refl
read (entry.Scheduled timer handle first every) w =
    rw (
      numbers.all timer w.0,
      numbers.all handle.0 w.1,
      numbers.all first w.2,
      numbers.all every w.3,
    ) refl
read (entry.Cancelled timer) w = rw (numbers.all timer w) refl
read (entry.Polled now) w = rw (numbers.all now w) refl
read (entry.Due timer) w = rw (numbers.all timer w) refl
read (entry.Ready handle kind) w = rw (numbers.all handle.0 w, kinds.all kind tt) refl
read (entry.Posted handle kind from seq) w =
    rw (numbers.all handle.0 w.0, kinds.all kind tt, numbers.all from w.1, numbers.all seq w.2) refl
read (entry.Stale handle from seq) w =
    rw (numbers.all handle.0 w.0, numbers.all from w.1, numbers.all seq w.2) refl
read (entry.Started event) w = rw (numbers.all event w) refl
read (entry.Returned event answer said) w =
    rw (numbers.all event w.0, answers.all answer tt, note_all said w.1) refl
read (entry.Masked handle mask) w = rw (numbers.all handle.0 w, masks.all mask tt) refl
read (entry.Suspended handle) w = rw (numbers.all handle.0 w) refl
read (entry.Resumed handle) w = rw (numbers.all handle.0 w) refl
read (entry.Refused live fault said) w =
    rw (numbers.all live w.0, faults.all fault tt, note_all said w.1) refl
read (entry.Removed handle) w = rw (numbers.all handle.0 w) refl
read (entry.Closed handle said) w = rw (numbers.all handle.0 w.0, note_all said w.1) refl
read entry.Ended w = refl

entry_at : Words → Option (Entry ServerNote)
entry_at words = next Some words >>= λ name. named_of name.0 name.1

entry_is : (line : List ℕ) → entry_of line ≡ entry_at (parts 32 line)
unfolding entry_of entry_at
entry_is line = refl

at_words : (e : Entry ServerNote) → EntryIsWithin e → entry_at (entry_words e) ≡ Some e
unfolding entry_at
at_words e w = read e w

pub entry_all : (e : Entry ServerNote) → EntryIsWithin e → entry_of (entry_text e) ≡ Some e
entry_all e w =
    entry_is (entry_text e) ∙ ap (λ (line : List ℕ). entry_at (parts 32 line)) (entry_joined e)
    ∙ ap entry_at (parts_joined 32 (entry_name e) (entry_fields e)
    (all_free 32 (entry_words e) (omega arith) (entry_plain e w))) ∙ at_words e w

-- ---- what is read is spelt so

abbrev EntryIs : Words → Entry ServerNote → Type 0
EntryIs words e = (words ≡ entry_words e) × EntryIsWithin e

-- an entry, and the words after its own
abbrev FrontIs : List ℕ → Words → Entry ServerNote × Words → Type 0
FrontIs name words r = (name ∷ words ≡ entry_words r.0 ++ r.1) × EntryIsWithin r.0

abbrev with_name : (name : List ℕ) {words more : Words} → words ≡ more → name ∷ words ≡ name ∷ more
with_name name is = ap (λ (ws : Words). name ∷ ws) is

abbrev Front : Type 0
Front = Entry ServerNote × Words

opened_only : (words : Words) (r : Front) → opened_of words ≡ Some r
    → FrontIs (codes "opened") words r
unfolding opened_of
opened_only words r h =
    let handle = took _ _ _ numbers words _ r h in
    let mask = took _ _ _ masks handle.rest _ r handle.more in
    subst (FrontIs (codes "opened") words) (value_is _ r mask.more) (
      with_name (codes "opened") (handle.is ∙ with_name (decimal handle.value) mask.is),
      handle.within,
    )

masked_only : (words : Words) (r : Front) → masked_of words ≡ Some r
    → FrontIs (codes "masked") words r
unfolding masked_of
masked_only words r h =
    let handle = took _ _ _ numbers words _ r h in
    let mask = took _ _ _ masks handle.rest _ r handle.more in
    subst (FrontIs (codes "masked") words) (value_is _ r mask.more) (
      with_name (codes "masked") (handle.is ∙ with_name (decimal handle.value) mask.is),
      handle.within,
    )

scheduled_only : (words : Words) (r : Front) → scheduled_of words ≡ Some r
    → FrontIs (codes "scheduled") words r
unfolding scheduled_of
scheduled_only words r h =
    let timer = took _ _ _ numbers words _ r h in
    let handle = took _ _ _ numbers timer.rest _ r timer.more in
    let first = took _ _ _ numbers handle.rest _ r handle.more in
    let every = took _ _ _ numbers first.rest _ r first.more in
    subst (FrontIs (codes "scheduled") words) (value_is _ r every.more) (
      with_name (codes "scheduled") (timer.is
          ∙ with_name (decimal timer.value) (handle.is
          ∙ with_name (decimal handle.value)
          (first.is ∙ with_name (decimal first.value) every.is))),
      (timer.within, handle.within, first.within, every.within),
    )

ready_only : (words : Words) (r : Front) → ready_of words ≡ Some r → FrontIs (codes "ready") words r
unfolding ready_of
ready_only words r h =
    let handle = took _ _ _ numbers words _ r h in
    let kind = took _ _ _ kinds handle.rest _ r handle.more in
    subst (FrontIs (codes "ready") words) (value_is _ r kind.more) (
      with_name (codes "ready") (handle.is ∙ with_name (decimal handle.value) kind.is),
      handle.within,
    )

posted_only : (words : Words) (r : Front) → posted_of words ≡ Some r
    → FrontIs (codes "posted") words r
unfolding posted_of
posted_only words r h =
    let handle = took _ _ _ numbers words _ r h in
    let kind = took _ _ _ kinds handle.rest _ r handle.more in
    let from = took _ _ _ numbers kind.rest _ r kind.more in
    let seq = took _ _ _ numbers from.rest _ r from.more in
    subst (FrontIs (codes "posted") words) (value_is _ r seq.more) (
      with_name (codes "posted") (handle.is
          ∙ with_name (decimal handle.value)
          (kind.is ∙ with_name (kind_text kind.value)
          (from.is ∙ with_name (decimal from.value) seq.is))),
      (handle.within, from.within, seq.within),
    )

stale_only : (words : Words) (r : Front) → stale_of words ≡ Some r → FrontIs (codes "stale") words r
unfolding stale_of
stale_only words r h =
    let handle = took _ _ _ numbers words _ r h in
    let from = took _ _ _ numbers handle.rest _ r handle.more in
    let seq = took _ _ _ numbers from.rest _ r from.more in
    subst (FrontIs (codes "stale") words) (value_is _ r seq.more) (
      with_name (codes "stale") (handle.is
          ∙ with_name (decimal handle.value) (from.is ∙ with_name (decimal from.value) seq.is)),
      (handle.within, from.within, seq.within),
    )

-- an entry of one number
abbrev NumberedIs : List ℕ → ℕ → Entry ServerNote → Type 0
NumberedIs name n e = (name ∷ decimal n ∷ [] ≡ entry_words e) × EntryIsWithin e

of_name : (name word : List ℕ) (n : ℕ) (a e : Entry ServerNote) → name ≡ word → NumberedIs word n a
    → Some a ≡ Some e → NumberedIs name n e
of_name name word n a e is spelt h =
    subst (λ (w : List ℕ). NumberedIs w n e) (sym is)
    (subst (NumberedIs word n) (value_is a e h) spelt)

with_only : (name : List ℕ) (n : ℕ) (e : Entry ServerNote) → n < 2 ^ 64 → entry_with name n ≡ Some e
    → NumberedIs name n e
unfolding entry_with
with_only name n e small h =
    elim (chosen name (codes "started") _ _ e h) [
      | inl a ↦ of_name name (codes "started") n (entry.Started n) e a.0 (refl, small) a.1
      | inr h ↦
          elim (chosen name (codes "polled") _ _ e h) [
            | inl a ↦ of_name name (codes "polled") n (entry.Polled n) e a.0 (refl, small) a.1
            | inr h ↦
                elim (chosen name (codes "due") _ _ e h) [
                  | inl a ↦ of_name name (codes "due") n (entry.Due n) e a.0 (refl, small) a.1
                  | inr h ↦
                      elim (chosen name (codes "cancelled") _ _ e h) [
                        | inl a ↦ of_name name (codes "cancelled") n (entry.Cancelled n) e a.0
                            (refl, small) a.1
                        | inr h ↦
                            elim (chosen name (codes "suspended") _ _ e h) [
                              | inl a ↦ of_name name (codes "suspended") n
                                  (entry.Suspended (record { 0 = n })) e a.0 (refl, small) a.1
                              | inr h ↦
                                  elim (chosen name (codes "resumed") _ _ e h) [
                                    | inl a ↦ of_name name (codes "resumed") n
                                        (entry.Resumed (record { 0 = n })) e a.0 (refl, small) a.1
                                    | inr h ↦
                                        elim (chosen name (codes "removed") _ _ e h) [
                                          | inl a ↦ of_name name (codes "removed") n
                                              (entry.Removed (record { 0 = n })) e a.0 (refl, small)
                                              a.1
                                          | inr h ↦ cc h
                                        ]
                                  ]
                            ]
                      ]
                ]
          ]
    ]

numbered_only : (name : List ℕ) (words : Words) (r : Front) → numbered_of name words ≡ Some r
    → FrontIs name words r
unfolding numbered_of
numbered_only name words r h =
    let number = took _ _ _ numbers words _ r h in
    let e = went (entry_with name number.value) _ r number.more in
    let spelt = with_only name number.value e.value number.within e.is in
    subst (FrontIs name words) (value_is _ r e.more)
    (with_name name number.is ∙ ap (λ (ws : Words). ws ++ number.rest) spelt.0, spelt.1)

front_of : (name word : List ℕ) (words : Words) (r : Front) → name ≡ word → FrontIs word words r
    → FrontIs name words r
front_of name word words r is spelt = subst (λ (w : List ℕ). FrontIs w words r) (sym is) spelt

plain_only : (name : List ℕ) (words : Words) (r : Front) → plain_of name words ≡ Some r
    → FrontIs name words r
unfolding plain_of
plain_only name words r h =
    elim (chosen name (codes "ready") _ _ r h) [
      | inl a ↦ front_of name (codes "ready") words r a.0 (ready_only words r a.1)
      | inr h ↦
          elim (chosen name (codes "opened") _ _ r h) [
            | inl a ↦ front_of name (codes "opened") words r a.0 (opened_only words r a.1)
            | inr h ↦
                elim (chosen name (codes "masked") _ _ r h) [
                  | inl a ↦ front_of name (codes "masked") words r a.0 (masked_only words r a.1)
                  | inr h ↦
                      elim (chosen name (codes "scheduled") _ _ r h) [
                        | inl a ↦ front_of name (codes "scheduled") words r a.0
                            (scheduled_only words r a.1)
                        | inr h ↦
                            elim (chosen name (codes "posted") _ _ r h) [
                              | inl a ↦ front_of name (codes "posted") words r a.0
                                  (posted_only words r a.1)
                              | inr h ↦
                                  elim (chosen name (codes "stale") _ _ r h) [
                                    | inl a ↦ front_of name (codes "stale") words r a.0
                                        (stale_only words r a.1)
                                    | inr h ↦
                                        elim (chosen name (codes "ended") _ _ r h) [
                                          | inl a ↦ front_of name (codes "ended") words r a.0
                                              (subst (FrontIs (codes "ended") words)
                                              (value_is (entry.Ended, words) r a.1) (refl, tt))
                                          | inr h ↦ numbered_only name words r h
                                        ]
                                  ]
                            ]
                      ]
                ]
          ]
    ]

whole_only : (name : List ℕ) (words : Words) (e : Entry ServerNote) → whole_of name words ≡ Some e
    → EntryIs (name ∷ words) e
unfolding whole_of
whole_only name words e h =
    let r = went (plain_of name words) _ e h in
    let front = plain_only name words r.value r.is in
    let last = ended r.value.1 (Some r.value.0) e r.more in
    subst (EntryIs (name ∷ words)) (value_is r.value.0 e last.1) (
      front.0 ∙ ap (λ (ws : Words). entry_words r.value.0 ++ ws) last.0
          ∙ append-nil (entry_words r.value.0),
      front.1,
    )

returned_only : (words : Words) (e : Entry ServerNote) → returned_of words ≡ Some e
    → EntryIs (codes "returned" ∷ words) e
unfolding returned_of
returned_only words e h =
    let event = took _ _ _ numbers words _ e h in
    let answer = took _ _ _ answers event.rest _ e event.more in
    let said = went (note_of answer.rest) _ e answer.more in
    let note_is = note_only answer.rest said.value said.is in
    subst (EntryIs (codes "returned" ∷ words))
    (value_is (entry.Returned event.value answer.value said.value) e said.more) (
      with_name (codes "returned") (event.is
          ∙ with_name (decimal event.value) (answer.is
          ∙ with_name (answer_text answer.value) note_is.0)),
      (event.within, note_is.1),
    )

refused_only : (words : Words) (e : Entry ServerNote) → refused_of words ≡ Some e
    → EntryIs (codes "refused" ∷ words) e
unfolding refused_of
refused_only words e h =
    let live = took _ _ _ numbers words _ e h in
    let fault = took _ _ _ faults live.rest _ e live.more in
    let said = went (note_of fault.rest) _ e fault.more in
    let note_is = note_only fault.rest said.value said.is in
    subst (EntryIs (codes "refused" ∷ words))
    (value_is (entry.Refused live.value fault.value said.value) e said.more) (
      with_name (codes "refused") (live.is
          ∙ with_name (decimal live.value) (fault.is
          ∙ with_name (fault_text fault.value) note_is.0)),
      (live.within, note_is.1),
    )

closed_only : (words : Words) (e : Entry ServerNote) → closed_of words ≡ Some e
    → EntryIs (codes "closed" ∷ words) e
unfolding closed_of
closed_only words e h =
    let handle = took _ _ _ numbers words _ e h in
    let said = went (note_of handle.rest) _ e handle.more in
    let note_is = note_only handle.rest said.value said.is in
    subst (EntryIs (codes "closed" ∷ words))
    (value_is (entry.Closed (record { 0 = handle.value }) said.value) e said.more) (
      with_name (codes "closed") (handle.is ∙ with_name (decimal handle.value) note_is.0),
      (handle.within, note_is.1),
    )

whole_name : (name word : List ℕ) (words : Words) (e : Entry ServerNote) → name ≡ word
    → EntryIs (word ∷ words) e → EntryIs (name ∷ words) e
whole_name name word words e is spelt = subst (λ (w : List ℕ). EntryIs (w ∷ words) e) (sym is) spelt

named_only : (name : List ℕ) (words : Words) (e : Entry ServerNote) → named_of name words ≡ Some e
    → EntryIs (name ∷ words) e
unfolding named_of
named_only name words e h =
    elim (chosen name (codes "returned") _ _ e h) [
      | inl a ↦ whole_name name (codes "returned") words e a.0 (returned_only words e a.1)
      | inr h ↦
          elim (chosen name (codes "closed") _ _ e h) [
            | inl a ↦ whole_name name (codes "closed") words e a.0 (closed_only words e a.1)
            | inr h ↦
                elim (chosen name (codes "refused") _ _ e h) [
                  | inl a ↦ whole_name name (codes "refused") words e a.0 (refused_only words e a.1)
                  | inr h ↦ whole_only name words e h
                ]
          ]
    ]

at_only : (words : Words) (e : Entry ServerNote) → entry_at words ≡ Some e → EntryIs words e
unfolding entry_at
at_only words e h =
    let name = took _ _ _ any_word words _ e h in
    subst (λ (ws : Words). EntryIs ws e) (sym name.is) (named_only name.value name.rest e name.more)

pub entry_only : (line : List ℕ) (e : Entry ServerNote) → entry_of line ≡ Some e
    → (entry_text e ≡ line) × EntryIsWithin e
entry_only line e h =
    let spelt = at_only (parts 32 line) e (sym (entry_is line) ∙ h) in (
      entry_joined e ∙ ap (join_with_byte 32) (sym spelt.0)
          ∙ join_with_byte-slice_split 32 line,
      spelt.1,
    )
