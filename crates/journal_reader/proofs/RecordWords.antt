-- Records and ends of connections, and the words that spell them.
use Rattle.std.proofs.Common.{◌≡◌, ◌∙◌, ℕ, ◌<◌, inl, inr, List, [], ◌∷◌, ◌++◌, decimal, codes}
use Rattle.std.proofs.Common.{Option, Some, refl, sym, ap, subst, arith, append_assoc, append-nil}
use Rattle.std.proofs.Common.{map}
use Rattle.std.specs.Prelude.{◌^◌}
use Rattle.std.specs.List.{join_with_byte, AllByRecursion}
use Rattle.std.specs.Fmt.{signed_decimal}
use Rattle.std.specs.Int.{w32, w64}
use Rattle.std.specs.Int.RustNames.{FitsSigned}
use Rattle.std.proofs.lemmas.List.Splits.{join_with_byte-slice_split}
use Rattle.hex.specs.Hex.{encode_lower}
use Rattle.cdr_record.specs.declared.record.LogRecord.{LogRecord}
use Rattle.log_handler.specs.log_lines.specs.declared.end_kind.EndKind.{EndKind}
use Rattle.log_handler.specs.log_lines.specs.declared.end_kind.EndKind.TheVariants.{End, Partial}
use Rattle.log_handler.specs.log_lines.specs.declared.end_kind.EndKind.TheVariants.{Malformed}
use Rattle.log_handler.specs.log_lines.specs.declared.end_kind.EndKind.TheVariants.{Failed}
use Rattle.log_handler.specs.log_lines.specs.declared.end_kind.EndKind.TheVariants.{NoMemory, Idle}
use Rattle.log_handler.specs.log_lines.specs.declared.end_kind.EndKind.TheVariants.{Stopped}
use Rattle.log_handler.specs.log_lines.specs.declared.end_kind.EndKind.TheVariants.{Refused}
use Rattle.journal_text.specs.Texts.{end_text, record_word, record_words}
use Rattle.journal_reader.specs.Limits.{RecordIsWithin, EndIsWithin}
use Rattle.text_parts.specs.Parts.{parts}
use Rattle.journal_reader.specs.Reading.{at_end, message_of, Numbers, numbers_of, with_message}
use Rattle.journal_reader.specs.Reading.{record_of, records_of, end_with, counted_end_of, end_of}
use Rattle.journal_reader.specs.Reading.{next, ◌>>=◌}
use Rattle.text_parts.proofs.Cuts.{last_one}
use Rattle.journal_reader.proofs.Joins.{AllFree, IsNoDigit, Plain, AllPlain, parts_joined}
use Rattle.journal_reader.proofs.Joins.{free_number, free_signed, plain_both, plain_number}
use Rattle.journal_reader.proofs.Joins.{plain_signed}
use Rattle.journal_reader.proofs.Spelled.{Spelled, took, went, chosen, value_is, any_word, numbers}
use Rattle.journal_reader.proofs.Spelled.{signed_numbers, narrow_numbers, widened}
use Rattle.journal_reader.proofs.Messages.{messages, free_message, plain_message}

-- no word is left after a value
pub ended : {V : Type 0} (words : List (List ℕ)) (o : Option V) (v : V) → at_end words o ≡ Some v
    → (words ≡ []) × (o ≡ Some v)
ended [] o v h = (refl, h)
ended (word ∷ rest) o v h = cc h

colon : IsNoDigit 58
colon = inr (omega arith)

-- ---- a record

abbrev record_parts : LogRecord → List (List ℕ)
record_parts r = signed_decimal r.kind ∷ signed_decimal r.pid ∷ signed_decimal r.sec
    ∷ signed_decimal r.usec ∷ encode_lower r.text ∷ []

record_joined : (r : LogRecord) → record_word r ≡ join_with_byte 58 (record_parts r)
unfolding record_word
record_joined r = simp append_assoc

record_parts_free : (r : LogRecord) → RecordIsWithin r → AllFree 58 (record_parts r)
record_parts_free r w = (
  free_signed 58 r.kind colon refl (widened r.kind w.numbers.kind),
  (
    free_signed 58 r.pid colon refl (widened r.pid w.numbers.pid),
    (
      free_signed 58 r.sec colon refl w.sec,
      (
        free_signed 58 r.usec colon refl (widened r.usec w.numbers.usec),
        (free_message r.text w.bytes, tt),
      ),
    ),
  ),
)

pub record_plain : (r : LogRecord) → RecordIsWithin r → Plain (record_word r)
unfolding record_word
record_plain r w =
    let kind = plain_signed r.kind (widened r.kind w.numbers.kind) in
    let pid = plain_signed r.pid (widened r.pid w.numbers.pid) in
    let sec = plain_signed r.sec w.sec in
    let usec = plain_signed r.usec (widened r.usec w.numbers.usec) in
    let text = plain_message r.text w.bytes in
    let one : List ℕ = signed_decimal r.kind ++ codes ":" in
    let two : List ℕ = one ++ signed_decimal r.pid ++ codes ":" in
    let three : List ℕ = two ++ signed_decimal r.sec ++ codes ":" in
    let four : List ℕ = three ++ signed_decimal r.usec ++ codes ":" in
    let first : Plain one = plain_both (signed_decimal r.kind) (codes ":") kind refl in
    let second : Plain two = plain_both (one ++ signed_decimal r.pid) (codes ":")
    (plain_both one (signed_decimal r.pid) first pid) refl in
    let third : Plain three = plain_both (two ++ signed_decimal r.sec) (codes ":")
    (plain_both two (signed_decimal r.sec) second sec) refl in
    let fourth : Plain four = plain_both (three ++ signed_decimal r.usec) (codes ":")
    (plain_both three (signed_decimal r.usec) third usec) refl in
    plain_both four (encode_lower r.text) fourth text

abbrev record_at : List (List ℕ) → Option LogRecord
record_at ps =
    numbers_of ps >>= λ numbers. next Some numbers.1 >>= λ digits.
    at_end digits.1 (message_of digits.0) >>= λ text. Some (with_message numbers.0 text)

record_is : (word : List ℕ) → record_of word ≡ record_at (parts 58 word)
unfolding record_of
record_is word = refl

at_parts : (r : LogRecord) → RecordIsWithin r → record_at (record_parts r) ≡ Some r
unfolding numbers_of
at_parts r w =
    rw (
      narrow_numbers.all r.kind w.numbers.kind,
      narrow_numbers.all r.pid w.numbers.pid,
      signed_numbers.all r.sec w.sec,
      narrow_numbers.all r.usec w.numbers.usec,
      messages.all r.text (w.bytes, w.short),
    ) refl

record_all : (r : LogRecord) → RecordIsWithin r → record_of (record_word r) ≡ Some r
record_all r w =
    record_is (record_word r) ∙ ap (λ (word : List ℕ). record_at (parts 58 word)) (record_joined r)
    ∙ ap record_at (parts_joined 58 _ _ (record_parts_free r w)) ∙ at_parts r w

record NumbersAre (ps : List (List ℕ)) (n : Numbers) (rest : List (List ℕ)) : Type 0 where
  pub is : ps ≡ signed_decimal n.kind ∷ signed_decimal n.pid ∷ signed_decimal n.sec
      ∷ signed_decimal n.usec ∷ rest
  pub kind : FitsSigned w32 n.kind
  pub pid : FitsSigned w32 n.pid
  pub sec : FitsSigned w64 n.sec
  pub usec : FitsSigned w32 n.usec

numbers_only : (ps : List (List ℕ)) (r : Numbers × List (List ℕ)) → numbers_of ps ≡ Some r
    → NumbersAre ps r.0 r.1
unfolding numbers_of
numbers_only ps r h =
    let kind = took _ _ _ narrow_numbers ps _ r h in
    let pid = took _ _ _ narrow_numbers kind.rest _ r kind.more in
    let sec = took _ _ _ signed_numbers pid.rest _ r pid.more in
    let usec = took _ _ _ narrow_numbers sec.rest _ r sec.more in
    let is = value_is _ r usec.more in
    subst (λ (r : Numbers × List (List ℕ)). NumbersAre ps r.0 r.1) is (record {
      is = kind.is ∙ ap (λ (ws : List (List ℕ)). signed_decimal kind.value ∷ ws)
          (pid.is ∙ ap (λ (ws : List (List ℕ)). signed_decimal pid.value ∷ ws)
          (sec.is ∙ ap (λ (ws : List (List ℕ)). signed_decimal sec.value ∷ ws) usec.is));
      kind = kind.within;
      pid = pid.within;
      sec = sec.within;
      usec = usec.within;
    })

record_only : (word : List ℕ) (r : LogRecord) → record_of word ≡ Some r → (record_word r ≡ word)
    × RecordIsWithin r
record_only word r h =
    let n = went (numbers_of (parts 58 word)) _ r (sym (record_is word) ∙ h) in
    let d = took _ _ _ any_word n.value.1 _ r n.more in
    let t = went (at_end d.rest (message_of d.value)) _ r d.more in
    let e = ended d.rest (message_of d.value) t.value t.is in
    let m = messages.only d.value t.value e.1 in
    let ns = numbers_only (parts 58 word) n.value n.is in
    let made : LogRecord = with_message n.value.0 t.value in
    let is : parts 58 word ≡ record_parts made =
    ns.is ∙ ap (λ (ws : List (List ℕ)). signed_decimal made.kind ∷ signed_decimal made.pid
    ∷ signed_decimal made.sec ∷ signed_decimal made.usec ∷ ws)
    (d.is ∙ ap (λ (ws : List (List ℕ)). d.value ∷ ws) e.0 ∙ ap (λ (w : List ℕ). w ∷ []) (sym m.0))
    in
    let spelt : record_word made ≡ word =
    record_joined made ∙ ap (join_with_byte 58) (sym is) ∙ join_with_byte-slice_split 58 word in
    subst (λ (r : LogRecord). (record_word r ≡ word) × RecordIsWithin r) (value_is made r t.more) (
      spelt,
      record {
        numbers = record { kind = ns.kind; pid = ns.pid; usec = ns.usec };
        sec = ns.sec;
        bytes = m.1.0;
        short = m.1.1;
      },
    )

-- ---- records

pub records_all : (rs : List LogRecord) → AllByRecursion RecordIsWithin rs
    → records_of (map record_word rs) ≡ Some rs
records_all [] w = refl
records_all (r ∷ rs) w = rw (record_all r w.0, records_all rs w.1) refl

pub records_only : (words : List (List ℕ)) (rs : List LogRecord) → records_of words ≡ Some rs
    → (map record_word rs ≡ words) × AllByRecursion RecordIsWithin rs
records_only [] rs h =
    subst (λ (rs : List LogRecord). (map record_word rs ≡ []) × AllByRecursion RecordIsWithin rs)
    (value_is [] rs h) (refl, tt)
records_only (word ∷ words) rs h =
    let a = went (record_of word) _ rs h in
    let b = went (records_of words) _ rs a.more in
    let first = record_only word a.value a.is in
    let rest = records_only words b.value b.is in
    subst (λ (rs : List LogRecord). (map record_word rs ≡ word ∷ words)
    × AllByRecursion RecordIsWithin rs) (value_is (a.value ∷ b.value) rs b.more) (
      ap (λ (w : List ℕ). w ∷ map record_word b.value) first.0
          ∙ ap (λ (ws : List (List ℕ)). word ∷ ws) rest.0,
      (first.1, rest.1),
    )

pub records_joined : (word : List ℕ) (rs : List LogRecord)
    → join_with_byte 32 (word ∷ map record_word rs) ≡ word ++ record_words rs
records_joined word [] = sym (append-nil word)
records_joined word (r ∷ rs) = ap (λ (text : List ℕ). word ++ (32 ∷ text))
    (records_joined (record_word r) rs)

pub records_plain : (rs : List LogRecord) → AllByRecursion RecordIsWithin rs
    → AllPlain (map record_word rs)
records_plain [] w = tt
records_plain (r ∷ rs) w = (record_plain r w.0, records_plain rs w.1)

-- ---- the end of a connection

end_all : (e : EndKind) → EndIsWithin e → end_of (end_text e) ≡ Some e
unfolding end_of counted_end_of
end_all End w = refl
end_all (Partial n) w = rw (last_one 58 (decimal n) (free_number 58 n colon w), numbers.all n w)
    refl
end_all (Malformed n) w = rw (last_one 58 (decimal n) (free_number 58 n colon w), numbers.all n w)
    refl
end_all Failed w = refl
end_all NoMemory w = refl
end_all Idle w = refl
end_all Stopped w = refl
end_all Refused w = refl

pub end_plain : (e : EndKind) → EndIsWithin e → Plain (end_text e)
end_plain End w = refl
end_plain (Partial n) w = plain_both (codes "partial:") (decimal n) refl (plain_number n w)
end_plain (Malformed n) w = plain_both (codes "malformed:") (decimal n) refl (plain_number n w)
end_plain Failed w = refl
end_plain NoMemory w = refl
end_plain Idle w = refl
end_plain Stopped w = refl
end_plain Refused w = refl

abbrev EndIs : List ℕ → EndKind → Type 0
EndIs word e = (end_text e ≡ word) × EndIsWithin e

with_count : (name : List ℕ) (n : ℕ) (e : EndKind) → n < 2 ^ 64 → end_with name n ≡ Some e
    → EndIs (name ++ 58 ∷ decimal n) e
with_count name n e small h =
    elim (chosen name (codes "partial") _ _ e h) [
      | inl a ↦ subst (EndIs (name ++ 58 ∷ decimal n)) (value_is (Partial n) e a.1)
          (ap (λ (w : List ℕ). w ++ 58 ∷ decimal n) (sym a.0), small)
      | inr h ↦
          elim (chosen name (codes "malformed") _ _ e h) [
            | inl a ↦ subst (EndIs (name ++ 58 ∷ decimal n)) (value_is (Malformed n) e a.1)
                (ap (λ (w : List ℕ). w ++ 58 ∷ decimal n) (sym a.0), small)
            | inr h ↦ cc h
          ]
    ]

counted_only : (word : List ℕ) (e : EndKind) → counted_end_of word ≡ Some e → EndIs word e
unfolding counted_end_of
counted_only word e h =
    let name = took _ _ _ any_word (parts 58 word) _ e h in
    let count = took _ _ _ numbers name.rest _ e name.more in
    let last = ended count.rest (end_with name.value count.value) e count.more in
    let is : parts 58 word ≡ name.value ∷ decimal count.value ∷ [] =
    name.is ∙ ap (λ (ws : List (List ℕ)). name.value ∷ ws)
    (count.is ∙ ap (λ (ws : List (List ℕ)). decimal count.value ∷ ws) last.0) in
    let joined : name.value ++ 58 ∷ decimal count.value ≡ word =
    ap (join_with_byte 58) (sym is) ∙ join_with_byte-slice_split 58 word in
    subst (λ (w : List ℕ). EndIs w e) joined
    (with_count name.value count.value e count.within last.1)

of_word : (word text : List ℕ) (a e : EndKind) → word ≡ text → end_text a ≡ text → EndIsWithin a
    → Some a ≡ Some e → EndIs word e
of_word word text a e is text_is within h =
    subst (EndIs word) (value_is a e h) (text_is ∙ sym is, within)

end_only : (word : List ℕ) (e : EndKind) → end_of word ≡ Some e → EndIs word e
unfolding end_of
end_only word e h =
    elim (chosen word (codes "end") _ _ e h) [
      | inl a ↦ of_word word (codes "end") End e a.0 refl tt a.1
      | inr h ↦
          elim (chosen word (codes "failed") _ _ e h) [
            | inl a ↦ of_word word (codes "failed") Failed e a.0 refl tt a.1
            | inr h ↦
                elim (chosen word (codes "nomemory") _ _ e h) [
                  | inl a ↦ of_word word (codes "nomemory") NoMemory e a.0 refl tt a.1
                  | inr h ↦
                      elim (chosen word (codes "idle") _ _ e h) [
                        | inl a ↦ of_word word (codes "idle") Idle e a.0 refl tt a.1
                        | inr h ↦
                            elim (chosen word (codes "stopped") _ _ e h) [
                              | inl a ↦ of_word word (codes "stopped") Stopped e a.0 refl tt a.1
                              | inr h ↦
                                  elim (chosen word (codes "refused") _ _ e h) [
                                    | inl a ↦ of_word word (codes "refused") Refused e a.0 refl tt
                                        a.1
                                    | inr h ↦ counted_only word e h
                                  ]
                            ]
                      ]
                ]
          ]
    ]

pub the_ends : Spelled end_of end_text EndIsWithin
the_ends = record { all = end_all; only = end_only }
