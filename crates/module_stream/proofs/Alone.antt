-- When a list of bytes is one record and nothing else.
use Rattle.std.proofs.Common.{◌≡◌, ℕ, List, [], ◌∷◌, ◌++◌, None, refl, sym, ap, ◌∙◌, subst}
use Rattle.std.proofs.Common.{append-nil}
use Rattle.message_block.specs.Messages.{bytes_of}
use Rattle.cdr_record.specs.declared.record.LogRecord.{LogRecord}
use Rattle.cdr_record.specs.Grammar.{Spells}
use Rattle.cdr_record.specs.Decoding.{decode, left_of, record_alone}
use Rattle.cdr_record.specs.Laws.{DecodeCuts, IsCutInto}
use Rattle.cdr_record.proofs.Alone.{none_alone, two_not_alone}
use Rattle.cdr_record.proofs.Cutting.{first_nil}
use Rattle.module_stream.specs.Tasks.{formatted, text_or}
use Rattle.module_stream.specs.Laws.{FormatsRecords, LeavesOthers}

-- no record stands alone but if there is one record and nothing is left
none_spelled : (records : List LogRecord) (left : List ℕ)
    → ((entry : LogRecord) → records ≡ entry ∷ [] → left ≡ [] → ⊥)
    → record_alone records left ≡ None
none_spelled [] left h = none_alone left
none_spelled (r ∷ s ∷ records) left h = two_not_alone r s records left
none_spelled (r ∷ []) [] h = absurd (h r refl refl)
none_spelled (r ∷ []) (x ∷ left) h = refl

-- ---- by what records are

pub formats_records : DecodeCuts → FormatsRecords
unfolding formatted
formats_records cuts message entry s =
    let cut : IsCutInto (bytes_of message) (entry ∷ []) [] = (
      bytes_of message ∷ [],
      (s, tt),
      sym
          (append-nil (bytes_of message ++ []) ∙ append-nil (bytes_of message)),
      λ n e. cc first_nil,
    )
    in
    let is : ((decode (bytes_of message)).records ≡ entry ∷ [])
    × (left_of (bytes_of message) ≡ []) = (cuts (bytes_of message)).1 (entry ∷ []) [] cut in
    ap (λ records. text_or message (record_alone records (left_of (bytes_of message)))) is.0
    ∙ ap (λ left. text_or message (record_alone (entry ∷ []) left)) is.1

spelled_alone : (bytes : List ℕ) (entry : LogRecord) → IsCutInto bytes (entry ∷ []) []
    → Spells bytes entry
spelled_alone bytes entry ([], each, all, none) = absurd each
spelled_alone bytes entry (f ∷ [], each, all, none) =
    let same : f ≡ bytes = sym (all ∙ (append-nil (f ++ []) ∙ append-nil f)) in
    subst (λ (g : List ℕ). Spells g entry) same each.0
spelled_alone bytes entry (f ∷ g ∷ fs, each, all, none) = absurd each.1

pub leaves_others : DecodeCuts → LeavesOthers
unfolding formatted
leaves_others cuts message not_spelled =
    let contradicts : (entry : LogRecord) → (decode (bytes_of message)).records ≡ entry ∷ []
    → left_of (bytes_of message) ≡ [] → ⊥ =
    λ entry is_alone none.
    not_spelled entry (spelled_alone (bytes_of message) entry
    (subst (λ (left : List ℕ). IsCutInto (bytes_of message) (entry ∷ []) left) none
    (subst (λ (records : List LogRecord).
    IsCutInto (bytes_of message) records (left_of (bytes_of message))) is_alone
    (cuts (bytes_of message)).0))) in
    ap (text_or message) (none_spelled (decode (bytes_of message)).records
    (left_of (bytes_of message)) contradicts)
