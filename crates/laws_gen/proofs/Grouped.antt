-- The grouped text of a generated script.
use Rattle.std.proofs.Common.{◌≡◌, ◌∙◌, ℕ, zero, suc, ◌+◌, ◌*◌, ◌<◌, ◌≤◌, Bool, List, [], ◌∷◌, ◌++◌}
use Rattle.std.proofs.Common.{length, refl, sym, ap, ap₂, arith}
use Rattle.std.proofs.Math.Nat.{suc-mul}
use Rattle.laws_script_complete.specs.cdr_record.specs.declared.record.LogRecord.{LogRecord}
use Rattle.laws_script_complete.specs.cdr_record.specs.Decoding.{Clean}
use Rattle.laws_script_complete.specs.cdr_record.specs.Decoding.{Decoded}
use Rattle.laws_script_complete.specs.cdr_record.specs.Decoding.{decode}
use Rattle.laws_script_complete.specs.log_lines.specs.declared.end_kind.EndKind.{EndKind}
use Rattle.laws_script_complete.specs.log_lines.specs.declared.end_kind.EndKind.TheVariants
    as end
use Rattle.laws_script_complete.specs.log_lines.specs.Texts.{record_lines}
use Rattle.laws_script_complete.specs.log_lines.specs.Texts.{closing_line}
use Rattle.laws_script_complete.specs.event_script.specs.Script.{steps_of}
use Rattle.laws_script_complete.specs.event_script.specs.Stories.{bytes_of}
use Rattle.laws_script_complete.specs.event_script.specs.Stories.{was_shut}
use Rattle.laws_script_complete.specs.event_script.specs.Stories.{has_failed}
use Rattle.laws_script_complete.specs.laws_script_turns.specs.Grouped.{word_by}
use Rattle.laws_script_complete.specs.laws_script_turns.specs.Grouped.{closing_word}
use Rattle.laws_script_complete.specs.laws_script_turns.specs.Grouped.{grouped_lines}
use Rattle.laws_script_complete.specs.laws_script_turns.specs.Grouped.{each_below}
use Rattle.laws_script_complete.specs.laws_script_turns.specs.Grouped.{grouped}
use Rattle.run_summary.specs.Summaries.{line_feeds}
use Rattle.run_summary.proofs.Feeds.{feeds-append, record_lines_feeds, closing_line_feeds}
use Rattle.script_generator.specs.Scripts.{generated}
use Rattle.script_generator.specs.Laws.{connection_records}
use Rattle.script_generator.proofs.Connections.{has_steps, brings_records}
use Rattle.laws_gen.specs.Runs.{HasGroupedText}

abbrev lines_of : ℕ → ℕ → List ℕ
lines_of seed c = record_lines c (connection_records seed c) ++ closing_line c end.End

one_connection : (n seed c : ℕ) → c < n → n ≤ 1000
    → grouped_lines c (steps_of (generated n seed)) ≡ lines_of seed c
one_connection n seed c lt many =
    let steps = steps_of (generated n seed) in
    let brings = brings_records n seed c lt many in
    let decoded : decode (bytes_of c steps)
    ≡ record { records = connection_records seed c; stop = Clean } =
    ap decode brings.bytes ∙ brings.decoded in
    let word : closing_word c steps ≡ end.End =
    ap (λ (d : Decoded). word_by d.stop (has_failed c steps) (was_shut c steps)) decoded
    ∙ ap (λ (b : Bool). word_by Clean b (was_shut c steps)) brings.sound
    ∙ ap (λ (b : Bool). word_by Clean Rattle.std.proofs.Common.false b) brings.shut in
    ap₂ (λ (rs : List LogRecord) (w : EndKind). record_lines c rs ++ closing_line c w)
    (ap (λ (d : Decoded). d.records) decoded) word

same_each : (n : ℕ) (f g : ℕ → List ℕ) → ((c : ℕ) → c < n → f c ≡ g c)
    → each_below n f ≡ each_below n g
same_each zero f g h = refl
same_each (suc n) f g h = ap₂ ◌++◌ (same_each n f g (λ c l. h c (omega arith))) (h n (omega arith))

one_feeds : (seed c : ℕ) → length (connection_records seed c) ≡ 125
    → line_feeds (lines_of seed c) ≡ 126
one_feeds seed c records =
    feeds-append (record_lines c (connection_records seed c)) (closing_line c end.End)
    ∙ (omega (
      arith,
      record_lines_feeds c (connection_records seed c),
      records,
      closing_line_feeds c end.End,
    ))

all_feed : (seed n : ℕ) → ((c : ℕ) → length (connection_records seed c) ≡ 125)
    → line_feeds (each_below n (lines_of seed)) ≡ n * 126
all_feed seed zero many = omega arith
all_feed seed (suc n) many =
    feeds-append (each_below n (lines_of seed)) (lines_of seed n)
    ∙ (omega (arith, all_feed seed n many, one_feeds seed n (many n), suc-mul n 126))

pub has_grouped_text : (n seed : ℕ) → 1 ≤ n → n ≤ 1000 → HasGroupedText n seed
has_grouped_text n seed least many =
    let steps = steps_of (generated n seed) in
    let text : grouped steps ≡ each_below n (lines_of seed) =
    ap (λ (k : ℕ). each_below k (λ c. grouped_lines c steps)) (has_steps n seed least many).come
    ∙ same_each n (λ c. grouped_lines c steps) (lines_of seed)
    (λ c lt. one_connection n seed c lt many) in
    record {
      text = text;
      lines = ap line_feeds text
          ∙ all_feed seed n (λ c. Rattle.script_generator.proofs.Spelled.records_many seed c)
          ∙ omega arith;
    }
