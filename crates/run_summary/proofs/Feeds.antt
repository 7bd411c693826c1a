-- How many line feeds the lines of notes have: one each.
use Rattle.std.proofs.Common.{◌≡◌, ◌∙◌, ℕ, zero, suc, ◌+◌, ◌/◌, ◌%◌, ◌==◌, Bool, true, false, not}
use Rattle.std.proofs.Common.{cond, List, [], ◌∷◌, ◌++◌, length, codes, decimal, refl, ap, ap₂}
use Rattle.std.proofs.Common.{arith, ℤ, pos, negsuc}
use Rattle.std.specs.Prelude.{flat_map, take_while}
use Rattle.std.specs.Fmt.{digits, digits_onto, digit_glyph, signed_decimal}
use Rattle.std.proofs.lemmas.Bool.Decides.{nat_tests}
use Rattle.std.proofs.lemmas.List.Sums.{sum_by-cons, sum_by-append}
use Rattle.log_handler.specs.cdr_record.specs.declared.record.LogRecord.{LogRecord}
use Rattle.log_lines.specs.declared.end_kind.EndKind.{EndKind}
use Rattle.log_lines.specs.declared.end_kind.EndKind.TheVariants as end
use Rattle.log_lines.specs.Texts.{name_or_number, type_text, hex_digit, is_plain, byte_text}
use Rattle.log_lines.specs.Texts.{message_text, record_text, record_line, record_lines, end_word}
use Rattle.log_lines.specs.Texts.{closing_line}
use Rattle.run_summary.specs.Summaries.{line_feeds}

pub feeds-append : (xs ys : List ℕ) → line_feeds (xs ++ ys) ≡ line_feeds xs + line_feeds ys
feeds-append xs ys = sum_by-append (λ (b : ℕ). cond (b == 10) 1 0) xs ys

feeds-other : (b : ℕ) (xs : List ℕ) → (b == 10) ≡ false → line_feeds (b ∷ xs) ≡ line_feeds xs
feeds-other b xs other = sum_by-cons (λ (b : ℕ). cond (b == 10) 1 0) b xs
    ∙ ap (λ (t : Bool). cond t 1 0 + line_feeds xs) other ∙ omega arith

-- ---- numbers

glyph_other : (d : ℕ) → (digit_glyph false d == 10) ≡ false
glyph_other d = grind (arith, nat_tests)

digits_by : (b : Bool) (g : ℕ) (acc more : List ℕ) → (g == 10) ≡ false
    → line_feeds more ≡ line_feeds (g ∷ acc) → line_feeds (cond b (g ∷ acc) more) ≡ line_feeds acc
digits_by true g acc more other rest = feeds-other g acc other
digits_by false g acc more other rest = rest ∙ feeds-other g acc other

digits_feeds : (k n : ℕ) (acc : List ℕ) → line_feeds (digits_onto k 10 false n acc) ≡ line_feeds acc
digits_feeds zero n acc = refl
digits_feeds (suc k) n acc =
    let g = digit_glyph false (n % 10) in
    digits_by (n / 10 == 0) g acc (digits_onto k 10 false (n / 10) (g ∷ acc))
    (glyph_other (n % 10)) (digits_feeds k (n / 10) (g ∷ acc))

pub decimal_feeds : (n : ℕ) → line_feeds (decimal n) ≡ 0
unfolding digits
decimal_feeds n = digits_feeds 64 n []

signed_feeds : (z : ℤ) → line_feeds (signed_decimal z) ≡ 0
signed_feeds (pos n) = decimal_feeds n
signed_feeds (negsuc n) = feeds-other 45 (decimal (suc n)) refl ∙ decimal_feeds (suc n)

-- ---- types

either : (c : Bool) (xs ys : List ℕ) → line_feeds xs ≡ 0 → line_feeds ys ≡ 0
    → line_feeds (cond c xs ys) ≡ 0
either true xs ys first second = first
either false xs ys first second = second

name_feeds : (kind : ℕ) → line_feeds (name_or_number kind) ≡ 0
name_feeds kind =
    either (kind == 1) (codes "LM_SHUTDOWN") _ refl
    (either (kind == 2) (codes "LM_TRACE") _ refl
    (either (kind == 4) (codes "LM_DEBUG") _ refl
    (either (kind == 8) (codes "LM_INFO") _ refl
    (either (kind == 16) (codes "LM_NOTICE") _ refl
    (either (kind == 32) (codes "LM_WARNING") _ refl
    (either (kind == 64) (codes "LM_STARTUP") _ refl
    (either (kind == 128) (codes "LM_ERROR") _ refl
    (either (kind == 256) (codes "LM_CRITICAL") _ refl
    (either (kind == 512) (codes "LM_ALERT") _ refl
    (either (kind == 1024) (codes "LM_EMERGENCY") _ refl (decimal_feeds kind)))))))))))

type_feeds : (kind : ℤ) → line_feeds (type_text kind) ≡ 0
unfolding type_text
type_feeds (pos n) = name_feeds n
type_feeds (negsuc n) = signed_feeds (negsuc n)

-- ---- messages

hex_other : (d : ℕ) → (hex_digit d == 10) ≡ false
hex_other d = grind (arith, nat_tests)

plain_other : (b : ℕ) → is_plain b ≡ true → (b == 10) ≡ false
plain_other b h = grind (arith, nat_tests)

byte_by : (b : ℕ) (plain back : Bool) → is_plain b ≡ plain
    → line_feeds (cond plain (b ∷ []) (cond back (92 ∷ 92 ∷ [])
    (92 ∷ 120 ∷ hex_digit (b / 16) ∷ hex_digit (b % 16) ∷ []))) ≡ 0
byte_by b true back is = feeds-other b [] (plain_other b is)
byte_by b false true is = refl
byte_by b false false is =
    feeds-other 92 (120 ∷ hex_digit (b / 16) ∷ hex_digit (b % 16) ∷ []) refl
    ∙ feeds-other 120 (hex_digit (b / 16) ∷ hex_digit (b % 16) ∷ []) refl
    ∙ feeds-other (hex_digit (b / 16)) (hex_digit (b % 16) ∷ []) (hex_other (b / 16))
    ∙ feeds-other (hex_digit (b % 16)) [] (hex_other (b % 16))

escaped_feeds : (bytes : List ℕ) → line_feeds (flat_map byte_text bytes) ≡ 0
escaped_feeds [] = refl
escaped_feeds (b ∷ bytes) = feeds-append (byte_text b) (flat_map byte_text bytes)
    ∙ ap₂ ◌+◌ (byte_by b (is_plain b) (b == 92) refl) (escaped_feeds bytes)

message_feeds : (message : List ℕ) → line_feeds (message_text message) ≡ 0
unfolding message_text
message_feeds message = escaped_feeds (take_while (λ byte. not (byte == 0)) message)

-- ---- lines

pub record_line_feeds : (conn : ℕ) (r : LogRecord) → line_feeds (record_line conn r) ≡ 1
unfolding record_line record_text
record_line_feeds conn r =
    simp feeds-append (omega (
      arith,
      decimal_feeds conn,
      signed_feeds r.sec,
      signed_feeds r.usec,
      signed_feeds r.pid,
      type_feeds r.kind,
      message_feeds r.text,
    ))

pub record_lines_feeds : (conn : ℕ) (rs : List LogRecord)
    → line_feeds (record_lines conn rs) ≡ length rs
record_lines_feeds conn [] = refl
record_lines_feeds conn (r ∷ rs) =
    feeds-append (record_line conn r) (record_lines conn rs)
    ∙ omega (arith, record_line_feeds conn r, record_lines_feeds conn rs)

word_feeds : (word : EndKind) → line_feeds (end_word word) ≡ 0
word_feeds end.End = refl
word_feeds (end.Partial n) = feeds-append (codes "partial ") (decimal n)
    ∙ ap (λ (k : ℕ). 0 + k) (decimal_feeds n)
word_feeds (end.Malformed n) = feeds-append (codes "malformed ") (decimal n)
    ∙ ap (λ (k : ℕ). 0 + k) (decimal_feeds n)
word_feeds end.Failed = refl
word_feeds end.NoMemory = refl
word_feeds end.Idle = refl
word_feeds end.Stopped = refl
word_feeds end.Refused = refl

pub closing_line_feeds : (conn : ℕ) (word : EndKind) → line_feeds (closing_line conn word) ≡ 1
unfolding closing_line
closing_line_feeds conn word = simp feeds-append
    (omega (arith, decimal_feeds conn, word_feeds word))
