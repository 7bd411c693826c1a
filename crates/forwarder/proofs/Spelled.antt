-- The spelling of a record, word by word.
use Rattle.std.proofs.Common.{◌≡◌, ◌+◌, ◌∙◌, ℕ, List, [], ◌∷◌, ◌++◌, length, append_assoc}
use Rattle.std.proofs.Common.{append-nil}
use Rattle.std.proofs.Common.{take, arith}
use Rattle.std.proofs.lemmas.List.{take-append-le, take_all}
use Rattle.std.specs.Prelude.{Err, Ok, OnErr, Result}
use Rattle.std.specs.Int.{w32, w64, cast_unsigned}
use Rattle.std.specs.List.{flat_map}
use Rattle.byteorder.specs.Endian.{big_bytes}
use Rattle.cdr_record.specs.declared.record.LogRecord.{LogRecord}
use Rattle.cdr_record.specs.declared.record.Order.TheVariants.{Big}
use Rattle.cdr_record.specs.Grammar.{order_of, seconds_size, seconds_width}
use Rattle.cdr_record.specs.Spelling.{bytes_of, canon, canon_2, spelling}

all_in_one : (o a b c d e f g t : List ℕ)
    → (o ++ (a ++ (b ++ (c ++ (d ++ (e ++ (f ++ (g ++ [])))))))) ++ t
    ≡ o ++ (a ++ (b ++ (c ++ (d ++ (e ++ (f ++ (g ++ t)))))))
all_in_one o a b c d e f g t = simp (append_assoc, append-nil)

-- seven words and the message
pub version_1 : (r : LogRecord) (kind pid sec usec : ℕ) (old head all : List ℕ)
    → kind ≡ cast_unsigned w32 r.kind → pid ≡ cast_unsigned w32 r.pid
    → sec ≡ cast_unsigned w32 r.sec → usec ≡ cast_unsigned w32 r.usec
    → head ≡ old ++ flat_map (big_bytes 4) (0 ∷ (20 + length r.text) ∷ kind ∷ pid ∷ sec ∷ usec
    ∷ length r.text ∷ [])
    → all ≡ head ++ r.text → all ≡ old ++ canon r Big
unfolding spelling bytes_of order_of seconds_size seconds_width
version_1 r kind pid sec usec old head all ek ep es eu eh ea =
    rw (ea, eh, ek, ep, es, eu) (all_in_one old (big_bytes 4 0) (big_bytes 4 (20 + length r.text))
    (big_bytes 4 (cast_unsigned w32 r.kind)) (big_bytes 4 (cast_unsigned w32 r.pid))
    (big_bytes 4 (cast_unsigned w32 r.sec)) (big_bytes 4 (cast_unsigned w32 r.usec))
    (big_bytes 4 (length r.text)) r.text)

all_in_parts : (o a b c d s e f t : List ℕ)
    → (((o ++ (a ++ (b ++ (c ++ (d ++ []))))) ++ (s ++ [])) ++ (e ++ (f ++ []))) ++ t
    ≡ o ++ (a ++ (b ++ (c ++ (d ++ (s ++ (e ++ (f ++ t)))))))
all_in_parts o a b c d s e f t = simp (append_assoc, append-nil)

-- four words, the seconds, two words and the message
pub version_2 : (r : LogRecord) (kind pid sec usec : ℕ)
    (old head seconds behind fields all : List ℕ)
    → kind ≡ cast_unsigned w32 r.kind → pid ≡ cast_unsigned w32 r.pid
    → sec ≡ cast_unsigned w64 r.sec → usec ≡ cast_unsigned w32 r.usec
    → head ≡ old ++ flat_map (big_bytes 4) (33554432 ∷ (24 + length r.text) ∷ kind ∷ pid ∷ [])
    → seconds ≡ big_bytes 8 sec ++ [] → behind ≡ head ++ seconds
    → fields ≡ behind ++ flat_map (big_bytes 4) (usec ∷ length r.text ∷ [])
    → all ≡ fields ++ r.text → all ≡ old ++ canon_2 r Big
unfolding spelling bytes_of order_of seconds_size seconds_width
version_2 r kind pid sec usec old head seconds behind fields all ek ep es eu eh ec eb ef ea =
    rw (ea, ef, eb, ec, eh, ek, ep, es, eu) (all_in_parts old (big_bytes 4 33554432)
    (big_bytes 4 (24 + length r.text)) (big_bytes 4 (cast_unsigned w32 r.kind))
    (big_bytes 4 (cast_unsigned w32 r.pid)) (big_bytes 8 (cast_unsigned w64 r.sec))
    (big_bytes 4 (cast_unsigned w32 r.usec)) (big_bytes 4 (length r.text)) r.text)

-- what stood there stands there still
stands : (old more : List ℕ) → take (length old) (old ++ more) ≡ old
stands old more = take-append-le (length old) old more (omega arith)
    ∙ take_all (length old) old (omega arith)

pub stands_first : (old a b c head behind fields now : List ℕ) → head ≡ old ++ a
    → behind ≡ head ++ b → fields ≡ behind ++ c → now ≡ fields → take (length old) now ≡ old
stands_first old a b c head behind fields now eh eb ef en =
    let one : now ≡ old ++ (a ++ (b ++ c)) = rw (en, ef, eb, eh) (simp append_assoc) in
    rw one (stands old (a ++ (b ++ c)))

pub on_err : {A E : Type 0} (r : Result A E) (P : Type 0) → P → OnErr r P
on_err (Ok a) P h = tt
on_err (Err e) P h = h
