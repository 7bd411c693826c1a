-- What the encoder has written, one number after another.
use Rattle.std.proofs.Common.{◌≡◌, ℕ, ◌+◌, List, [], ◌∷◌, ◌++◌, length, append_assoc, refl, ◌∙◌}
use Rattle.std.specs.Int.{w32, cast_unsigned}
use Rattle.cdr_record.specs.declared.record.Order.{Order}
use Rattle.cdr_record.specs.declared.record.LogRecord.{LogRecord}
use Rattle.cdr_record.specs.Grammar.{order_of, seconds_size}
use Rattle.cdr_record.specs.Spelling.{bytes_of, seconds_bytes, spelling}

-- appended one by one is appended at once
regrouped : (h a b c d e f g : List ℕ)
    → h ++ a ++ b ++ c ++ d ++ e ++ f ++ g ≡ h ++ (a ++ (b ++ (c ++ (d ++ (e ++ (f ++ g))))))
regrouped h a b c d e f g = simp append_assoc

-- the list after each step of the encoder, from an empty one to the spelling
pub spelled : (first : ℕ) (r : LogRecord) (order : Order) (size kind pid usec : ℕ)
    (message v0 v1 v2 v3 v4 v5 v6 v7 v8 : List ℕ)
    → order ≡ order_of first → size ≡ seconds_size first → message ≡ r.text
    → kind ≡ cast_unsigned w32 r.kind → pid ≡ cast_unsigned w32 r.pid
    → usec ≡ cast_unsigned w32 r.usec
    → v0 ≡ [] → v1 ≡ v0 ++ (first ∷ 0 ∷ 0 ∷ 0 ∷ [])
    → v2 ≡ v1 ++ bytes_of order 4 (16 + size + length message)
    → v3 ≡ v2 ++ bytes_of order 4 kind → v4 ≡ v3 ++ bytes_of order 4 pid
    → v5 ≡ v4 ++ seconds_bytes first r.sec
    → v6 ≡ v5 ++ bytes_of order 4 usec → v7 ≡ v6 ++ bytes_of order 4 (length message)
    → v8 ≡ v7 ++ message
    → v8 ≡ spelling first r
unfolding spelling
spelled first r order size kind pid usec message v0 v1 v2 v3 v4 v5 v6 v7 v8 eo es em ek ep eu e0 e1
    e2 e3 e4 e5 e6 e7 e8 =
    let head : v1 ≡ first ∷ 0 ∷ 0 ∷ 0 ∷ [] = rw (e1, e0) refl in
    let all = regrouped v1 (bytes_of order 4 (16 + size + length message)) (bytes_of order 4 kind)
    (bytes_of order 4 pid)
    (seconds_bytes first r.sec) (bytes_of order 4 usec) (bytes_of order 4 (length message)) message
    in
    rw (e8, e7, e6, e5, e4, e3, e2) (all ∙ rw (head, eu, ep, ek, em, es, eo) refl)
