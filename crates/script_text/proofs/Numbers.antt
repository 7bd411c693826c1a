-- Numbers by their digits.
use Rattle.std.proofs.Common.{◌≡◌, ℕ, suc, ◌+◌, ◌-◌, ◌*◌, ◌<◌, ◌≤◌, Bool, true, false, cond, List}
use Rattle.std.proofs.Common.{[], ◌∷◌, length, get_or, drop, drop-cons, Option, Some, None, arith}
use Rattle.std.specs.Prelude.{option_and_then, nat_le, ◌&&◌}
use Rattle.script_net.specs.event_script.specs.Grammar.{digit, digits_from}

through : (n m : ℕ) (bytes : List ℕ) (d : Option ℕ)
    → ((k : ℕ) → digits_from k bytes ≡ Some m → k ≤ m)
    → option_and_then (λ d. digits_from (n * 10 + d) bytes) d ≡ Some m → n ≤ m
through n m bytes None rest h = cc
through n m bytes (Some d) rest h = omega (arith, rest (n * 10 + d) h)

-- a number is no less than what its first digits make
pub not_less : (bytes : List ℕ) (n m : ℕ) → digits_from n bytes ≡ Some m → n ≤ m
not_less [] n m h = let e : n ≡ m = cc in omega arith
not_less (byte ∷ bytes) n m h = through n m bytes (digit byte) (λ k. not_less bytes k m) h

with_digit : (b : Bool) (byte n m : ℕ) (bytes : List ℕ)
    → option_and_then (λ d. digits_from (n * 10 + d) bytes) (cond b (Some (byte - 48)) None)
    ≡ Some m → n * 10 + (byte - 48) ≤ m
with_digit true byte n m bytes h = not_less bytes (n * 10 + (byte - 48)) m h
with_digit false byte n m bytes h = cc

-- nor than what they make with the next digit
pub next_digit : (bytes : List ℕ) (i n m : ℕ) → i < length bytes
    → digits_from n (drop i bytes) ≡ Some m → n * 10 + (get_or bytes i 0 - 48) ≤ m
next_digit bytes i n m lt h =
    with_digit (nat_le 48 (get_or bytes i 0) && nat_le (get_or bytes i 0) 57) (get_or bytes i 0) n m
    (drop (suc i) bytes) (rw (drop-cons bytes i 0) at h)
