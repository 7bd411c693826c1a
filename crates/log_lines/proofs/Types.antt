-- A type that is no priority.
use Rattle.std.proofs.Common.{◌≡◌, ◌≢◌, ℕ, ◌==◌, false, refl, ap, ℤ, pos, negsuc, arith}
use Rattle.std.specs.Fmt.{signed_decimal}
use Rattle.std.proofs.lemmas.Bool.Decides.{nat_tests}
use Rattle.log_lines.specs.Texts.{type_text}

differs : (n m : ℕ) → pos n ≢ pos m → (n == m) ≡ false
differs n m unequal = grind (arith, nat_tests, λ (e : n ≡ m). unequal (ap pos e))

-- its number is printed
pub type_text-other : (kind : ℤ) → kind ≢ pos 1 → kind ≢ pos 2 → kind ≢ pos 4 → kind ≢ pos 8
    → kind ≢ pos 16 → kind ≢ pos 32 → kind ≢ pos 64 → kind ≢ pos 128 → kind ≢ pos 256
    → kind ≢ pos 512 → kind ≢ pos 1024 → type_text kind ≡ signed_decimal kind
unfolding type_text
type_text-other (pos n) a1 a2 a4 a8 a16 a32 a64 a128 a256 a512 a1024 =
    rw (
      differs n 1 a1,
      differs n 2 a2,
      differs n 4 a4,
      differs n 8 a8,
      differs n 16 a16,
      differs n 32 a32,
      differs n 64 a64,
      differs n 128 a128,
      differs n 256 a256,
      differs n 512 a512,
      differs n 1024 a1024,
    ) refl
type_text-other (negsuc n) a1 a2 a4 a8 a16 a32 a64 a128 a256 a512 a1024 = refl
