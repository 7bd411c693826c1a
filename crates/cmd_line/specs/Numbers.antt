-- Numbers among the words.
use Rattle.std.specs.Prelude.{ℕ, nat_le, ◌&&◌, if◌then◌else◌, List, Option, Some, None, decimal}
use Rattle.std.specs.Str.{bytes_eq}
use Rattle.std.specs.Str.Parse.{digits_value}

-- the number that the word writes, if it lies between these: decimal digits without a sign and
-- without a leading zero, `0` alone excepted
unfoldable pub number_in : ℕ → ℕ → List ℕ → Option ℕ
number_in least most word =
    let n = digits_value 10 word in
    if bytes_eq word (decimal n) && (nat_le least n && nat_le n most) then Some n else None
