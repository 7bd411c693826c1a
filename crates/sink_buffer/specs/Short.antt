-- What a short text stands for.
use Rattle.std.specs.Prelude.{◌≡◌, ◌<◌, ℕ, List, ◌++◌, length, take, true, false}
use Rattle.sink_buffer.specs.declared.short.ShortText.{ShortText}

-- the bytes that it holds
abbrev pub held_in : ShortText → List ℕ
held_in text = take text.length text.bytes

-- Since it was these first bytes, these were put after them: it holds both, unless they are more
-- than 512.
pub record HoldsText (first : List ℕ) (text : ShortText) (put : List ℕ) : Type 0 where
  pub all : text.overfull ≡ false → held_in text ≡ first ++ put
  pub long : text.overfull ≡ true → 512 < length (first ++ put)
