-- A text in memory that grows.
use Rattle.std.specs.Prelude.{◌≡◌, false, ℕ, List}
use Rattle.sink_buffer.specs.declared.growing.GrowingText.{GrowingText}

-- it has this limit, and unless it is broken, the bytes that were put
abbrev pub Grows : ℕ → GrowingText → List ℕ → Type 0
Grows limit text put = (text.limit ≡ limit) × (text.broken ≡ false → text.bytes.items ≡ put)
