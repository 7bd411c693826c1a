-- Pieces of a list of bytes.
use Rattle.std.proofs.Common.{ℕ, ◌≡◌, ◌∙◌, ◌+◌, List, drop, take, sym, ap}
use Rattle.std.specs.Prelude.{slice_range}
use Rattle.std.proofs.lemmas.List.{drop-drop}
use Rattle.std.proofs.lemmas.Slice.{between_is}

-- what is left of a piece after its first bytes
pub left_of : (bytes : List ℕ) (from to count : ℕ)
    → slice_range bytes (from + count) to ≡ drop count (slice_range bytes from to)
left_of bytes from to count = between_is bytes (from + count) to
    ∙ (sym (drop-drop count from (take to bytes))
    ∙ ap (drop count) (sym (between_is bytes from to)))
