-- The reports of a net that reports its handles in turn.
use Rattle.std.proofs.Common.{ℕ, ◌≡◌, ◌<◌, length, ap, ◌∙◌, subst, Some, arith}
use Rattle.std.proofs.lemmas.List.FromFn.{length-map-range_with_len, get_or-map-range_with_len}
use Rattle.std.proofs.lemmas.Option.{slice_get-get_or}
use Rattle.std.specs.List.{slice_get}
use Rattle.test_nets.specs.RoundRobin.{reported, reports_in_turn}

pub length_in_turn : (handles first count : ℕ)
    → length (reports_in_turn handles first count) ≡ count
length_in_turn handles first count = length-map-range_with_len (reported handles first) 0 count

pub report_in_turn : (handles first count at : ℕ)
    → at < length (reports_in_turn handles first count)
    → slice_get (reports_in_turn handles first count) at ≡ Some (reported handles first at)
report_in_turn handles first count at within =
    slice_get-get_or (reports_in_turn handles first count) at (reported handles first at) within
    ∙ ap Some (get_or-map-range_with_len (reported handles first) 0 count at at
    (reported handles first at) (subst (λ n. at < n) (length_in_turn handles first count)
    within) (omega arith))
