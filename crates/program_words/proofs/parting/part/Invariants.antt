use Rattle.std.proofs.Common.{◌≡◌, ◌++◌, false, map, string_bytes}
use Rattle.program_words.specs.Parting.{left_over, taken_off}
use Rattle.program_words.proofs.parting.part.Given as goal

-- what is taken off all words, and left of them, is what was taken off those so far and left of
-- them, and then what is taken off the others and left of those
abbrev pub invariant-loop-word : goal.invariant-loop-word
invariant-loop-word l =
    (taken_off l.takes false (map string_bytes l.fn.words.items)
    ≡ map string_bytes l.own.items
    ++ taken_off l.takes l.waits (map string_bytes l.word-iterator.rest.items))
    × (left_over l.takes false (map string_bytes l.fn.words.items)
    ≡ map string_bytes l.rest.items
    ++ left_over l.takes l.waits (map string_bytes l.word-iterator.rest.items))
