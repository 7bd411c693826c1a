use Rattle.std.proofs.Common.{◌≡◌, ◌++◌}
use Rattle.std.specs.Prelude.{flat_map}
use Rattle.std.specs.List.{range_with_len}
use Rattle.script_generator.specs.Scripts.{round_lines}
use Rattle.script_generator.specs.Texts.{text_of}
use Rattle.script_generator.proofs.generator.push_rounds.Given as goal

abbrev pub invariant-loop-round : goal.invariant-loop-round
invariant-loop-round l = l.out.items
    ≡ l.fn.out.items ++ text_of (flat_map (round_lines l.n l.seed) (range_with_len 0 l.round))
