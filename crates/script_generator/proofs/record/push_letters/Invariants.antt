use Rattle.std.proofs.Common.{◌≡◌, ◌++◌}
use Rattle.std.specs.Prelude.{map}
use Rattle.std.specs.List.{range_with_len}
use Rattle.script_generator.specs.Records.{letter}
use Rattle.script_generator.proofs.record.push_letters.Given as goal

abbrev pub invariant-loop-j : goal.invariant-loop-j
invariant-loop-j l = l.out.items ≡ l.fn.out.items
    ++ map (letter l.round l.conn) (range_with_len 0 l.j)
