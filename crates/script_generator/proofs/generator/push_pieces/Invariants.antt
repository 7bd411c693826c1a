use Rattle.std.proofs.Common.{◌≡◌, ◌++◌}
use Rattle.std.specs.Prelude.{map}
use Rattle.std.specs.List.{range_with_len}
use Rattle.event_script.specs.Grammar.{Stepping}
use Rattle.script_generator.specs.Pieces.{piece_of}
use Rattle.script_generator.specs.Texts.{text_of}
use Rattle.script_generator.proofs.generator.push_pieces.Given as goal

abbrev pub invariant-loop-conn : goal.invariant-loop-conn
invariant-loop-conn l = l.out.items
    ≡ l.fn.out.items ++ text_of (map Stepping
    (map (piece_of l.piece l.seed l.round) (range_with_len 0 l.conn)))
