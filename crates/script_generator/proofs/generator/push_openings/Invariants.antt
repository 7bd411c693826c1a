use Rattle.std.proofs.Common.{◌≡◌, ◌++◌}
use Rattle.std.specs.Prelude.{map}
use Rattle.event_script.specs.Grammar.{Stepping}
use Rattle.script_generator.specs.Scripts.{openings}
use Rattle.script_generator.specs.Texts.{text_of}
use Rattle.script_generator.proofs.generator.push_openings.Given as goal

abbrev pub invariant-loop-conn : goal.invariant-loop-conn
invariant-loop-conn l = l.out.items ≡ l.fn.out.items ++ text_of (map Stepping (openings l.conn))
