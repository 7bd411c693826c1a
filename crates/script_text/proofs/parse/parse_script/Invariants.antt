use Rattle.std.proofs.Common.{length}
use Rattle.script_text.specs.Parsing.{HasRead}
use Rattle.script_text.proofs.parse.parse_script.Given as goal

abbrev pub invariant-loop-rest : goal.invariant-loop-rest
invariant-loop-rest l = HasRead l.bytes l.rest l.line l.room l.reading

abbrev pub decreases-loop-rest : goal.decreases-loop-rest
decreases-loop-rest l = length l.rest
