use Rattle.script_generator.specs.Records.{letter}
use Rattle.script_generator.proofs.Growing.{map_grows}
use Rattle.script_generator.proofs.record.push_letters.Goals as goal

pub loop-j-preserved : goal.loop-j-preserved
loop-j-preserved c = map_grows (letter c.args.round c.args.conn) c.loop-j.j _ _ _ c.loop-j.invariant
    c.in_ok-push.ensures.items
