use Rattle.event_script.specs.Script.{Opens}
use Rattle.script_generator.proofs.Growing.{grows_by_line}
use Rattle.script_generator.proofs.generator.push_openings.Goals as goal

pub loop-conn-preserved : goal.loop-conn-preserved
loop-conn-preserved c = grows_by_line Opens c.loop-conn.conn _ _ _ c.loop-conn.invariant
    c.in_ok-push_open.ensures
