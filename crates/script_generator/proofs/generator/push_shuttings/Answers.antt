use Rattle.event_script.specs.Script.{Shuts}
use Rattle.script_generator.proofs.Growing.{grows_by_line}
use Rattle.script_generator.proofs.generator.push_shuttings.Goals as goal

pub loop-conn-preserved : goal.loop-conn-preserved
loop-conn-preserved c = grows_by_line Shuts c.loop-conn.conn _ _ _ c.loop-conn.invariant
    c.in_ok-push_shut.ensures
