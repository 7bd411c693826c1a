use Rattle.test_nets.proofs.Idling.{hands_over}
use Rattle.test_nets.proofs.rows.hand_over.Goals as goal

pub returns : goal.returns
returns g c = hands_over c.args.core.now c.hand_over.new.self c.hand_over.result
    c.hand_over.ensures.ok c.hand_over.ensures.err c.requires
