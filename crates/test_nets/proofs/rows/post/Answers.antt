use Rattle.test_nets.proofs.Idling.{posts}
use Rattle.test_nets.proofs.rows.post.Goals as goal

pub returns : goal.returns
returns g c =
    posts c.args.core.now c.post.new.self c.args.handle c.args.kind c.args.from c.args.seq
    c.post.result c.post.ensures.ok c.post.ensures.err c.requires
