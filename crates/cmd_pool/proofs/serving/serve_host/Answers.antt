use denote.Param.Send.{sendable}
use Rattle.std.proofs.Common.{inr, refl, rules}
use Rattle.cmd_pool.specs.Starting.{pool_terms}
use Rattle.cmd_pool.specs.declared.ending.PoolEnd.TheVariants.{ListenFault, NoMemory}
use Rattle.cmd_pool.proofs.Begins.{open-terms}
use Rattle.cmd_pool.proofs.Leaves.{leaves-none}
use Rattle.cmd_pool.proofs.serving.serve_host.Goals as goal

pub serve_given-requires : goal.serve_given-requires
serve_given-requires g c =
    let kept = c.in-Ok.ensures.listens.2 pool_terms
    (g.met.H.Host.keeps_open pool_terms c.args.host.now open-terms) in
    let bounds = c.type_bounds in
    (search (bounds.static-R, rules), (search (bounds.send-R, sendable) depth 20, (search (bounds.send-H-End, sendable) depth 20, (search (bounds.send-H-Net, sendable) depth 20, (search (bounds.sync-R, sendable) depth 20, (search (bounds.sync-H-Waker, sendable) depth 20, (c.requires, (c.in-Ok.ensures.listens.0, (kept.0, kept.1)))))))))

pub returns-in-Err-Failed-clause-leaves : goal.returns-in-Err-Failed-clause-leaves
returns-in-Err-Failed-clause-leaves g c =
    leaves-none _ g.K.Sink.facts c.args.options c.args.output ListenFault c.unserved.result
    c.unserved.ensures.end c.unserved.ensures.net tt c.unserved.ensures.journal
    c.unserved.ensures.output refl

pub returns-in-Err-NoMemory-clause-leaves : goal.returns-in-Err-NoMemory-clause-leaves
returns-in-Err-NoMemory-clause-leaves g c =
    let left = c.unserved-in-Err-NoMemory in
    leaves-none _ g.K.Sink.facts c.args.options c.args.output NoMemory left.result
    left.ensures.end left.ensures.net tt left.ensures.journal left.ensures.output (inr refl)
