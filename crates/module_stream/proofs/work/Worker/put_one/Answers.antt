use Rattle.std.proofs.Common.{◌∷◌, [], ◌++◌}
use Rattle.module_stream.proofs.Giving.{gave_same}
use Rattle.module_stream.proofs.work.Worker.put_one.Goals as goal

pub returns-clause-gave : goal.returns-clause-gave
returns-clause-gave g c = λ first taken sent h.
    let now = c.put.ensures.gave first taken sent h in (
      now.0,
      gave_same g.T.Task.gives first (taken ++ c.args.message ∷ []) now.0 c.put.new.self
          c.send_gathered.new.self now.1 (c.send_gathered.ensures.given now.0 now.1.given)
          c.send_gathered.ensures.rest,
    )
