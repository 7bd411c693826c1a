use Rattle.task_server.proofs.Moves.{settles, takes_first, takes_whole}
use Rattle.task_server.proofs.sides.Left.next.Goals as goal

pub pop_as-requires-clause-rule : goal.pop_as-requires-clause-rule
pop_as-requires-clause-rule g c = (
  takes_whole _ _ c.args.self.now.puts c.args.self.now.takes,
  settles _ _ c.args.self.now.puts c.args.self.now.takes,
)

pub returns : goal.returns
returns g c items s =
    takes_first _ _ _ c.pop_as.ensures.rule items s
