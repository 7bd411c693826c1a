use Rattle.std.proofs.Common.{ap, ◌∙◌, drop}
use Rattle.echo_server.proofs.Pieces.{left_of}
use Rattle.echo_server.proofs.waiting.Waiting.pass.Goals as goal

pub returns : goal.returns
returns c = left_of c.self.inside.piece c.self.inside.from c.self.inside.to c.args.count
    ∙ ap (drop c.args.count) c.self.view_is
