use Rattle.std.proofs.Common.{◌≤◌, length, arith}
use Rattle.std.proofs.lemmas.Bool.Decides.{nat_tests}
use Rattle.forwarder.specs.Waiting.{front_bytes}
use Rattle.forwarder.proofs.Queues.{empty_when}
use Rattle.forwarder.proofs.sending.Sending.is_empty.Goals as goal

pub returns-then-self-length_of : goal.returns-then-self-length_of
returns-then-self-length_of c =
    let sent : length (front_bytes c.self.inside.front) ≤ c.self.inside.at =
    let t = c.if-self-length_of.true in let e = c.length_of.ensures.length in
    grind (arith, nat_tests) in
    empty_when c.self.inside.front c.self.inside.at c.self.inside.queue c.bytes.result
    c.args.self.now c.self.view_is sent c.bytes.ensures
