use Rattle.std.proofs.Common.{◌≡◌, ◌+◌, length, ap, ◌∙◌, arith}
use Rattle.std.proofs.lemmas.Grind.{common_steps}
use Rattle.message_block.specs.Messages.{bytes_of, held_in}
use Rattle.message_block.proofs.Held.{held_in-push}
use Rattle.message_block.proofs.queue.MessageQueue.enqueue_tail.Goals as goal

-- the bytes of the message are added
pub invariant_of-self : goal.invariant_of-self
invariant_of-self c =
    let more : held_in c.push_back.new.self.items
    ≡ held_in c.self.inside.messages.items + length (bytes_of c.args.m) =
    ap held_in c.in-Ok.ensures.items ∙ held_in-push c.self.inside.messages.items c.args.m in
    grind (arith, common_steps)
